-- The end of a file after its last byte, over the numbers that the code has of the current record.
use Rattle.std.specs.Prelude.{ℕ, ◌+◌, Bool, true, false}
use Rattle.model.specs.declared.Ending.{Ending}
use Rattle.model.specs.declared.Ending.TheVariants.{Clean, Final, Cut}
use Rattle.model.specs.declared.Fault.TheVariants.{CutShort}
use Rattle.record_scanner.specs.declared.record_state.RecordState.{RecordState}
use Rattle.file_cursor.specs.Types.{FileScan, LastRecord, Failed, End}

-- the end completes a last record
abbrev pub is_final : Ending → Bool
is_final Clean = false
is_final Final = true
is_final Cut = false

-- the event at the file's end, which lies at this offset
abbrev pub end_event : Ending → RecordState → (offset : ℕ) → FileScan
end_event Clean h o = End o
end_event Final h o = LastRecord h.start (h.cells + 1)
end_event Cut h o = Failed CutShort o
