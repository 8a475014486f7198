-- The next record of a file. A byte moves reading as `move` of model's Records says, but a complete record is returned before it is
-- checked, so that reading a file is a sequence of next records.
use Rattle.std.specs.Prelude.{ℕ, ◌+◌, ◌≤◌, ◌<◌, true, List, [], ◌∷◌, ◌++◌, length, Ok, Err}
use Rattle.model.specs.rules.Base.{choose◌then◌else◌, Bytes}
use Rattle.model.specs.rules.File.{file_step, file_end}
use Rattle.model.specs.rules.Text.{Value}
use Rattle.model.specs.rules.Report.{MAXFILE}
use Rattle.model.specs.rules.Records.{Read, closing, file_full, record_full}
use Rattle.model.specs.declared.Dialect.{Dialect}
use Rattle.model.specs.declared.FileState.{FileState}
use Rattle.model.specs.declared.ByteRole.{ByteRole}
use Rattle.model.specs.declared.ByteRole.TheVariants.{Outside, Passed, OfCell, Between, Tail, Ends}
use Rattle.model.specs.rules.Types.{Step}
use Rattle.model.specs.declared.Ending.{Ending}
use Rattle.model.specs.declared.Ending.TheVariants.{Clean, Final, Cut}
use Rattle.model.specs.declared.Fault.{Fault}
use Rattle.model.specs.declared.Fault.TheVariants.{Byte, CutShort, FileTooLong, RecordTooLong}
use Rattle.record_scanner.specs.declared.record_state.RecordState.{RecordState}
use Rattle.record_scanner.specs.CurrentRecord.{closes_cell, ends_record, state_after_byte}
use Rattle.file_cursor.specs.Types.{FileScan, Completed, LastRecord, Failed, End}

-- ---- reading after a byte

-- the bytes of the current cell after the byte b
abbrev pub raw_after : ByteRole → (b : ℕ) → Bytes → Bytes
raw_after Outside b raw = []
raw_after Passed b raw = []
raw_after OfCell b raw = raw ++ (b ∷ [])
raw_after (Between closes) b raw = []
raw_after (Tail closes) b raw = []
raw_after (Ends closes) b raw = []

-- the record's complete cells after the next byte
abbrev pub cells_after : Dialect → ByteRole → Read → List Value
cells_after d Outside r = []
cells_after d Passed r = []
cells_after d OfCell r = r.cells
cells_after d (Between closes) r = closing d closes r
cells_after d (Tail closes) r = closing d closes r
cells_after d (Ends closes) r = closing d closes r

-- the current record as numbers
abbrev pub record_state_of : Read → RecordState
record_state_of r = record { start = r.start; size = r.size; opened = r.opened; cells = length r.cells }

-- reading after the byte b, which is this part of the file
abbrev pub read_after : Dialect → Read → (b : ℕ) → FileState → ByteRole → Read
read_after d r b f p =
    let h : RecordState = state_after_byte p r.offset (record_state_of r) in
    record {
      done = r.done;
      state = f;
      offset = r.offset + 1;
      start = h.start;
      size = h.size;
      opened = h.opened;
      raw = raw_after p b r.raw;
      cells = cells_after d p r;
    }

-- ---- the next record

-- the next event of reading, and the cells of the current record at that point
pub record Next : Type 0 where
  pub event : FileScan
  pub cells : List Value

abbrev pub failed : Fault → Read → Next
failed e r = record { event = Failed e r.offset; cells = r.cells }

-- the record is complete with these cells; the state after it, and the next offset
abbrev pub completed : Read → List Value → FileState → ℕ → Next
completed r vs f o = record { event = Completed r.start (length vs) f o; cells = vs }

-- the next byte b takes this step, and `rest` says what comes of reading after it
unfoldable pub stepped : Dialect → Read → (b : ℕ) → (rest : Read → Next) → Step → Next
stepped d r b rest (Err e) = failed (Byte e) r
stepped d r b rest (Ok (f, p)) =
    choose ends_record p then completed r (closing d (closes_cell p) r) f (r.offset + 1) else rest (read_after d r b f p)

-- the file ends here; between records there is no current cell
abbrev pub ended : Dialect → Read → Ending → Next
ended d r Clean = record { event = End r.offset; cells = [] }
ended d r Final = record { event = LastRecord r.start (length (closing d true r)); cells = closing d true r }
ended d r Cut = failed CutShort r

unfoldable pub next_record : Dialect → Read → Bytes → Next
next_record d r [] = ended d r (file_end d r.state)
next_record d r (b ∷ bs) =
    choose file_full r then failed FileTooLong r
    else choose record_full r b then failed RecordTooLong r
    else stepped d r b (λ r'. next_record d r' bs) (file_step d r.state b)

-- ---- how far an event lies

-- the cells up to here are at most as many as the bytes read, and a complete record lies in the file and under its limit.
-- `base`: how many cells came before; `from`: where reading began
abbrev pub EventInBounds : (file_length from base : ℕ) → FileScan → Type 0
EventInBounds n from base (Completed start cells f next) = (from < next) × (next ≤ n) × (next ≤ MAXFILE) × (base + cells ≤ next)
EventInBounds n from base (LastRecord start cells) = (n ≤ MAXFILE) × (base + cells ≤ n + 1)
EventInBounds n from base (Failed e offset) = Unit {0}
EventInBounds n from base (End offset) = Unit {0}
