-- The effect of a byte on the current record, which is four numbers.
use Rattle.std.specs.Prelude.{ℕ, ◌+◌, Bool, true, false}
use Rattle.model.specs.rules.Base.{choose◌then◌else◌}
use Rattle.model.specs.declared.ByteRole.{ByteRole}
use Rattle.model.specs.declared.ByteRole.TheVariants.{Outside, Passed, OfCell, Between, Tail, Ends}
use Rattle.record_scanner.specs.Types.{RecordState}

-- a cell ends before this byte
abbrev pub closes_cell : ByteRole → Bool
closes_cell Outside = false
closes_cell Passed = false
closes_cell OfCell = false
closes_cell (Between closes) = closes
closes_cell (Tail closes) = closes
closes_cell (Ends closes) = closes

-- this is a record's last byte
abbrev pub ends_record : ByteRole → Bool
ends_record Outside = false
ends_record Passed = false
ends_record OfCell = false
ends_record (Between closes) = false
ends_record (Tail closes) = false
ends_record (Ends closes) = true

-- the number of complete cells, with the one that ends
unfoldable pub one_more : (closes : Bool) → ℕ → ℕ
one_more closes n = choose closes then n + 1 else n

-- the current record after the byte at i
abbrev pub state_after_byte : ByteRole → (i : ℕ) → RecordState → RecordState
state_after_byte Outside i h = record { start = h.start; size = 0; opened = i + 1; cells = 0 }
state_after_byte Passed i h = record { start = i + 1; size = 0; opened = i + 1; cells = 0 }
state_after_byte OfCell i h = record { start = h.start; size = h.size + 1; opened = h.opened; cells = h.cells }
state_after_byte (Between closes) i h = record { start = h.start; size = h.size + 1; opened = i + 1; cells = one_more closes h.cells }
state_after_byte (Tail closes) i h = record { start = h.start; size = h.size; opened = i + 1; cells = one_more closes h.cells }
state_after_byte (Ends closes) i h = record { start = h.start; size = h.size; opened = i + 1; cells = one_more closes h.cells }

-- n more bytes of the current cell
abbrev pub extended_by : RecordState → ℕ → RecordState
extended_by h n = record { start = h.start; size = h.size + n; opened = h.opened; cells = h.cells }
