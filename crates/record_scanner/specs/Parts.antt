-- The result of scanning a part of a file, in the code's types: an outcome and the cells found. The definition is `scan` of model's
-- Scans. All offsets are those of the part, and a cell that began before the part has its bytes in the part only.
use Rattle.std.specs.Prelude.{ℕ, ◌+◌, ◌≤◌, ◌<◌, ◌≡◌, false, List, map, length}
use Rattle.model.specs.rules.Base.{Bytes}
use Rattle.model.specs.rules.Decode.{kind_number, kind_of}
use Rattle.model.specs.rules.Report.{MAXRECORD}
use Rattle.model.specs.laws.Scans.{RawCell, Scan, ScanResult, pends, fails, completes, scan, in_record}
use Rattle.model.specs.declared.Dialect.{Dialect}
use Rattle.model.specs.declared.FileState.{FileState}
use Rattle.record_scanner.specs.Types.{RecordState, ScanOutcome}
use Rattle.record_scanner.specs.declared.token.ScanOutcome.TheVariants as reached

-- ---- the outcome

-- the current record as numbers
abbrev pub current_of : Scan → RecordState
current_of s = record { start = s.start; size = s.size; opened = s.opened; cells = length s.cells }

-- the outcome, and the cells of the record that are complete then
pub record Found : Type 0 where
  pub answer : ScanOutcome
  pub cells : List RawCell

abbrev pub found_of : ScanResult → Found
found_of (pends s) = record { answer = reached.NeedInput s.state (current_of s); cells = s.cells }
found_of (fails e s) = record { answer = reached.Failed e s.offset; cells = s.cells }
found_of (completes s cs f next left) = record { answer = reached.Completed s.start (length cs) f next; cells = cs }

-- the result of scanning these bytes
abbrev pub found_in : Dialect → (limit : ℕ) → Scan → Bytes → Found
found_in d limit s bs = found_of (scan d limit s bs)

-- the starts and the ends of cells, and the numbers of their kinds
abbrev pub raw_starts : List RawCell → List ℕ
raw_starts = map (λ (c : RawCell). c.from)

abbrev pub raw_ends : List RawCell → List ℕ
raw_ends = map (λ (c : RawCell). c.upto)

abbrev pub raw_kinds : Dialect → List RawCell → List ℕ
raw_kinds d = map (λ (c : RawCell). kind_number (kind_of d c.bytes))

-- ---- bounds

-- the current record where the part ends: it is within its limit, and all its offsets and cells are in the part
pub record CurrentInBounds (part_length limit base : ℕ) (f : FileState) (h : RecordState) : Type 0 where
  pub under : part_length ≤ limit
  pub size : h.size ≤ MAXRECORD
  pub start : h.start ≤ part_length
  pub opened : h.opened ≤ part_length
  pub few : base + h.cells ≤ part_length
  pub between : in_record f ≡ false → h.cells ≡ 0

-- `from`: where reading began; `base`: the number of cells before
abbrev pub ScanInBounds : (part_length from limit base : ℕ) → ScanOutcome → Type 0
ScanInBounds n from limit base (reached.Completed start cells f next) =
    (start < next) × (from < next) × (next ≤ n) × (next ≤ limit) × (base + cells ≤ next)
ScanInBounds n from limit base (reached.NeedInput f h) = CurrentInBounds n limit base f h
ScanInBounds n from limit base (reached.Failed e offset) = offset < n
