-- The abstraction relation of the piece converter: which position of model's reader a place and the buffered cells represent.
use Rattle.std.specs.Prelude.{ℕ, ◌+◌, ◌≤◌, ◌≡◌, Bool, true, false, List, [], ◌∷◌, ◌++◌, length, take}
use Rattle.piece_step.specs.Types.{Dialect, Target, Fresh, Ok, FileState, Top, Begin, Ended, Bom1, Bom2, PlainBom1, PlainBom2, Comment, Blanks}
use Rattle.piece_step.specs.Types.{ExpectCell, Inside, After, Cr}
use Rattle.model.specs.rules.Base.{choose◌then◌else◌, ◌is◌, Bytes}
use Rattle.model.specs.rules.Cell.{Runs}
use Rattle.model.specs.rules.File.{cell_at}
use Rattle.model.specs.rules.Decode.{validate_cell}
use Rattle.model.specs.rules.Text.{table_text}
use Rattle.model.specs.rules.Report.{MAXCOLUMNS}
use Rattle.model.specs.rules.Records.{Rec, rows, Read}
use Rattle.model.specs.laws.Laws.{All}
use Rattle.model.specs.laws.Scans.{RawCell, Scan, read_of, Buffered, Holds, Sized}
use Rattle.model.specs.laws.Places.{buffered_bytes, buffered_ends}
use Rattle.piece_state.specs.declared.place.Place.{Place}

-- ---- what is buffered

-- a cell is open
abbrev pub in_cell : FileState → Bool
in_cell Top = false
in_cell Begin = false
in_cell Ended = false
in_cell Bom1 = false
in_cell Bom2 = false
in_cell PlainBom1 = true
in_cell PlainBom2 = true
in_cell (Comment c) = false
in_cell Blanks = false
in_cell ExpectCell = false
in_cell (Inside c) = true
in_cell After = false
in_cell Cr = false

-- bytes of an open cell are buffered only where one is open
pub data Open (f : FileState) (raw : Bytes) : Type 0 where
  in_cell_lem : in_cell f ≡ true → Open f raw
  no_bytes : raw ≡ [] → Open f raw

-- the buffered bytes, one after another: those of the complete cells, and of the open one
abbrev pub all_buffered : Buffered → Bytes
all_buffered k = buffered_bytes k.cells ++ k.raw

-- a raw cell is whole
abbrev pub IsWhole : Dialect → RawCell → Type 0
IsWhole d c = validate_cell d c.bytes ≡ Ok tt

-- ---- the position of the reader

-- the current record at this place
abbrev pub scan_at : Place → Buffered → Scan
scan_at p k =
    record { state = p.state; offset = p.offset; start = k.start; size = p.size; opened = k.opened; raw = k.raw; cells = k.cells }

-- reading at this place, after the records `done`
abbrev pub read_at : Dialect → Place → (done : List Rec) → Buffered → Read
read_at d p done k = read_of d done (scan_at p k)

-- the columns of a table: the cells of its header
abbrev pub columns_of : List Rec → ℕ
columns_of [] = 0
columns_of (h ∷ rs) = length h.cells

-- the arrays hold the bytes and the ends of these cells
pub record Shown (p : Place) (k : Buffered) (bytes ends : List ℕ) : Type 0 where
  pub fill : p.fill ≡ length (all_buffered k)
  pub bytes_kept : take p.fill bytes ≡ all_buffered k
  pub ends_kept : take (length k.cells) ends ≡ buffered_ends 0 k.cells

-- the place and the arrays represent reading after the records `done`, with the buffered part k of the current record
pub record StateInvariant (d : Dialect) (t : Target) (p : Place) (bytes ends : List ℕ) (done : List Rec) (k : Buffered) : Type 0 where
  pub starts : p.start ≡ k.start
  pub opens : Open p.state k.raw
  pub holds : Holds p.state k
  pub sized : Sized (scan_at p k)
  pub runs : Runs d Fresh k.raw (cell_at p.state)
  pub whole : All (IsWhole d) k.cells
  pub cells : p.cells ≡ length k.cells
  pub shown : length k.cells ≤ MAXCOLUMNS → Shown p k bytes ends
  pub records : p.records ≡ length done
  pub columns : p.columns ≡ columns_of done
  pub written : p.written ≡ length (table_text t (rows done))

-- ---- a complete record

-- nothing is buffered after a record
abbrev pub buffered_none : (offset : ℕ) → Buffered
buffered_none o = record { start = o; opened = o; raw = []; cells = [] }

-- where in the file the current record starts, by where it starts in the part: one that starts where the part began may have started
-- before
abbrev pub start_from : Place → (before began start : ℕ) → ℕ
start_from p n i start = choose start is i then p.start else n + start

-- the place where a part ends
abbrev pub place_pending : Place → (before began fill : ℕ) → Scan → Place
place_pending p n i fill s =
    record {
      state = s.state;
      offset = n + s.offset;
      start = start_from p n i s.start;
      size = s.size;
      fill = fill;
      cells = p.cells + length s.cells;
      columns = p.columns;
      records = p.records;
      written = p.written;
    }
