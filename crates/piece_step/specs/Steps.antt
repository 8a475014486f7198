-- One step of the run over a piece: what it requires, that it stays in bounds from any state, and what reading results in by it.
use Rattle.std.specs.Prelude.{ℕ, ◌+◌, ◌-◌, ◌≤◌, ◌<◌, ◌≡◌, false, List, [], ◌∷◌, ◌++◌, length, take, drop}
use Rattle.std.specs.Prelude.{Some, Ok, Err}
use Rattle.model.specs.rules.Base.{choose◌then◌else◌, ◌is◌, Bytes, is_empty}
use Rattle.model.specs.rules.Text.{Value, record_text, ending}
use Rattle.model.specs.rules.Report.{report, number_of, column_of, MAXFILE, MAXRECORD, MAXCOLUMNS}
use Rattle.model.specs.rules.Records.{Rec, Read, going, stopped, read_from, fault_report}
use Rattle.model.specs.laws.Scans.{RawCell, in_record, Buffered}
use Rattle.model.specs.rules.Api.{slice}
use Rattle.model.specs.laws.Places.{ScanIn, buffered_bytes, buffered_ends}
use Rattle.buffer.specs.Writes.{written}
use Rattle.piece_state.specs.CurrentRecord.{SpansIn, raw_cells_at}
use Rattle.record_scanner.specs.declared.record_state.RecordState.{RecordState}
use Rattle.piece_step.specs.Types.{Report, Dialect, Target, FileState, Fault, TooManyColumns}
use Rattle.piece_state.specs.declared.place.Place.{Place}
use Rattle.piece_record.specs.declared.RecordError.TheVariants.{Refused, Invalid}
use Rattle.piece_step.specs.declared.PieceStep.{PieceStep}
use Rattle.piece_step.specs.declared.PieceStep.TheVariants.{Next, NeedInput, Failed, BadState}
use Rattle.piece_step.specs.Invariant.{scan_at, read_at, StateInvariant, start_from}
use Rattle.piece_state.specs.Sound.{InOrder, place_after}
use Rattle.piece_record.specs.Completion.{RecordResult, CompleteSound}

-- ---- staying in bounds

-- what a place must satisfy for a run from it to stay in bounds
pub record InBounds (p : Place) (ends : List ℕ) : Type 0 where
  pub size : p.size ≤ MAXRECORD
  pub fill : p.fill ≤ p.size
  pub offset : p.offset ≤ MAXFILE
  pub written : p.written ≤ MAXFILE
  pub records : p.records ≤ p.offset
  pub cells : p.cells ≤ p.offset
  pub ordered : p.cells ≤ MAXCOLUMNS → InOrder 0 (take p.cells ends) p.fill
  pub between : in_record p.state ≡ false → (p.fill ≡ 0) × (p.cells ≡ 0)

-- the arrays of the current record: the header's until it is complete, and the others after it (§15.2)
abbrev pub current_in : Place → (header others : List ℕ) → List ℕ
current_in p header others = choose p.records is 0 then header else others

-- lists for what the scanner finds, which each step overwrites
pub record Scratch (starts stops kinds : List ℕ) : Type 0 where
  pub long_starts : length starts ≡ MAXCOLUMNS
  pub long_stops : length stops ≡ MAXCOLUMNS
  pub long_kinds : length kinds ≡ MAXCOLUMNS

-- the lists hold spans of cells of the piece, and there is room to buffer them
pub record Lists (piece starts stops : List ℕ) (cells : ℕ) (p : Place) (bytes ends : List ℕ) : Type 0 where
  pub stand : p.cells + cells ≤ MAXCOLUMNS → SpansIn piece starts stops 0 cells
  pub room : p.cells + cells ≤ MAXCOLUMNS → p.fill + length (buffered_bytes (raw_cells_at piece starts stops 0 cells)) ≤ length bytes
  pub ordered : p.cells ≤ MAXCOLUMNS → InOrder 0 (take p.cells ends) p.fill
  pub long_bytes : length bytes ≡ MAXRECORD
  pub long_ends : length ends ≡ MAXCOLUMNS
  pub few : (p.cells ≤ MAXFILE) × (cells ≤ MAXFILE)

-- ---- a complete record

-- the cells are appended to the buffered ones, and the record is checked from there; or they are too many
pub data RecordCompleted (d : Dialect) (t : Target) (p : Place) (cs : List RawCell) (total : ℕ) (bytes ends : List ℕ) (o : ℕ)
    (out bytes' ends' out' : List ℕ) (r : RecordResult) : Type 0 where
  too_many : MAXCOLUMNS < total → r ≡ Err (Refused TooManyColumns) → out' ≡ out → RecordCompleted d t p cs total bytes ends o out bytes' ends' out' r
  from_buffered :
      total ≤ MAXCOLUMNS → bytes' ≡ written bytes p.fill (buffered_bytes cs) → ends' ≡ written ends p.cells (buffered_ends p.fill cs) →
      CompleteSound d t p bytes' (take total ends') o out out' r → RecordCompleted d t p cs total bytes ends o out bytes' ends' out' r

-- ---- the piece ends

-- the place where a piece of `size` bytes ends, with this current record
abbrev pub place_at_piece_end : Place → (n i size : ℕ) → FileState → RecordState → (fill : ℕ) → Place
place_at_piece_end p n i size f h fill =
    record {
      state = f;
      offset = n + size;
      start = start_from p n i h.start;
      size = h.size;
      fill = fill;
      cells = p.cells + h.cells;
      columns = p.columns;
      records = p.records;
      written = p.written;
    }

-- the cells are appended to the buffered ones, and so are the bytes of the open cell; or they are too many
pub data RecordBuffered (p : Place) (n i : ℕ) (f : FileState) (h : RecordState) (piece : Bytes) (cs : List RawCell) (total : ℕ)
    (bytes ends bytes' ends' : List ℕ) (r : Place) : Type 0 where
  too_many_yet : MAXCOLUMNS < total → r ≡ place_at_piece_end p n i (length piece) f h p.fill → RecordBuffered p n i f h piece cs total bytes ends bytes' ends' r
  buffered_on :
      total ≤ MAXCOLUMNS → bytes' ≡ written (written bytes p.fill (buffered_bytes cs)) (p.fill + length (buffered_bytes cs)) (drop h.opened piece) →
      ends' ≡ written ends p.cells (buffered_ends p.fill cs) →
      r ≡ place_at_piece_end p n i (length piece) f h (p.fill + length (buffered_bytes cs) + length (drop h.opened piece)) →
      RecordBuffered p n i f h piece cs total bytes ends bytes' ends' r

-- ---- a step

-- what a step requires: it begins at index i of the piece, n bytes were consumed before the piece, and o bytes of the output are written
pub record StepReady (piece : Bytes) (n i : ℕ) (p : Place) (bytes ends out : List ℕ) (o : ℕ) : Type 0 where
  pub bounds : InBounds p ends
  pub at : p.offset ≡ n + i
  pub inside : i ≤ length piece
  pub room : o ≤ length out
  pub long_bytes : length bytes ≡ MAXRECORD
  pub long_ends : length ends ≡ MAXCOLUMNS

-- the result of a step whose record is complete
abbrev pub step_after : Place → (n i start total : ℕ) → FileState → (next o : ℕ) → RecordResult → PieceStep
step_after p n i start total f next o (Ok end) = Next (place_after p total (end - o) f (n + next)) next end
step_after p n i start total f next o (Err (Refused e)) = Failed (report (number_of e) (p.records + 1) (column_of e) (start_from p n i start))
step_after p n i start total f next o (Err Invalid) = BadState

-- a text that was written fits into the file
abbrev pub Fitting : Place → (o : ℕ) → RecordResult → Type 0
Fitting p o (Ok end) = (o ≤ end) × (p.written + (end - o) ≤ MAXFILE)
Fitting p o (Err (Refused e)) = Unit {0}
Fitting p o (Err Invalid) = Unit {0}

-- a step stays in bounds, whatever state it began with
pub data StepInBounds (piece : Bytes) (n i : ℕ) (ends' out : List ℕ) : PieceStep → Type 0 where
  next_bounds :
      {q : Place} {at end : ℕ} → InBounds q ends' → q.offset ≡ n + at → i < at → at ≤ length piece → end ≤ length out →
      (q.fill ≡ 0) × (q.cells ≡ 0) → StepInBounds piece n i ends' out (Next q at end)
  pending_bounds : {q : Place} → InBounds q ends' → StepInBounds piece n i ends' out (NeedInput q)
  stopped_bounds : {e : Report} → StepInBounds piece n i ends' out (Failed e)
  nowhere_bounds : StepInBounds piece n i ends' out BadState

-- the bytes hold these cells one after another, the first from `at` on, each up to its end, as they are encoded in the file (§10.3 §15.2)
pub data EncodedInFile (file bytes : Bytes) : (at : ℕ) → (ends : List ℕ) → List Value → Type 0 where
  all_encoded : {at : ℕ} {ends : List ℕ} → EncodedInFile file bytes at ends []
  next_encoded :
      {at end : ℕ} {ends : List ℕ} {v : Value} {vs : List Value} → at ≤ end → end ≤ length bytes → v.from ≤ v.upto → v.upto ≤ length file →
      slice bytes at end ≡ slice file v.from v.upto → EncodedInFile file bytes end ends vs → EncodedInFile file bytes at (end ∷ ends) (v ∷ vs)

-- the piece from i on is the rest of the file at this place, and the buffered part of the current record is encoded as in the file (§10.3
-- §15.2)
pub record Follows (file piece : Bytes) (i : ℕ) (p : Place) (k : Buffered) : Type 0 where
  pub rest : drop p.offset file ≡ drop i piece
  pub kept : ScanIn file (scan_at p k)

-- what a step results in, if its place represents reading after the records `done`
pub data StepSound (d : Dialect) (t : Target) (piece : Bytes) (i : ℕ) (p : Place) (done : List Rec) (k : Buffered) (o : ℕ)
    (out bytes' ends' out' : List ℕ) : PieceStep → Type 0 where
  steps_next :
      {q : Place} {at end : ℕ} (x : Rec) (k' : Buffered) →
      read_from d (Some t) (going (read_at d p done k)) (drop i piece) ≡ read_from d (Some t) (going (read_at d q (done ++ (x ∷ [])) k')) (drop at piece) →
      StateInvariant d t q bytes' ends' (done ++ (x ∷ [])) k' →
      ((file : Bytes) → Follows file piece i p k → EncodedInFile file bytes' 0 ends' x.cells) →
      out' ≡ written out o (record_text t (is_empty done) x.cells ++ ending t.dialect) →
      end ≡ o + length (record_text t (is_empty done) x.cells ++ ending t.dialect) → StepSound d t piece i p done k o out bytes' ends' out' (Next q at end)
  steps_pending :
      {q : Place} (k' : Buffered) → read_from d (Some t) (going (read_at d p done k)) (drop i piece) ≡ going (read_at d q done k') →
      StateInvariant d t q bytes' ends' done k' →
      ((file : Bytes) → Follows file piece i p k → ScanIn file (scan_at q k')) → out' ≡ out →
      StepSound d t piece i p done k o out bytes' ends' out' (NeedInput q)
  steps_stopped :
      {e : Report} (x : Fault) (r : Read) → read_from d (Some t) (going (read_at d p done k)) (drop i piece) ≡ stopped x r → r.done ≡ done →
      e ≡ fault_report x r → out' ≡ out →
      StepSound d t piece i p done k o out bytes' ends' out' (Failed e)
  -- there was no room in the output
  steps_nowhere :
      (x : Rec) (q : Read) (at : ℕ) →
      read_from d (Some t) (going (read_at d p done k)) (drop i piece) ≡ read_from d (Some t) (going q) (drop at piece) → q.done ≡ done ++ (x ∷ []) →
      length out < o + length (record_text t (is_empty done) x.cells ++ ending t.dialect) → StepSound d t piece i p done k o out bytes' ends' out' BadState
