-- Reading a part of a file up to the end of the current record, by form and size alone: no record is checked, and a cell is its raw
-- bytes, without kind or content. The laws that relate it to `read_from` of Records are stated here and proved in proofs/piece_laws:
-- reading is scanning from record to record, with or without a target (`ScanReads`); places may be counted from anywhere (`Shift`);
-- and what was read before the part may be prepended afterwards (`View`).
use Rattle.std.specs.Prelude.{ℕ, suc, ◌+◌, ◌-◌, ◌≤◌, ◌≡◌, Bool, true, false, ◌&&◌, List, [], ◌∷◌, ◌++◌, map, length, leb, Option}
use Rattle.model.specs.rules.Types.{Dialect, Target, FileState, Top, Begin, Ended, Bom1, Bom2, PlainBom1, PlainBom2, Comment, Blanks}
use Rattle.model.specs.rules.Types.{ExpectCell, Inside, After, Cr, Outside, Passed, OfCell, Between, Tail, Ends, Step, Ok, Err, Fault, Byte}
use Rattle.model.specs.rules.Types.{FileTooLong, RecordTooLong}
use Rattle.model.specs.rules.Base.{choose◌then◌else◌, ◌is◌, Bytes}
use Rattle.model.specs.rules.File.{file_step, counts}
use Rattle.model.specs.rules.Decode.{kind_of, content_of}
use Rattle.model.specs.rules.Text.{Value}
use Rattle.model.specs.rules.Report.{MAXFILE, MAXRECORD}
use Rattle.model.specs.rules.Records.{Rec, Read, Progress, going, stopped, complete, read_from, record_fault}
use Rattle.model.specs.laws.Laws.{Bounded}

-- a cell of the file: its span and its raw bytes (§10.3)
pub record RawCell : Type 0 where
  pub from : ℕ
  pub upto : ℕ
  pub bytes : Bytes

-- the current record and the state of the file: `Read` of Records without the earlier records, and with raw cells (§15.2)
pub record Scan : Type 0 where
  pub state : FileState
  pub offset : ℕ
  pub start : ℕ
  pub size : ℕ
  pub opened : ℕ
  pub raw : Bytes
  pub cells : List RawCell

-- the result of a scan: the bytes are at an end; or a fault; or the current record is complete, with its cells, the state of the file
-- after it, the next offset, and the bytes that are left (§16.8)
pub data ScanResult : Type 0 where
  pends : Scan → ScanResult
  fails : Fault → Scan → ScanResult
  completes : Scan → List RawCell → FileState → (next : ℕ) → (left : Bytes) → ScanResult

-- the record's cells, with the current one where it closes (§10.3)
abbrev pub closing_raw : (closes : Bool) → Scan → List RawCell
closing_raw true s = s.cells ++ (record { from = s.opened; upto = s.offset; bytes = s.raw } ∷ [])
closing_raw false s = s.cells

-- where a record may begin (§6.20)
abbrev pub scan_between : FileState → ℕ → Scan
scan_between f o = record { state = f; offset = o; start = o; size = 0; opened = o; raw = []; cells = [] }

-- the byte b takes this step; `more` is the result of scanning after it, and `left` are the bytes after it (§7.4 §6.20)
unfoldable pub scan_step : Scan → (b : ℕ) → (left : Bytes) → (more : Scan → ScanResult) → Step → ScanResult
scan_step s b left more (Err e) = fails (Byte e) s
scan_step s b left more (Ok (f, Outside)) =
    more (record { state = f; offset = suc s.offset; start = s.start; size = 0; opened = suc s.offset; raw = []; cells = [] })
scan_step s b left more (Ok (f, Passed)) = more (scan_between f (suc s.offset))
scan_step s b left more (Ok (f, OfCell)) =
    more (record {
      state = f;
      offset = suc s.offset;
      start = s.start;
      size = suc s.size;
      opened = s.opened;
      raw = s.raw ++ (b ∷ []);
      cells = s.cells;
    })
scan_step s b left more (Ok (f, Between closes)) =
    more (record {
      state = f;
      offset = suc s.offset;
      start = s.start;
      size = suc s.size;
      opened = suc s.offset;
      raw = [];
      cells = closing_raw closes s;
    })
scan_step s b left more (Ok (f, Tail closes)) =
    more (record { state = f; offset = suc s.offset; start = s.start; size = s.size; opened = suc s.offset; raw = []; cells = closing_raw closes s })
scan_step s b left more (Ok (f, Ends closes)) = completes s (closing_raw closes s) f (suc s.offset) left

-- scanning, with a file's limit of `limit` bytes (§7.1 §7.2 §7.6)
unfoldable pub scan : Dialect → (limit : ℕ) → Scan → Bytes → ScanResult
scan d limit s [] = pends s
scan d limit s (b ∷ bs) =
    choose leb limit s.offset then fails FileTooLong s
    else choose leb MAXRECORD s.size && counts s.state b then fails RecordTooLong s
    else scan_step s b bs (λ s'. scan d limit s' bs) (file_step d s.state b)

-- ---- the same as reading

-- the value of a raw cell (§2.3)
abbrev pub value_of : Dialect → RawCell → Value
value_of d c = record { from = c.from; upto = c.upto; kind = kind_of d c.bytes; content = content_of d c.bytes }

-- the reading state of a scan, after the records `done` (§15.2)
abbrev pub read_of : Dialect → (done : List Rec) → Scan → Read
read_of d done s =
    record {
      done = done;
      state = s.state;
      offset = s.offset;
      start = s.start;
      size = s.size;
      opened = s.opened;
      raw = s.raw;
      cells = map (value_of d) s.cells;
    }

-- reading continues from the result of a scan: a complete record is checked (§7.8)
abbrev pub resume : Dialect → (target : Option Target) → (done : List Rec) → ScanResult → Progress
resume d target done (pends s) = going (read_of d done s)
resume d target done (fails e s) = stopped e (read_of d done s)
resume d target done (completes s cs f next left) =
    read_from d target (complete d target (read_of d done s) (map (value_of d) cs) f next) left

-- reading is scanning to the end of the current record, and validating it: with a target or without one the scan is the same (§7.5)
abbrev pub ScanReads : Type 0
ScanReads =
    (d : Dialect) (target : Option Target) (done : List Rec) (s : Scan) (bs : Bytes) →
    read_from d target (going (read_of d done s)) bs ≡ resume d target done (scan d MAXFILE s bs)

-- ---- shift

-- the same with places counted from n bytes before (§10.3)
abbrev pub moved_cell : ℕ → RawCell → RawCell
moved_cell n c = record { from = n + c.from; upto = n + c.upto; bytes = c.bytes }

-- a scan with its places counted from n bytes before (§6.19)
abbrev pub moved : ℕ → Scan → Scan
moved n s =
    record {
      state = s.state;
      offset = n + s.offset;
      start = n + s.start;
      size = s.size;
      opened = n + s.opened;
      raw = s.raw;
      cells = map (moved_cell n) s.cells;
    }

-- the result of a scan, with its places counted from n bytes before (§6.19)
abbrev pub moved_to : ℕ → ScanResult → ScanResult
moved_to n (pends s) = pends (moved n s)
moved_to n (fails e s) = fails e (moved n s)
moved_to n (completes s cs f next left) = completes (moved n s) (map (moved_cell n) cs) f (n + next) left

-- scanning with places and the limit moved by n is scanning moved by n (§6.19)
abbrev pub Shift : Type 0
Shift = (d : Dialect) (n limit : ℕ) (s : Scan) (bs : Bytes) → scan d (n + limit) (moved n s) bs ≡ moved_to n (scan d limit s bs)

-- ---- view

-- a cell of the current record was begun or is complete: up to the record's end nothing is outside it (§6.20)
abbrev pub in_record : FileState → Bool
in_record Top = false
in_record Begin = false
in_record Ended = false
in_record Bom1 = false
in_record Bom2 = false
in_record PlainBom1 = true
in_record PlainBom2 = true
in_record (Comment c) = false
in_record Blanks = false
in_record ExpectCell = true
in_record (Inside c) = true
in_record After = true
in_record Cr = true

-- what was read of the current record before the part: where it starts, where its open cell was opened, that cell's bytes so far, and
-- its complete cells (§15.2)
pub record Buffered : Type 0 where
  pub start : ℕ
  pub opened : ℕ
  pub raw : Bytes
  pub cells : List RawCell

-- a cell that was opened where the part began starts with the buffered bytes (§15.2)
unfoldable pub joined_cell : Buffered → (began : ℕ) → RawCell → RawCell
joined_cell k began c = choose c.from is began then record { from = k.opened; upto = c.upto; bytes = k.raw ++ c.bytes } else c

-- the open cell's bytes; if it was opened where the part began, the buffered ones come first (§15.2)
unfoldable pub joined_raw : Buffered → (began opened : ℕ) → Bytes → Bytes
joined_raw k began opened raw = choose opened is began then k.raw ++ raw else raw

-- a place that is still where the part began is the buffered one (§15.2)
unfoldable pub joined_place : (kept began place : ℕ) → ℕ
joined_place kept began place = choose place is began then kept else place

-- the buffered cells before those scanned of a part that began there (§15.2)
abbrev pub joined_cells : Buffered → (began : ℕ) → List RawCell → List RawCell
joined_cells k began cs = k.cells ++ map (joined_cell k began) cs

-- a scan of the part, with the buffered bytes and cells before it (§15.2)
abbrev pub joined : Buffered → (began : ℕ) → Scan → Scan
joined k began s =
    record {
      state = s.state;
      offset = s.offset;
      start = joined_place k.start began s.start;
      size = s.size;
      opened = joined_place k.opened began s.opened;
      raw = joined_raw k began s.opened s.raw;
      cells = joined_cells k began s.cells;
    }

-- the result of a scan of the part, with the buffered bytes and cells before it (§15.2)
abbrev pub joined_to : Buffered → (began : ℕ) → ScanResult → ScanResult
joined_to k began (pends s) = pends (joined k began s)
joined_to k began (fails e s) = fails e (joined k began s)
joined_to k began (completes s cs f next left) = completes (joined k began s) (joined_cells k began cs) f next left

-- bytes and cells may be buffered where a record is current; elsewhere there are none (§15.2)
pub data Holds (f : FileState) (k : Buffered) : Type 0 where
  current : in_record f ≡ true → Holds f k
  nothing_current : k.raw ≡ [] → k.cells ≡ [] → Holds f k

-- a scan that starts with buffered bytes and cells is a scan that starts with none, and these before it (§15.2)
abbrev pub View : Type 0
View =
    (d : Dialect) (limit : ℕ) (k : Buffered) (began : ℕ) (s : Scan) (bs : Bytes) → Holds s.state k → began ≤ s.offset →
    scan d limit (joined k began s) bs ≡ joined_to k began (scan d limit s bs)

-- ---- a part of a file

-- a part that begins here knows form and size alone (§15.2)
abbrev pub fresh : FileState → (size began : ℕ) → Scan
fresh f size began = record { state = f; offset = began; start = began; size = size; opened = began; raw = []; cells = [] }

-- the scan of the file at this point: n bytes lie before the part, of which `began` were read (§15.2)
abbrev pub standing : ℕ → Buffered → FileState → (size began : ℕ) → Scan
standing n k f size began =
    record { state = f; offset = n + began; start = k.start; size = size; opened = k.opened; raw = k.raw; cells = k.cells }

-- reading on from there is scanning the part by form and size alone, moved to its place, with what was buffered before it (§15.2
-- §16.4)
abbrev pub PartReads : Type 0
PartReads =
    (d : Dialect) (target : Option Target) (done : List Rec) (n : ℕ) (k : Buffered) (f : FileState) (size began : ℕ) (bs : Bytes) → n ≤ MAXFILE →
    Holds f k →
    read_from d target (going (read_of d done (standing n k f size began))) bs
    ≡ resume d target done (joined_to k (n + began) (moved_to n (scan d (MAXFILE - n) (fresh f size began) bs)))

-- the same where nothing is pending and the place is known, as after a record of the part (§16.4)
abbrev pub PartMoved : Type 0
PartMoved =
    (d : Dialect) (target : Option Target) (done : List Rec) (n : ℕ) (s : Scan) (bs : Bytes) → n ≤ MAXFILE →
    read_from d target (going (read_of d done (moved n s))) bs ≡ resume d target done (moved_to n (scan d (MAXFILE - n) s bs))

-- a complete record without a fault is done, and reading continues after it; one with a fault stops reading (§7.8)
pub record CompleteLaws (d : Dialect) (target : Option Target) (done : List Rec) (s : Scan) (cs : List RawCell) (f : FileState)
    (next : ℕ) (left : Bytes) : Type 0 where
  pub sound :
      record_fault d target done (map (value_of d) cs) ≡ Ok tt →
      resume d target done (completes s cs f next left)
      ≡ read_from d target (going (read_of d (done ++ (record { start = s.start; size = s.size; cells = map (value_of d) cs } ∷ [])) (scan_between f next))) left
  pub faulty :
      (e : Fault) → record_fault d target done (map (value_of d) cs) ≡ Err e →
      resume d target done (completes s cs f next left) ≡ stopped e (read_of d done s)

-- what becomes of a complete record, for every dialect, target and record (§7.8)
abbrev pub CompleteReads : Type 0
CompleteReads =
    (d : Dialect) (target : Option Target) (done : List Rec) (s : Scan) (cs : List RawCell) (f : FileState) (next : ℕ) (left : Bytes) →
    CompleteLaws d target done s cs f next left

-- ---- room

-- the bound of a written record, of one that lies in the bytes scanned, wherever
-- it begins; and its bytes and one more are among them (§15.10)
abbrev pub ScanBound : Type 0
ScanBound =
    (d : Dialect) (limit : ℕ) (f : FileState) (o : ℕ) (bs : Bytes) (s : Scan) (cs : List RawCell) (g : FileState) (next : ℕ) (left : Bytes) →
    scan d limit (scan_between f o) bs ≡ completes s cs g next left →
    Bounded s.size (map (value_of d) cs) × (suc s.size + length left ≤ length bs)

-- how many bytes the cells have (§15.2)
unfoldable pub bytes_in : List RawCell → ℕ
bytes_in [] = 0
bytes_in (c ∷ cs) = length c.bytes + bytes_in cs

-- the current record is within its limit, and its cells' bytes are among those counted (§7.2 §15.2)
pub record Sized (s : Scan) : Type 0 where
  pub held : bytes_in s.cells + length s.raw ≤ s.size
  pub limit : s.size ≤ MAXRECORD

-- the result of a scan is within the limit of a record (§15.2)
pub data SizedTo : ScanResult → Type 0 where
  sized_pends : {s : Scan} → Sized s → SizedTo (pends s)
  sized_fails : {e : Fault} {s : Scan} → Sized s → SizedTo (fails e s)
  sized_completes :
      {s : Scan} {cs : List RawCell} {f : FileState} {next : ℕ} {left : Bytes} → Sized s → bytes_in cs ≤ s.size →
      SizedTo (completes s cs f next left)

-- scanning leaves the current record within its limit (§15.2)
abbrev pub ScanSize : Type 0
ScanSize = (d : Dialect) (limit : ℕ) (s : Scan) (bs : Bytes) → Sized s → SizedTo (scan d limit s bs)

-- helper: `unfolding scans_compute` opens every definition of this module
unfoldable pub scans_compute : Type 0
unfolding scan_step scan joined_cell joined_raw joined_place bytes_in
scans_compute = Unit {0}
