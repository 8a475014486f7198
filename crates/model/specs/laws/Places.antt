-- Where cells lie. The checks of a record and its text do not depend on it (`PlaceFree`), so a converter may buffer a record's bytes
-- elsewhere, one cell after another (`BufferedCells`). And the raw cells of a scan are spans of the bytes scanned (`Spans`).
use Rattle.std.specs.Prelude.{ℕ, suc, ◌+◌, ◌≤◌, ◌≡◌, Bool, List, [], ◌∷◌, ◌++◌, map, length, drop, Option}
use Rattle.model.specs.rules.Types.{Dialect, Target, Fault, FileState}
use Rattle.model.specs.rules.Base.{Bytes}
use Rattle.model.specs.rules.Decode.{kind_of, content_of}
use Rattle.model.specs.rules.Text.{Value, record_text}
use Rattle.model.specs.rules.Records.{Rec, record_fault}
use Rattle.model.specs.rules.Api.{slice}
use Rattle.model.specs.laws.Laws.{All}
use Rattle.model.specs.laws.RoundTrips.{SameCells}
use Rattle.model.specs.laws.Scans.{RawCell, Scan, ScanResult, pends, fails, completes, scan, value_of}

-- ---- records that differ in places alone

-- they have the same fault and the same text (§7.8 §14.1)
pub record PlaceFree : Type 0 where
  pub text : (t : Target) (header : Bool) (vs ws : List Value) → SameCells vs ws → record_text t header vs ≡ record_text t header ws
  pub fault :
      (d : Dialect) (target : Option Target) (done : List Rec) (vs ws : List Value) → SameCells vs ws →
      record_fault d target done vs ≡ record_fault d target done ws

-- ---- spans

-- a raw cell that lies in these bytes (§10.3)
pub record SpanIn (bytes : Bytes) (c : RawCell) : Type 0 where
  pub raw : c.bytes ≡ slice bytes c.from c.upto
  pub forward : c.from ≤ c.upto
  pub within : c.upto ≤ length bytes

-- a scan of these bytes is at its offset, and the current cell is the span that ends there (§10.3)
pub record ScanIn (bytes : Bytes) (s : Scan) : Type 0 where
  pub raw : s.raw ≡ slice bytes s.opened s.offset
  pub forward : s.opened ≤ s.offset
  pub within : s.offset ≤ length bytes
  pub cells : All (SpanIn bytes) s.cells

-- the cells in the result of a scan of these bytes are spans of them (§10.3)
pub data ScanResultIn (bytes : Bytes) : ScanResult → Type 0 where
  pends_in : {s : Scan} → ScanIn bytes s → s.offset ≡ length bytes → ScanResultIn bytes (pends s)
  fails_in : {e : Fault} {s : Scan} → ScanIn bytes s → ScanResultIn bytes (fails e s)
  completes_in :
      {s : Scan} {cs : List RawCell} {f : FileState} {left : Bytes} → ScanIn bytes s → All (SpanIn bytes) cs → suc s.offset ≤ length bytes →
      left ≡ drop (suc s.offset) bytes → ScanResultIn bytes (completes s cs f (suc s.offset) left)

-- the raw cells of any scan are spans of the bytes scanned (§10.3)
abbrev pub Spans : Type 0
Spans =
    (d : Dialect) (limit : ℕ) (bytes : Bytes) (s : Scan) → ScanIn bytes s → ScanResultIn bytes (scan d limit s (drop s.offset bytes))

-- ---- cells buffered one after another

-- the cells of these spans, as the checks take them (§2.3 §10.3)
unfoldable pub values_in : Dialect → (bytes : Bytes) → (starts ends : List ℕ) → List Value
values_in d bytes [] ends = []
values_in d bytes (i ∷ starts) [] = []
values_in d bytes (i ∷ starts) (j ∷ ends) =
    record { from = i; upto = j; kind = kind_of d (slice bytes i j); content = content_of d (slice bytes i j) } ∷ values_in d bytes starts ends

-- the bytes of these cells, one after another (§15.2)
unfoldable pub buffered_bytes : List RawCell → Bytes
buffered_bytes [] = []
buffered_bytes (c ∷ cs) = c.bytes ++ buffered_bytes cs

-- where they start and end if the first starts there (§15.2)
unfoldable pub buffered_starts : ℕ → List RawCell → List ℕ
buffered_starts o [] = []
buffered_starts o (c ∷ cs) = o ∷ buffered_starts (o + length c.bytes) cs

-- where they end if the first starts there (§15.2)
unfoldable pub buffered_ends : ℕ → List RawCell → List ℕ
buffered_ends o [] = []
buffered_ends o (c ∷ cs) = (o + length c.bytes) ∷ buffered_ends (o + length c.bytes) cs

-- the bytes of a record's cells, buffered anywhere one after another, have its values there, up to places (§15.2)
abbrev pub BufferedCells : Type 0
BufferedCells =
    (d : Dialect) (before after : Bytes) (cs : List RawCell) →
    SameCells (values_in d (before ++ (buffered_bytes cs ++ after)) (buffered_starts (length before) cs) (buffered_ends (length before) cs)) (map (value_of d) cs)
