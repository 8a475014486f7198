-- The current record between calls: the raw bytes of its complete cells one after another, where each of them ends, and the bytes of the
-- open cell. An end is also the next start.
use Rattle.std.specs.Prelude.{ℕ, ◌+◌, ◌-◌, ◌<◌, ◌≤◌, ◌≡◌, List, [], ◌∷◌, ◌++◌, map, length, take, drop, get_or}
use Rattle.model.specs.declared.Dialect.{Dialect}
use Rattle.model.specs.rules.Base.{Bytes}
use Rattle.model.specs.rules.Api.{slice, kinds_of}
use Rattle.model.specs.laws.Laws.{All}
use Rattle.model.specs.laws.Scans.{RawCell, Buffered}
use Rattle.model.specs.laws.Places.{SpanIn, values_in, buffered_bytes, buffered_ends}

-- ---- cells in lists

-- the cell of these bytes from `from` up to `upto`
abbrev pub raw_cell_in : Bytes → (from upto : ℕ) → RawCell
raw_cell_in bytes i j = record { from = i; upto = j; bytes = slice bytes i j }

-- the cells of these spans
unfoldable pub raw_cells_in : Bytes → (starts stops : List ℕ) → List RawCell
raw_cells_in bytes [] stops = []
raw_cells_in bytes (i ∷ starts) [] = []
raw_cells_in bytes (i ∷ starts) (j ∷ stops) = raw_cell_in bytes i j ∷ raw_cells_in bytes starts stops

-- the cells at indices `from` up to n of these lists
abbrev pub raw_cells_at : Bytes → (starts stops : List ℕ) → (from n : ℕ) → List RawCell
raw_cells_at bytes starts stops from n = raw_cells_in bytes (take (n - from) (drop from starts)) (take (n - from) (drop from stops))

-- the lists hold the spans of these cells at indices `from` up to n
pub record Shows (bytes : Bytes) (starts stops : List ℕ) (from n : ℕ) (cs : List RawCell) : Type 0 where
  pub starts_shown : take (n - from) (drop from starts) ≡ map (λ (c : RawCell). c.from) cs
  pub stops_shown : take (n - from) (drop from stops) ≡ map (λ (c : RawCell). c.upto) cs
  pub standing : All (SpanIn bytes) cs

-- both lists have n elements, and the spans from index `from` on lie in these bytes
pub record SpansIn (bytes : Bytes) (starts stops : List ℕ) (from n : ℕ) : Type 0 where
  pub in_starts : n ≤ length starts
  pub in_stops : n ≤ length stops
  pub forward : (k : ℕ) → from ≤ k → k < n → get_or starts k 0 ≤ get_or stops k 0
  pub within : (k : ℕ) → from ≤ k → k < n → get_or stops k 0 ≤ length bytes

-- ---- kinds

-- the numbers of the kinds of the first n cells
abbrev pub kinds_at : Dialect → Bytes → (starts ends : List ℕ) → (n : ℕ) → List ℕ
kinds_at d bytes starts ends n = kinds_of (values_in d bytes (take n starts) (take n ends))

-- ---- the current record

-- `fill` bytes are buffered, those of these complete cells and `raw` of the open one, and the ends of the complete cells
pub record CurrentRecord (bytes : Bytes) (fill : ℕ) (ends : List ℕ) (cells : List RawCell) (raw : Bytes) : Type 0 where
  pub held : take fill bytes ≡ buffered_bytes cells ++ raw
  pub filled : fill ≡ length (buffered_bytes cells) + length raw
  pub ended : take (length cells) ends ≡ buffered_ends 0 cells

-- of the cells that ended in a part only the first continues the buffered open cell; where nothing of one is buffered, none has to
pub data ProceedsOn (k : Buffered) (began : ℕ) : List RawCell → Type 0 where
  nothing_open : {cs : List RawCell} → k.raw ≡ [] → ProceedsOn k began cs
  first_proceeds_on : {c : RawCell} {cs : List RawCell} → c.from ≡ began → All (λ (x : RawCell). began < x.from) cs → ProceedsOn k began (c ∷ cs)
