-- The text of a record whose cells lie in spans of a file: the cells in order, with a delimiter between each two.
use Rattle.std.specs.Prelude.{ℕ, zero, suc, ◌≤◌, ◌<◌, ◌≡◌, true, List, [], ◌∷◌, ◌++◌, length, get_or}
use Rattle.model.specs.rules.Base.{Bytes, QUOTE, begins}
use Rattle.model.specs.rules.Report.{MAXRECORD}
use Rattle.model.specs.rules.Api.{slice}

-- what is written before the cell at place n: a delimiter, but nothing before the first
abbrev pub before : (delimiter n : ℕ) → Bytes
before p zero = []
before p (suc n) = p ∷ []

-- the cells of these spans, of which the first is at place n; `text` maps a cell's raw bytes to its text
unfoldable pub joined_from : (delimiter : ℕ) (text : Bytes → Bytes) (s : Bytes) (n : ℕ) (starts ends : List ℕ) → Bytes
joined_from p text s n [] ends = []
joined_from p text s n (i ∷ starts) [] = []
joined_from p text s n (i ∷ starts) (j ∷ ends) = (before p n ++ text (slice s i j)) ++ joined_from p text s (suc n) starts ends

-- a span of s, no longer than a record; one that begins with a quotation mark ends with another
pub record Lies (s : Bytes) (from upto : ℕ) : Type 0 where
  pub forward : from ≤ upto
  pub inside : upto ≤ length s
  pub short : length (slice s from upto) ≤ MAXRECORD
  pub closed : begins QUOTE (slice s from upto) ≡ true → 2 ≤ length (slice s from upto)

-- as many ends as starts, and each start with its end such a span
pub record Spans (s : Bytes) (starts ends : List ℕ) : Type 0 where
  pub with_ends : length starts ≡ length ends
  pub each : (k : ℕ) → k < length starts → Lies s (get_or starts k 0) (get_or ends k 0)

-- as many ends as starts, and each start with its end a part of s
pub record Parts (s : Bytes) (starts ends : List ℕ) : Type 0 where
  pub with_ends : length starts ≡ length ends
  pub each : (k : ℕ) → k < length starts → (get_or starts k 0 ≤ get_or ends k 0) × (get_or ends k 0 ≤ length s)
