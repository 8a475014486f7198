-- The cells of a record in lists: their bytes as spans of a file or of a table's content, their kinds as numbers.
use Rattle.std.specs.Prelude.{ℕ, ◌<◌, ◌≤◌, ◌≡◌, List, [], ◌∷◌, length, get_or, Option, None, Some}
use Rattle.model.specs.declared.Dialect.{Dialect}
use Rattle.model.specs.declared.Kind.{Kind}
use Rattle.model.specs.declared.Kind.TheVariants.{Null}
use Rattle.model.specs.rules.Base.{Bytes}
use Rattle.model.specs.rules.Decode.{kind_of, content_of}
use Rattle.model.specs.rules.Text.{Value}
use Rattle.model.specs.rules.Report.{MAXRECORD}
use Rattle.model.specs.rules.Api.{kind_named, slice}
use Rattle.cell_decoder.specs.declared.first_byte.Spelling.{Spelling}
use Rattle.cell_decoder.specs.declared.first_byte.Spelling.TheVariants.{AsItStands}
use Rattle.cell_decoder.specs.FirstByte.{spelling_by}
use Rattle.cell_decoder.specs.Followed.{EdFollowed}
use Rattle.cell_decoder.specs.declared.source.Source.{Source}
use Rattle.cell_decoder.specs.declared.source.Source.TheVariants.{File, Contents}

-- a kind if there is one
abbrev pub or_null : Option Kind → Kind
or_null None = Null
or_null (Some k) = k

-- the kind of a number, where numbers of no kind were refused before (§2.3 §13.6)
abbrev pub kind_from : ℕ → Kind
kind_from n = or_null (kind_named n)

-- the content of a cell: decoded from its raw bytes in a file, or the bytes themselves (§2.4 §13.4)
abbrev pub content_by : Source → Bytes → Bytes
content_by (File d) raw = content_of d raw
content_by Contents raw = raw

-- the encoding of that content
abbrev pub spelling_in : Source → Bytes → Spelling
spelling_in (File d) raw = spelling_by d (get_or raw 0 0)
spelling_in Contents raw = AsItStands

-- the cell of this span, of the kind that this number names
abbrev pub cell_in : Source → Bytes → (from upto kind : ℕ) → Value
cell_in src s i j k = record { from = i; upto = j; kind = kind_from k; content = content_by src (slice s i j) }

-- the cells of these lists
unfoldable pub cells_in : Source → Bytes → (starts ends kinds : List ℕ) → List Value
cells_in src s [] ends kinds = []
cells_in src s (i ∷ starts) [] kinds = []
cells_in src s (i ∷ starts) (j ∷ ends) [] = []
cells_in src s (i ∷ starts) (j ∷ ends) (k ∷ kinds) = cell_in src s i j k ∷ cells_in src s starts ends kinds

-- bytes that a cell of this kind may have: in a file at most a record's, with no raw lone surrogate, and of the kind that they determine,
-- as in every sound cell; as contents any
pub data Encoded : Source → Kind → Bytes → Type 0 where
  in_file :
      {d : Dialect} {k : Kind} {raw : Bytes} → length raw ≤ MAXRECORD → EdFollowed raw → k ≡ kind_of d raw → Encoded (File d) k raw
  as_content : {k : Kind} {raw : Bytes} → Encoded Contents k raw

-- a span of s whose bytes a cell of the kind that this number names may have
pub record CellSpan (src : Source) (s : Bytes) (from upto kind : ℕ) : Type 0 where
  pub forward : from ≤ upto
  pub within : upto ≤ length s
  pub spelt : Encoded src (kind_from kind) (slice s from upto)

-- as many ends and kinds as starts, and each start with its end and its kind is such a span
pub record Cells (src : Source) (s : Bytes) (starts ends kinds : List ℕ) : Type 0 where
  pub with_ends : length starts ≡ length ends
  pub with_kinds : length starts ≡ length kinds
  pub each : (k : ℕ) → k < length starts → CellSpan src s (get_or starts k 0) (get_or ends k 0) (get_or kinds k 0)
