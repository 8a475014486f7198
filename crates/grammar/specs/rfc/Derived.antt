-- What a derivation gives: a file's records, each with its text, and its cells with their raw bytes, kinds and contents.
use Rattle.std.specs.Prelude.{List, [], ◌∷◌, map}
use Rattle.grammar.specs.rfc.Types.{Kind}
use Rattle.model.specs.rules.Base.{Bytes}

-- a cell: its raw bytes, with its quotes, and its kind and content (§2.3 §10.3)
pub data Derived : Type 0 where
  cell : (raw : Bytes) (kind : Kind) (content : Bytes) → Derived

abbrev pub raw_of : Derived → Bytes
raw_of (cell raw kind content) = raw

abbrev pub kind_in : Derived → Kind
kind_in (cell raw kind content) = kind

abbrev pub content_in : Derived → Bytes
content_in (cell raw kind content) = content

-- a record: its bytes without its ending, which are those that the record limit counts, and its cells
pub data Line (A : Type 0) : Type 0 where
  line : (text : Bytes) (cells : List A) → Line A

abbrev pub text_in : {A : Type 0} → Line A → Bytes
text_in (line text cells) = text

abbrev pub cells_in : {A : Type 0} → Line A → List A
cells_in (line text cells) = cells

-- a record with its raw cells alone
unfoldable pub spelling : Line Derived → Line Bytes
spelling (line text cells) = line text (map raw_of cells)

-- ---- of every element, and of the elements of two lists pairwise

pub data Every {A : Type 0} (P : A → Type 0) : List A → Type 0 where
  every_none : Every P []
  every_cons : {x : A} {xs : List A} → P x → Every P xs → Every P (x ∷ xs)

pub data Each {A B : Type 0} (R : A → B → Type 0) : List A → List B → Type 0 where
  each_none : Each R [] []
  each_cons : {x : A} {xs : List A} {y : B} {ys : List B} → R x y → Each R xs ys → Each R (x ∷ xs) (y ∷ ys)
