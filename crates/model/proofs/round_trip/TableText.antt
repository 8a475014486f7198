-- The canonical text of a table grows with its records, each record written once, at the end.
use Prim.Native.Nat.{◌+◌}
use mathlib.Core.Path.{◌≡◌, refl, ap, ◌∙◌}
use mathlib.Core.Bool.{true}
use mathlib.Core.List.{List, [], ◌∷◌, ◌++◌, append_assoc, append-nil}
use lib.ListN.{length, drop, length-append}
use lib.Seq.{drop-append_seam}
use Rattle.model.specs.rules.Types.{Target}
use Rattle.model.specs.rules.Base.{Bytes, is_empty}
use Rattle.model.specs.rules.Text.{Value, record_text, data_text, table_text, ending}
use Rattle.model.specs.rules.Records.{Rec, rows}
use Rattle.model.specs.laws.Laws.{Grows}

-- ---- rows

pub rows_append : (a b : List Rec) → rows (a ++ b) ≡ rows a ++ rows b
unfolding rows
rows_append [] b = refl
rows_append (x ∷ a) b = ap (λ (l : List (List Value)). x.cells ∷ l) (rows_append a b)

pub rows_empty : (rs : List Rec) → is_empty (rows rs) ≡ is_empty rs
unfolding rows
rows_empty [] = refl
rows_empty (x ∷ rs) = refl

data_append : (t : Target) (a b : List (List Value)) → data_text t (a ++ b) ≡ data_text t a ++ data_text t b
unfolding data_text
data_append t [] b = refl
data_append t (r ∷ a) b = rw (data_append t a b) (simp append_assoc)

text_grows : (t : Target) (a b : List (List Value)) → Grows (table_text t a) (table_text t (a ++ b))
unfolding table_text
text_grows t [] b = record { added = _; sum = refl }
text_grows t (h ∷ a) b = record { added = data_text t b; sum = rw (data_append t a b) (simp append_assoc) }

-- one row more: its text and its ending, after what is written
pub row_snoc :
    (t : Target) (rs : List (List Value)) (vs : List Value) →
    table_text t (rs ++ (vs ∷ [])) ≡ table_text t rs ++ (record_text t (is_empty rs) vs ++ ending t.dialect)
unfolding table_text data_text
row_snoc t [] vs = append-nil (record_text t true vs ++ ending t.dialect)
row_snoc t (h ∷ rs) vs = rw (data_append t rs (vs ∷ []), append-nil) (simp append_assoc)

-- and its length, where it is a data row
pub row_length :
    (t : Target) (rs : List (List Value)) (vs : List Value) →
    length (table_text t (rs ++ (vs ∷ []))) ≡ length (table_text t rs) + length (record_text t (is_empty rs) vs ++ ending t.dialect)
row_length t rs vs = ap length (row_snoc t rs vs) ∙ length-append (table_text t rs) (record_text t (is_empty rs) vs ++ ending t.dialect)

-- ---- records

-- records that grow have a text that grows
pub table_grows : (t : Target) {a b : List Rec} → Grows a b → Grows (table_text t (rows a)) (table_text t (rows b))
table_grows t {a} g = rw (g.sum, rows_append a g.added) (text_grows t (rows a) (rows g.added))

-- a list that grows is what it was and the rest of it
pub rest_of : {a b : Bytes} → Grows a b → a ++ drop (length a) b ≡ b
rest_of {a} g = rw (g.sum, drop-append_seam)

-- one record more
pub table_snoc :
    (t : Target) (done : List Rec) (x : Rec) →
    table_text t (rows (done ++ (x ∷ []))) ≡ table_text t (rows done) ++ (record_text t (is_empty done) x.cells ++ ending t.dialect)
unfolding rows
table_snoc t done x =
    ap (table_text t) (rows_append done (x ∷ []))
    ∙ row_snoc t (rows done) x.cells
    ∙ ap (λ b. table_text t (rows done) ++ (record_text t b x.cells ++ ending t.dialect)) (rows_empty done)
