-- Checks and canonical texts depend on the kinds and contents of cells alone, and not on where they lie.
use Prim.Native.Nat.{ℕ, suc}
use mathlib.Core.Path.{◌≡◌, refl, ap}
use mathlib.Core.Bool.{Bool, true, false}
use Rattle.std.specs.Prelude.{Option, None, Some}
use mathlib.Core.List.{List, [], ◌∷◌, ◌++◌, map}
use lib.ListN.{length}
use Rattle.model.specs.rules.Types.{Dialect, Csvj, Tdif, CsvPlus, Target, Fault}
use Rattle.model.specs.rules.Base.{Bytes, is_empty, concat}
use Rattle.model.specs.rules.Text.{Value, cell_text, more_cells, all_cells, record_text, data_text, table_text}
use Rattle.model.specs.rules.Records.{Rec, rows, name_key, repeat_from, repeat_fault, header_kind_from, header_fault, data_fault, uncarried_from}
use Rattle.model.specs.rules.Records.{clash_fault, target_fault, record_fault}
use Rattle.model.specs.laws.RoundTrips.{meaning, Same, SameCells, no_cells, and_cell, SameRows, no_rows, and_row}
use Rattle.model.specs.laws.Places.{PlaceFree}

pub same_snoc : {vs ws : List Value} {v w : Value} → SameCells vs ws → Same v w → SameCells (vs ++ (v ∷ [])) (ws ++ (w ∷ []))
same_snoc no_cells e = and_cell e no_cells
same_snoc (and_cell x xs) e = and_cell x (same_snoc xs e)

-- ---- as equations

same_meaning : {v w : Value} → Same v w → meaning v ≡ meaning w
same_meaning e = rw (e.kind, e.content)

pub cells_meaning : {vs ws : List Value} → SameCells vs ws → map meaning vs ≡ map meaning ws
cells_meaning no_cells = refl
cells_meaning (and_cell x xs) = rw (same_meaning x, cells_meaning xs)

pub rows_meaning : {rs qs : List (List Value)} → SameRows rs qs → map (map meaning) rs ≡ map (map meaning) qs
rows_meaning no_rows = refl
rows_meaning (and_row x xs) = rw (cells_meaning x, rows_meaning xs)

cells_append : {vs ws xs ys : List Value} → SameCells vs ws → SameCells xs ys → SameCells (vs ++ xs) (ws ++ ys)
cells_append no_cells k = k
cells_append (and_cell x xs) k = and_cell x (cells_append xs k)

pub concat_same : {rs qs : List (List Value)} → SameRows rs qs → SameCells (concat rs) (concat qs)
unfolding concat
concat_same no_rows = no_cells
concat_same (and_row x xs) = cells_append x (concat_same xs)

-- ---- lengths

pub same_length : {vs ws : List Value} → SameCells vs ws → length vs ≡ length ws
same_length no_cells = refl
same_length (and_cell x xs) = ap suc (same_length xs)

pub rows_length : {rs qs : List (List Value)} → SameRows rs qs → length rs ≡ length qs
rows_length no_rows = refl
rows_length (and_row x xs) = ap suc (rows_length xs)

same_empty : {vs ws : List Value} → SameCells vs ws → is_empty vs ≡ is_empty ws
same_empty no_cells = refl
same_empty (and_cell x xs) = refl

-- ---- texts

cell_same : (d : Dialect) (only first : Bool) {v w : Value} → Same v w → cell_text d only first v ≡ cell_text d only first w
unfolding cell_text
cell_same Csvj only first e = rw (e.kind, e.content)
cell_same Tdif only first e = rw (e.kind, e.content)
cell_same (CsvPlus s) only first e = rw e.content

more_same : (d : Dialect) {vs ws : List Value} → SameCells vs ws → more_cells d vs ≡ more_cells d ws
unfolding more_cells
more_same d no_cells = refl
more_same d (and_cell x xs) = rw (cell_same d false false x, more_same d xs)

all_same : (d : Dialect) (header : Bool) {vs ws : List Value} → SameCells vs ws → all_cells d header vs ≡ all_cells d header ws
unfolding all_cells
all_same d header no_cells = refl
all_same d header (and_cell {ws} x xs) = rw (same_empty xs, cell_same d (is_empty ws) header x, more_same d xs)

pub record_same : (t : Target) (header : Bool) {vs ws : List Value} → SameCells vs ws → record_text t header vs ≡ record_text t header ws
unfolding record_text
record_same t header e = all_same t.dialect header e

pub data_same : (t : Target) {rs qs : List (List Value)} → SameRows rs qs → data_text t rs ≡ data_text t qs
unfolding data_text
data_same t no_rows = refl
data_same t (and_row x xs) = rw (record_same t false x, data_same t xs)

pub table_same : (t : Target) {rs qs : List (List Value)} → SameRows rs qs → table_text t rs ≡ table_text t qs
unfolding table_text
table_same t no_rows = refl
table_same t (and_row x xs) = rw (record_same t true x, data_same t xs)

-- ---- checks

text_same : (n : ℕ) {vs ws : List Value} → SameCells vs ws → header_kind_from n vs ≡ header_kind_from n ws
unfolding header_kind_from
text_same n no_cells = refl
text_same n (and_cell x xs) = rw (x.kind, text_same (suc n) xs)

repeat_same :
    (d : Dialect) (fault : ℕ → Fault) (seen : List Bytes) (n : ℕ) {vs ws : List Value} → SameCells vs ws →
    repeat_from d fault seen n vs ≡ repeat_from d fault seen n ws
unfolding repeat_from
repeat_same d fault seen n no_cells = refl
repeat_same d fault seen n (and_cell {w} x xs) = rw (x.content, repeat_same d fault (name_key d w.content ∷ seen) (suc n) xs)

pub header_same : (d : Dialect) {vs ws : List Value} → SameCells vs ws → header_fault d vs ≡ header_fault d ws
unfolding header_fault repeat_fault
header_same d e = rw (same_length e, text_same 1 e, repeat_same d _ [] 1 e)

pub even_same : (columns : ℕ) {vs ws : List Value} → SameCells vs ws → data_fault columns vs ≡ data_fault columns ws
unfolding data_fault
even_same columns e = rw (same_length e)

carried_same : (t : Dialect) (n : ℕ) {vs ws : List Value} → SameCells vs ws → uncarried_from t n vs ≡ uncarried_from t n ws
unfolding uncarried_from
carried_same t n no_cells = refl
carried_same t n (and_cell x xs) = rw (x.kind, x.content, carried_same t (suc n) xs)

clash_same : (t : Dialect) (header : Bool) {vs ws : List Value} → SameCells vs ws → clash_fault t header vs ≡ clash_fault t header ws
unfolding repeat_fault
clash_same t true e = repeat_same t _ [] 1 e
clash_same t false e = refl

pub target_same :
    (t : Target) (header : Bool) (written : ℕ) {vs ws : List Value} → SameCells vs ws →
    target_fault t header written vs ≡ target_fault t header written ws
unfolding target_fault
target_same t header written e = rw (same_empty e, carried_same t.dialect 1 e, clash_same t.dialect header e, record_same t header e)

pub fault_same :
    (d : Dialect) (target : Option Target) (done : List Rec) {vs ws : List Value} → SameCells vs ws →
    record_fault d target done vs ≡ record_fault d target done ws
unfolding record_fault
fault_same d None [] e = rw (header_same d e)
fault_same d (Some t) [] e = rw (header_same d e, target_same t true (length (table_text t [])) e)
fault_same d None (h ∷ rs) e = rw (even_same (length h.cells) e)
fault_same d (Some t) (h ∷ rs) e = rw (even_same (length h.cells) e, target_same t false (length (table_text t (h.cells ∷ rows rs))) e)

pub place_free : PlaceFree
place_free = record { text = λ t header vs ws e. record_same t header e; fault = λ d target done vs ws e. fault_same d target done e }
