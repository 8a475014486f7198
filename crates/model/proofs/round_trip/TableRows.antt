-- The rows of a table given to the writer: cells that a table may hold, rows of one length, and as many as the table says.
use Prim.Native.Nat.{ℕ, zero, suc, ◌+◌, ◌*◌, ◌<◌}
use native.Mathlib.Omega.{arith}
use native.Mathlib.Nat.{mul-suc}
use mathlib.Core.Path.{◌≡◌, refl, sym, ap, ◌∙◌}
use mathlib.Core.Bool.{◌&&◌}
use Rattle.std.specs.Prelude.{Option, None, Some}
use mathlib.Core.List.{List, [], ◌∷◌}
use lib.Dec.{leb, ltb, eqb}
use lib.ListN.{length, take, drop, length-take, length-drop}
use borrow.Author.Tests.{eqb-true, ltb-true}
use Rattle.model.specs.rules.Types.{Kind, Dialect}
use Rattle.model.specs.rules.Base.{Bytes, choose◌then◌else◌}
use Rattle.model.specs.rules.Dialect.{into}
use Rattle.model.specs.rules.Text.{Value}
use Rattle.model.specs.rules.Api.{Table, kind_named, is_value, slice, table_cell, cons, table_cells, rows_of, table_rows, rows_in, rows_fault}
use Rattle.model.specs.laws.Laws.{All, all_none, all_cons}
use Rattle.model.specs.laws.RoundTrips.{Writable, writable}
use Rattle.model.proofs.Tests.{split, and_true}
use Rattle.model.proofs.round_trip.WriterBack.{ValueCell}

-- ---- the cells

data HeldCell : Option Value → Type 0 where
  no_cell : HeldCell None
  held_cell : {v : Value} → ValueCell v → HeldCell (Some v)

data HeldCells : Option (List Value) → Type 0 where
  no_list : HeldCells None
  held_list : {vs : List Value} → All ValueCell vs → HeldCells (Some vs)

cell_held : (bs : Bytes) (s e n : ℕ) → HeldCell (table_cell bs s e n)
unfolding table_cell
cell_held bs s e n = go (kind_named n)
  where
    go :
        (o : Option Kind) → HeldCell (elim o as (λ _. Option Value) [
          | None ↦ None
          | Some k ↦
              choose leb s e && leb e (length bs) && is_value k (slice bs s e) then Some
              (record { from = s; upto = e; kind = k; content = slice bs s e })
              else None
        ])
    go None = no_cell
    go (Some k) =
        split HeldCell (leb s e && leb e (length bs) && is_value k (slice bs s e))
        (λ t. held_cell (and_true (leb s e && leb e (length bs)) (is_value k (slice bs s e)) t).1) λ _. no_cell

cons_held : {x : Option Value} {xs : Option (List Value)} → HeldCell x → HeldCells xs → HeldCells (cons x xs)
cons_held no_cell h = no_list
cons_held (held_cell v) no_list = no_list
cons_held (held_cell v) (held_list vs) = held_list (all_cons v vs)

cells_held : (bs : Bytes) (ss es ks : List ℕ) → HeldCells (table_cells bs ss es ks)
unfolding table_cells
cells_held bs [] [] [] = held_list all_none
cells_held bs [] [] (k ∷ ks) = no_list
cells_held bs [] (e ∷ es) ks = no_list
cells_held bs (s ∷ ss) [] ks = no_list
cells_held bs (s ∷ ss) (e ∷ es) [] = no_list
cells_held bs (s ∷ ss) (e ∷ es) (k ∷ ks) = cons_held (cell_held bs s e k) (cells_held bs ss es ks)

-- ---- the rows

all_take : (n : ℕ) {vs : List Value} → All ValueCell vs → All ValueCell (take n vs)
all_take zero all_none = all_none
all_take zero (all_cons v vs) = all_none
all_take (suc n) all_none = all_none
all_take (suc n) (all_cons v vs) = all_cons v (all_take n vs)

all_drop : (n : ℕ) {vs : List Value} → All ValueCell vs → All ValueCell (drop n vs)
all_drop zero all_none = all_none
all_drop zero (all_cons v vs) = all_cons v vs
all_drop (suc n) all_none = all_none
all_drop (suc n) (all_cons v vs) = all_drop n vs

-- what the rows of a table are
pub record Even (columns records : ℕ) (rs : List (List Value)) : Type 0 where
  pub values : All (All ValueCell) rs
  pub even : All (λ (r : List Value). length r ≡ columns) rs
  pub count : length rs ≡ records

first_long : (n columns : ℕ) (vs : List Value) → length vs ≡ columns * suc n → length (take columns vs) ≡ columns
first_long n columns vs e = length-take columns vs ∙ (let h : columns * suc n ≡ columns * n + columns = mul-suc columns n in omega arith)

rest_long : (n columns : ℕ) (vs : List Value) → length vs ≡ columns * suc n → length (drop columns vs) ≡ columns * n
rest_long n columns vs e = length-drop columns vs ∙ (let h : columns * suc n ≡ columns * n + columns = mul-suc columns n in omega arith)

even_rows : (n columns : ℕ) (vs : List Value) → All ValueCell vs → length vs ≡ columns * n → Even columns n (rows_of n columns vs)
unfolding rows_of
even_rows zero columns vs v e = record { values = all_none; even = all_none; count = refl }
even_rows (suc n) columns vs v e =
    let i = even_rows n columns (drop columns vs) (all_drop columns v) (rest_long n columns vs e) in
    record { values = all_cons (all_take columns v) i.values; even = all_cons (first_long n columns vs e) i.even; count = ap suc i.count }

data HeldRows (columns records : ℕ) : Option (List (List Value)) → Type 0 where
  not_table : HeldRows columns records None
  held_rows : {rs : List (List Value)} → Even columns records rs → 0 < records → HeldRows columns records (Some rs)

rows_held : {o : Option (List Value)} (columns records : ℕ) → HeldCells o → HeldRows columns records (table_rows columns records o)
rows_held columns records no_list = not_table
rows_held columns records (held_list {vs} v) =
    split (HeldRows columns records) (eqb (length vs) (columns * records) && ltb 0 records)
    (λ t.
    let x = and_true (eqb (length vs) (columns * records)) (ltb 0 records) t in
    held_rows (even_rows records columns vs v (eqb-true (length vs) (columns * records) x.0)) (ltb-true 0 records x.1))
    λ _. not_table

table_held : (t : Table) → HeldRows t.columns t.records (rows_in t)
unfolding rows_in
table_held t = rows_held t.columns t.records (cells_held t.content t.starts t.ends t.kinds)

open_rows : {columns records : ℕ} {rs : List (List Value)} → HeldRows columns records (Some rs) → Even columns records rs × (0 < records)
open_rows (held_rows e p) = (e, p)

pub rows_even : (t : Table) (rs : List (List Value)) → rows_in t ≡ Some rs → Even t.columns t.records rs × (0 < t.records)
rows_even t rs e = open_rows (rw e at (table_held t))

-- ---- rows that pass the writer's checks

same_all : {columns n : ℕ} {qs : List (List Value)} → n ≡ columns → All (λ (r : List Value). length r ≡ columns) qs → All (λ (r : List Value). length r ≡ n) qs
same_all p all_none = all_none
same_all p (all_cons q qs) = all_cons (q ∙ sym p) (same_all p qs)

pub even_writable :
    (d : Dialect) (columns records : ℕ) (rs : List (List Value)) → Even columns records rs → 0 < records → rows_fault (into d) rs ≡ None →
    Writable d rs
even_writable d columns records [] e p f = let k : 0 ≡ records = e.count in absurd (omega arith)
even_writable d columns records (h ∷ rs) e p f = go e.even
  where
    go : All (λ (r : List Value). length r ≡ columns) (h ∷ rs) → Writable d (h ∷ rs)
    go (all_cons l ls) = writable e.values (same_all l ls) f
