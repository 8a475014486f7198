-- The cells and records of valid lists: each cell is that of its span and kind, and the records are these cells, `columns` at a time.
use Prim.Native.Nat.{ℕ, zero, suc, ◌+◌, ◌*◌, ◌<◌, ◌≤◌}
use native.Mathlib.Omega.{arith}
use mathlib.Core.Path.{◌≡◌, refl, sym, ap, ◌∙◌}
use mathlib.Core.Bool.{Bool, true, false, ◌&&◌}
use Rattle.std.specs.Prelude.{Option, None, Some}
use mathlib.Core.List.{List, [], ◌∷◌}
use lib.Dec.{leb, ltb, eqb}
use lib.ListN.{length, drop, get_or, drop_of_length-le}
use borrow.Author.Tests.{le-leb, lt-leb, leb-true, lt-ltb, le-ltb, ltb-true, eqb-true}
use Rattle.model.specs.declared.Kind.{Kind}
use Rattle.model.specs.rules.Base.{Bytes, choose◌then◌else◌}
use Rattle.model.specs.rules.Text.{Value}
use Rattle.model.specs.rules.Api.{kind_named, is_value, slice, table_cell, cons, table_cells, rows_of, table_rows, rows_in}
use Rattle.model.proofs.Tests.{split_on, impossible, and_true}
use Rattle.buffer.proofs.WriteProgress.{drop_next}
use Rattle.cell_decoder.specs.declared.source.Source.TheVariants.{Contents}
use Rattle.cell_decoder.specs.Sources.{or_null, cell_in, cells_in, CellSpan, as_content, Cells}
use Rattle.cell_decoder.proofs.CellsIn.{cells_length}
use Rattle.table_writer.specs.TableParts.{given, is_there}

-- ---- one cell

-- the test of a cell of this kind
abbrev fits : (bs : Bytes) (s e : ℕ) → Kind → Bool
fits bs s e k = leb s e && leb e (length bs) && is_value k (slice bs s e)

-- the cell by its kind, if it has one
abbrev cell_of : (bs : Bytes) (s e : ℕ) → Option Kind → Option Value
cell_of bs s e None = None
cell_of bs s e (Some k) = choose fits bs s e k then Some (record { from = s; upto = e; kind = k; content = slice bs s e }) else None

cell_by : (bs : Bytes) (s e n : ℕ) → table_cell bs s e n ≡ cell_of bs s e (kind_named n)
unfolding table_cell
cell_by bs s e n = go (kind_named n)
  where
    go :
        (o : Option Kind) → (elim o as (λ _. Option Value) [
          | None ↦ None
          | Some k ↦
              choose leb s e && leb e (length bs) && is_value k (slice bs s e) then Some
              (record { from = s; upto = e; kind = k; content = slice bs s e })
              else None
        ]) ≡ cell_of bs s e o
    go None = refl
    go (Some k) = refl

there_if : {A : Type 0} (t : Bool) (x : A) → is_there (choose t then Some x else None) ≡ t
unfolding choose◌then◌else◌
there_if true x = refl
there_if false x = refl

then_some : {A : Type 0} (t : Bool) (x : A) → t ≡ true → ◌≡◌ {A = Option A} (choose t then Some x else None) (Some x)
unfolding choose◌then◌else◌
then_some true x e = refl
then_some false x e = impossible e

pub cell_unknown : (bs : Bytes) (s e n : ℕ) → kind_named n ≡ None → is_there (table_cell bs s e n) ≡ false
cell_unknown bs s e n h = rw (cell_by bs s e n, h)

pub cell_known : (bs : Bytes) (s e n : ℕ) (k : Kind) → kind_named n ≡ Some k → s ≤ e → e ≤ length bs → is_there (table_cell bs s e n) ≡ is_value k (slice bs s e)
cell_known bs s e n k h l u = rw (cell_by bs s e n, h, there_if, le-leb s e l, le-leb e (length bs) u)

not_forward : (bs : Bytes) (s e : ℕ) (o : Option Kind) → e < s → is_there (cell_of bs s e o) ≡ false
not_forward bs s e None l = refl
not_forward bs s e (Some k) l = rw (there_if, lt-leb s e l)

pub cell_backward : (bs : Bytes) (s e n : ℕ) → e < s → is_there (table_cell bs s e n) ≡ false
cell_backward bs s e n l = rw (cell_by bs s e n) (not_forward bs s e (kind_named n) l)

not_inside : (bs : Bytes) (s e : ℕ) (o : Option Kind) → s ≤ e → length bs < e → is_there (cell_of bs s e o) ≡ false
not_inside bs s e None h l = refl
not_inside bs s e (Some k) h l = rw (there_if, le-leb s e h, lt-leb e (length bs) l)

pub cell_beyond : (bs : Bytes) (s e n : ℕ) → s ≤ e → length bs < e → is_there (table_cell bs s e n) ≡ false
cell_beyond bs s e n h l = rw (cell_by bs s e n) (not_inside bs s e (kind_named n) h l)

-- a valid cell
record There (bs : Bytes) (s e : ℕ) (o : Option Kind) : Type 0 where
  forward : s ≤ e
  within : e ≤ length bs
  same : cell_of bs s e o ≡ Some (record { from = s; upto = e; kind = or_null o; content = slice bs s e })

there : (bs : Bytes) (s e : ℕ) (o : Option Kind) → is_there (cell_of bs s e o) ≡ true → There bs s e o
there bs s e None h = impossible h
there bs s e (Some k) h =
    let t : fits bs s e k ≡ true = sym (there_if (fits bs s e k) _) ∙ h in
    let a = and_true (leb s e && leb e (length bs)) (is_value k (slice bs s e)) t in
    let b = and_true (leb s e) (leb e (length bs)) a.0 in
    record { forward = leb-true s e b.0; within = leb-true e (length bs) b.1; same = then_some (fits bs s e k) _ t }

cell_there : (bs : Bytes) (s e n : ℕ) → is_there (table_cell bs s e n) ≡ true → table_cell bs s e n ≡ Some (cell_in Contents bs s e n)
cell_there bs s e n h = cell_by bs s e n ∙ (there bs s e (kind_named n) (rw (cell_by bs s e n) at h)).same

cell_span : (bs : Bytes) (s e n : ℕ) → is_there (table_cell bs s e n) ≡ true → CellSpan Contents bs s e n
cell_span bs s e n h =
    let t = there bs s e (kind_named n) (rw (cell_by bs s e n) at h) in
    record { forward = t.forward; within = t.within; spelt = as_content }

-- ---- the cells

cons_there : (x : Option Value) (xs : Option (List Value)) → is_there (cons x xs) ≡ (is_there x && is_there xs)
cons_there None xs = refl
cons_there (Some v) None = refl
cons_there (Some v) (Some vs) = refl

-- the cells of lists from place n on
abbrev pub cells_from : (bs : Bytes) (ss es ks : List ℕ) (n : ℕ) → Option (List Value)
cells_from bs ss es ks n = table_cells bs (drop n ss) (drop n es) (drop n ks)

cells_at : (bs : Bytes) (ss es ks : List ℕ) (n : ℕ) → length ss ≡ length es → length ss ≡ length ks → n < length ss
    → is_there (cells_from bs ss es ks n) ≡ (is_there (table_cell bs (get_or ss n 0) (get_or es n 0) (get_or ks n 0)) && is_there (cells_from bs ss es ks (n + 1)))
unfolding table_cells
cells_at bs ss es ks n p q l =
    rw (drop_next ss n (n + 1) l refl, drop_next es n (n + 1) (omega arith) refl, drop_next ks n (n + 1) (omega arith) refl)
    (cons_there (table_cell bs (get_or ss n 0) (get_or es n 0) (get_or ks n 0)) (cells_from bs ss es ks (n + 1)))

pub cells_next : (bs : Bytes) (ss es ks : List ℕ) (n : ℕ) → length ss ≡ length es → length ss ≡ length ks → n < length ss
    → is_there (table_cell bs (get_or ss n 0) (get_or es n 0) (get_or ks n 0)) ≡ true → is_there (cells_from bs ss es ks n) ≡ is_there (cells_from bs ss es ks (n + 1))
cells_next bs ss es ks n p q l h = cells_at bs ss es ks n p q l ∙ rw h

pub cells_here : (bs : Bytes) (ss es ks : List ℕ) (n : ℕ) → length ss ≡ length es → length ss ≡ length ks → n < length ss
    → is_there (table_cell bs (get_or ss n 0) (get_or es n 0) (get_or ks n 0)) ≡ false → is_there (cells_from bs ss es ks n) ≡ false
cells_here bs ss es ks n p q l h = cells_at bs ss es ks n p q l ∙ rw h

pub cells_end :
    (bs : Bytes) (ss es ks : List ℕ) (n : ℕ) → length ss ≡ length es → length ss ≡ length ks → length ss ≤ n →
    is_there (cells_from bs ss es ks n) ≡ true
unfolding table_cells
cells_end bs ss es ks n p q l =
    let a : drop n ss ≡ [] = drop_of_length-le ss l in
    let b : drop n es ≡ [] = drop_of_length-le es {i = n} (omega arith) in
    let d : drop n ks ≡ [] = drop_of_length-le ks {i = n} (omega arith) in
    rw (a, b, d)

-- valid cells
pub record AllThere (bs : Bytes) (ss es ks : List ℕ) : Type 0 where
  pub cells : Cells Contents bs ss es ks
  pub same : table_cells bs ss es ks ≡ Some (cells_in Contents bs ss es ks)

more_cells :
    {bs : Bytes} {s e k : ℕ} {ss es ks : List ℕ} → CellSpan Contents bs s e k → Cells Contents bs ss es ks →
    Cells Contents bs (s ∷ ss) (e ∷ es) (k ∷ ks)
more_cells {bs} {s} {e} {k} {ss} {es} {ks} x xs = record { with_ends = ap suc xs.with_ends; with_kinds = ap suc xs.with_kinds; each = at }
  where
    at : (n : ℕ) → n < length (s ∷ ss) → CellSpan Contents bs (get_or (s ∷ ss) n 0) (get_or (e ∷ es) n 0) (get_or (k ∷ ks) n 0)
    at zero l = x
    at (suc n) l = xs.each n (omega arith)

pub all_there : (bs : Bytes) (ss es ks : List ℕ) → is_there (table_cells bs ss es ks) ≡ true → AllThere bs ss es ks
unfolding table_cells cells_in
all_there bs [] [] [] h = record { cells = record { with_ends = refl; with_kinds = refl; each = λ k l. absurd (omega arith) }; same = refl }
all_there bs [] [] (k ∷ ks) h = impossible h
all_there bs [] (e ∷ es) ks h = impossible h
all_there bs (s ∷ ss) [] ks h = impossible h
all_there bs (s ∷ ss) (e ∷ es) [] h = impossible h
all_there bs (s ∷ ss) (e ∷ es) (k ∷ ks) h =
    let x = and_true (is_there (table_cell bs s e k)) (is_there (table_cells bs ss es ks)) (sym (cons_there (table_cell bs s e k) (table_cells bs ss es ks)) ∙ h) in
    let i = all_there bs ss es ks x.1 in
    record {
      cells = more_cells (cell_span bs s e k x.0) i.cells;
      same = rw (cell_there bs s e k x.0, i.same);
    }

-- ---- the records

and_false : (x : Bool) → (x && false) ≡ false
and_false true = refl
and_false false = refl

and_yes : (x : Bool) → (x && true) ≡ x
and_yes true = refl
and_yes false = refl

module _ (bs : Bytes) (ss es ks : List ℕ) (columns records : ℕ) where
  -- with an invalid cell there is no table
  no_rows : (o : Option (List Value)) → is_there o ≡ false → is_there (table_rows columns records o) ≡ false
  no_rows None h = refl
  no_rows (Some vs) h = impossible (sym h)

  missing : is_there (table_cells bs ss es ks) ≡ false → is_there (rows_in (given bs ss es ks columns records)) ≡ false
  unfolding rows_in
  missing h = no_rows (table_cells bs ss es ks) h

  -- with all cells valid, their number decides whether there are records
  by_number :
      AllThere bs ss es ks →
      rows_in (given bs ss es ks columns records)
      ≡ (choose eqb (length ss) (columns * records) && ltb 0 records then Some (rows_of records columns (cells_in Contents bs ss es ks))
      else None)
  unfolding rows_in
  by_number a = rw (a.same, cells_length Contents bs ss es ks a.cells.with_ends a.cells.with_kinds)

  -- as many cells as the records have, and a record
  abbrev counted : Bool
  counted = eqb (length ss) (columns * records) && ltb 0 records

  table_there : is_there (rows_in (given bs ss es ks columns records)) ≡ (is_there (table_cells bs ss es ks) && counted)
  table_there =
      split_on (is_there (table_cells bs ss es ks))
      (λ t. ap is_there (by_number (all_there bs ss es ks t)) ∙ there_if counted _ ∙ rw t)
      λ f. missing f ∙ rw f

  -- no record, or another number of cells
  pub no_record : records ≡ 0 → is_there (rows_in (given bs ss es ks columns records)) ≡ false
  no_record e =
      let n : ltb 0 records ≡ false = le-ltb 0 records (omega arith) in
      table_there ∙ rw (n, and_false (eqb (length ss) (columns * records))) (and_false (is_there (table_cells bs ss es ks)))

  pub no_product : eqb (length ss) (columns * records) ≡ false → is_there (rows_in (given bs ss es ks columns records)) ≡ false
  no_product e = table_there ∙ rw e (and_false (is_there (table_cells bs ss es ks)))

  -- the right number of cells
  pub by_cells :
      (records ≡ 0 → ⊥) → eqb (length ss) (columns * records) ≡ true →
      is_there (rows_in (given bs ss es ks columns records)) ≡ is_there (table_cells bs ss es ks)
  by_cells n e =
      let p : ltb 0 records ≡ true = lt-ltb 0 records (omega arith) in
      table_there ∙ rw (e, p) (and_yes (is_there (table_cells bs ss es ks)))

  -- lists of different lengths are no table
  pub no_ends : (length ss ≡ length es → ⊥) → is_there (rows_in (given bs ss es ks columns records)) ≡ false
  no_ends n = split_on (is_there (table_cells bs ss es ks)) (λ t. absurd (n (all_there bs ss es ks t).cells.with_ends)) λ f. missing f

  pub no_kinds : (length ss ≡ length ks → ⊥) → is_there (rows_in (given bs ss es ks columns records)) ≡ false
  no_kinds n = split_on (is_there (table_cells bs ss es ks)) (λ t. absurd (n (all_there bs ss es ks t).cells.with_kinds)) λ f. missing f

  -- what a table is
  pub record Tabled : Type 0 where
    pub cells : Cells Contents bs ss es ks
    pub rows : rows_in (given bs ss es ks columns records) ≡ Some (rows_of records columns (cells_in Contents bs ss es ks))
    pub count : length ss ≡ columns * records
    pub header : 0 < records

  pub tabled : is_there (rows_in (given bs ss es ks columns records)) ≡ true → Tabled
  tabled h =
      let x = and_true (is_there (table_cells bs ss es ks)) counted (sym table_there ∙ h) in
      let y = and_true (eqb (length ss) (columns * records)) (ltb 0 records) x.1 in
      let a = all_there bs ss es ks x.0 in
      record {
        cells = a.cells;
        rows = by_number a ∙ then_some counted _ x.1;
        count = eqb-true (length ss) (columns * records) y.0;
        header = ltb-true 0 records y.1;
      }
