-- Demand 2: rows of values are the rows of some table, and a table's rows are rows of values. The table's content is all contents joined,
-- and each cell's span begins where the one before it ends (`laid`): so each cell is there with its kind and content, and the rows are
-- these cells, as many at a time as the header has.
use Prim.Native.Nat.{ℕ, suc, ◌+◌, ◌*◌, ◌≤◌}
use native.Mathlib.Omega.{arith}
use native.Mathlib.Nat.{mul-suc}
use mathlib.Core.Path.{◌≡◌, refl, ◌∙◌}
use mathlib.Core.Logic.{◌↔◌}
use mathlib.Core.Bool.{true}
use Rattle.std.specs.Prelude.{Option, Some}
use mathlib.Core.List.{List, [], ◌∷◌, ◌++◌, append_assoc}
use lib.Dec.{eqb}
use lib.ListN.{length, take, drop, length-append}
use borrow.Author.Tests.{le-leb, lt-ltb, eq-eqb}
use Rattle.model.specs.declared.Dialect.{Dialect}
use Rattle.model.specs.declared.Kind.{Kind}
use Rattle.model.specs.declared.Kind.TheVariants.{Text, Number, True, False, Null}
use Rattle.model.specs.rules.Base.{Bytes, concat, choose◌then◌else◌}
use Rattle.model.specs.rules.Dialect.{dialect_of, into}
use Rattle.model.specs.rules.Decode.{kind_number}
use Rattle.model.specs.rules.Text.{Value, table_text}
use Rattle.model.specs.rules.Report.{accepted}
use Rattle.model.specs.rules.Api.{reader, starts_of, ends_of, kinds_of, Table, kind_named, slice, table_cell, table_cells, rows_of, rows_in, writer}
use Rattle.model.specs.laws.Laws.{All, all_none, all_cons}
use Rattle.model.specs.laws.RoundTrips.{SameCells, no_cells, and_cell, SameRows, no_rows, and_row, ReadsBack}
use Rattle.model.proofs.round_trip.Meanings.{same_length, cells_meaning, concat_same, table_same}
use Rattle.model.proofs.Spans.{part_is}
use Rattle.model.proofs.round_trip.TableRows.{rows_even}
use Rattle.model.proofs.round_trip.WriterBack.{ValueCell}
use Rattle.theorems.specs.Demands.{CarriedTable, ValueRows, TableOf, ReadAsRows}
use Rattle.theorems.proofs.SameRows.{cells_back, rows_back, values_alike, carried_alike}
use Rattle.theorems.proofs.CarriedTables.{writes, carried_comes_back}

-- ---- one cell

-- the number of a kind names it
kind_named_lem : (k : Kind) → kind_named (kind_number k) ≡ Some k
unfolding kind_named choose◌then◌else◌
kind_named_lem Text = refl
kind_named_lem Number = refl
kind_named_lem True = refl
kind_named_lem False = refl
kind_named_lem Null = refl

-- a cell at this place
abbrev at : ℕ → Value → Value
at o v = record { from = o; upto = o + length v.content; kind = v.kind; content = v.content }

cell_laid :
    (before after : Bytes) (v : Value) → ValueCell v →
    table_cell (before ++ (v.content ++ after)) (length before) (length before + length v.content) (kind_number v.kind) ≡ Some (at (length before) v)
unfolding table_cell choose◌then◌else◌
cell_laid before after v e =
    let bs : Bytes = before ++ (v.content ++ after) in
    let from : ℕ = length before in
    let upto : ℕ = length before + length v.content in
    let part : slice bs from upto ≡ v.content = part_is before v.content after from upto refl refl in
    let size : length bs ≡ from + length (v.content ++ after) = length-append before (v.content ++ after) in
    let rest : length (v.content ++ after) ≡ length v.content + length after = length-append v.content after in
    rw (kind_named_lem v.kind, table_cell, le-leb from upto (omega arith), le-leb upto (length bs) (omega arith), part, e)

-- ---- the cells

-- all contents, one after another
joined : List Value → Bytes
joined [] = []
joined (v ∷ vs) = v.content ++ joined vs

-- the same cells, each at its span of the contents joined, the first at o
laid : ℕ → List Value → List Value
laid o [] = []
laid o (v ∷ vs) = at o v ∷ laid (o + length v.content) vs

laid_same : (o : ℕ) (vs : List Value) → SameCells (laid o vs) vs
unfolding laid
laid_same o [] = no_cells
laid_same o (v ∷ vs) = and_cell (record { kind = refl; content = refl }) (laid_same (o + length v.content) vs)

-- the cells of a table with this content, and with the spans and kinds of these cells
abbrev held_in : Bytes → List Value → Option (List Value)
held_in content vs = table_cells content (starts_of vs) (ends_of vs) (kinds_of vs)

cells_laid : (before : Bytes) (vs : List Value) → All ValueCell vs → held_in (before ++ joined vs) (laid (length before) vs) ≡ Some (laid (length before) vs)
unfolding table_cells joined laid
cells_laid before [] all_none = refl
cells_laid before (v ∷ vs) (all_cons e es) =
    let text : Bytes = v.content in
    let all : before ++ text ++ joined vs ≡ before ++ (text ++ joined vs) = append_assoc before text (joined vs) in
    let ih : held_in (before ++ text ++ joined vs) (laid (length (before ++ text)) vs) ≡ Some (laid (length (before ++ text)) vs) =
    cells_laid (before ++ text) vs es in
    rw (cell_laid before (joined vs) v e, rw (all, length-append before text) at ih)

-- ---- the rows

-- cells that are the same as a row and what follows it
parted : (r : List Value) {vs ws : List Value} → SameCells vs (r ++ ws) → SameCells (take (length r) vs) r × SameCells (drop (length r) vs) ws
parted [] s = (no_cells, s)
parted (v ∷ r) (and_cell s k) = let m = parted r k in (and_cell s m.0, m.1)

rows_same :
    (columns : ℕ) (vs : List Value) (rs : List (List Value)) → SameCells vs (concat rs) → All (λ (r : List Value). length r ≡ columns) rs →
    SameRows (rows_of (length rs) columns vs) rs
unfolding rows_of concat
rows_same columns vs [] s all_none = no_rows
rows_same columns vs (r ∷ rs) s (all_cons e es) =
    let m : SameCells (take columns vs) r × SameCells (drop columns vs) (concat rs) = rw e at (parted r s) in
    and_row m.0 (rows_same columns (drop columns vs) rs m.1 es)

cell_count : (columns : ℕ) {rs : List (List Value)} → All (λ (r : List Value). length r ≡ columns) rs → length (concat rs) ≡ columns * length rs
unfolding concat
cell_count columns all_none = omega arith
cell_count columns (all_cons {x = r} {xs = rs} e es) =
    let ih : length (concat rs) ≡ columns * length rs = cell_count columns es in
    let sum : length (r ++ concat rs) ≡ length r + length (concat rs) = length-append r (concat rs) in
    let more : columns * suc (length rs) ≡ columns * length rs + columns = mul-suc columns (length rs) in
    omega arith

values_in : {rs : List (List Value)} → All (All ValueCell) rs → All ValueCell (concat rs)
unfolding concat
values_in all_none = all_none
values_in (all_cons p ps) = both p (values_in ps)
  where
    both : {vs ws : List Value} → All ValueCell vs → All ValueCell ws → All ValueCell (vs ++ ws)
    both all_none m = m
    both (all_cons q qs) m = all_cons q (both qs m)

-- ---- the table

module _ (h : List Value) (rs : List (List Value)) where
  abbrev cells : List Value
  cells = laid 0 (concat (h ∷ rs))

  abbrev laid_table : Table
  laid_table =
      record {
        content = joined (concat (h ∷ rs));
        starts = starts_of cells;
        ends = ends_of cells;
        kinds = kinds_of cells;
        columns = length h;
        records = suc (length rs);
      }

  laid_rows : ValueRows h rs → TableOf h rs laid_table
  unfolding rows_in choose◌then◌else◌
  laid_rows x =
      let even : All (λ (r : List Value). length r ≡ length h) (h ∷ rs) = all_cons refl x.counts in
      let same : SameCells cells (concat (h ∷ rs)) = laid_same 0 (concat (h ∷ rs)) in
      let whole : held_in (joined (concat (h ∷ rs))) cells ≡ Some cells = cells_laid [] (concat (h ∷ rs)) (values_in x.contents) in
      let count : length cells ≡ length h * suc (length rs) = same_length same ∙ cell_count (length h) even in
      let counted : eqb (length cells) (length h * suc (length rs)) ≡ true = eq-eqb (length cells) (length h * suc (length rs)) count in
      (rows_of (suc (length rs)) (length h) cells, rw (whole, counted, lt-ltb 0 (suc (length rs)) (omega arith)), rows_same (length h) cells (h ∷ rs) same even)

pub every_table : (h : List Value) (rs : List (List Value)) → ValueRows h rs ↔ ((table : Table) × TableOf h rs table)
every_table h rs = (λ x. (laid_table h rs, laid_rows h rs x), λ y. only y.0 y.1.0 y.1.1 y.1.2)
  where
    even_values :
        (columns : ℕ) {k : List Value} {qs : List (List Value)} → All (All ValueCell) (k ∷ qs) → All (λ (r : List Value). length r ≡ columns) (k ∷ qs) →
        ValueRows k qs
    even_values columns v (all_cons e es) = record { contents = v; counts = rw e es }

    only : (table : Table) (qs : List (List Value)) → rows_in table ≡ Some qs → SameRows qs (h ∷ rs) → ValueRows h rs
    only table qs e (and_row s m) = let x = (rows_even table qs e).0 in values_alike s m (even_values table.columns x.values x.even)

-- ---- written and read back

module _ (n : ℕ) (t : Dialect) (h : List Value) (rs : List (List Value)) (room : ℕ) (known : dialect_of n ≡ Some t) (c : CarriedTable t h rs) where
  abbrev text : Bytes
  text = table_text (into t) (h ∷ rs)

  rows_written :
      (table : Table) (qs : List (List Value)) → rows_in table ≡ Some qs → SameRows qs (h ∷ rs) → length text ≤ room →
      writer n table room ≡ record { report = accepted; text = text }
  rows_written table qs e (and_row {r = k} {rs = ks} s m) fits =
      let same : table_text (into t) (k ∷ ks) ≡ text = table_same (into t) (and_row s m) in
      let carried : CarriedTable t k ks = carried_alike t (cells_back s) (rows_back m) c in
      rw same at (writes n t table k ks room known e carried (rw same fits))

  rows_read :
      (table : Table) (qs : List (List Value)) (places : ℕ) → rows_in table ≡ Some qs → SameRows qs (h ∷ rs) → table.columns ≡ length h →
      table.records ≡ suc (length rs) → length text ≤ room → length (concat (h ∷ rs)) ≤ places → ReadAsRows n h rs text (reader n text places)
  rows_read table qs places e (and_row {r = k} {rs = ks} s m) columns records fits g =
      let same : table_text (into t) (k ∷ ks) ≡ text = table_same (into t) (and_row s m) in
      let carried : CarriedTable t k ks = carried_alike t (cells_back s) (rows_back m) c in
      let count : length (concat (k ∷ ks)) ≡ length (concat (h ∷ rs)) = same_length (concat_same (and_row s m)) in
      let b : ReadsBack n table (k ∷ ks) text (reader n text places) =
      rw same at (carried_comes_back n t table k ks room places known e carried (rw same fits) (rw count g)).1 in
      record {
        report = b.report;
        columns = b.columns ∙ columns;
        records = let q : suc (reader n text places).records ≡ suc (length rs) = b.records ∙ records in omega arith;
        cells = b.cells ∙ cells_meaning (concat_same (and_row s m));
        decoded = b.decoded;
      }

pub rows_come_back :
    (n : ℕ) (t : Dialect) (h : List Value) (rs : List (List Value)) (room places : ℕ) → dialect_of n ≡ Some t → ValueRows h rs → CarriedTable t h rs →
    length (table_text (into t) (h ∷ rs)) ≤ room → length (concat (h ∷ rs)) ≤ places →
    ((table : Table) × TableOf h rs table)
    × ((table : Table) → TableOf h rs table → writer n table room ≡ record { report = accepted; text = table_text (into t) (h ∷ rs) })
    × ReadAsRows n h rs (table_text (into t) (h ∷ rs)) (reader n (table_text (into t) (h ∷ rs)) places)
rows_come_back n t h rs room places e x c f g =
    let y = laid_rows h rs x in (
      (laid_table h rs, y),
      λ table z. rows_written n t h rs room e c table z.0 z.1 z.2 f,
      rows_read n t h rs room e c (laid_table h rs) y.0 places y.1 y.2 refl refl f g,
    )
