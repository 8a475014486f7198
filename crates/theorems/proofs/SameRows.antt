-- Rows that are the same up to where their cells lie: what holds of the one by kinds and contents holds of the other, cell by cell
-- and row by row. Their texts are equal by model's laws of meanings. Assumes nothing.
use mathlib.Core.Path.{◌≡◌, sym, ◌∙◌}
use mathlib.Core.Bool.{true, false}
use mathlib.Core.List.{List}
use Rattle.model.specs.declared.Dialect.{Dialect}
use Rattle.model.specs.rules.Dialect.{into}
use Rattle.model.specs.rules.Text.{Value}
use Rattle.model.specs.laws.Laws.{All, all_none, all_cons}
use Rattle.model.specs.laws.RoundTrips.{Same, SameCells, no_cells, and_cell, SameRows, no_rows, and_row, has_cells}
use Rattle.model.proofs.round_trip.Meanings.{same_length, record_same, table_same}
use Rattle.theorems.specs.Demands.{DistinctNames, no_names, a_name, CarriedTable, ValueRows}

-- ---- symmetry

pub cells_back : {vs ws : List Value} → SameCells vs ws → SameCells ws vs
cells_back no_cells = no_cells
cells_back (and_cell s k) = and_cell (record { kind = sym s.kind; content = sym s.content }) (cells_back k)

pub rows_back : {rs qs : List (List Value)} → SameRows rs qs → SameRows qs rs
rows_back no_rows = no_rows
rows_back (and_row s k) = and_row (cells_back s) (rows_back k)

-- ---- of all cells, and of all rows

module _ {P Q : Value → Type 0} (keeps : (v w : Value) → Same v w → P v → Q w) where
  pub all_cells : {vs ws : List Value} → SameCells vs ws → All P vs → All Q ws
  all_cells no_cells all_none = all_none
  all_cells (and_cell {v} {w} s k) (all_cons p ps) = all_cons (keeps v w s p) (all_cells k ps)

module _ {P Q : List Value → Type 0} (keeps : (r q : List Value) → SameCells r q → P r → Q q) where
  pub all_rows : {rs qs : List (List Value)} → SameRows rs qs → All P rs → All Q qs
  all_rows no_rows all_none = all_none
  all_rows (and_row {r} {q} s k) (all_cons p ps) = all_cons (keeps r q s p) (all_rows k ps)

-- ---- rows of values

pub values_alike : {h k : List Value} {rs qs : List (List Value)} → SameCells h k → SameRows rs qs → ValueRows h rs → ValueRows k qs
values_alike s m x =
    record {
      contents = all_rows (λ r q. all_cells (λ v w e p. rw (← e.kind, ← e.content) p)) (and_row s m) x.contents;
      counts = all_rows (λ r q e p. rw (← (same_length e), ← (same_length s)) p) m x.counts;
    }

-- ---- a table that a dialect can represent

module _ (t : Dialect) where
  names_alike : {vs ws : List Value} → SameCells vs ws → DistinctNames t vs → DistinctNames t ws
  names_alike no_cells no_names = no_names
  names_alike (and_cell {w} s k) (a_name n m) = a_name {v = w} (all_cells (λ x y e p. rw (← e.content, ← s.content) p) k n) (names_alike k m)

  has_cells_alike : {vs ws : List Value} → SameCells vs ws → has_cells t vs ≡ true → has_cells t ws ≡ true
  has_cells_alike no_cells p = p
  has_cells_alike (and_cell s k) p = p

  pub carried_alike : {h k : List Value} {rs qs : List (List Value)} → SameCells h k → SameRows rs qs → CarriedTable t h rs → CarriedTable t k qs
  carried_alike {h} {k} {rs} {qs} s m c =
      record {
        columns = rw (← (same_length s)) c.columns;
        has_cells_lem = has_cells_alike s c.has_cells_lem;
        texts = all_cells (λ v w e p. sym e.kind ∙ p) s c.texts;
        names = names_alike s c.names;
        kinds = all_rows (λ r q. all_cells (λ v w e p. rw (← e.kind) p)) (and_row s m) c.kinds;
        lossless = all_rows (λ r q. all_cells (λ v w e p. rw (← e.kind, ← e.content) p)) (and_row s m) c.lossless;
        short_header = rw (← (record_same (into t) true s)) c.short_header;
        short_records = all_rows (λ r q e p. rw (← (record_same (into t) false e)) p) m c.short_records;
        short_file = rw (← (table_same (into t) (and_row s m))) c.short_file;
      }
