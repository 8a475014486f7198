-- The place before the first call and after a record, and what the saved numbers must satisfy for a run over a piece to stay in bounds.
use Rattle.std.specs.Prelude.{ℕ, ◌+◌, ◌≤◌, Bool, ◌&&◌, ◌||◌, List, [], ◌∷◌, leb}
use Rattle.model.specs.declared.FileState.{FileState}
use Rattle.model.specs.declared.FileState.TheVariants.{Top}
use Rattle.model.specs.rules.Base.{choose◌then◌else◌, ◌is◌}
use Rattle.model.specs.laws.Scans.{in_record}
use Rattle.piece_state.specs.declared.place.Place.{Place}

-- before the first call
abbrev pub at_start : Place
at_start = record { state = Top; offset = 0; start = 0; size = 0; fill = 0; cells = 0; columns = 0; records = 0; written = 0 }

-- the columns of the table once this record is complete
abbrev pub columns_with : Place → (cells : ℕ) → ℕ
columns_with p cells = choose p.records is 0 then cells else p.columns

-- the place after a record
abbrev pub place_after : Place → (cells size : ℕ) → FileState → (offset : ℕ) → Place
place_after p cells size f o =
    record {
      state = f;
      offset = o;
      start = o;
      size = 0;
      fill = 0;
      cells = 0;
      columns = columns_with p cells;
      records = p.records + 1;
      written = p.written + size;
    }

-- cells are buffered only in a record (§15.2)
unfoldable pub buffered_in_record : Place → Bool
buffered_in_record p = in_record p.state || (leb p.fill 0 && p.cells is 0)

-- ends ascend, from `at` up to `fill`
unfoldable pub in_order : (at : ℕ) → List ℕ → (fill : ℕ) → Bool
in_order at [] fill = leb at fill
in_order at (e ∷ es) fill = leb at e && in_order e es fill

-- ---- the same as a proposition

pub data InOrder : (at : ℕ) → List ℕ → (fill : ℕ) → Type 0 where
  order_end : {at fill : ℕ} → at ≤ fill → InOrder at [] fill
  order_next : {at e fill : ℕ} {es : List ℕ} → at ≤ e → InOrder e es fill → InOrder at (e ∷ es) fill
