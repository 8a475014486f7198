-- The numbers of a state, in a list or as fields, and what they encode.
use Rattle.std.specs.Prelude.{ℕ, List, [], ◌∷◌, get_or}
use Rattle.model.specs.declared.Report.{Report}
use Rattle.piece_state.specs.Codes.{state_number, state_from}
use Rattle.piece_state.specs.declared.place.Place.{Place}
use Rattle.piece_converter.specs.declared.Converter.{Converter}

-- where the conversion is (§15.2)
abbrev pub place_in : List ℕ → Place
place_in n =
    record {
      state = state_from (get_or n 0 0);
      offset = get_or n 1 0;
      start = get_or n 2 0;
      size = get_or n 3 0;
      fill = get_or n 4 0;
      cells = get_or n 5 0;
      columns = get_or n 6 0;
      records = get_or n 7 0;
      written = get_or n 8 0;
    }

-- above 0 once an end was accepted (§15.6)
abbrev pub stored_end : List ℕ → ℕ
stored_end n = get_or n 9 0

-- the report of the fault that was met; its number is 0 before (§15.5)
abbrev pub stored_fault : List ℕ → Report
stored_fault n = record { number = get_or n 10 0; record_number = get_or n 11 0; column = get_or n 12 0; offset = get_or n 13 0 }

-- where the conversion is, by the fields (§15.2)
abbrev pub place_of : Converter → Place
place_of s =
    record {
      state = state_from s.state;
      offset = s.offset;
      start = s.start;
      size = s.size;
      fill = s.fill;
      cells = s.cells;
      columns = s.columns;
      records = s.records;
      written = s.written;
    }

abbrev pub numbers_of : Place → (ended : ℕ) → Report → List ℕ
numbers_of p ended e =
    state_number p.state ∷ p.offset ∷ p.start ∷ p.size ∷ p.fill ∷ p.cells ∷ p.columns ∷ p.records ∷ p.written ∷ ended
    ∷ e.number ∷ e.record_number ∷ e.column ∷ e.offset ∷ []

-- the numbers, by the fields (§15.2)
abbrev pub numbers_by_field : Converter → List ℕ
numbers_by_field s =
    s.state ∷ s.offset ∷ s.start ∷ s.size ∷ s.fill ∷ s.cells ∷ s.columns ∷ s.records ∷ s.written ∷ s.ended
    ∷ s.fault.number ∷ s.fault.record_number ∷ s.fault.column ∷ s.fault.offset ∷ []
