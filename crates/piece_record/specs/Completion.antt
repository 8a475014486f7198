-- A complete record from the buffered bytes of its cells, in which each cell's end is the next one's start; and the result of completing
-- it.
use Rattle.std.specs.Prelude.{ℕ, ◌+◌, ◌≤◌, ◌<◌, ◌≡◌, List, [], ◌∷◌, ◌++◌, length, take, get_or}
use Rattle.model.specs.rules.Base.{choose◌then◌else◌, ◌is◌, Bytes}
use Rattle.model.specs.rules.Text.{Value, record_text, ending}
use Rattle.model.specs.laws.Places.{values_in}
use Rattle.model.specs.rules.Records.{◌or_else◌, header_fault, data_fault, target_fault}
use Rattle.buffer.specs.Writes.{written}
use Rattle.cell_decoder.specs.Followed.{EdFollowed}
use Rattle.model.specs.declared.Dialect.{Dialect}
use Rattle.model.specs.declared.Target.{Target}
use Rattle.model.specs.declared.Fault.{Fault}
use Rattle.model.specs.rules.Types.{CheckResult}
use Rattle.std.specs.Prelude.{Result, Ok, Err}
use Rattle.piece_state.specs.declared.place.Place.{Place}
use Rattle.piece_record.specs.declared.RecordError.{RecordError}
use Rattle.piece_record.specs.declared.RecordError.TheVariants.{Refused, Invalid}

-- ---- spans one after another

-- where cells with these ends start, if the first starts there
unfoldable pub starts_by : (at : ℕ) → List ℕ → List ℕ
starts_by at [] = []
starts_by at (e ∷ es) = at ∷ starts_by e es

-- where the last of them ends
unfoldable pub end_of : (at : ℕ) → List ℕ → ℕ
end_of at [] = at
end_of at (e ∷ es) = end_of e es

-- no byte is ED
abbrev pub HoldsNoEd : Bytes → Type 0
HoldsNoEd bs = (i : ℕ) → i < length bs → get_or bs i 0 ≡ 0xED → ⊥

-- ---- the result for a record

-- the checks of a record at a place, with its records, columns and bytes so far: the source's in dialect d, and then the target's
unfoldable pub fault_at : Dialect → Target → Place → List Value → CheckResult
fault_at d t p vs =
    (choose p.records is 0 then header_fault d vs else data_fault p.columns vs) or_else target_fault t (p.records is 0) p.written vs

-- the text of a record at this place, with its ending
abbrev pub text_at : Target → Place → List Value → Bytes
text_at t p vs = record_text t (p.records is 0) vs ++ ending t.dialect

-- the result for a complete record: where its text ends, or why it is not written
abbrev pub RecordResult : Type 0
RecordResult = Result ℕ RecordError

-- its text is written at o, if it has no fault and there is room
pub data FinishSound (v : CheckResult) (text : Bytes) (o : ℕ) (out out' : List ℕ) : RecordResult → Type 0 where
  is_written :
      {end : ℕ} → v ≡ Ok tt → o + length text ≤ length out → out' ≡ written out o text → end ≡ o + length text →
      FinishSound v text o out out' (Ok end)
  is_refused : {e : Fault} → v ≡ Err e → out' ≡ out → FinishSound v text o out out' (Err (Refused e))
  has_no_room : v ≡ Ok tt → length out < o + length text → out' ≡ out → FinishSound v text o out out' (Err Invalid)

-- the cells in the buffered bytes with these ends
abbrev pub buffered_values : Dialect → Bytes → (ends : List ℕ) → List Value
buffered_values d bytes ends = values_in d bytes (starts_by 0 ends) ends

-- the same for a record whose cells are first checked for what writing requires
pub data CompleteSound (d : Dialect) (t : Target) (p : Place) (bytes ends : List ℕ) (o : ℕ) (out out' : List ℕ) (r : RecordResult) : Type 0 where
  not_encoded : r ≡ Err Invalid → (EdFollowed (take (end_of 0 ends) bytes) → ⊥) → out' ≡ out → CompleteSound d t p bytes ends o out out' r
  ruled :
      FinishSound (fault_at d t p (buffered_values d bytes ends)) (text_at t p (buffered_values d bytes ends)) o out out' r →
      CompleteSound d t p bytes ends o out out' r
