-- Every cell that is read may be in a table given to the writer, in every dialect.
use Prim.Native.Nat.{ℕ}
use native.Mathlib.Omega.{arith}
use mathlib.Core.Path.{◌≡◌, refl}
use mathlib.Core.Bool.{Bool, true, false}
use mathlib.Core.List.{List, [], ◌∷◌}
use Rattle.model.specs.rules.Types.{Kind, Text, Number, True, False, Null, Dialect, Csvj, Tdif, CsvPlus, Fault, Ok, Err}
use Rattle.model.specs.rules.Base.{Bytes, QUOTE, ◌is◌, choose◌then◌else◌}
use Rattle.model.specs.rules.Cell.{is_whole}
use Rattle.model.specs.rules.Decode.{validate_cell, validate_from, kind_of, content_of}
use Rattle.model.specs.rules.Text.{Value}
use Rattle.model.specs.laws.Laws.{All, all_none, all_cons, SoundCell}
use Rattle.model.proofs.Tests.{is→eq}
use Rattle.model.proofs.cell_laws.ContentForm.{content_form}
use Rattle.model.proofs.round_trip.CellBack.{Valid, v_text, v_number, v_true, v_false, v_null, number_content, valid_value}
use Rattle.model.proofs.round_trip.WriterBack.{ValueCell}
use Rattle.model.specs.rules.Types.{cell_fault}
use Rattle.model.proofs.file_laws.CheckResults.{fault_sound}

json_valid : (b : ℕ) (bs : Bytes) → validate_cell Csvj (b ∷ bs) ≡ Ok tt → Valid (kind_of Csvj (b ∷ bs)) (content_of Csvj (b ∷ bs))
json_valid b bs j = go (b is QUOTE) (b is 0x74) (b is 0x66) (b is 0x6E) refl refl refl refl
  where
    by : (k : Kind) → kind_of Csvj (b ∷ bs) ≡ k → Valid k (content_of Csvj (b ∷ bs)) → Valid (kind_of Csvj (b ∷ bs)) (content_of Csvj (b ∷ bs))
    by k e v = rw e v

    go : (q t f n : Bool) → (b is QUOTE) ≡ q → (b is 0x74) ≡ t → (b is 0x66) ≡ f → (b is 0x6E) ≡ n → Valid (kind_of Csvj (b ∷ bs)) (content_of Csvj (b ∷ bs))
    go true t f n a c d e = by Text (unfold kind_of choose◌then◌else◌ in rw a) (v_text (content_form Csvj (b ∷ bs) j))
    go false true f n a c d e =
        let w : content_of Csvj (b ∷ bs) ≡ [] = unfold content_of choose◌then◌else◌ in rw (is→eq b 0x74 c) in
        by True (unfold kind_of choose◌then◌else◌ in rw (a, c)) (rw w v_true)
    go false false true n a c d e =
        let w : content_of Csvj (b ∷ bs) ≡ [] = unfold content_of choose◌then◌else◌ in rw (is→eq b 0x66 d) in
        by False (unfold kind_of choose◌then◌else◌ in rw (a, c, d)) (rw w v_false)
    go false false false true a c d e =
        let w : content_of Csvj (b ∷ bs) ≡ [] = unfold content_of choose◌then◌else◌ in rw (is→eq b 0x6E e) in
        by Null (unfold kind_of choose◌then◌else◌ in rw (a, c, d, e)) (rw w v_null)
    go false false false false a c d e =
        let k : kind_of Csvj (b ∷ bs) ≡ Number = unfold kind_of choose◌then◌else◌ in rw (a, c, d, e) in
        by Number k (rw (number_content (b ∷ bs) k j) (v_number k j))

tdif_valid : (b : ℕ) (bs : Bytes) → validate_cell Tdif (b ∷ bs) ≡ Ok tt → Valid (kind_of Tdif (b ∷ bs)) (content_of Tdif (b ∷ bs))
tdif_valid b bs j = go (b is QUOTE) refl
  where
    go : (q : Bool) → (b is QUOTE) ≡ q → Valid (kind_of Tdif (b ∷ bs)) (content_of Tdif (b ∷ bs))
    go true a = let k : kind_of Tdif (b ∷ bs) ≡ Text = unfold kind_of choose◌then◌else◌ in rw a in rw k (v_text (content_form Tdif (b ∷ bs) j))
    go false a =
        let k : kind_of Tdif (b ∷ bs) ≡ Null = unfold kind_of choose◌then◌else◌ in rw a in
        let w : content_of Tdif (b ∷ bs) ≡ [] = unfold content_of choose◌then◌else◌ in rw a in
        rw (k, w) v_null

raw_valid : (d : Dialect) (raw : Bytes) → validate_cell d raw ≡ Ok tt → Valid (kind_of d raw) (content_of d raw)
unfolding validate_cell validate_from is_whole choose◌then◌else◌
raw_valid Csvj [] j = fault_sound j
raw_valid Csvj (b ∷ bs) j = json_valid b bs j
raw_valid Tdif [] j = fault_sound j
raw_valid Tdif (b ∷ bs) j = tdif_valid b bs j
raw_valid (CsvPlus s) raw j = unfold kind_of in v_text (content_form (CsvPlus s) raw j)

-- a cell of a record that was read
pub value_valid : {d : Dialect} (v : Value) → SoundCell d v → ValueCell v
value_valid {d} v s = rw (s.kind, s.content) (valid_value (raw_valid d s.raw s.sound))

pub values_valid : {d : Dialect} {vs : List Value} → All (SoundCell d) vs → All ValueCell vs
values_valid all_none = all_none
values_valid (all_cons {x} s ss) = all_cons (value_valid x s) (values_valid ss)
