-- The values of CSVJ are exactly the cells that its automaton reads, with the decoder's kind and content.
use Prim.Native.Nat.{ℕ}
use mathlib.Core.Path.{◌≡◌, refl}
use mathlib.Core.List.{◌∷◌}
use Rattle.grammar.specs.rfc.Types.{Csvj, Zero, Integer, T, Tr, Tru, F, Fa, Fal, Fals, N, Nu, Nul, Cell, Fresh, InWord, CellStep, More}
use Rattle.grammar.specs.rfc.Types as types
use Rattle.model.specs.rules.Base.{Bytes, QUOTE, ◌is◌, choose◌then◌else◌}
use Rattle.model.specs.rules.Cell.{is_digit, first_byte, cell_step, is_whole}
use Rattle.model.specs.rules.Decode.{kind_of, content_of}
use Rattle.model.proofs.Tests.{split, impossible, is→eq}
use Rattle.model.proofs.cell_laws.CellContent.{no_more, same_more}
use Rattle.grammar.specs.rfc.Rfc8259.{encoded_false, encoded_null, encoded_true, string, a_quotation_mark}
use Rattle.grammar.specs.rfc.Derived.{Derived, raw_of}
use Rattle.grammar.specs.dialects.FormReads.{decoded}
use Rattle.grammar.specs.dialects.Csvj.{Value, a_false, a_null, a_true, a_number, a_string}
use Rattle.grammar.proofs.rfc.WholeCells.{Spells, whole, byte, DerivedFrom, derived_from, spelled, last_letter}
use Rattle.grammar.proofs.rfc.Numbers.{number_spells, spells_number, rest_negative, rest_nought, rest_positive, digit_nonzero, first_of_number}
use Rattle.grammar.proofs.rfc.Numbers.{number_content}
use Rattle.grammar.proofs.rfc.Strings.{chars_spell, spells_chars}
use Rattle.grammar.proofs.rfc.StringContent.{string_content, string_kind, StringOf, string_of, closing_string}

pub value_spells : {c : Derived} → Value c → Spells Csvj Fresh (raw_of c)
unfolding cell_step first_byte is_whole choose◌then◌else◌
value_spells (a_false encoded_false) = byte refl (byte refl (byte refl (byte refl (byte refl (whole refl)))))
value_spells (a_null encoded_null) = byte refl (byte refl (byte refl (byte refl (whole refl))))
value_spells (a_true encoded_true) = byte refl (byte refl (byte refl (byte refl (whole refl))))
value_spells (a_number n) = number_spells n
value_spells (a_string (string a_quotation_mark c a_quotation_mark k)) = byte refl (chars_spell c)

pub value_content : {c : Derived} → Value c → c ≡ decoded Csvj (raw_of c)
unfolding kind_of content_of choose◌then◌else◌
value_content (a_false encoded_false) = refl
value_content (a_null encoded_null) = refl
value_content (a_true encoded_true) = refl
value_content (a_number {bs} n) = let e = number_content (first_of_number n) in rw (e.0, e.1)
value_content (a_string {bs} {ts} s) = rw (string_kind s, string_content s)

true_value : {bs : Bytes} → Spells Csvj (InWord T) bs → DerivedFrom Value (0x74 ∷ bs)
true_value k = rw (spelled T _ k (λ _ m. spelled Tr _ m (λ _ n. last_letter Tru refl n))) (derived_from (a_true encoded_true))

false_value : {bs : Bytes} → Spells Csvj (InWord F) bs → DerivedFrom Value (0x66 ∷ bs)
false_value k = rw (spelled F _ k (λ _ l. spelled Fa _ l (λ _ m. spelled Fal _ m (λ _ n. last_letter Fals refl n)))) (derived_from (a_false encoded_false))

null_value : {bs : Bytes} → Spells Csvj (InWord N) bs → DerivedFrom Value (0x6E ∷ bs)
null_value k = rw (spelled N _ k (λ _ m. spelled Nu _ m (λ _ n. last_letter Nul refl n))) (derived_from (a_null encoded_null))

string_value : {bs : Bytes} → StringOf (QUOTE ∷ bs) → DerivedFrom Value (QUOTE ∷ bs)
string_value (string_of s) = derived_from (a_string s)

first_value : (b : ℕ) (bs : Bytes) (e : Cell) → Spells Csvj e bs → cell_step Csvj Fresh b ≡ More e → DerivedFrom Value (b ∷ bs)
unfolding cell_step first_byte
first_value b bs e k =
    split P (b is QUOTE) (λ p q. rw (is→eq b QUOTE p) (string_value (closing_string (spells_chars (from q))))) λ _.
    split P (b is 0x2D) (λ p q. rw (is→eq b 0x2D p) (derived_from (a_number (rest_negative (spells_number k types.Minus (same_more q)))))) λ _.
    split P (b is 0x30) (λ p q. rw (is→eq b 0x30 p) (derived_from (a_number (rest_nought (spells_number k Zero (same_more q)))))) λ n.
    split P (is_digit b) (λ p q. derived_from (a_number (rest_positive (digit_nonzero b n p) (spells_number k Integer (same_more q))))) λ _.
    split P (b is 0x74) (λ p q. rw (is→eq b 0x74 p) (true_value (from q))) λ _.
    split P (b is 0x66) (λ p q. rw (is→eq b 0x66 p) (false_value (from q))) λ _.
    split P (b is 0x6E) (λ p q. rw (is→eq b 0x6E p) (null_value (from q))) λ _ q. no_more q
  where
    P : CellStep → Type 0
    P a = a ≡ More e → DerivedFrom Value (b ∷ bs)

    from : {c : Cell} → More c ≡ More e → Spells Csvj c bs
    from q = let z = same_more q in rw (← z) at k

pub spells_value : {raw : Bytes} → Spells Csvj Fresh raw → DerivedFrom Value raw
unfolding is_whole
spells_value (whole w) = impossible w
spells_value (byte {e} {b} {bs} s k) = first_value b bs e k s
