-- The fields of TDIF are exactly the cells that its automaton reads, with the decoder's kind and content.
use Prim.Native.Nat.{ℕ, ◌≤◌, ◌<◌}
use native.Mathlib.Omega.{arith}
use mathlib.Core.Path.{◌≡◌, refl, sym, ap}
use mathlib.Core.Logic.{◌≢◌}
use mathlib.Core.Bool.{Bool, true, false}
use mathlib.Core.List.{[], ◌∷◌, ◌++◌}
use lib.Dec.{leb}
use borrow.Author.Tests.{leb-true, leb-false}
use Rattle.grammar.specs.rfc.Types.{Text, Tdif, Whole, Cell, Fresh, Quoted, InWord, Backslash, More}
use Rattle.model.specs.rules.Base.{Bytes, QUOTE, BACKSLASH, ◌is◌, choose◌then◌else◌}
use Rattle.model.specs.rules.Cell.{first_byte, cell_step, is_whole}
use Rattle.model.specs.rules.Decode.{kind_of, content_of}
use Rattle.model.proofs.Tests.{split_on, impossible, is→eq}
use Rattle.model.proofs.cell_laws.CellContent.{no_more, same_more, d_tdif}
use Rattle.grammar.specs.rfc.Rfc5234.{DQUOTE}
use Rattle.grammar.specs.rfc.Derived.{Derived, cell, raw_of}
use Rattle.grammar.specs.dialects.FormReads.{decoded}
use Rattle.grammar.specs.dialects.Tdif.{Textdata, below_quote, above_quote, text_beyond, Inner, nothing, textdata, two_quotes, value, null}
use Rattle.grammar.specs.dialects.Tdif.{Field, a_null, a_value, Value}
use Rattle.grammar.proofs.rfc.Ranges.{range}
use Rattle.grammar.proofs.rfc.Chars.{data_long, long_data}
use Rattle.grammar.proofs.rfc.WholeCells.{Spells, whole, byte, DerivedFrom, derived_from, last_letter}
use Rattle.grammar.proofs.rfc.Doubled.{Doubled, no_char, ascii_char, long_char, two_quotes as doubled-quotes, doubled_spells, Closing, closing}
use Rattle.grammar.proofs.rfc.Doubled.{spells_doubled, doubled_content}

-- ---- the bytes between the quotes are doubled text

inner_doubled : {bs ts : Bytes} → Inner bs ts → Doubled QUOTE bs ts
inner_doubled nothing = no_char
inner_doubled (textdata (below_quote {b} r) i) = let h : b ≤ 0x21 = r.high in ascii_char {b = b} (omega arith) (λ e. omega arith) (inner_doubled i)
inner_doubled (textdata (above_quote {b} r) i) = let h : 0x23 ≤ b = r.low in ascii_char {b = b} r.high (λ e. omega arith) (inner_doubled i)
inner_doubled (textdata (text_beyond u) i) = long_char (data_long u) (inner_doubled i)
inner_doubled (two_quotes i) = doubled-quotes (inner_doubled i)

ascii_textdata : (b : ℕ) → b ≤ 0x7F → b ≢ QUOTE → Textdata (b ∷ [])
ascii_textdata b h n =
    split_on (leb b 0x21) (λ p. below_quote (range (omega arith) (leb-true b 0x21 p))) λ p.
    let k : 0x21 < b = leb-false b 0x21 p in above_quote (range (omega arith) h)

doubled_inner : {bs ts : Bytes} → Doubled QUOTE bs ts → Inner bs ts
doubled_inner no_char = nothing
doubled_inner (ascii_char {b} h n m) = textdata (ascii_textdata b h n) (doubled_inner m)
doubled_inner (long_char l m) = textdata (text_beyond (long_data l)) (doubled_inner m)
doubled_inner (doubled-quotes m) = two_quotes (doubled_inner m)

-- ---- fields

pub field_spells : {c : Derived} → Field c → Spells Tdif Fresh (raw_of c)
unfolding cell_step first_byte is_whole choose◌then◌else◌
field_spells (a_null null) = byte refl (byte refl (whole refl))
field_spells (a_value (value i)) = byte refl (doubled_spells d_tdif (inner_doubled i))

pub field_content : {c : Derived} → Field c → c ≡ decoded Tdif (raw_of c)
unfolding kind_of content_of choose◌then◌else◌
field_content (a_null null) = refl
field_content (a_value (value {bs} {ts} i)) = ap (cell (DQUOTE ∷ (bs ++ (DQUOTE ∷ []))) Text) (sym (doubled_content QUOTE (omega arith) (inner_doubled i)))

quoted_field : {bs : Bytes} → Closing QUOTE bs → DerivedFrom Field (QUOTE ∷ bs)
quoted_field (closing m) = derived_from (a_value (value (doubled_inner m)))

first_field : (b : ℕ) (bs : Bytes) {e : Cell} → cell_step Tdif Fresh b ≡ More e → Spells Tdif e bs → DerivedFrom Field (b ∷ bs)
unfolding cell_step first_byte choose◌then◌else◌
first_field b bs {e} s k = go (b is QUOTE) (b is BACKSLASH) refl refl
  where
    go : (x y : Bool) → (b is QUOTE) ≡ x → (b is BACKSLASH) ≡ y → DerivedFrom Field (b ∷ bs)
    go true y p q =
        let z : Quoted Whole ≡ e = same_more (rw p at s) in
        let m : Spells Tdif (Quoted Whole) bs = rw (← z) at k in
        rw (is→eq b QUOTE p) (quoted_field (spells_doubled d_tdif m))
    go false true p q =
        let z : InWord Backslash ≡ e = same_more (rw (p, q) at s) in
        let m : Spells Tdif (InWord Backslash) bs = rw (← z) at k in
        rw (is→eq b BACKSLASH q, last_letter Backslash refl m) (derived_from (a_null null))
    go false false p q = no_more (rw (p, q) at s)

pub spells_field : {raw : Bytes} → Spells Tdif Fresh raw → DerivedFrom Field raw
unfolding is_whole
spells_field (whole w) = impossible w
spells_field (byte {b} {bs} s k) = first_field b bs s k

-- a field that is text is a value, so a header whose cells are text is the ABNF's own: value *(comma value) linebreak
pub text_value : {raw content : Bytes} → Field (cell raw Text content) → Value raw content
text_value (a_value v) = v
