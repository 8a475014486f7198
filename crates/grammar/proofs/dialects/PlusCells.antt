-- The fields of RFC 4180 with the settings of CSV+ are exactly the cells that its automaton reads, with the decoder's kind and content.
use Prim.Native.Nat.{ℕ, ◌≤◌, ◌<◌}
use native.Mathlib.Omega.{arith}
use mathlib.Core.Path.{◌≡◌, refl, sym, ap, ◌∙◌}
use mathlib.Core.Logic.{◌≢◌, ◌↔◌}
use mathlib.Core.Bool.{Bool, true, false, ◌||◌}
use mathlib.Core.List.{[], ◌∷◌, ◌++◌}
use lib.Dec.{leb}
use borrow.Author.Tests.{ne_eqb, eqb-false, leb-true, leb-false}
use Rattle.grammar.specs.rfc.Types.{Text, Delimiter, Comma, Semicolon, Tab, Bar, Quote, Double, Single, Settings, CsvPlus, Char, Whole, Within}
use Rattle.grammar.specs.rfc.Types.{Some, Cell, Fresh, Quoted, Plain, More}
use Rattle.model.specs.rules.Base.{Bytes, ◌is◌, choose◌then◌else◌}
use Rattle.model.specs.rules.Dialect.{standard, delimiter_byte, quote_byte}
use Rattle.model.specs.rules.Utf8.{char_step}
use Rattle.model.specs.rules.Cell.{text_byte, first_byte, plain_byte, cell_step, is_whole}
use Rattle.model.specs.rules.Decode.{kind_of, undouble, content_of}
use Rattle.model.proofs.Tests.{split_on, impossible, is→eq, same_byte}
use Rattle.model.proofs.cell_laws.Utf8.{ascii_whole, quote_ascii, delimiter_ascii}
use Rattle.model.proofs.cell_laws.CellContent.{no_more, no_stop, same_more, char_on, d_plus}
use Rattle.grammar.specs.rfc.Rfc5234.{◌from◌to◌, LF, CR}
use Rattle.grammar.specs.rfc.Rfc3629.{of_two, of_three, of_four}
use Rattle.grammar.specs.rfc.Derived.{Derived, cell, raw_of}
use Rattle.grammar.specs.dialects.FormReads.{decoded}
use Rattle.grammar.specs.dialects.CsvPlus.{Field, an_escaped, a_non_escaped, escaped, Inner, nothing, inner_textdata, inner_comma, inner_cr}
use Rattle.grammar.specs.dialects.CsvPlus.{inner_lf, Non-escaped, no_textdata, textdata, comma, dquote, TEXTDATA, ascii, utf8_data}
use Rattle.grammar.specs.dialects.CsvPlus.{NarrowTEXTDATA, below_quote, below_comma, above_comma}
use Rattle.grammar.specs.dialects.CsvPlus as plus
use Rattle.grammar.specs.rfc.Types as types
use Rattle.grammar.proofs.rfc.Ranges.{range}
use Rattle.grammar.proofs.rfc.Chars.{Finishes, finished, finishing, Long, long, data_long, long_data, whole_ascii, first_high}
use Rattle.grammar.proofs.rfc.WholeCells.{Spells, whole, byte, DerivedFrom, derived_from, TextState, long_spells}
use Rattle.grammar.proofs.rfc.Doubled.{Doubled, no_char, ascii_char, long_char, two_quotes, doubled_spells, Closing, closing, spells_doubled}
use Rattle.grammar.proofs.rfc.Doubled.{doubled_content}

-- the bytes of COMMA and DQUOTE
abbrev pub COMMA : Settings → ℕ
COMMA s = delimiter_byte s.delimiter

abbrev pub DQUOTE : Settings → ℕ
DQUOTE s = quote_byte s.quote

-- the quote is no separator
separate : (s : Settings) → (DQUOTE s ≢ COMMA s) × (DQUOTE s ≢ CR) × (DQUOTE s ≢ LF)
separate s = go s.delimiter s.quote
  where
    go : (x : Delimiter) (q : Quote) → (quote_byte q ≢ delimiter_byte x) × (quote_byte q ≢ CR) × (quote_byte q ≢ LF)
    go Comma Double = omega arith
    go Comma Single = omega arith
    go Semicolon Double = omega arith
    go Semicolon Single = omega arith
    go Tab Double = omega arith
    go Tab Single = omega arith
    go Bar Double = omega arith
    go Bar Single = omega arith

module _ (s : Settings) where
  -- ---- the bytes between quotes are doubled text

  inner_doubled : {bs ts : Bytes} → Inner s bs ts → Doubled (DQUOTE s) bs ts
  inner_doubled nothing = no_char
  inner_doubled (inner_textdata (ascii {b} r n x y z) i) = ascii_char r.high n (inner_doubled i)
  inner_doubled (inner_textdata (utf8_data u) i) = long_char (data_long u) (inner_doubled i)
  inner_doubled (inner_comma comma i) = ascii_char (delimiter_ascii (CsvPlus s)) (λ e. (separate s).0 (sym e)) (inner_doubled i)
  inner_doubled (inner_cr i) = ascii_char {b = CR} (omega arith) (λ e. (separate s).1 (sym e)) (inner_doubled i)
  inner_doubled (inner_lf i) = ascii_char {b = LF} (omega arith) (λ e. (separate s).2 (sym e)) (inner_doubled i)
  inner_doubled (plus.two_quotes dquote dquote i) = two_quotes (inner_doubled i)

  ascii_inner : (b : ℕ) {bs ts : Bytes} → b ≤ 0x7F → b ≢ DQUOTE s → Inner s bs ts → Inner s (b ∷ bs) (b ∷ ts)
  ascii_inner b h n i =
      split_on (b is COMMA s) (λ p. rw (is→eq b (COMMA s) p) (inner_comma comma i)) λ p.
      split_on (b is CR) (λ q. rw (is→eq b CR q) (inner_cr i)) λ q.
      split_on (b is LF) (λ r. rw (is→eq b LF r) (inner_lf i)) λ r.
      inner_textdata (ascii (range (omega arith) h) n (eqb-false b (COMMA s) p) (eqb-false b CR q) (eqb-false b LF r)) i

  doubled_inner : {bs ts : Bytes} → Doubled (DQUOTE s) bs ts → Inner s bs ts
  doubled_inner no_char = nothing
  doubled_inner (ascii_char {b} h n m) = ascii_inner b h n (doubled_inner m)
  doubled_inner (long_char l m) = inner_textdata (utf8_data (long_data l)) (doubled_inner m)
  doubled_inner (two_quotes m) = plus.two_quotes dquote dquote (doubled_inner m)

  -- ---- unquoted text

  plain_state : TextState (CsvPlus s) Plain
  unfolding cell_step is_whole
  plain_state = record { inner = λ i b. refl; unfinished = λ i. refl }

  -- where an unquoted cell may continue
  data Start : Cell → Type 0 where
    at_fresh : Start Fresh
    at_plain : Start (Plain Whole)

  abbrev is_separator : ℕ → Bool
  is_separator b = b is COMMA s || b is CR || b is LF

  no_separator : (b : ℕ) → b ≢ COMMA s → b ≢ CR → b ≢ LF → is_separator b ≡ false
  no_separator b x y z = rw (ne_eqb b (COMMA s) x, ne_eqb b CR y, ne_eqb b LF z)

  plain_step : {c : Cell} (b : ℕ) → Start c → (b is DQUOTE s) ≡ false → is_separator b ≡ false → cell_step (CsvPlus s) c b ≡ text_byte Plain (char_step Whole b)
  unfolding cell_step first_byte plain_byte choose◌then◌else◌
  plain_step b at_fresh p q = rw (p, q)
  plain_step b at_plain p q = rw (p, q)

  plain_high : {c : Cell} → Start c → (b : ℕ) → 0x80 ≤ b → cell_step (CsvPlus s) c b ≡ text_byte Plain (char_step Whole b)
  plain_high i b h =
      let x : DQUOTE s ≤ 0x7F = quote_ascii (CsvPlus s) in
      let y : COMMA s ≤ 0x7F = delimiter_ascii (CsvPlus s) in
      plain_step b i (ne_eqb b (DQUOTE s) (λ e. omega arith)) (no_separator b (λ e. omega arith) (λ e. omega arith) (λ e. omega arith))

  start_whole : {c : Cell} → Start c → is_whole (CsvPlus s) c ≡ true
  unfolding is_whole
  start_whole at_fresh = refl
  start_whole at_plain = refl

  plain_spells : {c : Cell} {bs : Bytes} → Non-escaped s bs → Start c → Spells (CsvPlus s) c bs
  plain_spells no_textdata i = whole (start_whole i)
  plain_spells (textdata (ascii {b} r n x y z) m) i =
      byte (plain_step b i (ne_eqb b (DQUOTE s) n) (no_separator b x y z) ∙ ap (text_byte Plain) (ascii_whole b r.high)) (plain_spells m at_plain)
  plain_spells (textdata (utf8_data u) m) i = long_spells plain_state (plain_high i) (data_long u) (plain_spells m at_plain)

  -- what is still to come in an unquoted cell
  data PlainRest (c : Char) : Bytes → Type 0 where
    plain_rest : {cs bs : Bytes} → Finishes c cs → Non-escaped s bs → PlainRest c (cs ++ bs)

  ascii_textdata : (b : ℕ) → b ≤ 0x7F → (b is DQUOTE s) ≡ false → is_separator b ≡ false → TEXTDATA s (b ∷ [])
  ascii_textdata b h p q =
      split_on (b is COMMA s) (λ x. impossible (sym q ∙ (rw x))) λ x.
      split_on (b is CR) (λ y. impossible (sym q ∙ (rw (x, y)))) λ y.
      split_on (b is LF) (λ z. impossible (sym q ∙ (rw (x, y, z)))) λ z.
      ascii (range (omega arith) h) (eqb-false b (DQUOTE s) p) (eqb-false b (COMMA s) x) (eqb-false b CR y) (eqb-false b LF z)

  plain_char :
      (c : Char) (b : ℕ) {bs : Bytes} → (b is DQUOTE s) ≡ false → is_separator b ≡ false → char_step Whole b ≡ Some c → PlainRest c bs →
      Non-escaped s (b ∷ bs)
  plain_char Whole b p q e (plain_rest finished m) = textdata (ascii_textdata b (whole_ascii b e) p q) m
  plain_char (Within i) b p q e (plain_rest f m) = textdata (utf8_data (long_data (long e f))) m

  plain_inner : {i : types.Inner} {c : Char} {b : ℕ} {bs : Bytes} → char_step (Within i) b ≡ Some c → PlainRest c bs → PlainRest (Within i) (b ∷ bs)
  plain_inner e (plain_rest f m) = plain_rest (finishing e f) m

  plain_none : {e : Cell} (c : Char) → Plain c ≡ e → is_whole (CsvPlus s) e ≡ true → PlainRest c []
  plain_none Whole p w = plain_rest finished no_textdata
  plain_none (Within i) p w = impossible (sym (plain_state.unfinished i) ∙ ap (is_whole (CsvPlus s)) p ∙ w)

  plain_byte_lem :
      {e e' : Cell} {b : ℕ} {bs : Bytes} (c : Char) → Plain c ≡ e → cell_step (CsvPlus s) e b ≡ More e' →
      ((c' : Char) → Plain c' ≡ e' → PlainRest c' bs) → PlainRest c (b ∷ bs)
  unfolding cell_step plain_byte choose◌then◌else◌
  plain_byte_lem {e'} {b} {bs} Whole p k ih = go (b is DQUOTE s) (is_separator b) refl refl (rw (← p) at k)
    where
      go : (x y : Bool) → (b is DQUOTE s) ≡ x → is_separator b ≡ y → cell_step (CsvPlus s) (Plain Whole) b ≡ More e' → PlainRest Whole (b ∷ bs)
      go true y h m k = no_more (rw h at k)
      go false true h m k = no_stop (rw (h, m) at k)
      go false false h m k =
          let y = char_on Plain Whole b e' (rw (h, m) at k) in plain_rest finished (plain_char y.char b h m y.step (ih y.char y.cell))
  plain_byte_lem {e'} {b} (Within i) p k ih =
      let y = char_on Plain (Within i) b e' (sym (plain_state.inner i b) ∙ (rw (← p) at k)) in
      plain_inner y.step (ih y.char y.cell)

  spells_plain : {e : Cell} {xs : Bytes} → Spells (CsvPlus s) e xs → (c : Char) → Plain c ≡ e → PlainRest c xs
  spells_plain (whole w) c p = plain_none c p w
  spells_plain (byte k m) c p = plain_byte_lem c p k (λ c' q. spells_plain m c' q)

  -- ---- fields

  at_quote : cell_step (CsvPlus s) Fresh (DQUOTE s) ≡ More (Quoted Whole)
  unfolding cell_step first_byte choose◌then◌else◌
  at_quote = rw (same_byte (DQUOTE s))

  pub field_spells : {c : Derived} → Field s c → Spells (CsvPlus s) Fresh (raw_of c)
  field_spells (an_escaped (escaped dquote i dquote)) = byte at_quote (doubled_spells d_plus (inner_doubled i))
  field_spells (a_non_escaped m) = plain_spells m at_fresh

  quoted_content : (bs : Bytes) → content_of (CsvPlus s) (DQUOTE s ∷ bs) ≡ undouble (DQUOTE s) false bs
  unfolding content_of choose◌then◌else◌
  quoted_content bs = rw (same_byte (DQUOTE s))

  plain_first : (b : ℕ) (bs : Bytes) → b ≢ DQUOTE s → content_of (CsvPlus s) (b ∷ bs) ≡ b ∷ bs
  unfolding content_of choose◌then◌else◌
  plain_first b bs n = rw (ne_eqb b (DQUOTE s) n)

  plain_content : {bs : Bytes} → Non-escaped s bs → content_of (CsvPlus s) bs ≡ bs
  unfolding content_of
  plain_content no_textdata = refl
  plain_content (textdata {bs} (ascii {b} r n x y z) m) = plain_first b bs n
  plain_content (textdata {bs} (utf8_data u) m) = go (data_long u)
    where
      go : {cs : Bytes} → Long cs → content_of (CsvPlus s) (cs ++ bs) ≡ cs ++ bs
      go (long {i} {b} {bs = ys} e f) =
          let h : 0x80 ≤ b = first_high b i e in
          let q : DQUOTE s ≤ 0x7F = quote_ascii (CsvPlus s) in
          plain_first b (ys ++ bs) (λ z. omega arith)

  pub field_content : {c : Derived} → Field s c → c ≡ decoded (CsvPlus s) (raw_of c)
  unfolding kind_of
  field_content (an_escaped (escaped {bs} {ts} dquote i dquote)) =
      let raw : Bytes = DQUOTE s ∷ (bs ++ (DQUOTE s ∷ [])) in
      let e : content_of (CsvPlus s) raw ≡ ts
      = quoted_content (bs ++ (DQUOTE s ∷ [])) ∙ doubled_content (DQUOTE s) (quote_ascii (CsvPlus s)) (inner_doubled i) in
      ap (cell raw Text) (sym e)
  field_content (a_non_escaped {bs} m) = ap (cell bs Text) (sym (plain_content m))

  quoted_field : {bs : Bytes} → Closing (DQUOTE s) bs → DerivedFrom (Field s) (DQUOTE s ∷ bs)
  quoted_field (closing m) = derived_from (an_escaped (escaped dquote (doubled_inner m) dquote))

  first_field : (b : ℕ) (bs : Bytes) {e : Cell} → cell_step (CsvPlus s) Fresh b ≡ More e → Spells (CsvPlus s) e bs → DerivedFrom (Field s) (b ∷ bs)
  unfolding cell_step first_byte choose◌then◌else◌
  first_field b bs {e} k m = go (b is DQUOTE s) (is_separator b) refl refl
    where
      go : (x y : Bool) → (b is DQUOTE s) ≡ x → is_separator b ≡ y → DerivedFrom (Field s) (b ∷ bs)
      go true y p q =
          let z : Quoted Whole ≡ e = same_more (rw p at k) in
          let n : Spells (CsvPlus s) (Quoted Whole) bs = rw (← z) at m in
          rw (is→eq b (DQUOTE s) p) (quoted_field (spells_doubled d_plus n))
      go false true p q = no_stop (rw (p, q) at k)
      go false false p q =
          let y = char_on Plain Whole b e (rw (p, q) at k) in
          derived_from (a_non_escaped (plain_char y.char b p q y.step (spells_plain m y.char y.cell)))

  pub spells_field : {raw : Bytes} → Spells (CsvPlus s) Fresh raw → DerivedFrom (Field s) raw
  spells_field (whole w) = derived_from (a_non_escaped no_textdata)
  spells_field (byte {b} {bs} k m) = first_field b bs k m

-- ---- what RFC 4180 calls TEXTDATA is the TEXTDATA of dialect 3 among the bytes 20 to 7E

printed_byte : {b : ℕ} → 0x20 ≤ b → b ≤ 0x7E → b ≢ 0x22 → b ≢ 0x2C → TEXTDATA standard (b ∷ []) × (b from 0x20 to 0x7E)
printed_byte {b} h k q c = (ascii {b = b} (range (omega arith) (omega arith)) q c (λ e. omega arith) (λ e. omega arith), range h k)

pub textdata_exact : (b : ℕ) → NarrowTEXTDATA (b ∷ []) ↔ (TEXTDATA standard (b ∷ []) × (b from 0x20 to 0x7E))
textdata_exact b = (wide, λ t. narrow t.0 t.1)
  where
    wide : {b : ℕ} → NarrowTEXTDATA (b ∷ []) → TEXTDATA standard (b ∷ []) × (b from 0x20 to 0x7E)
    wide {b} (below_quote r) = let h : 0x20 ≤ b = r.low in let k : b ≤ 0x21 = r.high in printed_byte h (omega arith) (λ e. omega arith) (λ e. omega arith)
    wide {b} (below_comma r) =
        let h : 0x23 ≤ b = r.low in let k : b ≤ 0x2B = r.high in printed_byte (omega arith) (omega arith) (λ e. omega arith) (λ e. omega arith)
    wide {b} (above_comma r) = let h : 0x2D ≤ b = r.low in printed_byte (omega arith) r.high (λ e. omega arith) (λ e. omega arith)

    in_range : {b : ℕ} → b from 0x20 to 0x7E → b ≢ 0x22 → b ≢ 0x2C → NarrowTEXTDATA (b ∷ [])
    in_range {b} w q c =
        let l : 0x20 ≤ b = w.low in
        split_on (leb b 0x21) (λ p. below_quote (range l (leb-true b 0x21 p))) λ p.
        let i : 0x21 < b = leb-false b 0x21 p in
        split_on (leb b 0x2B) (λ r. below_comma (range (omega arith) (leb-true b 0x2B r))) λ r.
        let j : 0x2B < b = leb-false b 0x2B r in above_comma (range (omega arith) w.high)

    narrow : {b : ℕ} → TEXTDATA standard (b ∷ []) → b from 0x20 to 0x7E → NarrowTEXTDATA (b ∷ [])
    narrow (ascii r q c x y) w = in_range w q c
    narrow (utf8_data (of_two u)) w = elim u [ ]
    narrow (utf8_data (of_three u)) w = elim u [ ]
    narrow (utf8_data (of_four u)) w = elim u [ ]
