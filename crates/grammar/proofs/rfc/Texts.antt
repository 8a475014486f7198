-- A text of UTF-8 by the rules' table is exactly UTF8-octets of RFC 3629.
use Prim.Native.Nat.{ℕ}
use native.Mathlib.Omega.{arith}
use mathlib.Core.Path.{◌≡◌, refl, ◌∙◌}
use mathlib.Core.Logic.{◌↔◌}
use mathlib.Core.Bool.{true}
use mathlib.Core.List.{[], ◌∷◌, ◌++◌}
use Rattle.grammar.specs.rfc.Types.{Char, Whole, Within, Some}
use Rattle.model.specs.rules.Base.{Bytes}
use Rattle.model.specs.rules.Utf8.{char_step, text_from}
use Rattle.model.proofs.Tests.{impossible}
use Rattle.model.proofs.cell_laws.Utf8.{ascii_whole, TextStep, text_step, text_on, text_more}
use Rattle.grammar.specs.rfc.Rfc3629.{UTF8-octets, no_octets, octets, UTF8-char, char_1, char_2, char_3, char_4, one, UTF8-data, of_two}
use Rattle.grammar.specs.rfc.Rfc3629.{of_three, of_four}
use Rattle.grammar.proofs.rfc.Ranges.{range}
use Rattle.grammar.proofs.rfc.Chars.{Finishes, finished, finishing, Long, long, data_long, long_data, whole_ascii}

finish_text : {c : Char} {cs : Bytes} (xs : Bytes) → Finishes c cs → text_from c (cs ++ xs) ≡ text_from Whole xs
finish_text xs finished = refl
finish_text xs (finishing {i} {c} {b} {bs} e f) = text_more (Within i) c b (bs ++ xs) e ∙ finish_text xs f

long_text : {cs : Bytes} (xs : Bytes) → Long cs → text_from Whole (cs ++ xs) ≡ text_from Whole xs
long_text xs (long {i} {b} {bs} e f) = text_more Whole (Within i) b (bs ++ xs) e ∙ finish_text xs f

octets_text : {bs : Bytes} → UTF8-octets bs → text_from Whole bs ≡ true
unfolding text_from
octets_text no_octets = refl
octets_text (octets {bs} (char_1 (one {a} r)) k) = text_more Whole Whole a bs (ascii_whole a r.high) ∙ octets_text k
octets_text (octets {bs} (char_2 u) k) = long_text bs (data_long (of_two u)) ∙ octets_text k
octets_text (octets {bs} (char_3 u) k) = long_text bs (data_long (of_three u)) ∙ octets_text k
octets_text (octets {bs} (char_4 u) k) = long_text bs (data_long (of_four u)) ∙ octets_text k

data_char : {cs : Bytes} → UTF8-data cs → UTF8-char cs
data_char (of_two u) = char_2 u
data_char (of_three u) = char_3 u
data_char (of_four u) = char_4 u

-- what is still to come of a text
data TextRest (c : Char) : Bytes → Type 0 where
  text_rest : {cs bs : Bytes} → Finishes c cs → UTF8-octets bs → TextRest c (cs ++ bs)

text_none : (c : Char) → text_from c [] ≡ true → TextRest c []
unfolding text_from
text_none Whole e = text_rest finished no_octets
text_none (Within i) e = impossible e

text_first : (c c' : Char) (b : ℕ) {bs : Bytes} → char_step c b ≡ Some c' → TextRest c' bs → TextRest c (b ∷ bs)
text_first Whole Whole b e (text_rest finished k) = text_rest finished (octets (char_1 (one (range (omega arith) (whole_ascii b e)))) k)
text_first Whole (Within i) b e (text_rest f k) = text_rest finished (octets (data_char (long_data (long e f))) k)
text_first (Within i) c' b e (text_rest f k) = text_rest (finishing e f) k

text_octets : (bs : Bytes) (c : Char) → text_from c bs ≡ true → TextRest c bs
text_octets [] c e = text_none c e
text_octets (b ∷ bs) c e = go (text_on c b bs e) (λ c' k. text_octets bs c' k)
  where
    go : TextStep c b bs → ((c' : Char) → text_from c' bs ≡ true → TextRest c' bs) → TextRest c (b ∷ bs)
    go (text_step c' p k) ih = text_first c c' b p (ih c' k)

pub text_exact : (bs : Bytes) → UTF8-octets bs ↔ (text_from Whole bs ≡ true)
text_exact bs = (octets_text, λ e. go (text_octets bs Whole e))
  where
    go : {bs : Bytes} → TextRest Whole bs → UTF8-octets bs
    go (text_rest finished k) = k
