-- Laws of the UTF-8 table: ASCII is a character of one byte, quotes and delimiters are ASCII, later bytes are not; and every text of
-- UTF-8 is content.
use Prim.Native.Nat.{ℕ, ◌≤◌}
use native.Mathlib.Omega.{arith}
use mathlib.Core.Path.{◌≡◌, refl, ◌∙◌}
use mathlib.Core.Bool.{Bool, true, false, ◌||◌}
use Rattle.std.specs.Prelude.{Some}
use mathlib.Core.List.{[], ◌∷◌}
use borrow.Author.Tests.{le-leb, ne_eqb}
use Rattle.model.specs.rules.Types.{Delimiter, Comma, Semicolon, Tab, Bar, Quote, Double, Single, Dialect, Csvj, Tdif, CsvPlus, Lead, C2ToDf}
use Rattle.model.specs.rules.Types.{E0, E1ToEc, Ed, EeToEf, F0, F1ToF3, F4, Inner, Second, LastTwo, Last, Char, Whole, Within, Option}
use Rattle.model.specs.rules.Types.{None}
use Rattle.model.specs.rules.Base.{Bytes, CR, LF, ◌is◌, within, choose◌then◌else◌}
use Rattle.model.specs.rules.Dialect.{quote_of, delimiter_of, delimiter_byte, quote_byte}
use Rattle.model.specs.rules.Utf8.{row_of, leads, lead_byte, inner_step, char_step, text_from, Wide, gap, ed, lone, inner, settled, wide_step}
use Rattle.model.specs.rules.Utf8.{wide_from, is_content}
use Rattle.model.proofs.Tests.{split_on, impossible, is→eq, within_true}

-- ---- ASCII

pub ascii_whole : (b : ℕ) → b ≤ 0x7F → char_step Whole b ≡ Some Whole
unfolding char_step choose◌then◌else◌
ascii_whole b h = rw (le-leb 0 b (omega arith), le-leb b 0x7F h)

pub quote_ascii : (d : Dialect) → quote_of d ≤ 0x7F
quote_ascii Csvj = omega arith
quote_ascii Tdif = omega arith
quote_ascii (CsvPlus s) = go s.quote
  where
    go : (q : Quote) → quote_byte q ≤ 0x7F
    go Double = omega arith
    go Single = omega arith

pub delimiter_ascii : (d : Dialect) → delimiter_of d ≤ 0x7F
delimiter_ascii Csvj = omega arith
delimiter_ascii Tdif = omega arith
delimiter_ascii (CsvPlus s) = go s.delimiter
  where
    go : (x : Delimiter) → delimiter_byte x ≤ 0x7F
    go Comma = omega arith
    go Semicolon = omega arith
    go Tab = omega arith
    go Bar = omega arith

pub is_ascii : (b c : ℕ) → c ≤ 0x7F → (b is c) ≡ true → b ≤ 0x7F
is_ascii b c h e = let q : b ≡ c = is→eq b c e in omega arith

pub separator_ascii : (d : Dialect) (b : ℕ) → (b is delimiter_of d || b is CR || b is LF) ≡ true → b ≤ 0x7F
separator_ascii d b e =
    split_on (b is delimiter_of d) (λ p. is_ascii b (delimiter_of d) (delimiter_ascii d) p) λ p.
    split_on (b is CR) (λ q. is_ascii b CR (omega arith) q) λ q. is_ascii b LF (omega arith) (rw (p, q) at e)

-- ---- later bytes

pub broken_on : {A : Type 0} {c : Char} → None ≡ Some c → A
broken_on e = let z : ◌≡◌ {A = ℕ} 0 1 = cc in absurd (omega arith)

second_low : (l : Lead) → 0x80 ≤ (row_of l).lo2
unfolding row_of
second_low C2ToDf = omega arith
second_low E0 = omega arith
second_low E1ToEc = omega arith
second_low Ed = omega arith
second_low EeToEf = omega arith
second_low F0 = omega arith
second_low F1ToF3 = omega arith
second_low F4 = omega arith

-- a byte inside a character is from 80 on
pub inner_high : (i : Inner) (b : ℕ) (c : Char) → char_step (Within i) b ≡ Some c → 0x80 ≤ b
unfolding char_step inner_step choose◌then◌else◌
inner_high (Second l) b c e =
    split_on (within (row_of l).lo2 (row_of l).hi2 b)
    (λ p.
    let w = within_true (row_of l).lo2 (row_of l).hi2 b p in
    let h : (row_of l).lo2 ≤ b = w.0 in let k : 0x80 ≤ (row_of l).lo2 = second_low l in omega arith) λ p.
    broken_on (rw p at e)
inner_high LastTwo b c e = split_on (within 0x80 0xBF b) (λ p. (within_true 0x80 0xBF b p).0) λ p. broken_on (rw p at e)
inner_high Last b c e = split_on (within 0x80 0xBF b) (λ p. (within_true 0x80 0xBF b p).0) λ p. broken_on (rw p at e)

pub inner_no_quote : (d : Dialect) (i : Inner) (b : ℕ) (c : Char) → char_step (Within i) b ≡ Some c → (b is quote_of d) ≡ false
inner_no_quote d i b c e =
    let h : 0x80 ≤ b = inner_high i b c e in
    let q : quote_of d ≤ 0x7F = quote_ascii d in
    ne_eqb b (quote_of d) (omega arith)

-- ---- texts

-- what the first byte of a text shows
pub data TextStep (c : Char) (b : ℕ) (bs : Bytes) : Type 0 where
  text_step : (c' : Char) → char_step c b ≡ Some c' → text_from c' bs ≡ true → TextStep c b bs

pub text_on : (c : Char) (b : ℕ) (bs : Bytes) → text_from c (b ∷ bs) ≡ true → TextStep c b bs
unfolding text_from
text_on c b bs e = go (char_step c b) refl e
  where
    go : (o : Option Char) → char_step c b ≡ o → (elim o as (λ _. Bool) [ None ↦ false | Some c' ↦ text_from c' bs ]) ≡ true → TextStep c b bs
    go None p k = impossible k
    go (Some c') p k = text_step c' p k

pub text_more : (c c' : Char) (b : ℕ) (bs : Bytes) → char_step c b ≡ Some c' → text_from c (b ∷ bs) ≡ text_from c' bs
unfolding text_from
text_more Whole c' b bs e = rw (e, text_from)
text_more (Within i) c' b bs e = rw (e, text_from)

-- ---- a text is content

-- the state of content next to the state of its text; ED alone is distinguished
pub data Near : Char → Wide → Type 0 where
  near_gap : {h : Bool} → Near Whole (gap h)
  near_ed : {h : Bool} → Near (Within (Second Ed)) (ed h)
  near_inner : {i : Inner} → Near (Within i) (inner i)

-- not directly after a high surrogate
abbrev pub Calm : Wide → Type 0
Calm (gap true) = ⊥
Calm (gap false) = Unit {0}
Calm (ed h) = Unit {0}
Calm (lone h) = Unit {0}
Calm (inner i) = Unit {0}

calm_settled : (c : Char) → Calm (settled c)
calm_settled Whole = tt
calm_settled (Within i) = tt

near_settled : (c : Char) → Near c (settled c)
near_settled Whole = near_gap
near_settled (Within i) = near_inner

-- a byte of UTF-8 takes near states to near ones
pub record NearStep (c : Char) (w : Wide) (b : ℕ) : Type 0 where
  pub wide : Wide
  pub step : wide_step w b ≡ Some wide
  pub near : Near c wide
  pub calm : Calm wide

pub same_on : {x y : Char} {o : Option Char} → o ≡ Some x → o ≡ Some y → x ≡ y
same_on p q = cc

ed_char : char_step Whole 0xED ≡ Some (Within (Second Ed))
unfolding char_step lead_byte leads row_of choose◌then◌else◌
ed_char = refl

gap_step : (h : Bool) (b : ℕ) (c : Char) → char_step Whole b ≡ Some c → NearStep c (gap h) b
unfolding wide_step choose◌then◌else◌
gap_step h b c e = go (b is 0xED) refl
  where
    go : (t : Bool) → (b is 0xED) ≡ t → NearStep c (gap h) b
    go true p =
        let q : Within (Second Ed) ≡ c = same_on ed_char (rw (is→eq b 0xED p) at e) in
        record { wide = ed h; step = rw p; near = rw (← q) near_ed; calm = tt }
    go false p = record { wide = settled c; step = rw (p, e); near = near_settled c; calm = calm_settled c }

ed_step : (h : Bool) (b : ℕ) (c : Char) → char_step (Within (Second Ed)) b ≡ Some c → NearStep c (ed h) b
unfolding wide_step char_step inner_step row_of choose◌then◌else◌
ed_step h b c e =
    split_on (within 0x80 0x9F b)
    (λ p. let z : Within Last ≡ c = same_on refl (rw p at e) in record { wide = inner Last; step = rw p; near = rw (← z) near_inner; calm = tt }) λ p.
    broken_on (rw p at e)

pub near_step : {c : Char} {w : Wide} (b : ℕ) (c' : Char) → Near c w → char_step c b ≡ Some c' → NearStep c' w b
unfolding wide_step
near_step b c' (near_gap {h}) e = gap_step h b c' e
near_step b c' (near_ed {h}) e = ed_step h b c' e
near_step b c' near_inner e = record { wide = settled c'; step = rw e; near = near_settled c'; calm = calm_settled c' }

pub wide_on : (w w' : Wide) (b : ℕ) (bs : Bytes) → wide_step w b ≡ Some w' → wide_from w (b ∷ bs) ≡ wide_from w' bs
unfolding wide_from
wide_on (gap h) w' b bs e = rw (e, wide_from)
wide_on (ed h) w' b bs e = rw (e, wide_from)
wide_on (lone h) w' b bs e = rw (e, wide_from)
wide_on (inner i) w' b bs e = rw (e, wide_from)

text_wide : {c : Char} {w : Wide} (bs : Bytes) → Near c w → text_from c bs ≡ true → wide_from w bs ≡ true
unfolding text_from wide_from
text_wide [] near_gap h = refl
text_wide [] near_ed h = impossible h
text_wide [] near_inner h = impossible h
text_wide {c} {w} (b ∷ bs) n h = go (text_on c b bs h) (λ w' c'. text_wide {c = c'} {w = w'} bs)
  where
    go : TextStep c b bs → ((w' : Wide) (c' : Char) → Near c' w' → text_from c' bs ≡ true → wide_from w' bs ≡ true) → wide_from w (b ∷ bs) ≡ true
    go (text_step c' p k) ih = let s = near_step b c' n p in wide_on w s.wide b bs s.step ∙ ih s.wide c' s.near k

pub text_content : (bs : Bytes) → text_from Whole bs ≡ true → is_content bs ≡ true
unfolding is_content
text_content bs h = text_wide bs near_gap h
