-- The numbers of RFC 8259 are exactly what the automaton reads as a number. Each of its states determines which parts of `number` are
-- still to come (`NumberRest`).
use Prim.Native.Nat.{ℕ, ◌≤◌, ◌<◌}
use native.Mathlib.Omega.{arith}
use mathlib.Core.Path.{◌≡◌, refl, sym, ap, ◌∙◌}
use mathlib.Core.Bool.{true, false, ◌||◌}
use mathlib.Core.List.{[], ◌∷◌, ◌++◌, append-nil}
use borrow.Author.Tests.{ne_eqb, eqb-false}
use Rattle.grammar.specs.rfc.Types.{Csvj, Numeral, Zero, Integer, Point, Fraction, ESign, Exponent, Cell, Fresh, InNumber, CellStep, More}
use Rattle.grammar.specs.rfc.Types as types
use Rattle.model.specs.rules.Base.{Bytes, QUOTE, ◌is◌, choose◌then◌else◌}
use Rattle.model.specs.rules.Cell.{is_digit, numeral_step, first_byte, cell_step, is_numeral, is_whole}
use Rattle.model.specs.rules.Decode.{kind_of, content_of}
use Rattle.model.proofs.Tests.{split, split_on, impossible, is→eq}
use Rattle.model.proofs.cell_laws.CellContent.{no_more, no_stop, same_more}
use Rattle.grammar.specs.rfc.Rfc5234.{◌from◌to◌, DIGIT, Digits, no_digit, digit, SomeDigits, digits}
use Rattle.grammar.specs.rfc.Rfc8259.{Number, number, no_minus, a_minus, Optional-frac, no_frac, a_frac, Optional-exp, no_exp, an_exp}
use Rattle.grammar.specs.rfc.Rfc8259.{decimal_point, digit1_9, E, small_e, large_e, exp, Optional-sign, no_sign, negative, positive, frac, Int}
use Rattle.grammar.specs.rfc.Rfc8259.{a_zero, nonzero, minus, plus, zero}
use Rattle.grammar.proofs.rfc.Ranges.{range, within_range, range_within}
use Rattle.grammar.proofs.rfc.WholeCells.{Spells, whole, byte}

-- ---- a number is read

-- the states that a digit does not change
data Loops : Numeral → Type 0 where
  in_integer : Loops Integer
  in_fraction : Loops Fraction
  in_exponent : Loops Exponent

loop_digit : {n : Numeral} {b : ℕ} → Loops n → DIGIT b → cell_step Csvj (InNumber n) b ≡ More (InNumber n)
unfolding cell_step numeral_step choose◌then◌else◌
loop_digit in_integer r = rw (range_within r)
loop_digit in_fraction r = rw (range_within r)
loop_digit in_exponent r = rw (range_within r)

digits_spell : {n : Numeral} {bs ys : Bytes} → Loops n → Digits bs → Spells Csvj (InNumber n) ys → Spells Csvj (InNumber n) (bs ++ ys)
digits_spell l no_digit k = k
digits_spell l (digit r ds) k = byte (loop_digit l r) (digits_spell l ds k)

-- the states that need a digit, and the state after it
data Wants : Numeral → Numeral → Type 0 where
  after_point : Wants Point Fraction
  after_e : Wants types.E Exponent
  after_sign : Wants ESign Exponent

wanted_digit : {n m : Numeral} {b : ℕ} → Wants n m → DIGIT b → cell_step Csvj (InNumber n) b ≡ More (InNumber m)
unfolding cell_step numeral_step choose◌then◌else◌
wanted_digit after_point r = rw (range_within r)
wanted_digit after_e r = rw (range_within r)
wanted_digit after_sign r = rw (range_within r)

wanted_loops : {n m : Numeral} → Wants n m → Loops m
wanted_loops after_point = in_fraction
wanted_loops after_e = in_exponent
wanted_loops after_sign = in_exponent

some_digits_spell : {n m : Numeral} {bs ys : Bytes} → Wants n m → SomeDigits bs → Spells Csvj (InNumber m) ys → Spells Csvj (InNumber n) (bs ++ ys)
some_digits_spell w (digits r ds) k = byte (wanted_digit w r) (digits_spell (wanted_loops w) ds k)

-- the states that an exponent may follow
data BeforeExp : Numeral → Type 0 where
  exp_zero : BeforeExp Zero
  exp_integer : BeforeExp Integer
  exp_fraction : BeforeExp Fraction

e_step : {n : Numeral} {b : ℕ} → BeforeExp n → E b → cell_step Csvj (InNumber n) b ≡ More (InNumber types.E)
unfolding cell_step numeral_step choose◌then◌else◌
e_step exp_zero small_e = refl
e_step exp_zero large_e = refl
e_step exp_integer small_e = refl
e_step exp_integer large_e = refl
e_step exp_fraction small_e = refl
e_step exp_fraction large_e = refl

sign_step : {s : ℕ} → Optional-sign (s ∷ []) → cell_step Csvj (InNumber types.E) s ≡ More (InNumber ESign)
unfolding cell_step numeral_step choose◌then◌else◌
sign_step (negative minus) = refl
sign_step (positive plus) = refl

exponent_spells : {ss bs : Bytes} → Optional-sign ss → SomeDigits bs → Spells Csvj (InNumber types.E) (ss ++ (bs ++ []))
unfolding is_whole
exponent_spells no_sign ds = some_digits_spell after_e ds (whole refl)
exponent_spells (negative minus) ds = byte (sign_step (negative minus)) (some_digits_spell after_sign ds (whole refl))
exponent_spells (positive plus) ds = byte (sign_step (positive plus)) (some_digits_spell after_sign ds (whole refl))

before_whole : {n : Numeral} → BeforeExp n → is_whole Csvj (InNumber n) ≡ true
unfolding is_whole
before_whole exp_zero = refl
before_whole exp_integer = refl
before_whole exp_fraction = refl

exp_spells : {n : Numeral} {es : Bytes} → BeforeExp n → Optional-exp es → Spells Csvj (InNumber n) es
exp_spells i no_exp = whole (before_whole i)
exp_spells i (an_exp (exp {ss} {bs} e s ds)) = byte (e_step i e) (rw (append-nil bs) at (exponent_spells s ds))

-- the states that a fraction may follow
data BeforeFrac : Numeral → Type 0 where
  frac_zero : BeforeFrac Zero
  frac_integer : BeforeFrac Integer

frac_exp : {n : Numeral} → BeforeFrac n → BeforeExp n
frac_exp frac_zero = exp_zero
frac_exp frac_integer = exp_integer

point_step : {n : Numeral} → BeforeFrac n → cell_step Csvj (InNumber n) 0x2E ≡ More (InNumber Point)
unfolding cell_step numeral_step choose◌then◌else◌
point_step frac_zero = refl
point_step frac_integer = refl

frac_spells : {n : Numeral} {fs es : Bytes} → BeforeFrac n → Optional-frac fs → Optional-exp es → Spells Csvj (InNumber n) (fs ++ es)
frac_spells i no_frac e = exp_spells (frac_exp i) e
frac_spells i (a_frac (frac decimal_point ds)) e = byte (point_step i) (some_digits_spell after_point ds (exp_spells exp_fraction e))

-- where an int may begin
data BeforeInt : Cell → Type 0 where
  int_fresh : BeforeInt Fresh
  int_minus : BeforeInt (InNumber types.Minus)

zero_step : {c : Cell} → BeforeInt c → cell_step Csvj c 0x30 ≡ More (InNumber Zero)
unfolding cell_step first_byte numeral_step choose◌then◌else◌
zero_step int_fresh = refl
zero_step int_minus = refl

nonzero_step : {c : Cell} {b : ℕ} → BeforeInt c → b from 0x31 to 0x39 → cell_step Csvj c b ≡ More (InNumber Integer)
unfolding cell_step first_byte numeral_step choose◌then◌else◌
nonzero_step {b} i r = go i
  where
    low : 0x31 ≤ b
    low = r.low

    other : (n : ℕ) → n < 0x31 → (b is n) ≡ false
    other n h = ne_eqb b n (λ e. omega arith)

    is_digit_lem : is_digit b ≡ true
    is_digit_lem = range_within {lo = 0x30} {hi = 0x39} (range (omega arith) r.high)

    go : {c : Cell} → BeforeInt c → cell_step Csvj c b ≡ More (InNumber Integer)
    go int_fresh = rw (other QUOTE (omega arith), other 0x2D (omega arith), other 0x30 (omega arith), is_digit_lem)
    go int_minus = rw (other 0x30 (omega arith), is_digit_lem)

int_spells : {c : Cell} {ns fs es : Bytes} → BeforeInt c → Int ns → Optional-frac fs → Optional-exp es → Spells Csvj c (ns ++ (fs ++ es))
int_spells i (a_zero zero) f e = byte (zero_step i) (frac_spells frac_zero f e)
int_spells i (nonzero (digit1_9 r) ds) f e = byte (nonzero_step i r) (digits_spell in_integer ds (frac_spells frac_integer f e))

pub number_spells : {bs : Bytes} → Number bs → Spells Csvj Fresh bs
unfolding cell_step first_byte choose◌then◌else◌
number_spells (number no_minus i f e) = int_spells int_fresh i f e
number_spells (number (a_minus minus) i f e) = byte refl (int_spells int_minus i f e)

-- ---- the bytes read are a number

-- what is still to come of a number
pub data NumberRest : Numeral → Bytes → Type 0 where
  rest_minus : {ns fs es : Bytes} → Int ns → Optional-frac fs → Optional-exp es → NumberRest types.Minus (ns ++ (fs ++ es))
  rest_zero : {fs es : Bytes} → Optional-frac fs → Optional-exp es → NumberRest Zero (fs ++ es)
  rest_integer : {ds fs es : Bytes} → Digits ds → Optional-frac fs → Optional-exp es → NumberRest Integer (ds ++ (fs ++ es))
  rest_point : {ds es : Bytes} → SomeDigits ds → Optional-exp es → NumberRest Point (ds ++ es)
  rest_fraction : {ds es : Bytes} → Digits ds → Optional-exp es → NumberRest Fraction (ds ++ es)
  rest_e : {ss ds : Bytes} → Optional-sign ss → SomeDigits ds → NumberRest types.E (ss ++ ds)
  rest_sign : {ds : Bytes} → SomeDigits ds → NumberRest ESign ds
  rest_exponent : {ds : Bytes} → Digits ds → NumberRest Exponent ds

minus_digit : {b : ℕ} {bs : Bytes} → b from 0x31 to 0x39 → NumberRest Integer bs → NumberRest types.Minus (b ∷ bs)
minus_digit r (rest_integer ds f e) = rest_minus (nonzero (digit1_9 r) ds) f e

zero_e : {b : ℕ} {bs : Bytes} → E b → NumberRest types.E bs → NumberRest Zero (b ∷ bs)
zero_e x (rest_e s ds) = rest_zero no_frac (an_exp (exp x s ds))

integer_digit : {b : ℕ} {bs : Bytes} → DIGIT b → NumberRest Integer bs → NumberRest Integer (b ∷ bs)
integer_digit r (rest_integer ds f e) = rest_integer (digit r ds) f e

integer_e : {b : ℕ} {bs : Bytes} → E b → NumberRest types.E bs → NumberRest Integer (b ∷ bs)
integer_e x (rest_e s ds) = rest_integer no_digit no_frac (an_exp (exp x s ds))

point_digit : {b : ℕ} {bs : Bytes} → DIGIT b → NumberRest Fraction bs → NumberRest Point (b ∷ bs)
point_digit r (rest_fraction ds e) = rest_point (digits r ds) e

fraction_digit : {b : ℕ} {bs : Bytes} → DIGIT b → NumberRest Fraction bs → NumberRest Fraction (b ∷ bs)
fraction_digit r (rest_fraction ds e) = rest_fraction (digit r ds) e

fraction_e : {b : ℕ} {bs : Bytes} → E b → NumberRest types.E bs → NumberRest Fraction (b ∷ bs)
fraction_e x (rest_e s ds) = rest_fraction no_digit (an_exp (exp x s ds))

e_digit : {b : ℕ} {bs : Bytes} → DIGIT b → NumberRest Exponent bs → NumberRest types.E (b ∷ bs)
e_digit r (rest_exponent ds) = rest_e no_sign (digits r ds)

e_sign : {b : ℕ} {bs : Bytes} → Optional-sign (b ∷ []) → NumberRest ESign bs → NumberRest types.E (b ∷ bs)
e_sign s (rest_sign ds) = rest_e s ds

sign_digit : {b : ℕ} {bs : Bytes} → DIGIT b → NumberRest Exponent bs → NumberRest ESign (b ∷ bs)
sign_digit r (rest_exponent ds) = rest_sign (digits r ds)

exponent_digit : {b : ℕ} {bs : Bytes} → DIGIT b → NumberRest Exponent bs → NumberRest Exponent (b ∷ bs)
exponent_digit r (rest_exponent ds) = rest_exponent (digit r ds)

minus_zero : {bs : Bytes} → NumberRest Zero bs → NumberRest types.Minus (0x30 ∷ bs)
minus_zero (rest_zero f e) = rest_minus (a_zero zero) f e

zero_point : {bs : Bytes} → NumberRest Point bs → NumberRest Zero (0x2E ∷ bs)
zero_point (rest_point ds e) = rest_zero (a_frac (frac decimal_point ds)) e

integer_point : {bs : Bytes} → NumberRest Point bs → NumberRest Integer (0x2E ∷ bs)
integer_point (rest_point ds e) = rest_integer no_digit (a_frac (frac decimal_point ds)) e

number_none : (n : Numeral) → is_numeral n ≡ true → NumberRest n []
number_none types.Minus w = impossible w
number_none Zero w = rest_zero no_frac no_exp
number_none Integer w = rest_integer no_digit no_frac no_exp
number_none Point w = impossible w
number_none Fraction w = rest_fraction no_digit no_exp
number_none types.E w = impossible w
number_none ESign w = impossible w
number_none Exponent w = rest_exponent no_digit

-- a digit that is not 0
pub digit_nonzero : (b : ℕ) → (b is 0x30) ≡ false → is_digit b ≡ true → b from 0x31 to 0x39
digit_nonzero b p q =
    let r = within_range 0x30 0x39 b q in
    let h : 0x30 ≤ b = r.low in
    let n : (b ≡ 0x30) → ⊥ = eqb-false b 0x30 p in
    range (omega arith) r.high

e_letter : (b : ℕ) → (b is 0x65 || b is 0x45) ≡ true → E b
e_letter b t = split_on (b is 0x65) (λ p. rw (is→eq b 0x65 p) small_e) λ p. rw (is→eq b 0x45 (rw p at t)) large_e

sign_of : (b : ℕ) → (b is 0x2B || b is 0x2D) ≡ true → Optional-sign (b ∷ [])
sign_of b t = split_on (b is 0x2B) (λ p. rw (is→eq b 0x2B p) (positive plus)) λ p. rw (is→eq b 0x2D (rw p at t)) (negative minus)

module _ {b : ℕ} {bs : Bytes} {e : Cell} (ih : (m : Numeral) → InNumber m ≡ e → NumberRest m bs) where
  number_byte : (n : Numeral) → numeral_step n b ≡ More e → NumberRest n (b ∷ bs)
  unfolding numeral_step
  number_byte n k = go n k
    where
      -- what the byte means for n, given what it does
      P : Numeral → CellStep → Type 0
      P n a = a ≡ More e → NumberRest n (b ∷ bs)

      is_digit_lem : is_digit b ≡ true → DIGIT b
      is_digit_lem p = within_range 0x30 0x39 b p

      go : (n : Numeral) → P n (numeral_step n b)
      go types.Minus =
          split (P types.Minus) (b is 0x30) (λ p q. rw (is→eq b 0x30 p) (minus_zero (ih Zero (same_more q)))) λ x.
          split (P types.Minus) (is_digit b) (λ p q. minus_digit (digit_nonzero b x p) (ih Integer (same_more q))) λ _ q. no_more q
      go Zero =
          split (P Zero) (b is 0x2E) (λ p q. rw (is→eq b 0x2E p) (zero_point (ih Point (same_more q)))) λ _.
          split (P Zero) (b is 0x65 || b is 0x45) (λ p q. zero_e (e_letter b p) (ih types.E (same_more q))) λ _ q. no_stop q
      go Integer =
          split (P Integer) (is_digit b) (λ p q. integer_digit (is_digit_lem p) (ih Integer (same_more q))) λ _.
          split (P Integer) (b is 0x2E) (λ p q. rw (is→eq b 0x2E p) (integer_point (ih Point (same_more q)))) λ _.
          split (P Integer) (b is 0x65 || b is 0x45) (λ p q. integer_e (e_letter b p) (ih types.E (same_more q))) λ _ q. no_stop q
      go Point = split (P Point) (is_digit b) (λ p q. point_digit (is_digit_lem p) (ih Fraction (same_more q))) λ _ q. no_more q
      go Fraction =
          split (P Fraction) (is_digit b) (λ p q. fraction_digit (is_digit_lem p) (ih Fraction (same_more q))) λ _.
          split (P Fraction) (b is 0x65 || b is 0x45) (λ p q. fraction_e (e_letter b p) (ih types.E (same_more q))) λ _ q. no_stop q
      go types.E =
          split (P types.E) (is_digit b) (λ p q. e_digit (is_digit_lem p) (ih Exponent (same_more q))) λ _.
          split (P types.E) (b is 0x2B || b is 0x2D) (λ p q. e_sign (sign_of b p) (ih ESign (same_more q))) λ _ q. no_more q
      go ESign = split (P ESign) (is_digit b) (λ p q. sign_digit (is_digit_lem p) (ih Exponent (same_more q))) λ _ q. no_more q
      go Exponent = split (P Exponent) (is_digit b) (λ p q. exponent_digit (is_digit_lem p) (ih Exponent (same_more q))) λ _ q. no_stop q

number_at :
    {e : Cell} {b : ℕ} {bs : Bytes} (n : Numeral) {c : Cell} → InNumber n ≡ c → cell_step Csvj c b ≡ More e →
    ((m : Numeral) → InNumber m ≡ e → NumberRest m bs) → NumberRest n (b ∷ bs)
unfolding cell_step
number_at {b} n p s ih = number_byte ih n (ap (λ c. cell_step Csvj c b) p ∙ s)

number_end : (n : Numeral) {c : Cell} → InNumber n ≡ c → is_whole Csvj c ≡ true → NumberRest n []
unfolding is_whole
number_end n p w = number_none n (ap (is_whole Csvj) p ∙ w)

pub spells_number : {c : Cell} {xs : Bytes} → Spells Csvj c xs → (n : Numeral) → InNumber n ≡ c → NumberRest n xs
spells_number (whole w) n p = number_end n p w
spells_number (byte s k) n p = number_at n p s (λ m q. spells_number k m q)

pub rest_negative : {bs : Bytes} → NumberRest types.Minus bs → Number (0x2D ∷ bs)
rest_negative (rest_minus i f e) = number (a_minus minus) i f e

pub rest_nought : {bs : Bytes} → NumberRest Zero bs → Number (0x30 ∷ bs)
rest_nought (rest_zero f e) = number no_minus (a_zero zero) f e

pub rest_positive : {b : ℕ} {bs : Bytes} → b from 0x31 to 0x39 → NumberRest Integer bs → Number (b ∷ bs)
rest_positive r (rest_integer ds f e) = number no_minus (nonzero (digit1_9 r) ds) f e

-- ---- the content of a number

-- a number begins with a minus or a digit
pub data NumberFirst : Bytes → Type 0 where
  number_first : {b : ℕ} {bs : Bytes} → (b is 0x2D || is_digit b) ≡ true → NumberFirst (b ∷ bs)

pub first_of_number : {bs : Bytes} → Number bs → NumberFirst bs
first_of_number (number (a_minus minus) i f e) = number_first refl
first_of_number (number no_minus (a_zero zero) f e) = number_first refl
first_of_number (number no_minus (nonzero (digit1_9 {b} r) ds) f e) =
    let h : 0x31 ≤ b = r.low in
    let p : is_digit b ≡ true = range_within {lo = 0x30} {hi = 0x39} (range (omega arith) r.high) in
    number_first {b = b} (rw (ne_eqb b 0x2D (λ z. omega arith), p))

pub number_content : {bs : Bytes} → NumberFirst bs → (kind_of Csvj bs ≡ types.Number) × (content_of Csvj bs ≡ bs)
unfolding kind_of content_of choose◌then◌else◌
number_content (number_first {b} t) = (rw (other QUOTE refl, other 0x74 refl, other 0x66 refl, other 0x6E refl), rw (other QUOTE refl, t))
  where
    other : (n : ℕ) → (n is 0x2D || is_digit n) ≡ false → (b is n) ≡ false
    other n f = ne_eqb b n (λ z. impossible (sym f ∙ (rw z at t)))
