-- The laws of the sentences: a number is written with the fewest digits that hold it, at most 20, and so the text of a form has at most
-- 20 bytes for each of the form's own.
use mathlib.Core.Path.{◌≡◌, refl, sym, ap}
use mathlib.Core.List.{[], ◌∷◌, ◌++◌}
use Prim.Native.Nat.{ℕ, zero, suc, ◌+◌, ◌*◌, ◌/◌, ◌^◌, ◌≤◌, ◌<◌}
use native.Mathlib.Nat.{one-le-pow, pow-suc, div-lt_iff_lt-mul, le-div_iff_mul-le}
use native.Mathlib.Numerals.{unary_clauses}
use native.Mathlib.Omega.{arith}
use lib.ListN.{length, drop, get_or, length-append, drop_of_length-le}
use lib.Dec.{ltb}
use borrow.Author.Tests.{ltb-true, ltb-false, ne_eqb}
use Rattle.io.specs.Digits.{last_digits, IsDigitCount}
use Rattle.model.specs.declared.Report.{Report}
use Rattle.model.specs.rules.Base.{Bytes, over, choose◌then◌else◌, ◌is◌}
use Rattle.model.proofs.Tests.{split}
use Rattle.buffer.specs.Writes.{written}
use Rattle.buffer.proofs.WriteProgress.{drop_next, Writing, put, room_left, done, filled as filled-out}
use Rattle.messages.specs.Sentences.{places_of, decimal, part_of, filled, form_of}

-- ---- digits

digits_length : (b k n : ℕ) → length (last_digits b k n) ≡ k
digits_length b zero n = refl
digits_length b (suc k) n = simp (length-append, digits_length b k (n / b)) (omega arith)

places_most : (most n : ℕ) → places_of most n ≤ suc most
unfolding places_of
places_most zero n = omega arith
places_most (suc most) n =
    split (λ (k : ℕ). k ≤ suc (suc most)) (ltb n 10) (λ _. omega arith) λ _. let h = places_most most (n / 10) in omega arith

decimal_short : (n : ℕ) → length (decimal n) ≤ 20
unfolding decimal
decimal_short n = omega (arith, digits_length 10 (places_of 19 n) n, places_most 19 n)

-- what is below ten takes one digit, and what is not takes one more than its tenth
one_digit : (n k : ℕ) → n < 10 → IsDigitCount 10 1 n k → 1 ≡ k
one_digit n zero h f = absurd (omega (arith, f.0))
one_digit n (suc zero) h f = refl
one_digit n (suc (suc k)) h f = let p : 10 ^ k * 10 ≤ n = simp unary_clauses at (f.2 (omega arith)) in absurd (omega (arith, one-le-pow k 10 (omega arith)))

below_tenth : (n k : ℕ) → n < 10 ^ suc k → n / 10 < 10 ^ k
below_tenth n k h = let p : n < 10 ^ k * 10 = rw pow-suc at h in (div-lt_iff_lt-mul {k = 10} (omega arith)).1 p

-- the digits of the tenth
tenth : (n k : ℕ) → 10 ≤ n → IsDigitCount 10 1 n (suc k) → IsDigitCount 10 1 (n / 10) k
tenth n zero h f = absurd (omega (arith, f.1))
tenth n (suc k) h f =
    let p : 10 ^ k * 10 ≤ n = simp unary_clauses at (f.2 (omega arith)) in
    (omega arith, below_tenth n (suc k) f.1, λ m. simp unary_clauses ((le-div_iff_mul-le {k = 10} (omega arith)).1 p))

places_are : (most n k : ℕ) → n < 10 ^ suc most → IsDigitCount 10 1 n k → places_of most n ≡ k
unfolding places_of
places_are zero n k h f = one_digit n k h f
places_are (suc most) n zero h f = absurd (omega (arith, f.0))
places_are (suc most) n (suc k) h f =
    split (λ (j : ℕ). j ≡ suc k) (ltb n 10) (λ t. one_digit n (suc k) (ltb-true n 10 t) f)
    λ t. ap suc (places_are most (n / 10) k (below_tenth n (suc most) h) (tenth n k (ltb-false n 10 t) f))

-- the fewest digits that hold a number of 64 bits are its decimal text
pub digits_decimal : (n k : ℕ) → n < 2 ^ 64 → IsDigitCount 10 1 n k → last_digits 10 k n ≡ decimal n
unfolding decimal
digits_decimal n k h f = ap (λ (j : ℕ). last_digits 10 j n) (sym (places_are 19 n k (omega arith) f))

-- ---- forms

part_short : (e : Report) (b : ℕ) → length (part_of e b) ≤ 20
unfolding part_of
part_short e b =
    split Short (b is 0x4E) (λ _. decimal_short e.number) λ _.
    split Short (b is 0x52) (λ _. decimal_short e.record_number) λ _.
    split Short (b is 0x43) (λ _. decimal_short e.column) λ _.
    split Short (b is 0x42) (λ _. decimal_short e.offset) λ _. omega arith
  where
    Short : Bytes → Type 0
    Short w = length w ≤ 20

pub filled_short : (e : Report) (form : Bytes) → length (filled e form) ≤ 20 * length form
unfolding filled
filled_short e [] = omega arith
filled_short e (b ∷ form) = simp length-append (omega (arith, part_short e b, filled_short e form))

-- a form from an index on, by the text of its next byte
pub filled_next :
    (e : Report) (form : Bytes) (i : ℕ) → i < length form → filled e (drop i form) ≡ part_of e (get_or form i 0) ++ filled e (drop (i + 1) form)
unfolding filled
filled_next e form i h = rw (drop_next form i (i + 1) h refl)

module _ (e : Report) (form : Bytes) (i : ℕ) {old out : Bytes} {o : ℕ} (w : Writing old 0 (filled e form) out o (filled e (drop i form))) where
  -- there is room for the next part
  pub fill_room : i < length form → o + length (part_of e (get_or form i 0)) ≤ length out
  fill_room h =
      let p : Bytes = part_of e (get_or form i 0) in
      let q : Bytes = filled e (drop (i + 1) form) in
      let r : o + length (p ++ q) ≤ length out = room_left (rw (filled_next e form i h) at w) in
      omega (arith, length-append p q)

  -- it is written
  pub fill_next :
      {out' : Bytes} {o' : ℕ} → i < length form →
      (o' ≡ o + length (part_of e (get_or form i 0))) × (out' ≡ written out o (part_of e (get_or form i 0))) →
      Writing old 0 (filled e form) out' o' (filled e (drop (i + 1) form))
  fill_next h p = rw (p.0, p.1) (put (part_of e (get_or form i 0)) (rw (filled_next e form i h) at w))

  -- the form is at its end
  pub fill_done : length form ≤ i → (o ≡ length (filled e form)) × (out ≡ over (filled e form) old)
  unfolding filled
  fill_done h =
      let v : Writing old 0 (filled e form) out o [] = rw (drop_of_length-le _ h) at w in
      (omega (arith, (done v).0), filled-out v)

-- ---- sentences

-- the form of a number that is none of a file's faults
pub other_form :
    (n column : ℕ) → (n ≡ 1 → ⊥) → (n ≡ 2 → ⊥) → (n ≡ 3 → ⊥) → (n ≡ 4 → ⊥) → (n ≡ 5 → ⊥) → (n ≡ 6 → ⊥) → (n ≡ 7 → ⊥) → (n ≡ 8 → ⊥) →
    (n ≡ 9 → ⊥) → form_of n column ≡ form_of 10 column
unfolding form_of choose◌then◌else◌
other_form n column a b c d e f g h i =
    rw (ne_eqb n 1 a, ne_eqb n 2 b, ne_eqb n 3 c, ne_eqb n 4 d, ne_eqb n 5 e, ne_eqb n 6 f, ne_eqb n 7 g, ne_eqb n 8 h, ne_eqb n 9 i)
