-- The top bit of a byte, which is its flag in a word.
use Prim.Native.Nat.{ℕ, zero, suc, ◌+◌, ◌*◌, ◌/◌, ◌≤◌, ◌<◌, max}
use native.Mathlib.Omega.{arith}
use mathlib.Core.Path.{◌≡◌, refl, ◌∙◌}
use lib.Bits.{bit_and, bit_or, bit_xor, and_le_l, and_le_r, or_lt, or_shr, xor_add_and}

-- the larger of two binary digits
or_digits : (x y : ℕ) → x ≤ 1 → y ≤ 1 → bit_or x y ≡ max x y
or_digits zero zero h k = refl
or_digits zero (suc zero) h k = refl
or_digits (suc zero) zero h k = refl
or_digits (suc zero) (suc zero) h k = refl
or_digits (suc (suc x)) y h k = absurd (omega arith)
or_digits zero (suc (suc y)) h k = absurd (omega arith)
or_digits (suc zero) (suc (suc y)) h k = absurd (omega arith)

pub record Top (n t : ℕ) : Type 0 where
  pub byte : n < 0x100
  pub digit : n / 0x80 ≡ t

pub or_top : {m n s t : ℕ} → Top m s → Top n t → Top (bit_or m n) (max s t)
or_top {m} {n} {s} {t} x y =
    let a : m < 0x100 = x.byte in
    let b : n < 0x100 = y.byte in
    record { byte = or_lt 8 m n a b; digit = or_shr m n 7 ∙ or_digits (m / 0x80) (n / 0x80) (omega arith) (omega arith) ∙ λ i. max (x.digit i) (y.digit i) }

pub any_top : (n : ℕ) → n < 0x100 → Top n (n / 0x80)
any_top n h = record { byte = h; digit = refl }

pub digit_small : {n t : ℕ} → Top n t → t ≤ 1
digit_small {n} {t} s =
    let b : n < 0x100 = s.byte in
    let d : n / 0x80 ≡ t = s.digit in
    omega arith

-- bytes that differ in no bit are equal
pub differ_none : (x p : ℕ) → bit_xor x p ≡ 0 → x ≡ p
differ_none x p e =
    let sum : bit_xor x p + bit_and x p * 2 ≡ x + p = xor_add_and x p in
    let l : bit_and x p ≤ x = and_le_l x p in
    let r : bit_and x p ≤ p = and_le_r x p in
    omega arith
