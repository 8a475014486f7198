-- Shifts and masks on code points equal the definitions' arithmetic: a mask of k ones is the remainder by 2 ^ k, and a tag above k bits
-- adds. Both are laws over the width.
use mathlib.Core.Path.{◌≡◌, ap, ◌∙◌}
use mathlib.Core.List.{[], ◌∷◌}
use Prim.Native.Nat.{ℕ, ◌+◌, ◌*◌, ◌/◌, ◌%◌, ◌^◌, ◌-◌, ◌≤◌, ◌<◌}
use native.Mathlib.Omega.{arith}
use lib.Bits.{bit_and, bit_or, and_mask, mask_lt, or_shifted, or_shifted_r}
use lib.ListN.{length}
use borrow.Author.Tests.{le-leb, lt-leb}
use Rattle.model.specs.rules.Base.{choose◌then◌else◌, Bytes}
use Rattle.model.specs.rules.Utf8.{pack, joined}
use Rattle.model.proofs.Tests.{split, within_true}
use Rattle.utf8.specs.Codes.{packed, ten_bits, Joins}

-- the k low bits of u below the tag a
pub marked : (a k u : ℕ) → bit_or (bit_and u (2 ^ k - 1)) (a * 2 ^ k) ≡ a * 2 ^ k + u % 2 ^ k
marked a k u = or_shifted_r a k (bit_and u (2 ^ k - 1)) (mask_lt u k) ∙ ap (λ (n : ℕ). a * 2 ^ k + n) (and_mask u k)

-- ---- the bytes of a code point

pub packed_one : (u : ℕ) → u ≤ 0x7F → packed u ≡ u ∷ []
unfolding packed pack choose◌then◌else◌
packed_one u h = rw (le-leb u 0x10FFFF (omega arith), le-leb u 0x7F h)

pub packed_two : (u : ℕ) → 0x7F < u → u ≤ 0x7FF → packed u ≡ (0xC0 + u / 0x40) ∷ (0x80 + u % 0x40) ∷ []
unfolding packed pack choose◌then◌else◌
packed_two u l h = rw (le-leb u 0x10FFFF (omega arith), lt-leb u 0x7F l, le-leb u 0x7FF h)

pub packed_three : (u : ℕ) → 0x7FF < u → u ≤ 0xFFFF → packed u ≡ (0xE0 + u / 0x1000) ∷ (0x80 + u / 0x40 % 0x40) ∷ (0x80 + u % 0x40) ∷ []
unfolding packed pack choose◌then◌else◌
packed_three u l h = rw (le-leb u 0x10FFFF (omega arith), lt-leb u 0x7F (omega arith), lt-leb u 0x7FF l, le-leb u 0xFFFF h)

pub packed_four : (u : ℕ) → 0xFFFF < u → u ≤ 0x10FFFF
    → packed u ≡ (0xF0 + u / 0x40000) ∷ (0x80 + u / 0x1000 % 0x40) ∷ (0x80 + u / 0x40 % 0x40) ∷ (0x80 + u % 0x40) ∷ []
unfolding packed pack choose◌then◌else◌
packed_four u l h = rw (le-leb u 0x10FFFF h, lt-leb u 0x7F (omega arith), lt-leb u 0x7FF (omega arith), lt-leb u 0xFFFF l)

pub packed_none : (u : ℕ) → 0x10FFFF < u → packed u ≡ []
unfolding packed choose◌then◌else◌
packed_none u h = rw (lt-leb u 0x10FFFF h)

-- the packed bytes are the definition's
pub packed_is : (u : ℕ) → u ≤ 0x10FFFF → packed u ≡ pack u
unfolding packed choose◌then◌else◌
packed_is u h = rw (le-leb u 0x10FFFF h)

pub packed_most : (u : ℕ) → length (packed u) ≤ 4
unfolding packed pack
packed_most u =
    let P : Bytes → Type 0 = λ l. length l ≤ 4 in
    split P _ (λ _. split P _ (λ _. omega arith) λ _. split P _ (λ _. omega arith) λ _. split P _ (λ _. omega arith) λ _. omega arith) λ _. omega arith

-- ---- surrogate pairs

-- ten bits of each, one group above the other; the shift loses none
pub ten_bits_lem : (h l : ℕ) → bit_or (bit_and h 0x3FF * 0x400 % 0x100000000) (bit_and l 0x3FF) ≡ h % 0x400 * 0x400 + l % 0x400
ten_bits_lem h l =
    let hh : bit_and h 0x3FF < 0x400 = mask_lt h 10 in
    let kept : bit_and h 0x3FF * 0x400 % 0x100000000 ≡ bit_and h 0x3FF * 0x400 = omega arith in
    rw (kept, or_shifted (bit_and h 0x3FF) 10 (bit_and l 0x3FF) (mask_lt l 10), and_mask h 10, and_mask l 10)

pub joins_of : (h l r : ℕ) → r ≡ ten_bits h l → Joins h l r
joins_of h l r e = record { bits = e; joins = λ ht lt. joins (within_true 0xD800 0xDBFF h ht) (within_true 0xDC00 0xDFFF l lt) }
  where
    joins : (0xD800 ≤ h) × (h ≤ 0xDBFF) → (0xDC00 ≤ l) × (l ≤ 0xDFFF) → r ≡ joined h l
    joins hs ls = omega arith
