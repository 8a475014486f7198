-- Word tests by a sum: the low seven bits of a byte plus k, k at most 80 hex, reach the top bit exactly from 80 - k on, and the byte
-- itself has it from 80 hex on. So the flag shows whether the byte is at least 80 - k.
use Prim.Native.Nat.{ℕ, ◌+◌, ◌*◌, ◌-◌, ◌/◌, ◌%◌, ◌^◌, ◌≤◌, ◌<◌, max}
use native.Mathlib.Omega.{arith}
use mathlib.Core.Path.{◌≡◌, ap, ◌∙◌}
use lib.Dec.{ltb}
use lib.Bits.{bit_and, bit_or, bit_xor, and_mask, mask_lt, and_high, xor_lt, xor_self}
use borrow.Author.Tests.{eqb-true, eqb-false, ltb-true, ltb-false}
use Rattle.model.proofs.Tests.{split_on}
use Rattle.model.specs.rules.Base.{choose◌then◌else◌, ◌is◌}
use Rattle.swar.specs.Words.{ONES, bytes_of, flag_of, Flags, is_byte, is_below}
use Rattle.swar.proofs.Bytewise.{all_bytes, itself, eight_times, Bytewise, and_bytes, or_bytes, xor_bytes, add_bytes}
use Rattle.swar.proofs.TopDigit.{or_top, any_top, differ_none}
use Rattle.swar.proofs.Flags.{flags_from}

-- ---- one byte

abbrev reach_of : (k y : ℕ) → ℕ
reach_of k y = bit_and (bit_or (bit_and y 0x7F + k) y) 0x80

module _ (k y : ℕ) (h : k ≤ 0x80) (l : y < 0x100) where
  reach_top : reach_of k y ≡ max ((y % 0x80 + k) / 0x80) (y / 0x80) % 2 * 0x80
  reach_top =
      let low : bit_and y 0x7F ≡ y % 0x80 = and_mask y 7 in
      let top = or_top (any_top (bit_and y 0x7F + k) (omega arith)) (any_top y l) in
      and_high _ 1 7 ∙ ap (λ (n : ℕ). n % 2 * 0x80) top.digit ∙ rw low

  reach_below : y < 0x80 - k → reach_of k y ≡ 0
  reach_below b = let top = reach_top in omega arith

  reach_from : 0x80 - k ≤ y → reach_of k y ≡ 0x80
  reach_from b = let top = reach_top in omega arith

below_flag : (y : ℕ) → y < 0x100 → reach_of 0x60 y ≡ flag_of (is_below 0x20) y
unfolding flag_of choose◌then◌else◌
below_flag y l =
    split_on (ltb y 0x20)
    (λ t. rw t (reach_below 0x60 y (omega arith) l (omega (arith, ltb-true y 0x20 t))))
    λ t. rw t (reach_from 0x60 y (omega arith) l (omega (arith, ltb-false y 0x20 t)))

other_flag : (c y : ℕ) → c < 0x100 → y < 0x100 → reach_of 0x7F (bit_xor y c) ≡ flag_of (is_byte c) y
unfolding flag_of choose◌then◌else◌
other_flag c y k l =
    let x : bit_xor y c < 0x100 = xor_lt 8 y c l k in
    split_on (y is c)
    (λ t. let e : bit_xor y c ≡ 0 = rw (eqb-true y c t) (xor_self c) in rw t (reach_below 0x7F (bit_xor y c) (omega arith) x (omega arith)))
    λ t. let e : ¬ (bit_xor y c ≡ 0) = λ z. eqb-false y c t (differ_none y c z) in rw t (reach_from 0x7F (bit_xor y c) (omega arith) x (omega arith))

-- ---- the eight bytes of a word

abbrev reach_word : (k v : ℕ) → ℕ
reach_word k v = bit_and (bit_or (bit_and v 0x7F7F7F7F7F7F7F7F + k * ONES) v) 0x8080808080808080

reach_bytes : (w k : ℕ) {v : ℕ} {f : ℕ → ℕ} → k ≤ 0x80 → Bytewise (bytes_of 8 w) v f → Bytewise (bytes_of 8 w) (reach_word k v) (λ b. reach_of k (f b))
reach_bytes w k {v} {f} h x =
    let hs = all_bytes 8 w in
    let low : Bytewise (bytes_of 8 w) (bit_and v 0x7F7F7F7F7F7F7F7F) (λ b. bit_and (f b) 0x7F) = and_bytes hs x (eight_times w 0x7F (omega arith)) in
    and_bytes hs (or_bytes hs (add_bytes low (eight_times w k (omega arith)) λ b l. fits b) x) (eight_times w 0x80 (omega arith))
  where
    fits : (b : ℕ) → bit_and (f b) 0x7F + k < 0x100
    fits b = let m : bit_and (f b) 0x7F < 0x80 = mask_lt (f b) 7 in omega arith

module _ (w : ℕ) (h : w < 0x100 ^ 8) where
  pub from_20_flags : Flags (is_below 0x20) w (reach_word 0x60 w)
  from_20_flags = flags_from (reach_bytes w 0x60 (omega arith) (itself w h)) below_flag

  pub other_flags : (c : ℕ) → c < 0x100 → Flags (is_byte c) w (reach_word 0x7F (bit_xor w (c * ONES)))
  other_flags c k = flags_from (reach_bytes w 0x7F (omega arith) (xor_bytes (all_bytes 8 w) (itself w h) (eight_times w c k))) λ b l. other_flag c b k l
