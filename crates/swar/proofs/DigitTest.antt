-- The word test for digits: a sum shows whether a byte is too large, a difference whether it is too small, and the byte itself whether it
-- is ASCII.
use Prim.Native.Nat.{ℕ, ◌+◌, ◌-◌, ◌%◌, ◌^◌, ◌≤◌, ◌<◌}
use native.Mathlib.Omega.{arith}
use mathlib.Core.Path.{◌≡◌}
use mathlib.Core.Bool.{◌&&◌, and-true, and-false}
use lib.Dec.{ltb, leb}
use lib.Bits.{bit_and, bit_or, and_mask, and_le_r}
use borrow.Author.Tests.{lt-leb, ltb-true, ltb-false, leb-true, leb-false}
use Rattle.model.specs.rules.Cell.{is_digit}
use Rattle.model.proofs.Tests.{split_on}
use Rattle.swar.specs.Words.{Flags}
use Rattle.swar.proofs.Bytewise.{all_bytes, eight_times, add_bytes, sub_bytes}
use Rattle.swar.proofs.TopDigit.{Top}
use Rattle.swar.proofs.Flags.{flags_same}
use Rattle.swar.proofs.OrdinaryTest.{low_bits}
use Rattle.swar.proofs.FlagAlgebra.{digit_of, FlagsBytes, flag_both, flag_flags, top_by, flag_ascii}

small : (b : ℕ) → bit_and b 0x7F ≤ 0x7F
small b = and_le_r b 0x7F

module _ (w : ℕ) (h : w < 0x100 ^ 8) where
  tell_upto_39 : FlagsBytes w (bit_and w 0x7F7F7F7F7F7F7F7F + 0x4646464646464646) (λ b. leb (bit_and b 0x7F) 0x39)
  tell_upto_39 =
      record {
        each = λ b. bit_and b 0x7F + 0x46;
        word = add_bytes (low_bits w h) (eight_times w 0x46 (omega arith)) (λ b l. fits (bit_and b 0x7F) (small b));
        told = λ b l. here (bit_and b 0x7F) (small b);
      }
    where
      fits : (x : ℕ) → x ≤ 0x7F → x + 0x46 < 0x100
      fits x l = omega arith

      here : (x : ℕ) → x ≤ 0x7F → Top (x + 0x46) (digit_of (leb x 0x39))
      here x l = top_by (x + 0x46) (leb x 0x39) (omega arith) (λ t. omega (arith, leb-true x 0x39 t)) (λ t. omega (arith, leb-false x 0x39 t))

  tell_from_30 : FlagsBytes w (0xAFAFAFAFAFAFAFAF - bit_and w 0x7F7F7F7F7F7F7F7F) (λ b. leb 0x30 (bit_and b 0x7F))
  tell_from_30 =
      record {
        each = λ b. 0xAF - bit_and b 0x7F;
        word = sub_bytes (all_bytes 8 w) (eight_times w 0xAF (omega arith)) (low_bits w h) (λ b l. fits (bit_and b 0x7F) (small b));
        told = λ b l. here (bit_and b 0x7F) (small b);
      }
    where
      fits : (x : ℕ) → x ≤ 0x7F → x ≤ 0xAF
      fits x l = omega arith

      here : (x : ℕ) → x ≤ 0x7F → Top (0xAF - x) (digit_of (leb 0x30 x))
      here x l = top_by (0xAF - x) (leb 0x30 x) (omega arith) (λ t. omega (arith, leb-true 0x30 x t)) (λ t. omega (arith, leb-false 0x30 x t))

digit_same : (b : ℕ) → (ltb b 0x80 && leb (bit_and b 0x7F) 0x39 && leb 0x30 (bit_and b 0x7F)) ≡ is_digit b
digit_same b =
    split_on (ltb b 0x80)
    (λ t.
    let l : b < 0x80 = ltb-true b 0x80 t in
    let x : bit_and b 0x7F ≡ b % 0x80 = and_mask b 7 in
    let e : bit_and b 0x7F ≡ b = omega arith in
    rw (e, t) (split_on (leb 0x30 b) (λ f. rw f (and-true (leb b 0x39))) λ f. rw f (and-false (leb b 0x39))))
    λ t. let m = ltb-false b 0x80 t in rw (t, lt-leb b 0x39 (omega arith), and-false (leb 0x30 b))

pub digit_flags : (w : ℕ) → w < 0x100 ^ 8
    → Flags is_digit w (bit_and (bit_or (bit_or w (bit_and w 0x7F7F7F7F7F7F7F7F + 0x4646464646464646))
    (0xAFAFAFAFAFAFAFAF - bit_and w 0x7F7F7F7F7F7F7F7F)) 0x8080808080808080)
digit_flags w h =
    let tells : FlagsBytes w _ (λ b. ltb b 0x80 && leb (bit_and b 0x7F) 0x39 && leb 0x30 (bit_and b 0x7F)) =
    flag_both (flag_both (flag_ascii w h) (tell_upto_39 w h)) (tell_from_30 w h) in
    flags_same (flag_flags tells) digit_same
