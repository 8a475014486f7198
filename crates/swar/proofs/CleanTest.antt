-- The word test for clean ASCII: each of its numbers has one test's outcome in the top bit of each byte, and their disjunction has all.
use Prim.Native.Nat.{ℕ, ◌*◌, ◌-◌, ◌%◌, ◌^◌, ◌≤◌, ◌<◌}
use native.Mathlib.Omega.{arith}
use mathlib.Core.Path.{◌≡◌, refl}
use mathlib.Core.Bool.{Bool, true, false, not, ◌&&◌, and-true, and-false}
use lib.Dec.{ltb, leb}
use lib.Bits.{bit_and, bit_or, bit_xor, and_mask, and_le_r}
use borrow.Author.Tests.{le-leb, lt-leb, ltb-true, ltb-false, leb-true, leb-false, eqb-true, eqb-false}
use Rattle.model.specs.rules.Base.{choose◌then◌else◌, ◌is◌}
use Rattle.model.proofs.Tests.{split_on}
use Rattle.swar.specs.Words.{clean_ascii, ONES, ascii_stop, Flags}
use Rattle.swar.proofs.TopDigit.{Top}
use Rattle.swar.proofs.Flags.{flags_same}
use Rattle.swar.proofs.FlagAlgebra.{digit_of, FlagsBytes, flag_both, flag_flags, top_by, flag_ascii}
use Rattle.swar.proofs.OrdinaryTest.{stop_hit, stop_missed, stop_bits, below_bits, ascii_small, ascii_same}

-- ---- the tests

stop_top : (x c : ℕ) (t : Bool) → x < 0x80 → c < 0x80 → (x is c) ≡ t → Top (0x80 - bit_xor x c) (digit_of (not t))
unfolding digit_of choose◌then◌else◌
stop_top x c true h k e = stop_hit x c k (eqb-true x c e)
stop_top x c false h k e = stop_missed x c h k (eqb-false x c e)

module _ (w : ℕ) (h : w < 0x100 ^ 8) where
  tell_stop : (c : ℕ) → c < 0x80 → FlagsBytes w (0x8080808080808080 - bit_xor (bit_and w 0x7F7F7F7F7F7F7F7F) (c * ONES)) (λ b. not (bit_and b 0x7F is c))
  tell_stop c k =
      record {
        each = λ b. 0x80 - bit_xor (bit_and b 0x7F) c;
        word = stop_bits w h c k;
        told = λ b l. stop_top (bit_and b 0x7F) c (bit_and b 0x7F is c) (small b) k refl;
      }
    where
      small : (b : ℕ) → bit_and b 0x7F < 0x80
      small b = omega (arith, and_le_r b 0x7F)

  tell_from_20 : FlagsBytes w (0x9F9F9F9F9F9F9F9F - bit_and w 0x7F7F7F7F7F7F7F7F) (λ b. leb 0x20 (bit_and b 0x7F))
  tell_from_20 = record { each = λ b. 0x9F - bit_and b 0x7F; word = below_bits w h; told = λ b l. here (bit_and b 0x7F) (and_le_r b 0x7F) }
    where
      here : (x : ℕ) → x ≤ 0x7F → Top (0x9F - x) (digit_of (leb 0x20 x))
      here x l = top_by (0x9F - x) (leb 0x20 x) (omega arith) (λ t. omega (arith, leb-true 0x20 x t)) (λ t. omega (arith, leb-false 0x20 x t))

-- ---- their disjunction is the test

abbrev together : (p q b low : ℕ) → Bool
together p q b low = ltb b 0x80 && not (low is ascii_stop p) && not (low is ascii_stop q) && not (low is 0x5C) && leb 0x20 low

clean_same : (p q b : ℕ) → together p q b (bit_and b 0x7F) ≡ clean_ascii p q b
unfolding clean_ascii
clean_same p q b =
    split_on (ltb b 0x80)
    (λ t.
    let l : b < 0x80 = ltb-true b 0x80 t in
    let x : bit_and b 0x7F ≡ b % 0x80 = and_mask b 7 in
    let e : bit_and b 0x7F ≡ b = omega arith in
    rw (e, t)
    (split_on (leb 0x20 b)
    (λ f. let m = leb-true 0x20 b f in rw (f, le-leb b 0x7F (omega arith), ascii_same p b m l, ascii_same q b m l) (and-true _))
    λ f. rw f (and-false (not (b is ascii_stop p) && not (b is ascii_stop q) && not (b is 0x5C)))))
    λ t. let m = ltb-false b 0x80 t in rw (t, lt-leb b 0x7F (omega arith), and-false (leb 0x20 b))

-- the code's test
abbrev clean_word : (w first second : ℕ) → ℕ
clean_word w first second =
    bit_and
    (bit_or
    (bit_or
    (bit_or (bit_or w (0x8080808080808080 - bit_xor (bit_and w 0x7F7F7F7F7F7F7F7F) first)) (0x8080808080808080 - bit_xor (bit_and w 0x7F7F7F7F7F7F7F7F) second))
    (0x8080808080808080 - bit_xor (bit_and w 0x7F7F7F7F7F7F7F7F) 0x5C5C5C5C5C5C5C5C))
    (0x9F9F9F9F9F9F9F9F - bit_and w 0x7F7F7F7F7F7F7F7F))
    0x8080808080808080

pub clean_flags : (w p q first second : ℕ) → w < 0x100 ^ 8 → first ≡ ascii_stop p * ONES → second ≡ ascii_stop q * ONES
    → Flags (clean_ascii p q) w (clean_word w first second)
clean_flags w p q first second h ep eq =
    let tells : FlagsBytes w _ (λ b. together p q b (bit_and b 0x7F)) =
    flag_both (flag_both (flag_both (flag_both (flag_ascii w h) (tell_stop w h (ascii_stop p) (ascii_small p)))
    (tell_stop w h (ascii_stop q) (ascii_small q))) (tell_stop w h 0x5C (omega arith))) (tell_from_20 w h)
    in
    rw (ep, eq) (flags_same (flag_flags tells) (clean_same p q))
