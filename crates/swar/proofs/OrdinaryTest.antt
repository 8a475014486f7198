-- The word test for ordinary ASCII. By the laws of Bytewise.antt it is a test of each byte, where the top bits of five numbers decide:
-- each is 1 exactly where the byte is not ASCII, is a stop, is below 20 hex or is 7F hex.
use Prim.Native.Nat.{ℕ, ◌+◌, ◌*◌, ◌-◌, ◌/◌, ◌%◌, ◌^◌, ◌≤◌, ◌<◌, max}
use native.Mathlib.Omega.{arith}
use mathlib.Core.Path.{◌≡◌, refl, sym, ap, ◌∙◌}
use mathlib.Core.Bool.{Bool, true, false, not, ◌&&◌}
use mathlib.Core.Logic.{◌⊎◌, inl, inr, ⊎_elim}
use lib.Dec.{ltb}
use lib.Bits.{bit_and, bit_or, bit_xor, and_mask, mask_lt, and_high, and_le_r, xor_lt, xor_self}
use borrow.Author.Tests.{ne_eqb, ltb-true, ltb-false, eqb-true, eqb-false}
use Rattle.model.proofs.Tests.{split, split_on, within_true}
use Rattle.model.specs.rules.Base.{choose◌then◌else◌, ◌is◌, within}
use Rattle.swar.specs.Words.{ordinary, ONES, bytes_of, ascii_stop, flag_of, Flags}
use Rattle.swar.proofs.Ordinary.{below, above, first_stop, second_stop, proceeds_on}
use Rattle.swar.proofs.Bytewise.{all_bytes, itself, eight_times, Bytewise, and_bytes, or_bytes, xor_bytes, add_bytes, sub_bytes}
use Rattle.swar.proofs.TopDigit.{Top, or_top, any_top, digit_small, differ_none}
use Rattle.swar.proofs.Flags.{flags_from}

-- ---- one byte

-- the code's word test on one byte
abbrev test_of : (p q b : ℕ) → ℕ
test_of p q b =
    bit_and
    (bit_or (bit_or (bit_or (bit_or b (0x80 - bit_xor (bit_and b 0x7F) p)) (0x80 - bit_xor (bit_and b 0x7F) q)) (0x9F - bit_and b 0x7F)) (bit_and b 0x7F + 0x01))
    0x80

-- the top bit of each number, in the order of the test
record Tops (p q b : ℕ) (not_ascii is_first_lem is_second below_20 is_7f : ℕ) : Type 0 where
  at_not_ascii : Top b not_ascii
  at_first : Top (0x80 - bit_xor (bit_and b 0x7F) p) is_first_lem
  at_second : Top (0x80 - bit_xor (bit_and b 0x7F) q) is_second
  at_below_20 : Top (0x9F - bit_and b 0x7F) below_20
  at_7f : Top (bit_and b 0x7F + 0x01) is_7f

test_top : {p q b t u v x y : ℕ} → Tops p q b t u v x y → test_of p q b ≡ max (max (max (max t u) v) x) y % 2 * 0x80
test_top {p} {q} {b} s =
    let e = or_top (or_top (or_top (or_top s.at_not_ascii s.at_first) s.at_second) s.at_below_20) s.at_7f in
    and_high _ 1 7 ∙ ap (λ (n : ℕ). n % 2 * 0x80) e.digit

-- the top bit for a stop
pub stop_hit : (x p : ℕ) → p < 0x80 → x ≡ p → Top (0x80 - bit_xor x p) 1
stop_hit x p h e =
    let z : bit_xor x p ≡ 0 = rw e (xor_self p) in
    record { byte = omega arith; digit = omega arith }

pub stop_missed : (x p : ℕ) → x < 0x80 → p < 0x80 → ¬ (x ≡ p) → Top (0x80 - bit_xor x p) 0
stop_missed x p h k n =
    let z : ¬ (bit_xor x p ≡ 0) = λ e. n (differ_none x p e) in
    record { byte = omega arith; digit = omega arith }

raised : {p q b t u v x y : ℕ} → Tops p q b t u v x y → 1 ≤ t + u + v + x + y → test_of p q b ≡ 0x80
raised {p} {q} {b} {t} {u} {v} {x} {y} s h =
    let ht : t ≤ 1 = digit_small s.at_not_ascii in
    let hu : u ≤ 1 = digit_small s.at_first in
    let hv : v ≤ 1 = digit_small s.at_second in
    let hx : x ≤ 1 = digit_small s.at_below_20 in
    let hy : y ≤ 1 = digit_small s.at_7f in
    let one : max (max (max (max t u) v) x) y ≡ 1 = omega arith in
    test_top s ∙ ap (λ (n : ℕ). n % 2 * 0x80) one

-- an ordinary byte sets no top bit; any other byte sets one
module _ (p q b : ℕ) (h : b < 0x100) (hp : p < 0x80) (hq : q < 0x80) where
  test_low : bit_and b 0x7F ≡ b % 0x80
  test_low = and_mask b 7

  test_ordinary : 0x20 ≤ b → b ≤ 0x7E → ¬ (b ≡ p) → ¬ (b ≡ q) → test_of p q b ≡ 0
  test_ordinary l m np nq =
      let x : bit_and b 0x7F ≡ b % 0x80 = test_low in
      let e : bit_and b 0x7F ≡ b = omega arith in
      test_top {t = 0} {u = 0} {v = 0} {x = 0} {y = 0}
      record {
        at_not_ascii = record { byte = h; digit = omega arith };
        at_first = stop_missed _ p (omega arith) hp (λ k. np (sym e ∙ k));
        at_second = stop_missed _ q (omega arith) hq (λ k. nq (sym e ∙ k));
        at_below_20 = record { byte = omega arith; digit = omega arith };
        at_7f = record { byte = omega arith; digit = omega arith };
      }

  some_tops : Tops p q b (b / 0x80) ((0x80 - bit_xor (bit_and b 0x7F) p) / 0x80) ((0x80 - bit_xor (bit_and b 0x7F) q) / 0x80)
      ((0x9F - bit_and b 0x7F) / 0x80) ((bit_and b 0x7F + 0x01) / 0x80)
  some_tops =
      let x : bit_and b 0x7F ≡ b % 0x80 = test_low in
      record { at_not_ascii = any_top _ h; at_first = any_top _ (omega arith); at_second = any_top _ (omega arith); at_below_20 = any_top _ (omega arith); at_7f = any_top _ (omega arith) }

  test_outside : (b < 0x20) ⊎ (0x7E < b) → test_of p q b ≡ 0x80
  test_outside o =
      let x : bit_and b 0x7F ≡ b % 0x80 = test_low in
      raised some_tops (⊎_elim (λ l. omega arith) (λ l. omega arith) o)

  test_first : b < 0x80 → b ≡ p → test_of p q b ≡ 0x80
  test_first l e =
      let x : bit_and b 0x7F ≡ b % 0x80 = test_low in
      let s = stop_hit (bit_and b 0x7F) p hp (omega arith) in
      let d : (0x80 - bit_xor (bit_and b 0x7F) p) / 0x80 ≡ 1 = s.digit in
      raised some_tops (omega arith)

  test_second : b < 0x80 → b ≡ q → test_of p q b ≡ 0x80
  test_second l e =
      let x : bit_and b 0x7F ≡ b % 0x80 = test_low in
      let s = stop_hit (bit_and b 0x7F) q hq (omega arith) in
      let d : (0x80 - bit_xor (bit_and b 0x7F) q) / 0x80 ≡ 1 = s.digit in
      raised some_tops (omega arith)

  -- the test of a byte gives its flag
  test_flag : test_of p q b ≡ flag_of (ordinary p q) b
  unfolding flag_of choose◌then◌else◌
  test_flag =
      split_on (ltb b 0x20) (λ t. let l = ltb-true b 0x20 t in rw (below p q b l) (test_outside (inl l))) λ t0.
      split_on (ltb 0x7E b) (λ t. let l = ltb-true 0x7E b t in rw (above p q b l) (test_outside (inr l))) λ t1.
      split_on (b is p) (λ t. let e = eqb-true b p t in let m = ltb-false 0x7E b t1 in rw (first_stop p q b e) (test_first (omega arith) e)) λ t2.
      split_on (b is q) (λ t. let e = eqb-true b q t in let m = ltb-false 0x7E b t1 in rw (second_stop p q b e) (test_second (omega arith) e)) λ t3.
      let l = ltb-false b 0x20 t0 in
      let m = ltb-false 0x7E b t1 in
      let np = eqb-false b p t2 in
      let nq = eqb-false b q t3 in
      rw (proceeds_on p q b l m np nq) (test_ordinary l m np nq)

-- ---- the eight bytes of a word

-- the code's test
abbrev pub test_word : (w first second : ℕ) → ℕ
test_word w first second =
    bit_and
    (bit_or
    (bit_or (bit_or (bit_or w (0x8080808080808080 - bit_xor (bit_and w 0x7F7F7F7F7F7F7F7F) first))
    (0x8080808080808080 - bit_xor (bit_and w 0x7F7F7F7F7F7F7F7F) second))
    (0x9F9F9F9F9F9F9F9F - bit_and w 0x7F7F7F7F7F7F7F7F))
    (bit_and w 0x7F7F7F7F7F7F7F7F + 0x0101010101010101))
    0x8080808080808080

module _ (w : ℕ) (h : w < 0x100 ^ 8) where
  pub low_bits : Bytewise (bytes_of 8 w) (bit_and w 0x7F7F7F7F7F7F7F7F) (λ b. bit_and b 0x7F)
  low_bits = and_bytes (all_bytes 8 w) (itself w h) (eight_times w 0x7F (omega arith))

  low_small : (b : ℕ) → bit_and b 0x7F < 0x80
  low_small b = mask_lt b 7

  pub stop_bits : (c : ℕ) → c < 0x80
      → Bytewise (bytes_of 8 w) (0x8080808080808080 - bit_xor (bit_and w 0x7F7F7F7F7F7F7F7F) (c * ONES)) (λ b. 0x80 - bit_xor (bit_and b 0x7F) c)
  stop_bits c k =
      sub_bytes (all_bytes 8 w) (eight_times w 0x80 (omega arith)) (xor_bytes (all_bytes 8 w) low_bits (eight_times w c (omega arith)))
      λ b l. fits b
    where
      fits : (b : ℕ) → bit_xor (bit_and b 0x7F) c ≤ 0x80
      fits b = let x : bit_xor (bit_and b 0x7F) c < 0x80 = xor_lt 7 (bit_and b 0x7F) c (low_small b) k in omega arith

  pub below_bits : Bytewise (bytes_of 8 w) (0x9F9F9F9F9F9F9F9F - bit_and w 0x7F7F7F7F7F7F7F7F) (λ b. 0x9F - bit_and b 0x7F)
  below_bits = sub_bytes (all_bytes 8 w) (eight_times w 0x9F (omega arith)) low_bits λ b l. fits b
    where
      fits : (b : ℕ) → bit_and b 0x7F ≤ 0x9F
      fits b = let x : bit_and b 0x7F < 0x80 = low_small b in omega arith

  last_bits : Bytewise (bytes_of 8 w) (bit_and w 0x7F7F7F7F7F7F7F7F + 0x0101010101010101) (λ b. bit_and b 0x7F + 0x01)
  last_bits = add_bytes low_bits (eight_times w 0x01 (omega arith)) λ b l. fits b
    where
      fits : (b : ℕ) → bit_and b 0x7F + 0x01 < 0x100
      fits b = let x : bit_and b 0x7F < 0x80 = low_small b in omega arith

  test_bytes : (p q : ℕ) → p < 0x80 → q < 0x80 → Bytewise (bytes_of 8 w) (test_word w (p * ONES) (q * ONES)) (test_of p q)
  test_bytes p q hp hq =
      let hs = all_bytes 8 w in
      and_bytes hs (or_bytes hs (or_bytes hs (or_bytes hs (or_bytes hs (itself w h) (stop_bits p hp)) (stop_bits q hq)) below_bits)
      last_bits) (eight_times w 0x80 (omega arith))

-- ---- stops that need not be ASCII

pub ascii_small : (p : ℕ) → ascii_stop p < 0x80
unfolding ascii_stop
ascii_small p = split (λ (n : ℕ). n < 0x80) _ (λ t. ltb-true p 0x80 t) λ _. omega arith

pub ascii_same : (p b : ℕ) → 0x20 ≤ b → b < 0x80 → (b is ascii_stop p) ≡ (b is p)
unfolding ascii_stop choose◌then◌else◌
ascii_same p b l m = go (ltb p 0x80) refl
  where
    go : (t : Bool) → ltb p 0x80 ≡ t → (b is (choose t then p else 0)) ≡ (b is p)
    go true e = refl
    go false e = let k = ltb-false p 0x80 e in ne_eqb b 0 (omega arith) ∙ sym (ne_eqb b p (omega arith))

ordinary_ascii : (p q b : ℕ) → ordinary (ascii_stop p) (ascii_stop q) b ≡ ordinary p q b
unfolding ordinary
ordinary_ascii p q b = go (within 0x20 0x7E b) refl
  where
    go : (t : Bool) → within 0x20 0x7E b ≡ t
        → (within 0x20 0x7E b && not (b is ascii_stop p) && not (b is ascii_stop q)) ≡ (within 0x20 0x7E b && not (b is p) && not (b is q))
    go true e = let k = within_true 0x20 0x7E b e in let m : b ≤ 0x7E = k.1 in rw (ascii_same p b k.0 (omega arith), ascii_same q b k.0 (omega arith))
    go false e = rw e

-- no byte of the test's first difference is below 0
pub stop_fits : (w p first : ℕ) → first ≡ ascii_stop p * ONES → bit_xor (bit_and w 0x7F7F7F7F7F7F7F7F) first ≤ 0x8080808080808080
stop_fits w p first e =
    let a : ascii_stop p < 0x80 = ascii_small p in
    let l : bit_and w 0x7F7F7F7F7F7F7F7F ≤ 0x7F7F7F7F7F7F7F7F = and_le_r w 0x7F7F7F7F7F7F7F7F in
    let x : bit_xor (bit_and w 0x7F7F7F7F7F7F7F7F) first < 0x8000000000000000 = xor_lt 63 (bit_and w 0x7F7F7F7F7F7F7F7F) first (omega arith) (omega arith) in
    omega arith

-- ---- the contract of the test

pub flags : (w p q first second : ℕ) → w < 0x100 ^ 8 → first ≡ ascii_stop p * ONES → second ≡ ascii_stop q * ONES
    → Flags (ordinary p q) w (test_word w first second)
unfolding flag_of
flags w p q first second h ep eq =
    let ap = ascii_small p in
    let aq = ascii_small q in
    let tested : Bytewise (bytes_of 8 w) (test_word w first second) (test_of (ascii_stop p) (ascii_stop q)) =
    rw (ep, eq) (test_bytes w h (ascii_stop p) (ascii_stop q) ap aq) in
    let byte : (b : ℕ) → b < 0x100 → test_of (ascii_stop p) (ascii_stop q) b ≡ flag_of (ordinary p q) b =
    λ b k. test_flag (ascii_stop p) (ascii_stop q) b k ap aq ∙ rw (ordinary_ascii p q b) in
    flags_from tested byte
