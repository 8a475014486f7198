-- The word tests of bytes in a text. Each works on every byte of a word alone, and its outcome there is computed for all 256 bytes.
use Prim.Native.Nat.{ℕ, zero, suc, ◌+◌, ◌-◌, ◌*◌, ◌^◌, ◌≤◌, ◌<◌}
use native.Mathlib.Omega.{arith}
use mathlib.Core.Path.{◌≡◌, refl}
use mathlib.Core.Bool.{Bool, true, ◌&&◌}
use lib.Bits.{bit_and, bit_or, bit_xor, mask_lt, xor_lt, and_le_r}
use borrow.Author.Tests.{eqb-true, eqb-false}
use Rattle.model.specs.rules.Base.{choose◌then◌else◌, ◌is◌, QUOTE}
use Rattle.model.proofs.Tests.{and_true, split_on}
use Rattle.swar.specs.Words.{ONES, bytes_of, flag_of, is_clean, plain_text, Flags}
use Rattle.swar.proofs.Bytewise.{all_bytes, itself, eight_times, Bytewise, and_bytes, or_bytes, xor_bytes, add_bytes, sub_bytes}
use Rattle.swar.proofs.Flags.{flags_from}

-- ---- a rule of every number below n, computed for each

abbrev all_below : (n : ℕ) (rule : ℕ → Bool) → Bool
all_below zero rule = true
all_below (suc n) rule = rule n && all_below n rule

below_at : (rule : ℕ → Bool) (n : ℕ) → all_below n rule ≡ true → (b : ℕ) → b < n → rule b ≡ true
below_at rule zero e b h = absurd (omega arith)
below_at rule (suc n) e b h =
    let both = and_true (rule n) (all_below n rule) e in
    split_on (b is n) (λ t. rw (eqb-true b n t) both.0) λ t. let k = eqb-false b n t in below_at rule n both.1 b (omega arith)

-- ---- one byte

-- the low bits with some flipped, plus k
abbrev sum_of : (flip k b : ℕ) → ℕ
sum_of flip k b = bit_xor (bit_and b 0x7F) flip + k

abbrev clean_of : ℕ → ℕ
clean_of b = bit_xor (bit_and (bit_or (bit_and (sum_of 0x02 0x5F b) (sum_of 0x5C 0x7F b)) b) 0x80) 0x80

abbrev plain_of : ℕ → ℕ
plain_of b = bit_xor (bit_and (bit_or (bit_and (bit_and (sum_of 0x02 0x5F b) (sum_of 0x5C 0x7F b)) (0xFF - b)) (bit_and (sum_of 0x6D 0x7F b) b)) 0x80) 0x80

clean_byte : (b : ℕ) → b < 0x100 → clean_of b ≡ flag_of (is_clean QUOTE) b
unfolding flag_of is_clean choose◌then◌else◌
clean_byte b h = eqb-true (clean_of b) (flag_of (is_clean QUOTE) b) (below_at (λ b. clean_of b is flag_of (is_clean QUOTE) b) 0x100 refl b h)

plain_byte_lem : (b : ℕ) → b < 0x100 → plain_of b ≡ flag_of plain_text b
unfolding flag_of plain_text is_clean choose◌then◌else◌
plain_byte_lem b h = eqb-true (plain_of b) (flag_of plain_text b) (below_at (λ b. plain_of b is flag_of plain_text b) 0x100 refl b h)

-- ---- the eight bytes of a word

abbrev sum_word : (flips k w : ℕ) → ℕ
sum_word flips k w = bit_xor (bit_and w 0x7F7F7F7F7F7F7F7F) flips + k

-- no sum leaves 64 bits
pub sum_fits : (w flips k : ℕ) → flips < 0x8000000000000000 → k < 0x8000000000000000 → sum_word flips k w < 0x10000000000000000
sum_fits w flips k f h =
    let l = and_le_r w 0x7F7F7F7F7F7F7F7F in
    let x : bit_xor (bit_and w 0x7F7F7F7F7F7F7F7F) flips < 0x8000000000000000 = xor_lt 63 (bit_and w 0x7F7F7F7F7F7F7F7F) flips (omega arith) f in
    omega arith

module _ (w : ℕ) (h : w < 0x100 ^ 8) where
  sum_bytes : (flip k : ℕ) → flip < 0x80 → k ≤ 0x7F → Bytewise (bytes_of 8 w) (sum_word (flip * ONES) (k * ONES) w) (sum_of flip k)
  sum_bytes flip k f g =
      let hs = all_bytes 8 w in
      add_bytes (xor_bytes hs (and_bytes hs (itself w h) (eight_times w 0x7F (omega arith))) (eight_times w flip (omega arith)))
      (eight_times w k (omega arith)) λ b l. fits b
    where
      fits : (b : ℕ) → sum_of flip k b < 0x100
      fits b = let x : bit_xor (bit_and b 0x7F) flip < 0x80 = xor_lt 7 (bit_and b 0x7F) flip (mask_lt b 7) f in omega arith

  no_mark : Bytewise (bytes_of 8 w) (sum_word 0x0202020202020202 0x5F5F5F5F5F5F5F5F w) (sum_of 0x02 0x5F)
  no_mark = sum_bytes 0x02 0x5F (omega arith) (omega arith)

  no_backslash : Bytewise (bytes_of 8 w) (sum_word 0x5C5C5C5C5C5C5C5C 0x7F7F7F7F7F7F7F7F w) (sum_of 0x5C 0x7F)
  no_backslash = sum_bytes 0x5C 0x7F (omega arith) (omega arith)

  no_ed : Bytewise (bytes_of 8 w) (sum_word 0x6D6D6D6D6D6D6D6D 0x7F7F7F7F7F7F7F7F w) (sum_of 0x6D 0x7F)
  no_ed = sum_bytes 0x6D 0x7F (omega arith) (omega arith)

  -- the top bit alone, inverted
  turned : {v : ℕ} {f : ℕ → ℕ} → Bytewise (bytes_of 8 w) v f
      → Bytewise (bytes_of 8 w) (bit_xor (bit_and v 0x8080808080808080) 0x8080808080808080) (λ b. bit_xor (bit_and (f b) 0x80) 0x80)
  turned x = let hs = all_bytes 8 w in xor_bytes hs (and_bytes hs x (eight_times w 0x80 (omega arith))) (eight_times w 0x80 (omega arith))

  pub clean_flags : Flags (is_clean QUOTE) w
      (bit_xor (bit_and (bit_or (bit_and (sum_word 0x0202020202020202 0x5F5F5F5F5F5F5F5F w) (sum_word 0x5C5C5C5C5C5C5C5C 0x7F7F7F7F7F7F7F7F w)) w)
      0x8080808080808080) 0x8080808080808080)
  clean_flags = let hs = all_bytes 8 w in flags_from (turned (or_bytes hs (and_bytes hs no_mark no_backslash) (itself w h))) clean_byte

  pub plain_flags : Flags plain_text w
      (bit_xor
      (bit_and
      (bit_or (bit_and (bit_and (sum_word 0x0202020202020202 0x5F5F5F5F5F5F5F5F w) (sum_word 0x5C5C5C5C5C5C5C5C 0x7F7F7F7F7F7F7F7F w))
      (0xFFFFFFFFFFFFFFFF - w)) (bit_and (sum_word 0x6D6D6D6D6D6D6D6D 0x7F7F7F7F7F7F7F7F w) w))
      0x8080808080808080)
      0x8080808080808080)
  plain_flags =
      let hs = all_bytes 8 w in
      let others = sub_bytes hs (eight_times w 0xFF (omega arith)) (itself w h) (λ b l. omega arith) in
      flags_from (turned (or_bytes hs (and_bytes hs (and_bytes hs no_mark no_backslash) others) (and_bytes hs no_ed (itself w h)))) plain_byte_lem
