-- Reading a word from a slice, and the index of its first flag: the trailing zeros count the zero bytes before it.
use Prim.Native.Nat.{ℕ, zero, suc, ◌+◌, ◌*◌, ◌-◌, ◌/◌, ◌%◌, ◌^◌, ◌≤◌, ◌<◌}
use native.Mathlib.Nat.{mul-one}
use native.Mathlib.Omega.{arith}
use mathlib.Core.Path.{◌≡◌, refl, sym, ap, ◌∙◌}
use mathlib.Core.List.{[], ◌∷◌, ◌++◌}
use lib.ListN.{length, drop, get_or}
use lib.Seq.{drop-cons}
use lib.Bits.{bit_or, or_shifted_r, shifted_even, shifted_half}
use lib.Count.{count_trailing_zeros, under}
use borrow.Author.Tests.{eqb-true, eqb-false}
use Rattle.model.specs.rules.Base.{Bytes, choose◌then◌else◌, ◌is◌}
use Rattle.model.specs.rules.Api.{slice}
use Rattle.model.proofs.Tests.{split_on}
use Rattle.swar.specs.Words.{word_of, bytes_of, Word, zero_bytes}
use Rattle.swar.proofs.Bytewise.{AllBytes, no_bytes, and_byte, bytes_back, word_back, all_bytes}

-- ---- eight bytes of a slice

next_byte : (s : Bytes) (i j : ℕ) → j ≡ suc i → i < length s → drop i s ≡ get_or s i 0 ∷ drop j s
next_byte s i j e h = rw e (drop-cons s i 0 h)

word_bytes : (s : Bytes) (i : ℕ) → i + 8 ≤ length s
    → slice s i (i + 8) ≡ get_or s i 0 ∷ get_or s (i + 1) 0 ∷ get_or s (i + 2) 0 ∷ get_or s (i + 3) 0 ∷ get_or s (i + 4) 0 ∷ get_or s (i + 5) 0 ∷ get_or s
    (i + 6) 0 ∷ get_or s (i + 7) 0 ∷ []
word_bytes s i h =
    let n : i + 8 - i ≡ 8 = omega arith in
    let e0 = next_byte s i (i + 1) (omega arith) (omega arith) in
    let e1 = next_byte s (i + 1) (i + 2) (omega arith) (omega arith) in
    let e2 = next_byte s (i + 2) (i + 3) (omega arith) (omega arith) in
    let e3 = next_byte s (i + 3) (i + 4) (omega arith) (omega arith) in
    let e4 = next_byte s (i + 4) (i + 5) (omega arith) (omega arith) in
    let e5 = next_byte s (i + 5) (i + 6) (omega arith) (omega arith) in
    let e6 = next_byte s (i + 6) (i + 7) (omega arith) (omega arith) in
    let e7 = next_byte s (i + 7) (i + 8) (omega arith) (omega arith) in
    rw (n, e0, e1, e2, e3, e4, e5, e6, e7)

pub word_read : (s : Bytes) (i w : ℕ) → i + 8 ≤ length s → ((j : ℕ) → get_or s j 0 < 0x100)
    → w ≡ word_of (get_or s i 0 ∷ get_or s (i + 1) 0 ∷ get_or s (i + 2) 0 ∷ get_or s (i + 3) 0 ∷ get_or s (i + 4) 0 ∷ get_or s (i + 5) 0 ∷ get_or s (i + 6)
    0 ∷ get_or s (i + 7) 0 ∷ [])
    → Word (slice s i (i + 8)) w
word_read s i w h byte e =
    let same = word_bytes s i h in
    let all =
    and_byte (byte i) (and_byte (byte (i + 1)) (and_byte (byte (i + 2))
    (and_byte (byte (i + 3)) (and_byte (byte (i + 4)) (and_byte (byte (i + 5)) (and_byte (byte (i + 6)) (and_byte (byte (i + 7)) no_bytes)))))))
    in
    record { value = e ∙ ap word_of (sym same); bytes = ap (bytes_of 8) e ∙ bytes_back all ∙ sym same }

-- eight bytes joined, each above those before it
pub joined_word : (b0 b1 b2 b3 b4 b5 b6 b7 : ℕ) → b0 < 0x100 → b1 < 0x100 → b2 < 0x100 → b3 < 0x100 → b4 < 0x100 → b5 < 0x100 → b6 < 0x100
    → bit_or (bit_or (bit_or (bit_or (bit_or (bit_or (bit_or b0 (b1 * 0x100)) (b2 * 0x10000)) (b3 * 0x1000000)) (b4 * 0x100000000))
    (b5 * 0x10000000000)) (b6 * 0x1000000000000)) (b7 * 0x100000000000000)
    ≡ word_of (b0 ∷ b1 ∷ b2 ∷ b3 ∷ b4 ∷ b5 ∷ b6 ∷ b7 ∷ [])
unfolding word_of
joined_word b0 b1 b2 b3 b4 b5 b6 b7 h0 h1 h2 h3 h4 h5 h6 =
    let e1 = or_shifted_r b1 8 b0 h0 in
    let e2 = or_shifted_r b2 16 (bit_or b0 (b1 * 0x100)) (omega arith) in
    let e3 = or_shifted_r b3 24 (bit_or (bit_or b0 (b1 * 0x100)) (b2 * 0x10000)) (omega arith) in
    let e4 = or_shifted_r b4 32 (bit_or (bit_or (bit_or b0 (b1 * 0x100)) (b2 * 0x10000)) (b3 * 0x1000000)) (omega arith) in
    let e5 = or_shifted_r b5 40 (bit_or (bit_or (bit_or (bit_or b0 (b1 * 0x100)) (b2 * 0x10000)) (b3 * 0x1000000)) (b4 * 0x100000000)) (omega arith) in
    let e6 =
    or_shifted_r b6 48 (bit_or (bit_or (bit_or (bit_or (bit_or b0 (b1 * 0x100)) (b2 * 0x10000)) (b3 * 0x1000000)) (b4 * 0x100000000))
    (b5 * 0x10000000000)) (omega arith) in
    let e7 =
    or_shifted_r b7 56 (bit_or (bit_or (bit_or (bit_or (bit_or (bit_or b0 (b1 * 0x100)) (b2 * 0x10000)) (b3 * 0x1000000)) (b4 * 0x100000000))
    (b5 * 0x10000000000)) (b6 * 0x1000000000000)) (omega arith) in
    omega arith

-- ---- four bytes

four_bytes : (s : Bytes) (i : ℕ) → i + 4 ≤ length s → slice s i (i + 4) ≡ get_or s i 0 ∷ get_or s (i + 1) 0 ∷ get_or s (i + 2) 0 ∷ get_or s (i + 3) 0 ∷ []
four_bytes s i h =
    let n : i + 4 - i ≡ 4 = omega arith in
    let e0 = next_byte s i (i + 1) (omega arith) (omega arith) in
    let e1 = next_byte s (i + 1) (i + 2) (omega arith) (omega arith) in
    let e2 = next_byte s (i + 2) (i + 3) (omega arith) (omega arith) in
    let e3 = next_byte s (i + 3) (i + 4) (omega arith) (omega arith) in
    rw (n, e0, e1, e2, e3)

pub four_read : (s : Bytes) (i w : ℕ) → i + 4 ≤ length s → ((j : ℕ) → get_or s j 0 < 0x100)
    → w ≡ word_of (get_or s i 0 ∷ get_or s (i + 1) 0 ∷ get_or s (i + 2) 0 ∷ get_or s (i + 3) 0 ∷ 0 ∷ 0 ∷ 0 ∷ 0 ∷ [])
    → (bytes_of 4 w ≡ slice s i (i + 4)) × (w < 0x100000000)
unfolding word_of
four_read s i w h byte e =
    let h0 = byte i in
    let h1 = byte (i + 1) in
    let h2 = byte (i + 2) in
    let h3 = byte (i + 3) in
    let low : w ≡ word_of (get_or s i 0 ∷ get_or s (i + 1) 0 ∷ get_or s (i + 2) 0 ∷ get_or s (i + 3) 0 ∷ []) = omega arith in
    (ap (bytes_of 4) low ∙ bytes_back (and_byte h0 (and_byte h1 (and_byte h2 (and_byte h3 no_bytes)))) ∙ sym (four_bytes s i h), omega arith)

-- two groups of four
both_bytes : {xs ys : Bytes} → AllBytes xs → AllBytes ys → AllBytes (xs ++ ys)
both_bytes no_bytes k = k
both_bytes (and_byte h hs) k = and_byte h (both_bytes hs k)

pub fours_joined : (a b : ℕ) → a < 0x100000000 → b < 0x100000000 → bytes_of 8 (bit_or a (b * 0x100000000)) ≡ bytes_of 4 a ++ bytes_of 4 b
unfolding word_of bytes_of
fours_joined a b h k =
    let e = or_shifted_r b 32 a h in
    let first : word_of (bytes_of 4 a) ≡ a = word_back 4 a h in
    let second : word_of (bytes_of 4 b) ≡ b = word_back 4 b k in
    let whole : bit_or a (b * 0x100000000) ≡ word_of (bytes_of 4 a ++ bytes_of 4 b) = omega arith in
    ap (bytes_of 8) whole ∙ bytes_back (both_bytes (all_bytes 4 a) (all_bytes 4 b))

-- three bytes and five spaces
pub three_bytes : (w b0 b1 b2 : ℕ) → b0 < 0x100 → b1 < 0x100 → b2 < 0x100 → w ≡ word_of (b0 ∷ b1 ∷ b2 ∷ 0x20 ∷ 0x20 ∷ 0x20 ∷ 0x20 ∷ 0x20 ∷ [])
    → bytes_of 8 w ≡ b0 ∷ b1 ∷ b2 ∷ 0x20 ∷ 0x20 ∷ 0x20 ∷ 0x20 ∷ 0x20 ∷ []
three_bytes w b0 b1 b2 h0 h1 h2 e =
    let k : 0x20 < 0x100 = omega arith in
    ap (bytes_of 8) e ∙ bytes_back (and_byte h0 (and_byte h1 (and_byte h2 (and_byte k (and_byte k (and_byte k (and_byte k (and_byte k no_bytes))))))))

-- ---- trailing zeros

abbrev plus : (j k : ℕ) → ℕ
plus zero k = k
plus (suc j) k = suc (plus j k)

-- the digits of a shift are zeros
shifted_zeros : (j k a : ℕ) → count_trailing_zeros (plus j k) (a * 2 ^ j) ≡ plus j (count_trailing_zeros k a)
unfolding count_trailing_zeros
shifted_zeros zero k a = ap (count_trailing_zeros k) (mul-one a)
shifted_zeros (suc j) k a = rw (shifted_even a j, shifted_half a j) (ap suc (shifted_zeros j k a))

-- a zero byte is eight zeros before those of the next bytes
zero_byte : (k w : ℕ) → w % 0x100 ≡ 0 → count_trailing_zeros (plus 8 k) w ≡ plus 8 (count_trailing_zeros k (w / 0x100))
zero_byte k w h = let e : w ≡ w / 0x100 * 2 ^ 8 = omega arith in ap (count_trailing_zeros (plus 8 k)) e ∙ shifted_zeros 8 k (w / 0x100)

next_digit : (n k w : ℕ) → (w % 2 ≡ 0 → count_trailing_zeros k (w / 2) < n) → count_trailing_zeros (suc k) w < suc n
unfolding count_trailing_zeros
next_digit n k w h = go (w % 2) h
  where
    go : (d : ℕ) → (d ≡ 0 → count_trailing_zeros k (w / 2) < n) → under d (count_trailing_zeros k (w / 2)) < suc n
    go zero f = let l = f refl in omega arith
    go (suc d) f = omega arith

-- fewer than eight zeros
other_byte : (k w : ℕ) → ¬ (w % 0x100 ≡ 0) → count_trailing_zeros (plus 8 k) w < 8
other_byte k w h =
    next_digit 7 _ w λ e0.
    next_digit 6 _ (w / 2) λ e1.
    next_digit 5 _ (w / 2 / 2) λ e2.
    next_digit 4 _ (w / 2 / 2 / 2) λ e3.
    next_digit 3 _ (w / 2 / 2 / 2 / 2) λ e4.
    next_digit 2 _ (w / 2 / 2 / 2 / 2 / 2) λ e5.
    next_digit 1 _ (w / 2 / 2 / 2 / 2 / 2 / 2) λ e6.
    next_digit 0 k (w / 2 / 2 / 2 / 2 / 2 / 2 / 2) λ e7.
    absurd (h (omega arith))

-- the digits of n bytes
abbrev digits_of : ℕ → ℕ
digits_of zero = 0
digits_of (suc n) = plus 8 (digits_of n)

zeros_bytes : (n w : ℕ) → count_trailing_zeros (digits_of n) w / 8 ≡ zero_bytes (bytes_of n w)
unfolding count_trailing_zeros zero_bytes bytes_of choose◌then◌else◌
zeros_bytes zero w = refl
zeros_bytes (suc n) w =
    split_on ((w % 0x100) is 0)
    (λ t. let e = zero_byte (digits_of n) w (eqb-true (w % 0x100) 0 t) in let ih = zeros_bytes n (w / 0x100) in rw t (omega arith))
    λ t. let l = other_byte (digits_of n) w (eqb-false (w % 0x100) 0 t) in rw t (omega arith)

pub zeros_word : (w : ℕ) → count_trailing_zeros 64 w / 8 ≡ zero_bytes (bytes_of 8 w)
zeros_word w = zeros_bytes 8 w

-- of a word that is not 0, some byte is not
pub flag_within : (n w : ℕ) → w < 0x100 ^ n → ¬ (w ≡ 0) → zero_bytes (bytes_of n w) < n
unfolding zero_bytes bytes_of choose◌then◌else◌
flag_within zero w h k = absurd (k (omega arith))
flag_within (suc n) w h k =
    split_on ((w % 0x100) is 0)
    (λ t.
    let e = eqb-true (w % 0x100) 0 t in
    let ih = flag_within n (w / 0x100) (omega arith) (λ z. k (omega arith)) in rw t (omega arith))
    λ t. rw t (omega arith)
