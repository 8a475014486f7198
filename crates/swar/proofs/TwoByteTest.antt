-- The test of a word for characters of two bytes. Its masks take turns, so each operation is taken at each place of the word; what it leaves
-- there is computed for all 256 bytes.
use Prim.Native.Nat.{ℕ, zero, suc, ◌+◌, ◌-◌, ◌*◌, ◌%◌, ◌^◌, ◌≤◌, ◌<◌}
use native.Mathlib.Omega.{arith}
use mathlib.Core.Path.{◌≡◌, refl, sym}
use mathlib.Core.Bool.{Bool, true, false}
use mathlib.Core.List.{[], ◌∷◌, map}
use lib.ListN.{get_or}
use lib.Bits.{bit_and, bit_or, bit_xor, and_le_r}
use Rattle.std.proofs.lemmas.Bool.{agree_below_at}
use Rattle.model.specs.rules.Base.{Bytes, choose◌then◌else◌, ◌is◌, within}
use Rattle.model.specs.rules.Utf8.{is_later}
use Rattle.model.proofs.Tests.{split}
use Rattle.swar.specs.Words.{word_of, bytes_of, zero_bytes, by_turns, two_byte_prefix}
use Rattle.swar.proofs.Bytewise.{AllBytes, no_bytes, and_byte, bytes_back, word_back, all_bytes, Bytewise, and_bytes, or_bytes, xor_bytes, sub_bytes}

-- ---- one byte

-- what is left of a first byte, and of a later one
abbrev first_left : ℕ → ℕ
first_left b = bit_and (bit_or (bit_xor b 0xC0) (0x21 - bit_and b 0x1E)) 0xE0

abbrev later_left : ℕ → ℕ
later_left b = bit_and (bit_or (bit_xor b 0x80) (0 - bit_and b 0)) 0xC0

first_none : (b : ℕ) → b < 0x100 → (first_left b is 0) ≡ within 0xC2 0xDF b
first_none b h = agree_below_at (λ c. first_left c is 0) (within 0xC2 0xDF) 0x100 b refl h

later_none : (b : ℕ) → b < 0x100 → (later_left b is 0) ≡ is_later b
later_none b h = agree_below_at (λ c. later_left c is 0) is_later 0x100 b refl h

-- ---- the places of a word

abbrev places : Bytes
places = 0 ∷ 1 ∷ 2 ∷ 3 ∷ 4 ∷ 5 ∷ 6 ∷ 7 ∷ []

in_places : AllBytes places
unfolding bytes_of
in_places = all_bytes 8 0x0706050403020100

-- one number at the even places, another at the odd ones
abbrev turn : (x y k : ℕ) → ℕ
turn x y k = choose (k % 2) is 0 then x else y

turns : (x y : ℕ) → x < 0x100 → y < 0x100 → Bytewise places ((x + 0x100 * y) * 0x0001000100010001) (turn x y)
unfolding word_of choose◌then◌else◌
turns x y h k = record { word = omega arith; byte = λ n l. split (λ (m : ℕ). m < 0x100) _ (λ _. h) λ _. k }

turn_less : (x y m n k : ℕ) → x ≤ m → y ≤ n → turn x y k ≤ turn m n k
unfolding choose◌then◌else◌
turn_less x y m n k h l = go ((k % 2) is 0)
  where
    go : (t : Bool) → (choose t then x else y) ≤ (choose t then m else n)
    go true = h
    go false = l

map_bytes : (f : ℕ → ℕ) → ((b : ℕ) → b < 0x100 → f b < 0x100) → {bs : Bytes} → AllBytes bs → AllBytes (map f bs)
map_bytes f k no_bytes = no_bytes
map_bytes f k (and_byte {b} h hs) = and_byte (k b h) (map_bytes f k hs)

byte_at : {bs : Bytes} → AllBytes bs → (k : ℕ) → get_or bs k 0 < 0x100
byte_at no_bytes k = omega arith
byte_at (and_byte h hs) zero = h
byte_at (and_byte h hs) (suc k) = byte_at hs k

module _ (w : ℕ) (h : w < 0x100 ^ 8) where
  abbrev at : ℕ → ℕ
  at k = get_or (bytes_of 8 w) k 0

  at_byte : (k : ℕ) → at k < 0x100
  at_byte k = byte_at (all_bytes 8 w) k

  each : Bytewise places w at
  unfolding bytes_of
  each = record { word = sym (word_back 8 w h); byte = λ k l. at_byte k }

  abbrev left : ℕ → ℕ
  left k = bit_and (bit_or (bit_xor (at k) (turn 0xC0 0x80 k)) (turn 0x21 0 k - bit_and (at k) (turn 0x1E 0 k))) (turn 0xE0 0xC0 k)

  all_left : Bytewise places (bit_and (bit_or (bit_xor w 0x80C080C080C080C0) (0x0021002100210021 - bit_and w 0x001E001E001E001E)) 0xC0E0C0E0C0E0C0E0) left
  all_left =
      let hs = in_places in
      let rest = xor_bytes hs each (turns 0xC0 0x80 (omega arith) (omega arith)) in
      let low = and_bytes hs each (turns 0x1E 0 (omega arith) (omega arith)) in
      let too_low = sub_bytes hs (turns 0x21 0 (omega arith) (omega arith)) low (λ k l. less k) in
      and_bytes hs (or_bytes hs rest too_low) (turns 0xE0 0xC0 (omega arith) (omega arith))
    where
      less : (k : ℕ) → bit_and (at k) (turn 0x1E 0 k) ≤ turn 0x21 0 k
      less k = omega (arith, and_le_r (at k) (turn 0x1E 0 k), turn_less 0x1E 0 0x21 0 k (omega arith) (omega arith))

  zeros_left : zero_bytes (map left places) ≡ two_byte_prefix (bytes_of 8 w)
  unfolding zero_bytes by_turns bytes_of choose◌then◌else◌
  zeros_left =
      let f : (k : ℕ) → (first_left (at k) is 0) ≡ within 0xC2 0xDF (at k) = λ k. first_none (at k) (at_byte k) in
      let l : (k : ℕ) → (later_left (at k) is 0) ≡ is_later (at k) = λ k. later_none (at k) (at_byte k) in
      λ i.
      choose f 0 i then suc
      (choose l 1 i then suc
      (choose f 2 i then suc
      (choose l 3 i then suc
      (choose f 4 i then suc
      (choose l 5 i then suc
      (choose f 6 i then suc
      (choose l 7 i then 1 else 0) else 0) else 0) else 0) else 0) else 0) else 0) else 0

  pub two_byte_zeros :
      zero_bytes (bytes_of 8 (bit_and (bit_or (bit_xor w 0x80C080C080C080C0) (0x0021002100210021 - bit_and w 0x001E001E001E001E)) 0xC0E0C0E0C0E0C0E0))
      ≡ two_byte_prefix (bytes_of 8 w)
  two_byte_zeros =
      let back : bytes_of 8 (word_of (map left places)) ≡ map left places = bytes_back (map_bytes left all_left.byte in_places) in
      rw (all_left.word, back) zeros_left
