-- Bytes as one number, little-endian, and tests of eight bytes at once.
use Rattle.std.specs.Prelude.{ℕ, zero, suc, ◌+◌, ◌*◌, ◌/◌, ◌%◌, ◌≤◌, ◌<◌, ◌≡◌, Bool, true, not, ◌&&◌, [], ◌∷◌, map, ltb, leb, get_or}
use Rattle.model.specs.rules.Base.{Bytes, choose◌then◌else◌, ◌is◌, within, QUOTE, BACKSLASH}
use Rattle.model.specs.rules.Utf8.{is_later}

-- bytes as one number, the first lowest
unfoldable pub word_of : Bytes → ℕ
word_of [] = 0
word_of (b ∷ bs) = b + 0x100 * word_of bs

-- and back: the n lowest bytes of a number
unfoldable pub bytes_of : (n w : ℕ) → Bytes
bytes_of zero w = []
bytes_of (suc n) w = w % 0x100 ∷ bytes_of n (w / 0x100)

-- the word of eight bytes: the number that they form, and of which they are the bytes
pub record Word (bs : Bytes) (w : ℕ) : Type 0 where
  pub value : w ≡ word_of bs
  pub bytes : bytes_of 8 w ≡ bs

-- eight bytes of 1: a byte times this is that byte repeated eight times
abbrev pub ONES : ℕ
ONES = 0x0101010101010101

-- ---- tests of a byte

-- an ordinary ASCII byte: 20 to 7E hex, and neither of the two stops
unfoldable pub ordinary : (p q b : ℕ) → Bool
ordinary p q b = within 0x20 0x7E b && not (b is p) && not (b is q)

-- a clean ASCII byte: 20 to 7F hex, no backslash, and neither of the two stops
unfoldable pub clean_ascii : (p q b : ℕ) → Bool
clean_ascii p q b = within 0x20 0x7F b && not (b is p) && not (b is q) && not (b is BACKSLASH)

-- a clean byte, one that every dialect with this quote writes verbatim inside quotes and mostly outside: at least 20 hex, neither the
-- quote nor a backslash
unfoldable pub is_clean : (quote b : ℕ) → Bool
is_clean quote b = leb 0x20 b && not (b is quote) && not (b is BACKSLASH)

-- the same with the quotation mark, and not ED hex, which may begin a lone surrogate
unfoldable pub plain_text : ℕ → Bool
plain_text b = is_clean QUOTE b && not (b is 0xED)

-- the stop as it is compared: no byte from 80 hex on is ordinary or clean anyway, so such a stop is replaced by 0, which is neither
unfoldable pub ascii_stop : ℕ → ℕ
ascii_stop p = choose ltb p 0x80 then p else 0

abbrev pub is_byte : (c b : ℕ) → Bool
is_byte c b = b is c

abbrev pub is_below : (n b : ℕ) → Bool
is_below n b = ltb b n

-- ---- a test of each byte of a word

-- the flag of a byte, its top bit: set if the byte does not pass
unfoldable pub flag_of : (passes : ℕ → Bool) (b : ℕ) → ℕ
flag_of passes b = choose passes b then 0 else 0x80

unfoldable pub all_pass : (passes : ℕ → Bool) → Bytes → Bool
all_pass passes [] = true
all_pass passes (b ∷ bs) = passes b && all_pass passes bs

-- each byte's flag; so the word is 0 exactly if all eight pass
pub record Flags (passes : ℕ → Bool) (w flags : ℕ) : Type 0 where
  pub bytewise : flags ≡ word_of (map (flag_of passes) (bytes_of 8 w))
  pub exact : (flags is 0) ≡ all_pass passes (bytes_of 8 w)

-- how many bytes of 0 come first
unfoldable pub zero_bytes : Bytes → ℕ
zero_bytes [] = 0
zero_bytes (b ∷ bs) = choose b is 0 then suc (zero_bytes bs) else 0

-- the length of the longest prefix whose bytes all pass
unfoldable pub passing : (passes : ℕ → Bool) → Bytes → ℕ
passing passes [] = 0
passing passes (b ∷ bs) = choose passes b then suc (passing passes bs) else 0

-- how many first bytes pass two tests by turns: the first byte one, the next byte the other
unfoldable pub by_turns : (this other : ℕ → Bool) → Bytes → ℕ
by_turns this other [] = 0
by_turns this other (b ∷ bs) = choose this b then suc (by_turns other this bs) else 0

-- how many first bytes lie as in characters of two bytes: C2 to DF hex, then a later byte (§2.11)
abbrev pub two_byte_prefix : Bytes → ℕ
two_byte_prefix bs = by_turns (within 0xC2 0xDF) is_later bs

-- ---- spans of bytes

-- all bytes from `from` up to `upto` pass
pub record AllIn (passes : ℕ → Bool) (s : Bytes) (from upto : ℕ) : Type 0 where
  pub each : (k : ℕ) → from ≤ k → k < upto → passes (get_or s k 0) ≡ true

-- a word that covers the last bytes of a span, eight of them or all that it has: a test that all bytes of the word pass, these pass
pub record LastBytes (s : Bytes) (from upto w : ℕ) : Type 0 where
  pub each : (passes : ℕ → Bool) → all_pass passes (bytes_of 8 w) ≡ true → (k : ℕ) → from ≤ k → k < upto → upto ≤ k + 8 → passes (get_or s k 0) ≡ true
