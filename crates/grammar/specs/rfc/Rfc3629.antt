-- UTF-8 by RFC 3629: the productions of its section 4 in its order, and the octets of a code point by the table of its section 3.
use Rattle.std.specs.Prelude.{ℕ, ◌+◌, ◌*◌, ◌≤◌, ◌≡◌, [], ◌∷◌, ◌++◌}
use Rattle.model.specs.rules.Base.{Bytes}
use Rattle.grammar.specs.rfc.Rfc5234.{◌from◌to◌}

mutual
  -- UTF8-octets = *( UTF8-char )
  pub data UTF8-octets : Bytes → Type 0 where
    no_octets : UTF8-octets []
    octets : {cs bs : Bytes} → UTF8-char cs → UTF8-octets bs → UTF8-octets (cs ++ bs)

  -- UTF8-char = UTF8-1 / UTF8-2 / UTF8-3 / UTF8-4
  pub data UTF8-char : Bytes → Type 0 where
    char_1 : {cs : Bytes} → UTF8-1 cs → UTF8-char cs
    char_2 : {cs : Bytes} → UTF8-2 cs → UTF8-char cs
    char_3 : {cs : Bytes} → UTF8-3 cs → UTF8-char cs
    char_4 : {cs : Bytes} → UTF8-4 cs → UTF8-char cs

  -- UTF8-1 = %x00-7F
  pub data UTF8-1 : Bytes → Type 0 where
    one : {a : ℕ} → a from 0x00 to 0x7F → UTF8-1 (a ∷ [])

  -- UTF8-2 = %xC2-DF UTF8-tail
  pub data UTF8-2 : Bytes → Type 0 where
    c2_df : {a b : ℕ} → a from 0xC2 to 0xDF → UTF8-tail b → UTF8-2 (a ∷ b ∷ [])

  -- UTF8-3 = %xE0 %xA0-BF UTF8-tail / %xE1-EC 2( UTF8-tail ) / %xED %x80-9F UTF8-tail / %xEE-EF 2( UTF8-tail )
  pub data UTF8-3 : Bytes → Type 0 where
    e0 : {b c : ℕ} → b from 0xA0 to 0xBF → UTF8-tail c → UTF8-3 (0xE0 ∷ b ∷ c ∷ [])
    e1_ec : {a b c : ℕ} → a from 0xE1 to 0xEC → UTF8-tail b → UTF8-tail c → UTF8-3 (a ∷ b ∷ c ∷ [])
    ed : {b c : ℕ} → b from 0x80 to 0x9F → UTF8-tail c → UTF8-3 (0xED ∷ b ∷ c ∷ [])
    ee_ef : {a b c : ℕ} → a from 0xEE to 0xEF → UTF8-tail b → UTF8-tail c → UTF8-3 (a ∷ b ∷ c ∷ [])

  -- UTF8-4 = %xF0 %x90-BF 2( UTF8-tail ) / %xF1-F3 3( UTF8-tail ) / %xF4 %x80-8F 2( UTF8-tail )
  pub data UTF8-4 : Bytes → Type 0 where
    f0 : {b c d : ℕ} → b from 0x90 to 0xBF → UTF8-tail c → UTF8-tail d → UTF8-4 (0xF0 ∷ b ∷ c ∷ d ∷ [])
    f1_f3 : {a b c d : ℕ} → a from 0xF1 to 0xF3 → UTF8-tail b → UTF8-tail c → UTF8-tail d → UTF8-4 (a ∷ b ∷ c ∷ d ∷ [])
    f4 : {b c d : ℕ} → b from 0x80 to 0x8F → UTF8-tail c → UTF8-tail d → UTF8-4 (0xF4 ∷ b ∷ c ∷ d ∷ [])

  -- UTF8-tail = %x80-BF
  pub data UTF8-tail : ℕ → Type 0 where
    tail : {b : ℕ} → b from 0x80 to 0xBF → UTF8-tail b

-- UTF8-2 / UTF8-3 / UTF8-4, the characters beyond 7F. TDIF calls it so: UTF8-data = UTF8-2 / UTF8-3 / UTF8-4
pub data UTF8-data : Bytes → Type 0 where
  of_two : {cs : Bytes} → UTF8-2 cs → UTF8-data cs
  of_three : {cs : Bytes} → UTF8-3 cs → UTF8-data cs
  of_four : {cs : Bytes} → UTF8-4 cs → UTF8-data cs

-- Char. number range  | UTF-8 octet sequence
-- 0000 0000-0000 007F | 0xxxxxxx
-- 0000 0080-0000 07FF | 110xxxxx 10xxxxxx
-- 0000 0800-0000 FFFF | 1110xxxx 10xxxxxx 10xxxxxx
-- 0001 0000-0010 FFFF | 11110xxx 10xxxxxx 10xxxxxx 10xxxxxx
-- The third row departs from RFC 3629 in holding D800-DFFF too, for lone surrogates (§2.6 §2.10)
pub data Octets (u : ℕ) : Bytes → Type 0 where
  one_octet : u from 0x0000 to 0x007F → Octets u (u ∷ [])
  two_octets : (w x : ℕ) → u from 0x0080 to 0x07FF → u ≡ w * 0x40 + x → x ≤ 0x3F → Octets u ((0xC0 + w) ∷ (0x80 + x) ∷ [])
  three_octets :
      (w x y : ℕ) → u from 0x0800 to 0xFFFF → u ≡ w * 0x1000 + x * 0x40 + y → x ≤ 0x3F → y ≤ 0x3F →
      Octets u ((0xE0 + w) ∷ (0x80 + x) ∷ (0x80 + y) ∷ [])
  four_octets :
      (w x y z : ℕ) → u from 0x10000 to 0x10FFFF → u ≡ w * 0x40000 + x * 0x1000 + y * 0x40 + z → x ≤ 0x3F → y ≤ 0x3F → z ≤ 0x3F →
      Octets u ((0xF0 + w) ∷ (0x80 + x) ∷ (0x80 + y) ∷ (0x80 + z) ∷ [])
