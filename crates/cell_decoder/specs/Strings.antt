-- The content of a CSVJ string from an offset on, and of the escape there.
use Rattle.std.specs.Prelude.{ℕ, ◌+◌, ◌-◌, ◌*◌, ◌<◌, ◌≤◌, ◌≡◌, true, Option, Some, None, List, [], ◌∷◌, ◌++◌, length, drop, get_or}
use Rattle.model.specs.rules.Base.{Bytes, BACKSLASH}
use Rattle.model.specs.rules.Utf8.{pack, is_low}
use Rattle.model.specs.rules.Decode.{Unit16, unit, hex_of, between, units, text_of}
use Rattle.cell_decoder.specs.Units.{Unit}

-- the bytes of a string from offset i on, up to the closing quote
abbrev pub string_from : Bytes → ℕ → Bytes
string_from raw i = text_of (units between (drop i raw))

-- the code unit of the four digits at i
abbrev pub unit_at : Bytes → ℕ → ℕ
unit_at raw i =
    ((hex_of (get_or raw i 0) * 0x10 + hex_of (get_or raw (i + 1) 0)) * 0x10 + hex_of (get_or raw (i + 2) 0)) * 0x10 + hex_of (get_or raw (i + 3) 0)

-- a \u escape with all its digits is at i
pub record UnitThere (raw : Bytes) (i : ℕ) : Type 0 where
  pub inside : i + 6 ≤ length raw
  pub backslash : get_or raw i 0 ≡ BACKSLASH
  pub letter : get_or raw (i + 1) 0 ≡ 0x75

-- nothing in us joins a surrogate before it
abbrev pub Lone : List Unit16 → Type 0
Lone us = (h : ℕ) → text_of (unit h ∷ us) ≡ pack h ++ text_of us

-- an escape at i names the low surrogate r
pub record LowThere (raw : Bytes) (i r : ℕ) : Type 0 where
  pub low : is_low r ≡ true
  pub inside : i + 6 ≤ length raw
  pub there : units between (drop i raw) ≡ unit r ∷ units between (drop (i + 6) raw)

-- the low surrogate of the escape at i, if there is one
abbrev pub LowAt : Bytes → ℕ → Option ℕ → Type 0
LowAt raw i (Some l) = LowThere raw i l
LowAt raw i None = Lone (units between (drop i raw))

-- `text` is the string's content at i, one unit or nothing, and the string continues at `next`; a single byte ED is in the string itself,
-- before `next`
pub record Proceeds (raw : Bytes) (i : ℕ) (text : Bytes) (next : ℕ) : Type 0 where
  pub stands : string_from raw i ≡ text ++ string_from raw next
  pub on : i + length text < next
  pub inside : next ≤ length raw
  pub unit : 0 < length text → Unit text
  pub single : text ≡ 0xED ∷ [] → get_or raw (next - 1) 0 ≡ 0xED
