-- What is required of the bytes of a raw cell before its content is written, beside their number: they hold no raw lone surrogate.
-- Content may hold one, by an escape of CSVJ (§2.4).
use Rattle.std.specs.Prelude.{ℕ, ◌+◌, ◌≤◌, ◌<◌, ◌≡◌, length, get_or}
use Rattle.model.specs.rules.Base.{Bytes}

-- the byte after i is one that may follow ED in a character
pub record EdFollows (raw : Bytes) (i : ℕ) : Type 0 where
  pub least : 0x80 ≤ get_or raw (i + 1) 0
  pub most : get_or raw (i + 1) 0 < 0xA0

-- no ED begins a lone surrogate or comes before a quote or an escape; nothing is required after the last byte
abbrev pub EdFollowed : Bytes → Type 0
EdFollowed raw = (i : ℕ) → i + 1 < length raw → get_or raw i 0 ≡ 0xED → EdFollows raw i
