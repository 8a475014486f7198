-- The content of a raw cell by offset: what it is from an offset on, and the unit there.
use Rattle.std.specs.Prelude.{ℕ, ◌-◌, ◌<◌, ◌≤◌, ◌≡◌, false, [], ◌∷◌, ◌++◌, length, drop, get_or}
use Rattle.model.specs.rules.Base.{Bytes, QUOTE}
use Rattle.model.specs.rules.Report.{MAXRECORD}
use Rattle.model.specs.rules.Decode.{undouble, between, units, text_of}
use Rattle.cell_decoder.specs.Units.{Unit}
use Rattle.cell_decoder.specs.FirstByte.{content_in}
use Rattle.cell_decoder.specs.Followed.{EdFollowed}
use Rattle.cell_decoder.specs.declared.first_byte.Spelling.{Spelling}
use Rattle.cell_decoder.specs.declared.first_byte.Spelling.TheVariants.{Nothing, AsItStands, Doubled, Escaped}

-- the content of the rest of a cell; a cell without content is read verbatim, from its end on
abbrev pub content_on : Spelling → Bytes → Bytes
content_on Nothing bs = bs
content_on AsItStands bs = bs
content_on (Doubled q) bs = undouble q false bs
content_on Escaped bs = text_of (units between bs)

abbrev pub content_from : Spelling → Bytes → ℕ → Bytes
content_from c raw i = content_on c (drop i raw)

-- the byte that is not verbatim in a cell, beside the backslash
abbrev pub source_quote : Spelling → ℕ
source_quote Nothing = QUOTE
source_quote AsItStands = QUOTE
source_quote (Doubled q) = q
source_quote Escaped = QUOTE

-- a cell that has to be decoded, as it is in a sound file: its content is at most a record long, and has a lone surrogate by an escape
-- only
pub data Decoded : Spelling → Bytes → Type 0 where
  by_doubled : {q : ℕ} {raw : Bytes} → q ≤ 0x7F → length (content_in (Doubled q) raw) ≤ MAXRECORD → EdFollowed raw → Decoded (Doubled q) raw
  by_string : {raw : Bytes} → length (content_in Escaped raw) ≤ MAXRECORD → EdFollowed raw → Decoded Escaped raw

-- a cell whose content may be read: any bytes where nothing is decoded, and otherwise as in `Decoded`
abbrev pub Legible : Spelling → Bytes → Type 0
Legible c raw =
    (c ≡ Nothing → ⊥) → (c ≡ AsItStands → ⊥)
    → ((q : ℕ) → c ≡ Doubled q → q ≤ 0x7F) × (length (content_in c raw) ≤ MAXRECORD) × EdFollowed raw

-- `text` is the content at i, one unit or nothing, and it continues at `next`; a single byte ED is in the cell itself, before `next`
pub record Part (c : Spelling) (raw : Bytes) (i : ℕ) (text : Bytes) (next : ℕ) : Type 0 where
  pub stands : content_from c raw i ≡ text ++ content_from c raw next
  pub on : i < next
  pub inside : next ≤ length raw
  pub unit : 0 < length text → Unit text
  pub single : text ≡ 0xED ∷ [] → get_or raw (next - 1) 0 ≡ 0xED
