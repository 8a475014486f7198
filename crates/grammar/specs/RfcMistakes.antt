-- The mistakes that these productions do not make. Each field says so of one, at the production that would be widened to make it;
-- `proofs/AbsentInRfcs.antt` proves it by case analysis of the productions.
use Rattle.std.specs.Prelude.{◌≡◌, [], ◌∷◌, length}
use Rattle.model.specs.rules.Base.{Bytes}
use Rattle.grammar.specs.rfc.Rfc3629.{UTF8-3}
use Rattle.grammar.specs.rfc.Rfc8259 as json

pub record RfcMistakes : Type 0 where
  -- a leading zero: 01 (§3.5)
  pub leading_zero : ¬ json.Int (0x30 ∷ 0x31 ∷ [])
  -- a raw control byte in a CSVJ string (§3.7)
  pub control_byte : ¬ json.Unescaped (0x01 ∷ [])
  -- a surrogate in UTF-8 (§2.11)
  pub raw_surrogate : ¬ UTF8-3 (0xED ∷ 0xA0 ∷ 0x80 ∷ [])
  -- the halves of a pair decoded apart: \ud83d\ude00 is one code point, of four bytes (§2.8)
  pub halves_apart : (ts : Bytes) → json.Content (json.unit 0xD83D ∷ json.unit 0xDE00 ∷ []) ts → length ts ≡ 4
