-- The productions make none of the mistakes (`RfcMistakes`), by case analysis of each production; no automaton takes part. It is
-- checked before the theorems of this crate, so that a production that is widened to make one is refused here, at the law of that
-- name. `Absent.antt` puts the laws together, so nothing here rests on one of them.
use Prim.Native.Nat.{◌≤◌}
use native.Mathlib.Omega.{arith}
use mathlib.Core.Path.{◌≡◌, refl, ◌∙◌}
use mathlib.Core.List.{[], ◌∷◌}
use lib.ListN.{length, length-append}
use Rattle.model.specs.rules.Base.{Bytes}
use Rattle.grammar.specs.rfc.Rfc3629.{UTF8-3, e1_ec, ed, ee_ef, of_two, of_three, of_four}
use Rattle.grammar.specs.rfc.Rfc3629.{Octets, one_octet, two_octets, three_octets, four_octets}
use Rattle.grammar.specs.rfc.Rfc8259 as json

-- ---- RFC 8259 and RFC 3629

-- 01 is no int
pub leading_zero : json.Int (0x30 ∷ 0x31 ∷ []) → ⊥
leading_zero (json.nonzero (json.digit1_9 r) ds) = omega (arith, r)

-- 01 hex is not unescaped
pub control_byte : json.Unescaped (0x01 ∷ []) → ⊥
control_byte (json.below_quote r) = omega (arith, r)
control_byte (json.below_backslash r) = omega (arith, r)
control_byte (json.above_backslash r) = omega (arith, r)
control_byte (json.above_ascii (of_two u)) = elim u [ ]
control_byte (json.above_ascii (of_three u)) = elim u [ ]
control_byte (json.above_ascii (of_four u)) = elim u [ ]

-- ED A0 80 is not UTF-8
pub raw_surrogate : UTF8-3 (0xED ∷ 0xA0 ∷ 0x80 ∷ []) → ⊥
raw_surrogate (e1_ec r s t) = omega (arith, r)
raw_surrogate (ed r t) = omega (arith, r)
raw_surrogate (ee_ef r s t) = omega (arith, r)

-- ---- pairs

four_bytes : {cs : Bytes} → Octets 0x1F600 cs → length cs ≡ 4
four_bytes (one_octet r) = let h : 0x1F600 ≤ 0x007F = r.high in absurd (omega arith)
four_bytes (two_octets w x r e f) = let h : 0x1F600 ≤ 0x07FF = r.high in absurd (omega arith)
four_bytes (three_octets w x y r e f g) = let h : 0x1F600 ≤ 0xFFFF = r.high in absurd (omega arith)
four_bytes (four_octets w x y z r e f g h) = refl

nothing_more : {ts : Bytes} → json.Content [] ts → length ts ≡ 0
nothing_more json.nothing = refl

pub halves_apart : {ts : Bytes} → json.Content (json.unit 0xD83D ∷ json.unit 0xDE00 ∷ []) ts → length ts ≡ 4
halves_apart (json.paired {cs} {ts} p o k) = length-append cs ts ∙ (rw (four_bytes o, nothing_more k))
halves_apart (json.single n o k) =
    absurd (n (json.halves (record { low = omega arith; high = omega arith }) (record { low = omega arith; high = omega arith })))
