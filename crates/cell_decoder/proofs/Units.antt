-- The bytes of a code point are one unit of content.
use mathlib.Core.Path.{◌≡◌, sym, ap, ◌∙◌}
use mathlib.Core.List.{[], ◌∷◌}
use Prim.Native.Nat.{ℕ, ◌+◌, ◌/◌, ◌%◌, ◌≤◌, ◌<◌}
use native.Mathlib.Omega.{arith}
use lib.Dec.{leb}
use lib.ListN.{length, get_or}
use borrow.Author.Tests.{leb-true, leb-false}
use Rattle.model.specs.rules.Base.{Bytes, choose◌then◌else◌, ◌is◌}
use Rattle.model.specs.rules.Decode.{short_of}
use Rattle.model.proofs.Tests.{split_on}
use Rattle.utf8.specs.Codes.{packed}
use Rattle.utf8.proofs.Codes.{packed_one, packed_two, packed_three, packed_four}
use Rattle.cell_decoder.specs.Units.{Lead, Later, Unit, one, two, three, four}

-- the low six bits as a continuation byte
six_later : (n : ℕ) → Later (0x80 + n % 0x40)
six_later n = record { least = omega arith; most = omega arith }

two_lead : (u : ℕ) → u ≤ 0x7FF → Lead (0xC0 + u / 0x40)
two_lead u h = record { least = omega arith; other = λ e. omega arith }

four_lead : (u : ℕ) → Lead (0xF0 + u / 0x40000)
four_lead u = record { least = omega arith; other = λ e. omega arith }

pub packed_unit : (u : ℕ) → u ≤ 0x10FFFF → Unit (packed u)
packed_unit u most =
    split_on (leb u 0x7F) (λ e. rw (packed_one u (leb-true u 0x7F e)) (one u)) λ e.
    let a : 0x7F < u = leb-false u 0x7F e in
    split_on (leb u 0x7FF) (λ f. let h : u ≤ 0x7FF = leb-true u 0x7FF f in rw (packed_two u a h) (two _ _ (two_lead u h) (six_later u))) λ f.
    let b : 0x7FF < u = leb-false u 0x7FF f in
    split_on (leb u 0xFFFF) (λ g. rw (packed_three u b (leb-true u 0xFFFF g))
    (three (0xE0 + u / 0x1000) (0x80 + u / 0x40 % 0x40) (0x80 + u % 0x40) (omega arith) (six_later (u / 0x40)) (six_later u))) λ g.
    rw (packed_four u (leb-false u 0xFFFF g) most) (four _ _ _ _ (four_lead u) (six_later (u / 0x1000)) (six_later (u / 0x40)) (six_later u))

-- a code point of a single byte is ASCII
packed_ascii : (u : ℕ) → u ≤ 0x10FFFF → length (packed u) ≡ 1 → u ≤ 0x7F
packed_ascii u most l =
    split_on (leb u 0x7F) (λ e. leb-true u 0x7F e) λ e.
    let a : 0x7F < u = leb-false u 0x7F e in
    split_on (leb u 0x7FF) (λ f. let n : 2 ≡ 1 = sym (ap length (packed_two u a (leb-true u 0x7FF f))) ∙ l in absurd (omega arith)) λ f.
    let b : 0x7FF < u = leb-false u 0x7FF f in
    split_on (leb u 0xFFFF) (λ g. let n : 3 ≡ 1 = sym (ap length (packed_three u b (leb-true u 0xFFFF g))) ∙ l in absurd (omega arith)) λ g.
    let n : 4 ≡ 1 = sym (ap length (packed_four u (leb-false u 0xFFFF g) most)) ∙ l in absurd (omega arith)

-- the bytes of no code point are ED alone
pub packed_no_ed : (u : ℕ) → u ≤ 0x10FFFF → packed u ≡ 0xED ∷ [] → ⊥
packed_no_ed u most e =
    let h : u ≤ 0x7F = packed_ascii u most (ap length e) in
    let f : u ≡ 0xED = ap (λ (l : Bytes). get_or l 0 0) (sym (packed_one u h) ∙ e) in
    omega arith

-- only ED is the short escape of ED
pub short_ed : (b : ℕ) → short_of b ≡ 0xED → b ≡ 0xED
unfolding choose◌then◌else◌
short_ed b e =
    split_on (b is 0x62) (λ p. absurd (let z : 0x08 ≡ 0xED = rw p at e in omega arith)) λ p.
    split_on (b is 0x66) (λ q. absurd (let z : 0x0C ≡ 0xED = rw (p, q) at e in omega arith)) λ q.
    split_on (b is 0x6E) (λ r. absurd (let z : 0x0A ≡ 0xED = rw (p, q, r) at e in omega arith)) λ r.
    split_on (b is 0x72) (λ s. absurd (let z : 0x0D ≡ 0xED = rw (p, q, r, s) at e in omega arith)) λ s.
    split_on (b is 0x74) (λ t. absurd (let z : 0x09 ≡ 0xED = rw (p, q, r, s, t) at e in omega arith)) λ t.
    rw (p, q, r, s, t) at e
