-- Words by the library's comparison in ASCII, which takes letters in upper case as TDIF's keys do.
use mathlib.Core.Path.{◌≡◌, refl, sym, ◌∙◌}
use mathlib.Core.Bool.{Bool, true, false}
use mathlib.Core.List.{[], ◌∷◌, map}
use Prim.Native.Nat.{ℕ}
use native.Mathlib.Omega.{arith}
use lib.Dec.{ltb}
use borrow.Author.Tests.{ltb-true, ltb-false, le-leb, lt-leb}
use Rattle.std.specs.Prelude.{IsTrue, ◌↔◌}
use Rattle.std.specs.Char.{to_ascii_lowercase}
use Rattle.model.specs.declared.Dialect.TheVariants.{Tdif}
use Rattle.model.specs.rules.Base.{Bytes, same, choose◌then◌else◌, ◌is◌}
use Rattle.model.specs.rules.Records.{lower, name_key}
use Rattle.model.proofs.Tests.{split_on, impossible, and_true, is→eq, same_byte}
use Rattle.messages.specs.Words.{spells}

same_lower : (b : ℕ) → to_ascii_lowercase b ≡ lower b
unfolding choose◌then◌else◌
same_lower b =
    split_on (ltb b 0x41) (λ p. rw (p, lt-leb 0x41 b (ltb-true b 0x41 p))) λ p.
    let h = ltb-false b 0x41 p in
    split_on (ltb b 0x5B) (λ q. let k = ltb-true b 0x5B q in rw (p, q, le-leb 0x41 b h, le-leb b 0x5A (omega arith))) λ q.
    let k = ltb-false b 0x5B q in rw (p, q, le-leb 0x41 b h, lt-leb b 0x5A (omega arith))

same_key : (w : Bytes) → map to_ascii_lowercase w ≡ name_key Tdif w
unfolding name_key
same_key w = λ i. map (λ b. same_lower b i) w

is_same : (a b : Bytes) → same a b ≡ true → a ≡ b
unfolding same
is_same [] [] e = refl
is_same [] (y ∷ b) e = impossible e
is_same (x ∷ a) [] e = impossible e
is_same (x ∷ a) (y ∷ b) e =
    let p = and_true (x is y) (same a b) e in
    λ i. is→eq x y p.0 i ∷ is_same a b p.1 i

same_itself : (a : Bytes) → same a a ≡ true
unfolding same
same_itself [] = refl
same_itself (x ∷ a) = rw (same_byte x) (same_itself a)

pub spelled : (word name : Bytes) (r : Bool) → (IsTrue r ↔ (map to_ascii_lowercase word ≡ map to_ascii_lowercase name)) → r ≡ spells word name
spelled word name true h =
    let e : name_key Tdif word ≡ name_key Tdif name = sym (same_key word) ∙ h.0 refl ∙ same_key name in
    sym (rw e (same_itself (name_key Tdif name)))
spelled word name false h =
    split_on (same (name_key Tdif word) (name_key Tdif name))
    (λ t. absurd (impossible (h.1 (same_key word ∙ is_same _ _ t ∙ sym (same_key name)))))
    λ t. sym t
