-- `messages::refusal::write_part` meets its contract: its arms are the definition's.
use mathlib.Core.Path.{◌≡◌, refl}
use mathlib.Core.List.{[], ◌∷◌}
use Prim.Native.Nat.{ℕ}
use native.Mathlib.Omega.{arith}
use borrow.Author.Tests.{ne_eqb}
use Rattle.model.specs.declared.Report.{Report}
use Rattle.model.specs.rules.Base.{choose◌then◌else◌}
use Rattle.buffer.proofs.WriteProgress.{set_written}
use Rattle.messages.specs.Sentences.{part_of}
use Rattle.messages.proofs.refusal.write_part.Goals as goal

pub write_number-requires : goal.write_number-requires
unfolding part_of choose◌then◌else◌
write_number-requires c = rw c.in-78.is at c.requires

pub returns-in-78 : goal.returns-in-78
unfolding part_of choose◌then◌else◌
returns-in-78 c = rw c.in-78.is c.write_number.ensures

pub write_number-requires-in-82 : goal.write_number-requires-in-82
unfolding part_of choose◌then◌else◌
write_number-requires-in-82 c = rw c.in-82.is at c.requires

pub returns-in-82 : goal.returns-in-82
unfolding part_of choose◌then◌else◌
returns-in-82 c = rw c.in-82.is c.write_number-in-82.ensures

pub write_number-requires-in-67 : goal.write_number-requires-in-67
unfolding part_of choose◌then◌else◌
write_number-requires-in-67 c = rw c.in-67.is at c.requires

pub returns-in-67 : goal.returns-in-67
unfolding part_of choose◌then◌else◌
returns-in-67 c = rw c.in-67.is c.write_number-in-67.ensures

pub write_number-requires-in-66 : goal.write_number-requires-in-66
unfolding part_of choose◌then◌else◌
write_number-requires-in-66 c = rw c.in-66.is at c.requires

pub returns-in-66 : goal.returns-in-66
unfolding part_of choose◌then◌else◌
returns-in-66 c = rw c.in-66.is c.write_number-in-66.ensures

-- any other byte is itself
other : (e : Report) (b : ℕ) → (b ≡ 0x4E → ⊥) → (b ≡ 0x52 → ⊥) → (b ≡ 0x43 → ⊥) → (b ≡ 0x42 → ⊥) → part_of e b ≡ b ∷ []
unfolding part_of choose◌then◌else◌
other e b n r c o = rw (ne_eqb b 0x4E n, ne_eqb b 0x52 r, ne_eqb b 0x43 c, ne_eqb b 0x42 o)

pub bounds-out-o : goal.bounds-out-o
bounds-out-o c =
    let h = rw (other c.args.e c.args.b (λ h. omega arith) (λ h. omega arith) (λ h. omega arith) (λ h. omega arith)) at c.requires in omega arith

pub returns-in_default : goal.returns-in_default
returns-in_default c =
    let a = c.args in
    let e = other a.e a.b (λ h. omega arith) (λ h. omega arith) (λ h. omega arith) (λ h. omega arith) in
    let h = rw e at c.requires in
    rw e (refl, set_written a.out.now a.o a.b (omega arith))
