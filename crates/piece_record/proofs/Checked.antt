-- A check that also returns a length: what its results mean for the faults.
use Prim.Native.Nat.{ℕ}
use mathlib.Core.Path.{◌≡◌, refl, sym, subst, ◌∙◌}
use Rattle.std.specs.Prelude.{Result, Ok, Err}
use Rattle.std.specs.Result.{result_and}
use Rattle.model.specs.declared.Fault.{Fault}
use Rattle.model.specs.rules.Types.{CheckResult}
use Rattle.model.proofs.file_laws.CheckResults.{fault_sound}

pub length_of : (v : CheckResult) (n : ℕ) {r : Result ℕ Fault} {x : ℕ} → r ≡ result_and v (Ok n) → r ≡ Ok x → (v ≡ Ok tt) × (x ≡ n)
length_of (Ok _) n e f = let z : ◌≡◌ {A = Result ℕ Fault} (Ok _) (Ok n) = sym f ∙ e in (refl, cc)
length_of (Err y) n e f = fault_sound (sym e ∙ f)

pub fault_of : (v : CheckResult) (n : ℕ) {r : Result ℕ Fault} {y : Fault} → r ≡ result_and v (Ok n) → r ≡ Err y → v ≡ Err y
fault_of (Ok _) n e f = fault_sound (sym f ∙ e)
fault_of (Err x) n {y = y} e f =
    let both : ◌≡◌ {A = Result ℕ Fault} (Err x) (Err y) = sym e ∙ f in
    let same : x ≡ y = cc in
    subst (λ (z : Fault). ◌≡◌ {A = CheckResult} (Err x) (Err z)) same refl
