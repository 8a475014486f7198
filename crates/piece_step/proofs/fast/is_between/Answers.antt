-- `piece_step::fast::is_between` meets its contract, by its tests.
use mathlib.Core.Logic.{◌⊎◌, inl, inr}
use mathlib.Core.Path.{◌≡◌, sym, subst}
use Rattle.model.specs.declared.FileState.{FileState}
use Rattle.model.specs.declared.FileState.TheVariants.{Begin, Ended}
use Rattle.piece_step.specs.FastSteps.{Starts, begins, ends}
use Rattle.piece_step.proofs.fast.is_between.Goals as goal

starts_at : {f : FileState} → (f ≡ Begin) ⊎ (f ≡ Ended) → Starts f
starts_at (inl e) = subst Starts (sym e) begins
starts_at (inr e) = subst Starts (sym e) ends

pub returns-in-Begin : goal.returns-in-Begin
returns-in-Begin c = λ _. record { later = c.if-p-eq0.true.0; size = c.if-p-eq0.true.1; state = starts_at c.in-Begin.is }
