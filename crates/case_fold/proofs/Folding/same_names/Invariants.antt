-- `case_fold::Folding::same_names` meets its contract: at each offset, the names are the same exactly when they are from there on.
use mathlib.Core.Path.{◌≡◌}
use Rattle.case_fold.proofs.FoldedNames.{same_from}
use Rattle.case_fold.proofs.Folding.same_names.Given as goal

abbrev pub invariant-loop-i : goal.invariant-loop-i
invariant-loop-i l = same_from l.a l.b 0 ≡ same_from l.a l.b l.i
