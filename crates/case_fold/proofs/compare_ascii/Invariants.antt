-- `case_fold::compare_ascii` meets its contract: at each offset before which all bytes are ASCII, the names are the same exactly when they
-- are from there on.
use mathlib.Core.Path.{◌≡◌}
use Rattle.case_fold.proofs.FoldedNames.{same_from}
use Rattle.case_fold.proofs.compare_ascii.Given as goal

abbrev pub invariant-loop-i : goal.invariant-loop-i
invariant-loop-i l = same_from l.a l.b 0 ≡ same_from l.a l.b l.i
