-- `case_fold::same_name` meets its contract: the table passes the test of the rule, which is computed entry by entry.
use mathlib.Core.Path.{refl}
use Rattle.model.specs.rules.Base.{choose◌then◌else◌}
use Rattle.model.specs.rules.Names.{fold_point}
use Rattle.model.proofs.name_laws.Folding.{table_follows}
use Rattle.case_fold.proofs.same_name.Goals as goal

pub invariant_of-folding : goal.invariant_of-folding
unfolding fold_point choose◌then◌else◌
invariant_of-folding c = record { follows = table_follows _ refl tt }
