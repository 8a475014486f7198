-- `cell_decoder::escape::short_escape` meets its contract, by its tests.
use native.Mathlib.Omega.{arith}
use Rattle.model.specs.rules.Base.{choose◌then◌else◌}
use Rattle.model.proofs.Tests.{tests}
use Rattle.cell_decoder.proofs.escape.short_escape.Goals as goal

pub returns-in-98 : goal.returns-in-98
unfolding choose◌then◌else◌
returns-in-98 c = grind (arith, tests)

pub returns-in-102 : goal.returns-in-102
unfolding choose◌then◌else◌
returns-in-102 c = grind (arith, tests)

pub returns-in-110 : goal.returns-in-110
unfolding choose◌then◌else◌
returns-in-110 c = grind (arith, tests)

pub returns-in-114 : goal.returns-in-114
unfolding choose◌then◌else◌
returns-in-114 c = grind (arith, tests)

pub returns-in-116 : goal.returns-in-116
unfolding choose◌then◌else◌
returns-in-116 c = grind (arith, tests)

pub returns-in_default : goal.returns-in_default
unfolding choose◌then◌else◌
returns-in_default c = grind (arith, tests)
