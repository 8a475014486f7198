-- `cell_writer::escape::escape` meets its contract, by its tests.
use native.Mathlib.Omega.{arith}
use Rattle.model.specs.rules.Base.{choose◌then◌else◌}
use Rattle.model.proofs.Tests.{tests}
use Rattle.cell_writer.proofs.escape.escape.Goals as goal

pub returns-in-34 : goal.returns-in-34
unfolding choose◌then◌else◌
returns-in-34 c = grind (arith, tests)

pub returns-in-8 : goal.returns-in-8
unfolding choose◌then◌else◌
returns-in-8 c = grind (arith, tests)

pub returns-in-9 : goal.returns-in-9
unfolding choose◌then◌else◌
returns-in-9 c = grind (arith, tests)

pub returns-in-10 : goal.returns-in-10
unfolding choose◌then◌else◌
returns-in-10 c = grind (arith, tests)

pub returns-in-12 : goal.returns-in-12
unfolding choose◌then◌else◌
returns-in-12 c = grind (arith, tests)

pub returns-in-13 : goal.returns-in-13
unfolding choose◌then◌else◌
returns-in-13 c = grind (arith, tests)

pub returns-in_default : goal.returns-in_default
unfolding choose◌then◌else◌
returns-in_default c = grind (arith, tests)

pub returns-in-32-to-255 : goal.returns-in-32-to-255
unfolding choose◌then◌else◌
returns-in-32-to-255 c = grind (arith, tests)
