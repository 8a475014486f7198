-- `cell_decoder::first_byte::csvj_spelling` meets its contract, by its tests.
use native.Mathlib.Omega.{arith}
use Rattle.model.specs.rules.Base.{choose◌then◌else◌}
use Rattle.cell_decoder.specs.FirstByte.{spelling_by}
use Rattle.model.proofs.Tests.{tests}
use Rattle.cell_decoder.proofs.first_byte.csvj_spelling.Goals as goal

pub returns-in-34 : goal.returns-in-34
unfolding spelling_by choose◌then◌else◌
returns-in-34 c = grind (arith, tests)

pub returns-in_default : goal.returns-in_default
unfolding spelling_by choose◌then◌else◌
returns-in_default c = grind (arith, tests)

pub returns-in_default-2 : goal.returns-in_default-2
unfolding spelling_by choose◌then◌else◌
returns-in_default-2 c = grind (arith, tests)

pub returns-in-45 : goal.returns-in-45
unfolding spelling_by choose◌then◌else◌
returns-in-45 c = grind (arith, tests)

pub returns-in-45-2 : goal.returns-in-45-2
unfolding spelling_by choose◌then◌else◌
returns-in-45-2 c = grind (arith, tests)
