-- `cell_writer::escape::double` meets its contract: a quote is written twice.
use native.Mathlib.Omega.{arith}
use Rattle.model.specs.rules.Base.{choose◌then◌else◌}
use Rattle.model.specs.rules.Text.{doubled}
use Rattle.model.proofs.Tests.{tests}
use Rattle.cell_writer.proofs.escape.double.Goals as goal

pub returns-then-b-q : goal.returns-then-b-q
unfolding doubled choose◌then◌else◌
returns-then-b-q c = grind (arith, tests)

pub returns : goal.returns
unfolding doubled choose◌then◌else◌
returns c = grind (arith, tests)
