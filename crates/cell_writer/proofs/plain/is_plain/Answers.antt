-- `cell_writer::plain::is_plain` meets its contract: it tests as the definition does.
use native.Mathlib.Omega.{arith}
use Rattle.model.proofs.Tests.{tests}
use Rattle.cell_writer.specs.PlainRuns.{is_plain}
use Rattle.cell_writer.proofs.plain.is_plain.Goals as goal

pub returns-then-b-q : goal.returns-then-b-q
unfolding is_plain
returns-then-b-q c = grind (arith, tests)

pub returns-else-b-q : goal.returns-else-b-q
unfolding is_plain
returns-else-b-q c = grind (arith, tests)
