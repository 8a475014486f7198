-- `table_writer::content::in_lone` meets its contract, by its tests.
use native.Mathlib.Omega.{arith}
use borrow.Author.Tests.{le-leb}
use Rattle.model.specs.rules.Base.{choose◌then◌else◌}
use Rattle.model.specs.rules.Utf8.{wide_step}
use Rattle.model.proofs.Tests.{tests}
use Rattle.table_writer.proofs.content.in_lone.Goals as goal

pub returns-in-128-to-191 : goal.returns-in-128-to-191
unfolding wide_step choose◌then◌else◌
returns-in-128-to-191 c = let b = c.args.b in rw (le-leb 0x80 b (omega arith), le-leb b 0xBF (omega arith))

pub returns-in_default : goal.returns-in_default
unfolding wide_step choose◌then◌else◌
returns-in_default c = search tests

pub returns-in_default-2 : goal.returns-in_default-2
unfolding wide_step choose◌then◌else◌
returns-in_default-2 c = search tests
