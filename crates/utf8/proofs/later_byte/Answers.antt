-- `utf8::later_byte` meets its contract, by its test.
use Rattle.model.specs.rules.Base.{choose◌then◌else◌}
use Rattle.model.proofs.Tests.{tests}
use Rattle.utf8.proofs.later_byte.Goals as goal

pub returns-then-is_later : goal.returns-then-is_later
unfolding choose◌then◌else◌
returns-then-is_later c = search (tests, ← c.is_later.ensures, c.if-is_later.true)

pub returns-else-is_later : goal.returns-else-is_later
unfolding choose◌then◌else◌
returns-else-is_later c = search (tests, ← c.is_later.ensures, c.if-is_later.false)
