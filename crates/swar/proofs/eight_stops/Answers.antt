-- `swar::eight_stops` meets its contract, by its test.
use borrow.Author.Tests.{lt-ltb, le-ltb}
use Rattle.model.specs.rules.Base.{choose◌then◌else◌}
use Rattle.swar.specs.Words.{ascii_stop}
use Rattle.swar.proofs.eight_stops.Goals as goal

pub returns-then-p-lt128 : goal.returns-then-p-lt128
unfolding ascii_stop choose◌then◌else◌
returns-then-p-lt128 c = rw (lt-ltb c.args.p 0x80 c.if-p-lt128.true)

pub returns-else-p-lt128 : goal.returns-else-p-lt128
unfolding ascii_stop choose◌then◌else◌
returns-else-p-lt128 c = rw (le-ltb c.args.p 0x80 c.if-p-lt128.false)
