-- `piece_step::record_start` meets its contract, by its test.
use borrow.Author.Tests.{eq-eqb, ne_eqb}
use Rattle.model.specs.rules.Base.{choose◌then◌else◌}
use Rattle.piece_step.proofs.record_start.Goals as goal

pub returns-then-start-i : goal.returns-then-start-i
unfolding choose◌then◌else◌
returns-then-start-i c = rw (eq-eqb _ _ c.if-start-i.true)

pub returns-else-start-i : goal.returns-else-start-i
unfolding choose◌then◌else◌
returns-else-start-i c = rw (ne_eqb _ _ c.if-start-i.false)
