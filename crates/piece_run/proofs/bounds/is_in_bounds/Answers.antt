-- `piece_run::bounds::is_in_bounds` meets its contract: the current ends are the first list until the header is complete.
use borrow.Author.Tests.{eq-eqb, ne_eqb}
use Rattle.model.specs.rules.Base.{choose◌then◌else◌}
use Rattle.piece_run.proofs.bounds.is_in_bounds.Goals as goal

pub returns-then-p-eq0 : goal.returns-then-p-eq0
unfolding choose◌then◌else◌
returns-then-p-eq0 c = rw (eq-eqb _ _ c.if-p-eq0.true) c.is_buffered_in_bounds.ensures

pub returns : goal.returns
unfolding choose◌then◌else◌
returns c = rw (ne_eqb _ _ c.if-p-eq0.false) c.is_buffered_in_bounds-2.ensures
