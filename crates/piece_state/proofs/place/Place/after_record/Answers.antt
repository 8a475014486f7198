-- `piece_state::place::Place::after_record` meets its contract: the columns are those of `columns_with`, by its test.
use borrow.Author.Tests.{eq-eqb, ne_eqb}
use Rattle.model.specs.rules.Base.{choose◌then◌else◌}
use Rattle.piece_state.proofs.place.Place.after_record.Goals as goal
use Rattle.piece_state.proofs.place.Place.after_record.Goals.{then-self-eq0, else-self-eq0}

pub returns : goal.returns
unfolding choose◌then◌else◌
returns c =
    elim c.if-self-eq0.branch [
      | then-self-eq0 w ↦ rw (w.result-is, eq-eqb _ _ w.if-self-eq0.true)
      | else-self-eq0 w ↦ rw (w.result-is, ne_eqb _ _ w.if-self-eq0.false)
    ]
