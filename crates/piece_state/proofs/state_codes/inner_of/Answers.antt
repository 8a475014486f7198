-- `piece_state::state_codes::inner_of` meets its contract, by its arms.
use Rattle.model.specs.rules.Base.{choose◌then◌else◌}
use Rattle.model.proofs.Tests.{tests}
use Rattle.piece_state.specs.Codes.{inner_from}
use Rattle.piece_state.proofs.state_codes.inner_of.Goals as goal

pub returns-in-0 : goal.returns-in-0
unfolding inner_from choose◌then◌else◌
returns-in-0 c = rw c.in-0.is

pub returns-in-1 : goal.returns-in-1
unfolding inner_from choose◌then◌else◌
returns-in-1 c = rw c.in-1.is

pub returns-in_default : goal.returns-in_default
unfolding inner_from choose◌then◌else◌
returns-in_default c = search (tests, c.lead_of.ensures)
