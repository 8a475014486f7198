-- `piece_state::state_codes::lead_of` meets its contract, by its arms.
use Rattle.model.specs.rules.Base.{choose◌then◌else◌}
use Rattle.model.proofs.Tests.{tests}
use Rattle.piece_state.specs.Codes.{lead_from}
use Rattle.piece_state.proofs.state_codes.lead_of.Goals as goal

pub returns-in-0 : goal.returns-in-0
unfolding lead_from choose◌then◌else◌
returns-in-0 c = rw c.in-0.is

pub returns-in-1 : goal.returns-in-1
unfolding lead_from choose◌then◌else◌
returns-in-1 c = rw c.in-1.is

pub returns-in-2 : goal.returns-in-2
unfolding lead_from choose◌then◌else◌
returns-in-2 c = rw c.in-2.is

pub returns-in-3 : goal.returns-in-3
unfolding lead_from choose◌then◌else◌
returns-in-3 c = rw c.in-3.is

pub returns-in-4 : goal.returns-in-4
unfolding lead_from choose◌then◌else◌
returns-in-4 c = rw c.in-4.is

pub returns-in-5 : goal.returns-in-5
unfolding lead_from choose◌then◌else◌
returns-in-5 c = rw c.in-5.is

pub returns-in-6 : goal.returns-in-6
unfolding lead_from choose◌then◌else◌
returns-in-6 c = rw c.in-6.is

pub returns-in_default : goal.returns-in_default
unfolding lead_from choose◌then◌else◌
returns-in_default c = search tests
