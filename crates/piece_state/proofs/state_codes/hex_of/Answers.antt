-- `piece_state::state_codes::hex_of` meets its contract, by its arms.
use Rattle.model.specs.rules.Base.{choose◌then◌else◌}
use Rattle.model.proofs.Tests.{tests}
use Rattle.piece_state.specs.Codes.{hex_from}
use Rattle.piece_state.proofs.state_codes.hex_of.Goals as goal

pub returns-in-0 : goal.returns-in-0
unfolding hex_from choose◌then◌else◌
returns-in-0 c = rw c.in-0.is

pub returns-in-1 : goal.returns-in-1
unfolding hex_from choose◌then◌else◌
returns-in-1 c = rw c.in-1.is

pub returns-in-2 : goal.returns-in-2
unfolding hex_from choose◌then◌else◌
returns-in-2 c = rw c.in-2.is

pub returns-in_default : goal.returns-in_default
unfolding hex_from choose◌then◌else◌
returns-in_default c = search tests
