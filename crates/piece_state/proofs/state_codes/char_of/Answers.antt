-- `piece_state::state_codes::char_of` meets its contract, by its arms.
use Rattle.model.specs.rules.Base.{choose◌then◌else◌}
use Rattle.model.proofs.Tests.{tests}
use Rattle.piece_state.specs.Codes.{char_from}
use Rattle.piece_state.proofs.state_codes.char_of.Goals as goal

pub returns-in-0 : goal.returns-in-0
unfolding char_from choose◌then◌else◌
returns-in-0 c = rw c.in-0.is

pub returns-in_default : goal.returns-in_default
unfolding char_from choose◌then◌else◌
returns-in_default c = search (tests, c.inner_of.ensures)
