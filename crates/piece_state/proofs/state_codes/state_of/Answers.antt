-- `piece_state::state_codes::state_of` meets its contract, by its arms.
use Rattle.model.specs.rules.Base.{choose◌then◌else◌}
use Rattle.model.proofs.Tests.{tests}
use Rattle.piece_state.specs.Codes.{state_from, fixed_state}
use Rattle.piece_state.proofs.state_codes.state_of.Goals as goal

pub returns-in-0 : goal.returns-in-0
unfolding state_from fixed_state choose◌then◌else◌
returns-in-0 c = rw c.in-0.is

pub returns-in-1 : goal.returns-in-1
unfolding state_from fixed_state choose◌then◌else◌
returns-in-1 c = rw c.in-1.is

pub returns-in-2 : goal.returns-in-2
unfolding state_from fixed_state choose◌then◌else◌
returns-in-2 c = rw c.in-2.is

pub returns-in-3 : goal.returns-in-3
unfolding state_from fixed_state choose◌then◌else◌
returns-in-3 c = rw c.in-3.is

pub returns-in-4 : goal.returns-in-4
unfolding state_from fixed_state choose◌then◌else◌
returns-in-4 c = rw c.in-4.is

pub returns-in-5 : goal.returns-in-5
unfolding state_from fixed_state choose◌then◌else◌
returns-in-5 c = rw c.in-5.is

pub returns-in-6 : goal.returns-in-6
unfolding state_from fixed_state choose◌then◌else◌
returns-in-6 c = rw c.in-6.is

pub returns-in-7 : goal.returns-in-7
unfolding state_from fixed_state choose◌then◌else◌
returns-in-7 c = rw c.in-7.is

pub returns-in-8 : goal.returns-in-8
unfolding state_from fixed_state choose◌then◌else◌
returns-in-8 c = rw c.in-8.is

pub returns-in-9 : goal.returns-in-9
unfolding state_from fixed_state choose◌then◌else◌
returns-in-9 c = rw c.in-9.is

pub returns-in-10-to-15 : goal.returns-in-10-to-15
unfolding state_from fixed_state choose◌then◌else◌
returns-in-10-to-15 c = search tests

pub returns-in-16-to-31 : goal.returns-in-16-to-31
unfolding state_from fixed_state choose◌then◌else◌
returns-in-16-to-31 c = search (tests, c.char_of.ensures)

pub returns-in_default : goal.returns-in_default
unfolding state_from fixed_state choose◌then◌else◌
returns-in_default c = search (tests, c.cell_of.ensures)
