-- `piece_state::state_codes::cell_of` meets its contract, by its arms.
use Rattle.model.specs.rules.Base.{choose◌then◌else◌}
use Rattle.model.proofs.Tests.{tests}
use Rattle.piece_state.specs.Codes.{cell_from, fixed_cell}
use Rattle.piece_state.proofs.state_codes.cell_of.Goals as goal

pub returns-in-0 : goal.returns-in-0
unfolding cell_from fixed_cell choose◌then◌else◌
returns-in-0 c = rw c.in-0.is

pub returns-in-1 : goal.returns-in-1
unfolding cell_from fixed_cell choose◌then◌else◌
returns-in-1 c = rw c.in-1.is

pub returns-in-2 : goal.returns-in-2
unfolding cell_from fixed_cell choose◌then◌else◌
returns-in-2 c = rw c.in-2.is

pub returns-in-3-to-15 : goal.returns-in-3-to-15
unfolding cell_from fixed_cell choose◌then◌else◌
returns-in-3-to-15 c = search tests

pub returns-in-16-to-31 : goal.returns-in-16-to-31
unfolding cell_from fixed_cell choose◌then◌else◌
returns-in-16-to-31 c = search (tests, c.char_of.ensures)

pub returns-in-32-to-47 : goal.returns-in-32-to-47
unfolding cell_from fixed_cell choose◌then◌else◌
returns-in-32-to-47 c = search (tests, c.char_of-in-32-to-47.ensures)

pub returns-in-48-to-63 : goal.returns-in-48-to-63
unfolding cell_from fixed_cell choose◌then◌else◌
returns-in-48-to-63 c = search (tests, c.hex_of.ensures)

pub returns-in-64-to-79 : goal.returns-in-64-to-79
unfolding cell_from fixed_cell choose◌then◌else◌
returns-in-64-to-79 c = search (tests, c.numeral_of.ensures)

pub returns-in_default : goal.returns-in_default
unfolding cell_from fixed_cell choose◌then◌else◌
returns-in_default c = search (tests, c.word_of.ensures)
