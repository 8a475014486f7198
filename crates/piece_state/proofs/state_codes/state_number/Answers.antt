-- `piece_state::state_codes::state_number` meets its contract.
use native.Mathlib.Omega.{arith}
use Rattle.piece_state.proofs.Codes.{char_small, cell_small}
use Rattle.piece_state.proofs.state_codes.state_number.Goals as goal

pub overflow_add-result : goal.overflow_add-result
overflow_add-result c = omega (arith, c.char_number.ensures, char_small c.in-Comment.t)

pub overflow_add-result-in-Inside : goal.overflow_add-result-in-Inside
overflow_add-result-in-Inside c = omega (arith, c.cell_number.ensures, cell_small c.in-Inside.c)
