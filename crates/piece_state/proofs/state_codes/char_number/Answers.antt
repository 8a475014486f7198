-- `piece_state::state_codes::char_number` meets its contract.
use native.Mathlib.Omega.{arith}
use Rattle.piece_state.proofs.Codes.{inner_small}
use Rattle.piece_state.proofs.state_codes.char_number.Goals as goal

pub overflow_add-result : goal.overflow_add-result
overflow_add-result c = omega (arith, c.inner_number.ensures, inner_small c.in-Within.i)
