-- `piece_state::state_codes::inner_number` meets its contract.
use native.Mathlib.Omega.{arith}
use Rattle.piece_state.proofs.Codes.{lead_small}
use Rattle.piece_state.proofs.state_codes.inner_number.Goals as goal

pub overflow_add-result : goal.overflow_add-result
overflow_add-result c = omega (arith, c.lead_number.ensures, lead_small c.in-Second.l)
