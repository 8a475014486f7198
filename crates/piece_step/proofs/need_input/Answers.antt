-- `piece_step::need_input` meets its contract: each field is that of the definition.
use Rattle.piece_step.proofs.need_input.Goals as goal

pub returns : goal.returns
returns c = rw c.record_start.ensures
