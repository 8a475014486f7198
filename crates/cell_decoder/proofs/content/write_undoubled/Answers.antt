use Rattle.buffer.proofs.WriteProgress.{store}
use Rattle.cell_decoder.proofs.content.write_undoubled.Goals as goal

pub loop-b-preserved : goal.loop-b-preserved
loop-b-preserved c = store (rw c.in-Some.ensures.stands at c.loop-b.invariant)
