use Rattle.piece_state.proofs.BufferedLists.{starting, started, started_all}
use Rattle.piece_state.proofs.cells.starts_of.Goals as goal

pub loop-k-init : goal.loop-k-init
loop-k-init c = starting c.requires.0 c.requires.1

pub loop-k-preserved : goal.loop-k-preserved
loop-k-preserved c = started c.loop-k.invariant c.loop-k-test.true

pub returns : goal.returns
returns c = started_all c.loop-k.invariant c.loop-k-test.false
