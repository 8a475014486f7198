-- `piece_record::is_ed_followed` meets its contract: one byte more.
use native.Mathlib.Omega.{arith}
use Rattle.piece_record.proofs.BufferedCells.{followed_next}
use Rattle.piece_record.proofs.is_ed_followed.Goals as goal

pub loop-i-preserved : goal.loop-i-preserved
loop-i-preserved c = followed_next c.args.s.now c.loop-i.i c.loop-i.invariant (λ e. grind arith)
