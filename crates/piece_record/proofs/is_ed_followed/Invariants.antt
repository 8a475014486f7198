-- `piece_record::is_ed_followed` meets its contract. The invariant: each ED before the byte in front of i is followed.
use Rattle.piece_record.proofs.BufferedCells.{FollowedTo}
use Rattle.piece_record.proofs.is_ed_followed.Given as goal

abbrev pub invariant-loop-i : goal.invariant-loop-i
invariant-loop-i l = FollowedTo l.s l.i
