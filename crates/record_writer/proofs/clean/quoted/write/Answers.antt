use mathlib.Core.Bool.{true}
use native.Mathlib.Omega.{arith}
use Rattle.buffer.proofs.WriteProgress.{same_long}
use Rattle.record_writer.proofs.Joined.{written_none, room_cell, put_cell, put_all}
use Rattle.record_writer.proofs.clean.quoted.write.Goals as goal

pub loop-n-init : goal.loop-n-init
loop-n-init c = written_none true c.requires.room

pub write_column-o-requires : goal.write_column-o-requires
write_column-o-requires c = room_cell c.requires.spans.with_ends c.loop-n.invariant (omega arith)

pub loop-n-preserved : goal.loop-n-preserved
loop-n-preserved c = put_cell c.requires.spans.with_ends c.loop-n.invariant (omega arith) c.write_column-o.ensures

pub shape_of-out : goal.shape_of-out
shape_of-out c = same_long c.loop-n.invariant.going

pub returns : goal.returns
returns c = put_all c.requires.spans.with_ends c.loop-n.invariant (omega arith)
