-- `record_writer::clean::quoted::write_quoted` meets its contract: it writes, or only measures.
use mathlib.Core.Path.{refl}
use Rattle.buffer.proofs.WriteProgress.{put_measured}
use Rattle.record_writer.proofs.clean.quoted.write_quoted.Goals as goal

pub write-requires : goal.write-requires
write-requires c = record { spans = c.requires.spans; room = rw c.if-write.true at c.requires.room }

pub returns-then-write : goal.returns-then-write
returns-then-write c = rw c.if-write.true c.write.ensures

pub measure-requires : goal.measure-requires
measure-requires c = record { spans = c.requires.spans; at_bound = c.requires.room.measured c.if-write.false }

pub returns-else-write : goal.returns-else-write
returns-else-write c =
    put_measured c.if-write.false c.measure.ensures
    refl
