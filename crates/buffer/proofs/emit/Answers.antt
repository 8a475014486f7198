-- `buffer::emit` meets its contract: a copy, or a sum alone.
use mathlib.Core.Path.{refl}
use Rattle.buffer.proofs.WriteProgress.{put_written, put_measured}
use Rattle.buffer.proofs.emit.Goals as goal

pub returns-then-write : goal.returns-then-write
returns-then-write c = put_written c.if-write.true c.copy.ensures

pub returns : goal.returns
returns c = put_measured c.if-write.false c.measured.ensures refl
