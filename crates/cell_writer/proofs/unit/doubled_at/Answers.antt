-- `cell_writer::unit::doubled_at` meets its contract: a byte, or the end of the content.
use Rattle.cell_writer.proofs.Contents.{part_as, doubled_part, doubled_end}
use Rattle.cell_writer.proofs.unit.doubled_at.Goals as goal

pub returns-in-Some : goal.returns-in-Some
returns-in-Some c = part_as c.byte.ensures (doubled_part c.args.raw.now c.args.i c.requires c.args.q c.in-Some.ensures)

pub returns-in-None : goal.returns-in-None
returns-in-None c = part_as c.end_of.ensures (doubled_end c.args.raw.now c.args.i c.requires c.args.q c.in-None.ensures)
