-- `cell_writer::unit::unit_at` meets its contract, encoding by encoding.
use Rattle.cell_writer.proofs.Contents.{part_as, verbatim_part}
use Rattle.cell_writer.proofs.unit.unit_at.Goals as goal

pub returns-in-Nothing : goal.returns-in-Nothing
returns-in-Nothing c = part_as c.byte.ensures (verbatim_part c.args.raw.now c.args.i c.requires c.in-Nothing.is)
