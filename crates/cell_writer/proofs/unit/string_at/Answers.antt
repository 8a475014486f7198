-- `cell_writer::unit::string_at` meets its contract, by the byte there.
use native.Mathlib.Omega.{arith}
use Rattle.cell_writer.proofs.Contents.{part_as, quote_part, char_part}
use Rattle.cell_writer.proofs.unit.string_at.Goals as goal

pub returns-in-34 : goal.returns-in-34
returns-in-34 c = part_as c.end_of.ensures (quote_part c.args.raw.now c.args.i c.requires c.in-34.is)

pub returns-in_default : goal.returns-in_default
returns-in_default c = part_as c.byte.ensures (char_part c.args.raw.now c.args.i c.requires (λ e. omega arith) (λ e. omega arith))
