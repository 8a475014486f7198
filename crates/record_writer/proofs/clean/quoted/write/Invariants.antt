-- The invariant: what is still to be written is the text of the cells from n on.
use mathlib.Core.Bool.{true}
use Rattle.model.specs.rules.Base.{COMMA}
use Rattle.record_writer.specs.CleanCellText.{quoted_cell}
use Rattle.record_writer.proofs.Joined.{WrittenUpTo}
use Rattle.record_writer.proofs.clean.quoted.write.Given as goal

abbrev pub invariant-loop-n : goal.invariant-loop-n
invariant-loop-n l = WrittenUpTo COMMA quoted_cell l.s l.starts l.ends true l.initial.out l.at l.out l.n l.o
