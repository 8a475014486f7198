-- The invariant: what is still to be written is the text of the cells from n on.
use lib.Dec.{eqb}
use lib.ListN.{length}
use Rattle.record_writer.specs.CleanCellText.{plus_cell}
use Rattle.record_writer.proofs.Joined.{WrittenUpTo}
use Rattle.record_writer.proofs.clean.plus.write_csv_plus.Given as goal

abbrev pub invariant-loop-n : goal.invariant-loop-n
invariant-loop-n l = WrittenUpTo l.p (plus_cell l.p (eqb (length l.starts) 1)) l.s l.starts l.ends l.write l.initial.out l.at l.out l.n l.o
