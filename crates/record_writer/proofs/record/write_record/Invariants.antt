-- The invariant: what is still to be written is the text of the cells from n on.
use Rattle.record_writer.proofs.Columns.{WrittenUpTo}
use Rattle.record_writer.proofs.record.write_record.Given as goal

abbrev pub invariant-loop-n : goal.invariant-loop-n
invariant-loop-n l = WrittenUpTo l.src l.t l.s l.starts l.ends l.kinds l.header l.initial.out l.at l.write l.out l.n l.o l.carries
