-- The invariant: the cells before place n are verbatim.
use Rattle.record_writer.proofs.CleanCells.{CleanBefore}
use Rattle.record_writer.proofs.clean.is_clean.Given as goal

abbrev pub invariant-loop-n : goal.invariant-loop-n
invariant-loop-n l = CleanBefore l.bare l.s l.starts l.ends l.n
