-- The measure is the number of steps that are left; the loop needs no invariant.
use Rattle.program.proofs.stream.convert.Given as goal

abbrev pub decreases-loop-turns : goal.decreases-loop-turns
decreases-loop-turns l = l.turns
