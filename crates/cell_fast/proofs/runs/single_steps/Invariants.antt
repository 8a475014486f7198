-- `cell_fast::runs::single_steps` meets its contract. The invariant: clean bytes lie from `at` to here.
use Rattle.swar.specs.Words.{clean_ascii}
use Rattle.cell_fast.specs.TextRuns.{PassRun}
use Rattle.cell_fast.proofs.runs.single_steps.Given as goal

abbrev pub invariant-loop-i : goal.invariant-loop-i
invariant-loop-i l = PassRun (clean_ascii l.p l.q) l.s l.at l.stop l.i
