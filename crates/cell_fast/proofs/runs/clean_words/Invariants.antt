-- `cell_fast::runs::clean_words` meets its contract. The invariant: clean bytes lie from `at` to here.
use Prim.Native.Nat.{◌-◌}
use Rattle.swar.specs.Words.{clean_ascii}
use Rattle.cell_fast.specs.TextRuns.{PassRun}
use Rattle.cell_fast.proofs.runs.clean_words.Given as goal

abbrev pub invariant-loop-i : goal.invariant-loop-i
invariant-loop-i l = PassRun (clean_ascii l.p l.q) l.s l.at l.stop l.i

abbrev pub decreases-loop-i : goal.decreases-loop-i
decreases-loop-i l = l.stop - l.i
