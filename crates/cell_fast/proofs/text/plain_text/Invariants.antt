-- `cell_fast::text::plain_text` meets its contract. The invariant: clean characters lie from `at` to here.
use Prim.Native.Nat.{◌-◌}
use Rattle.cell_fast.specs.TextRuns.{TextRun, is_open}
use Rattle.cell_fast.proofs.text.plain_text.Given as goal

abbrev pub invariant-loop-i : goal.invariant-loop-i
invariant-loop-i l = TextRun (is_open l.p l.q) l.s l.at l.stop l.i

abbrev pub decreases-loop-i : goal.decreases-loop-i
decreases-loop-i l = l.stop - l.i
