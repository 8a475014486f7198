-- `cell_fast::value::digit_words` meets its contract. The invariant: digits lie from `at` to here.
use Prim.Native.Nat.{◌-◌}
use Rattle.model.specs.rules.Cell.{is_digit}
use Rattle.cell_fast.specs.TextRuns.{PassRun}
use Rattle.cell_fast.proofs.value.digit_words.Given as goal

abbrev pub invariant-loop-i : goal.invariant-loop-i
invariant-loop-i l = PassRun is_digit l.s l.at l.stop l.i

abbrev pub decreases-loop-i : goal.decreases-loop-i
decreases-loop-i l = l.stop - l.i
