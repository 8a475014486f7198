-- `cell_fast::value::digit_bytes` meets its contract. The invariant: digits lie from `at` to here.
use Rattle.model.specs.rules.Cell.{is_digit}
use Rattle.cell_fast.specs.TextRuns.{PassRun}
use Rattle.cell_fast.proofs.value.digit_bytes.Given as goal

abbrev pub invariant-loop-i : goal.invariant-loop-i
invariant-loop-i l = PassRun is_digit l.s l.at l.stop l.i
