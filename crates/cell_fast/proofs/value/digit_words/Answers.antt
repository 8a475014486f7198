use native.Mathlib.Omega.{arith}
use Rattle.cell_fast.proofs.PassRuns.{pass_none, pass_word}
use Rattle.cell_fast.proofs.value.digit_words.Goals as goal

pub loop-i-init : goal.loop-i-init
loop-i-init c = pass_none c.args.s.now c.args.at c.args.stop c.requires.0

pub loop-i-preserved : goal.loop-i-preserved
loop-i-preserved c = pass_word c.loop-i.invariant (omega arith) c.word.ensures c.no_digit.ensures c.if-no_digit-eq0.true
