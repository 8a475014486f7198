use native.Mathlib.Omega.{arith}
use mathlib.Core.Path.{refl}
use Rattle.cell_fast.proofs.PassRuns.{pass_none, pass_word, pass_flag}
use Rattle.cell_fast.proofs.runs.clean_words.Goals as goal

pub loop-i-init : goal.loop-i-init
loop-i-init c = pass_none c.args.s.now c.args.at c.args.stop c.requires.0

pub returns-then-flags-ne0-clause-flags : goal.returns-then-flags-ne0-clause-flags
returns-then-flags-ne0-clause-flags c =
    let flag = pass_flag c.loop-i.invariant (omega arith) c.word.ensures c.unclean-flags.ensures _ c.if-flags-ne0.true refl in
    record { fits = omega arith; first = flag.0; run = flag.1 }

pub loop-i-preserved : goal.loop-i-preserved
loop-i-preserved c = pass_word c.loop-i.invariant (omega arith) c.word.ensures c.unclean-flags.ensures c.if-flags-ne0.false
