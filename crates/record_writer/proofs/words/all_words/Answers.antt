use native.Mathlib.Omega.{arith}
use Rattle.swar.proofs.Spans.{check_word, check_last}
use Rattle.record_writer.proofs.words.all_words.Goals as goal

pub loop-i-preserved : goal.loop-i-preserved
loop-i-preserved g c = (
  omega arith,
  omega arith,
  λ passes fit.
      check_word (c.loop-i.invariant.2 passes fit) (fit _ _ (omega arith) c.unfit.ensures) (omega arith) (omega arith) c.word.ensures c.if-unfit-ne0.false,
)

pub returns : goal.returns
returns g c = λ passes fit e.
    check_last (c.loop-i.invariant.2 passes fit) (fit _ _ (omega arith) c.unfit-2.ensures) (omega arith) c.last_word.ensures e
