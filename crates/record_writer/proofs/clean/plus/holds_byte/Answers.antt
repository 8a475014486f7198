use mathlib.Core.Path.{sym, ◌∙◌}
use native.Mathlib.Omega.{arith}
use Rattle.record_writer.proofs.ByteMembership.{word_held, word_on}
use Rattle.record_writer.proofs.clean.plus.holds_byte.Goals as goal

pub returns-then-same-ne0 : goal.returns-then-same-ne0
returns-then-same-ne0 c =
    let a = c.args in
    sym (c.loop-i.invariant.1 ∙ word_held a.p a.bs.now c.loop-i.i c.word.ensures c.other_than-same.ensures c.if-same-ne0.true)

pub loop-i-preserved : goal.loop-i-preserved
loop-i-preserved c =
    let a = c.args in
    (omega arith, c.loop-i.invariant.1 ∙ word_on a.p a.bs.now c.loop-i.i c.word.ensures c.other_than-same.ensures c.if-same-ne0.false)

pub returns : goal.returns
returns c = c.holds_from.ensures ∙ sym c.loop-i.invariant.1
