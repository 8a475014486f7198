use mathlib.Core.Path.{sym, ◌∙◌}
use native.Mathlib.Omega.{arith}
use Rattle.record_check.proofs.RepeatedNames.{repeat_start, repeat_end, repeat_here, repeat_next}
use Rattle.record_check.proofs.names.first_repeat.Goals as goal

pub returns-then-repeats : goal.returns-then-repeats
returns-then-repeats c = λ fault kinds k.
    let a = c.args in
    sym (repeat_start a.src a.rule fault a.s.now a.starts.now a.ends.now kinds ∙ c.loop-n.invariant fault kinds k
    ∙ repeat_here a.src a.rule fault a.s.now a.starts.now a.ends.now kinds c.requires.paired k c.loop-n.n
    (omega arith) (sym c.repeats.ensures ∙ c.if-repeats.true))

pub loop-n-preserved : goal.loop-n-preserved
loop-n-preserved c =
    let a = c.args in
    λ fault kinds k. c.loop-n.invariant fault kinds k
    ∙ repeat_next a.src a.rule fault a.s.now a.starts.now a.ends.now kinds c.requires.paired k c.loop-n.n
    (omega arith) (sym c.repeats.ensures ∙ c.if-repeats.false)

pub returns : goal.returns
returns c = λ fault kinds k.
    let a = c.args in
    sym (repeat_start a.src a.rule fault a.s.now a.starts.now a.ends.now kinds ∙ c.loop-n.invariant fault kinds k
    ∙ repeat_end a.src a.rule fault a.s.now a.starts.now a.ends.now kinds c.requires.paired k c.loop-n.n (omega arith))
