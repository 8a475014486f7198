use mathlib.Core.Path.{◌≡◌, ◌∙◌}
use Prim.Native.Nat.{◌<◌}
use native.Mathlib.Omega.{arith}
use lib.ListN.{drop}
use Rattle.cell_writer.specs.PlainRuns.{plain_run}
use Rattle.cell_writer.proofs.PlainSteps.{word_on, word_ends}
use Rattle.cell_writer.proofs.plain.word_steps.Goals as goal

pub overflow_add-result : goal.overflow_add-result
overflow_add-result c =
    let ends_here : (let l = c.loop-i in let a = c.args in (c.before_flag.result ≡ plain_run a.p a.q a.q (drop l.i a.s.now)) × (c.before_flag.result < 8)) =
    let a = c.args in
    let ends =
    word_ends a.p a.q a.q a.s.now c.loop-i.i c.word.ensures
    c.unplain-flags.ensures c.if-flags-ne0.true in
    let same : c.before_flag.result ≡ plain_run a.p a.q a.q (drop c.loop-i.i a.s.now) = c.before_flag.ensures ∙ ends.0 in
    let less : plain_run a.p a.q a.q (drop c.loop-i.i a.s.now) < 8 = ends.1 in
    (same, omega arith) in
    let ends = ends_here in omega arith

pub returns-then-flags-ne0 : goal.returns-then-flags-ne0
returns-then-flags-ne0 c =
    let ends_here : (let l = c.loop-i in let a = c.args in (c.before_flag.result ≡ plain_run a.p a.q a.q (drop l.i a.s.now)) × (c.before_flag.result < 8)) =
    let a = c.args in
    let ends =
    word_ends a.p a.q a.q a.s.now c.loop-i.i c.word.ensures
    c.unplain-flags.ensures c.if-flags-ne0.true in
    let same : c.before_flag.result ≡ plain_run a.p a.q a.q (drop c.loop-i.i a.s.now) = c.before_flag.ensures ∙ ends.0 in
    let less : plain_run a.p a.q a.q (drop c.loop-i.i a.s.now) < 8 = ends.1 in
    (same, omega arith) in
    let ends = ends_here in omega arith

pub loop-i-preserved : goal.loop-i-preserved
loop-i-preserved c =
    let a = c.args in (
      omega arith,
      c.loop-i.invariant.1 ∙ word_on a.p a.q a.q a.s.now c.loop-i.i c.word.ensures
          c.unplain-flags.ensures c.if-flags-ne0.false,
    )
