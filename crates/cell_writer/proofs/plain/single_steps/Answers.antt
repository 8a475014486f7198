use mathlib.Core.Path.{sym, ◌∙◌}
use native.Mathlib.Omega.{arith}
use Rattle.cell_writer.proofs.PlainSteps.{run_on, run_stops, run_ends}
use Rattle.cell_writer.proofs.plain.single_steps.Goals as goal

pub loop-i-preserved : goal.loop-i-preserved
loop-i-preserved c =
    let a = c.args in (
      omega arith,
      c.loop-i.invariant.1 ∙ run_on a.p a.q a.r a.s.now c.loop-i.i c.loop-i-test.true
          (sym c.is_plain.ensures ∙ c.if-is_plain.true),
    )

pub returns-after-loop-i : goal.returns-after-loop-i
returns-after-loop-i c =
    let a = c.args in
    sym (c.loop-i.invariant.1 ∙ run_ends a.p a.q a.r a.s.now c.loop-i.i c.loop-i-test.false)

pub returns-else-is_plain : goal.returns-else-is_plain
returns-else-is_plain c =
    let a = c.args in
    sym (c.loop-i.invariant.1 ∙ run_stops a.p a.q a.r a.s.now c.loop-i.i c.loop-i-test.true
    (sym c.is_plain.ensures ∙ c.if-is_plain.false))
