use Prim.Native.Nat.{ℕ, ◌+◌, ◌≤◌}
use native.Mathlib.Omega.{arith}
use mathlib.Core.Path.{◌≡◌, sym, ◌∙◌}
use lib.ListN.{get_or}
use Rattle.model.specs.declared.Cell.{Cell}
use Rattle.model.specs.declared.CellStep.TheVariants.{More}
use Rattle.model.specs.rules.Cell.{cell_step}
use Rattle.cell_scanner.proofs.Runs.{rest_more, rest_stops, rest_refused, rest_open}
use Rattle.cell_scanner.proofs.cell_end.Goals as goal

pub returns-in-Stop : goal.returns-in-Stop
returns-in-Stop c =
    let a = c.args in
    sym (c.loop-i.invariant.2 ∙ rest_stops a.d c.loop-i.c a.s.now c.loop-i.i a.stop
    c.loop-i-test.true c.loop-i.invariant.1 (sym c.cell_step.ensures ∙ c.in-Stop.is))

pub returns-in-Refuse : goal.returns-in-Refuse
returns-in-Refuse c =
    let a = c.args in
    sym (c.loop-i.invariant.2 ∙ rest_refused a.d c.loop-i.c a.s.now c.loop-i.i a.stop c.loop-i-test.true c.loop-i.invariant.1
    c.in-Refuse.e (sym c.cell_step.ensures ∙ c.in-Refuse.is))

pub loop-i-preserved : goal.loop-i-preserved
loop-i-preserved c =
    let a = c.args in
    let j : ℕ = c.loop-i.i + 1 in
    let t : Cell = c.in-More.next in
    let next : cell_step a.d c.loop-i.c (get_or a.s.now c.loop-i.i 0) ≡ More t =
    sym c.cell_step.ensures ∙ c.in-More.is in
    let rest = c.cell_run-i.ensures in
    let from : j ≤ c.cell_run-i.result = rest.from in (
      rest.upto,
      c.loop-i.invariant.1,
      c.loop-i.invariant.2
          ∙ rest_more a.d c.loop-i.c a.s.now c.loop-i.i a.stop c.loop-i-test.true c.loop-i.invariant.1 t next
          ∙ rest.same,
    )

pub returns : goal.returns
returns c =
    let a = c.args in
    let e : c.loop-i.i ≡ a.stop = omega arith in
    sym (c.loop-i.invariant.2 ∙ rw e (rest_open a.d c.loop-i.c a.s.now a.stop))
