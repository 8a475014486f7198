use native.Mathlib.Omega.{arith}
use mathlib.Core.Path.{◌≡◌, sym, ◌∙◌}
use mathlib.Core.Bool.{true, false}
use lib.ListN.{get_or}
use Rattle.swar.specs.Words.{ordinary}
use Rattle.cell_scanner.proofs.Runs.{leading_on, leading_ends, leading_none}
use Rattle.cell_scanner.proofs.single_steps.Goals as goal

pub returns-then-not-is_ordinary : goal.returns-then-not-is_ordinary
returns-then-not-is_ordinary c =
    let a = c.args in
    let end : ordinary a.p a.q (get_or a.s.now c.loop-i.i 0) ≡ false = cc in
    sym (c.loop-i.invariant ∙ leading_ends a.s.now c.loop-i.i a.stop a.p a.q c.loop-i-test.true c.requires.1 end)

pub loop-i-preserved : goal.loop-i-preserved
loop-i-preserved c =
    let a = c.args in
    let on : ordinary a.p a.q (get_or a.s.now c.loop-i.i 0) ≡ true = cc in
    c.loop-i.invariant ∙ leading_on a.s.now c.loop-i.i a.stop a.p a.q c.loop-i-test.true c.requires.1 on

pub returns : goal.returns
returns c =
    let a = c.args in
    let e : c.loop-i.i ≡ a.stop = omega arith in
    sym (c.loop-i.invariant ∙ rw e (leading_none a.s.now a.stop a.p a.q))
