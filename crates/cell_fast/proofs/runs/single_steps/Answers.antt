use native.Mathlib.Omega.{arith}
use lib.ListN.{get_or}
use Rattle.cell_fast.proofs.PassRuns.{pass_none, pass_byte, clean_byte}
use Rattle.cell_fast.proofs.runs.single_steps.Goals as goal

pub loop-i-init : goal.loop-i-init
loop-i-init c = pass_none c.args.s.now c.args.at c.args.stop c.requires.0

pub loop-i-preserved : goal.loop-i-preserved
loop-i-preserved c =
    let a = c.args in
    let clean = clean_byte a.p a.q (get_or a.s.now c.loop-i.i 0) (omega arith) (omega arith) c.if-b-eq92.false c.if-b-p.false c.if-b-q.false in
    pass_byte c.loop-i.invariant c.loop-i-test.true c.requires.1 clean
