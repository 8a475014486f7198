use mathlib.Core.Path.{sym, ◌∙◌}
use lib.ListN.{take}
use Rattle.piece_state.proofs.Soundness.{order_breaks, order_goes_on, order_ends}
use Rattle.piece_state.proofs.checks.is_in_order.Goals as goal

pub returns-then-end-at : goal.returns-then-end-at
returns-then-end-at c =
    let l = c.loop-end in
    sym (l.invariant ∙ order_breaks (take c.args.n c.args.ends.now) c.args.fill l.end-index l.at c.loop-end-test.true c.if-end-at.true)

pub loop-end-preserved : goal.loop-end-preserved
loop-end-preserved c =
    let l = c.loop-end in
    l.invariant ∙ order_goes_on (take c.args.n c.args.ends.now) c.args.fill l.end-index l.at c.loop-end-test.true c.if-end-at.false

pub returns : goal.returns
returns c =
    let l = c.loop-end in
    sym (l.invariant ∙ order_ends (take c.args.n c.args.ends.now) c.args.fill l.end-index l.at c.loop-end-test.false)
