use native.Mathlib.Omega.{arith}
use Rattle.buffer.proofs.WriteProgress.{start}
use Rattle.messages.proofs.SentenceLaws.{filled_short, fill_room, fill_next, fill_done}
use Rattle.messages.proofs.refusal.fill.Goals as goal

pub loop-b-init : goal.loop-b-init
loop-b-init c = start _ _ _ (omega (arith, filled_short c.args.e c.args.form.now))

pub write_part-o-requires : goal.write_part-o-requires
write_part-o-requires c =
    let a = c.args in
    fill_room a.e a.form.now c.loop-b.b-index c.loop-b.invariant c.loop-b-test.true

pub loop-b-preserved : goal.loop-b-preserved
loop-b-preserved c =
    let a = c.args in
    fill_next a.e a.form.now c.loop-b.b-index c.loop-b.invariant c.loop-b-test.true c.write_part-o.ensures

pub returns : goal.returns
returns c =
    let a = c.args in
    fill_done a.e a.form.now c.loop-b.b-index c.loop-b.invariant c.loop-b-test.false
