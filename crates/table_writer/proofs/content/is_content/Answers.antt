use mathlib.Core.Path.{sym, ap, ◌∙◌}
use Prim.Native.Nat.{◌+◌, ◌≤◌}
use native.Mathlib.Omega.{arith}
use lib.ListN.{length, drop_of_length-le}
use Rattle.std.specs.Prelude.{Some}
use Rattle.model.specs.rules.Base.{Bytes}
use Rattle.model.specs.rules.Utf8.{is_content, wide_from}
use Rattle.table_writer.specs.Content.{wide_in, wide_of}
use Rattle.table_writer.proofs.Contents.{step_passes, passes_none}
use Rattle.table_writer.proofs.content.is_content.Goals as goal

pub loop-i-init : goal.loop-i-init
unfolding is_content
loop-i-init c = (c.ascii_end-i.ensures.inside, c.ascii_end-i.ensures.same)

pub loop-i-smaller : goal.loop-i-smaller
loop-i-smaller c = omega (arith, c.run_on-i.ensures.on)

pub loop-i-preserved : goal.loop-i-preserved
loop-i-preserved c =
    let l = c.loop-i in (
      c.run_on-i.ensures.inside,
      l.invariant.1
          ∙ step_passes (Some (wide_in l.p)) c.loop-i-test.true (sym (ap wide_of c.in-Some.is) ∙ c.step.ensures) c.run_on-i.ensures,
    )

pub returns-in_default : goal.returns-in_default
returns-in_default c =
    let l = c.loop-i in
    let within : l.i + 1 ≤ length c.args.s.now = omega (arith, c.loop-i-test.true) in
    sym
    (l.invariant.1
    ∙ step_passes (Some (wide_in l.p)) c.loop-i-test.true (sym (ap wide_of c.in_default.is) ∙ c.step.ensures) (passes_none within))

pub returns : goal.returns
returns c =
    let l = c.loop-i in
    let s : Bytes = c.args.s.now in
    sym (l.invariant.1 ∙ ap (wide_from (wide_in l.p)) (drop_of_length-le s c.loop-i-test.false) ∙ sym c.may_end.ensures)
