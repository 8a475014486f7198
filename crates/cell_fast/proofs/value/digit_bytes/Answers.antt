use native.Mathlib.Omega.{arith}
use mathlib.Core.Path.{◌≡◌, sym, ◌∙◌}
use Rattle.cell_fast.proofs.PassRuns.{pass_none, pass_byte}
use Rattle.cell_fast.proofs.value.digit_bytes.Goals as goal

pub loop-i-init : goal.loop-i-init
loop-i-init c = pass_none c.args.s.now c.args.at c.args.stop c.requires.0

pub returns-then-not-is_digit : goal.returns-then-not-is_digit
returns-then-not-is_digit c = record { run = c.loop-i.invariant; ends = λ l. sym c.is_digit.ensures ∙ c.if-not-is_digit.true }

pub loop-i-preserved : goal.loop-i-preserved
loop-i-preserved c =
    pass_byte c.loop-i.invariant c.loop-i-test.true c.requires.1 (sym c.is_digit.ensures ∙ c.if-not-is_digit.false)

pub returns : goal.returns
returns c =
    let x = c.loop-i.invariant in
    let upto = x.upto in
    let e : c.loop-i.i ≡ c.args.stop = omega arith in
    record { run = rw e at x; ends = λ l. absurd (omega arith) }
