use native.Mathlib.Omega.{arith}
use mathlib.Core.Path.{◌≡◌, refl, sym, ◌∙◌}
use Rattle.cell_scanner.specs.Run.{KeepsDigits}
use Rattle.cell_scanner.proofs.Runs.{rest_here, rest_on}
use Rattle.cell_scanner.proofs.digit_run.Goals as goal

pub loop-i-init : goal.loop-i-init
loop-i-init c d = rest_here d c.args.c c.args.s.now c.args.stop c.args.at c.requires.0

pub loop-i-preserved : goal.loop-i-preserved
loop-i-preserved c d =
    let keeps : KeepsDigits c.args.c = rw c.in-InNumber.is (c.if-not-keeps_digits.ensures refl) in
    rest_on (c.loop-i.invariant d) c.loop-i-test.true c.requires.1 (keeps d _ (sym c.is_digit.ensures ∙ c.if-not-is_digit.false))

pub returns : goal.returns
returns c d =
    let x = c.loop-i.invariant d in
    let upto = x.upto in
    let e : c.loop-i.i ≡ c.args.stop = omega arith in
    rw e at x

pub returns-then-not-is_digit : goal.returns-then-not-is_digit
returns-then-not-is_digit c = c.loop-i.invariant
