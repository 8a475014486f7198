use mathlib.Core.Path.{ap}
use native.Mathlib.Omega.{arith}
use lib.ListN.{length}
use Rattle.cell_decoder.proofs.Strings.{string_end, string_quote, string_byte}
use Rattle.cell_decoder.proofs.content.string_length.Goals as goal

pub returns-then-b-eq34 : goal.returns-then-b-eq34
returns-then-b-eq34 c =
    let a = c.args in
    omega (arith, ap length (string_quote a.raw.now c.loop-i.i c.loop-i-test.true c.if-b-eq34.true))

pub loop-i-preserved : goal.loop-i-preserved
loop-i-preserved c =
    let a = c.args in (
      omega arith,
      omega (
        arith,
        ap length (string_byte a.raw.now c.loop-i.i c.loop-i-test.true c.if-b-eq34.false c.if-b-eq92.false),
      ),
    )

pub returns : goal.returns
returns c = omega (arith, ap length (string_end c.args.raw.now c.loop-i.i c.loop-i-test.false))
