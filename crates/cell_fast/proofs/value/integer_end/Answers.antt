-- `cell_fast::value::integer_end` meets its contract: a 0 alone, or digits.
use Rattle.std.proofs.lemmas.Option.{IfSome_then}
use native.Mathlib.Omega.{arith}
use Rattle.cell_fast.proofs.BareValues.{integer_zero, integer_digits}
use Rattle.cell_fast.proofs.value.integer_end.Goals as goal

pub returns-then-s-at-ne48 : goal.returns-then-s-at-ne48
returns-then-s-at-ne48 c =
    IfSome_then c.digits_end.result c.digits_end.ensures (λ r x. integer_digits c.args.s.now c.args.stop c.args.at c.requires.bounds.1 c.if-s-at-ne48.true x)

pub returns : goal.returns
returns c = integer_zero c.args.s.now c.args.stop c.args.at c.requires.bounds.1 (omega arith) c.if-s-at-ne48.false
