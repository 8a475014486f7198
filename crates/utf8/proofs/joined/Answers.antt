-- `utf8::joined` meets its contract: the bits of the two numbers are disjoint, so that they add.
use native.Mathlib.Omega.{arith}
use Rattle.utf8.proofs.Codes.{ten_bits_lem, joins_of}
use Rattle.utf8.proofs.joined.Goals as goal

pub overflow_add-result : goal.overflow_add-result
overflow_add-result c = record { fits = omega (arith, ten_bits_lem c.args.high c.args.low) }

pub returns : goal.returns
returns c = joins_of c.args.high c.args.low _ (omega (arith, ten_bits_lem c.args.high c.args.low))
