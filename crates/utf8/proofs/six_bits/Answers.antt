-- `utf8::six_bits` meets its contract: 0x80 is a tag above six bits.
use native.Mathlib.Omega.{arith}
use Rattle.utf8.proofs.Codes.{marked}
use Rattle.utf8.proofs.six_bits.Goals as goal

pub overflow_cast-result : goal.overflow_cast-result
overflow_cast-result c = record { fits = omega (arith, marked 2 6 c.args.u) }

pub returns : goal.returns
returns c = marked 2 6 c.args.u
