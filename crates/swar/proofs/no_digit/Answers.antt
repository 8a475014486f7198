-- `swar::no_digit` meets its contract, by the test of one byte.
use native.Mathlib.Omega.{arith}
use Rattle.swar.proofs.DigitTest.{digit_flags}
use Rattle.swar.proofs.no_digit.Goals as goal

pub returns : goal.returns
returns c = digit_flags c.args.w (omega arith)
