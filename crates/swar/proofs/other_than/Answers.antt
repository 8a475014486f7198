-- `swar::other_than` meets its contract, by the test of one byte.
use native.Mathlib.Omega.{arith}
use Rattle.swar.proofs.ThresholdTests.{other_flags}
use Rattle.swar.proofs.other_than.Goals as goal

pub returns : goal.returns
returns c = other_flags c.args.w (omega arith) c.args.c (omega arith)
