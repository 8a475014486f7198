-- `swar::from_20` meets its contract, by the test of one byte.
use native.Mathlib.Omega.{arith}
use Rattle.swar.proofs.ThresholdTests.{from_20_flags}
use Rattle.swar.proofs.from_20.Goals as goal

pub returns : goal.returns
returns c = from_20_flags c.args.w (omega arith)
