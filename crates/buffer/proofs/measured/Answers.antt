-- `buffer::measured` meets its contract: the sum, or the limit.
use native.Mathlib.Omega.{arith}
use Rattle.buffer.specs.Writes.{measure}
use Rattle.buffer.proofs.measured.Goals as goal

pub returns : goal.returns
unfolding measure
returns c = omega arith
