-- `record_fast::crlf_end` meets its contract: a CR is an ending only with the LF after it.
use native.Mathlib.Omega.{arith}
use Rattle.record_fast.specs.FastScan.{by_pair, nowhere}
use Rattle.record_fast.proofs.crlf_end.Goals as goal

pub returns-then-stop-e-lt2 : goal.returns-then-stop-e-lt2
returns-then-stop-e-lt2 c = λ d _. nowhere

pub returns : goal.returns
returns c = λ d h. by_pair (omega arith) h c.if-part-e-ne10.false
