-- `record_fast::record_start` meets its contract: the fast path begins between records only.
use Rattle.record_fast.specs.FastScan.{here, unknown}
use Rattle.record_fast.proofs.record_start.Goals as goal

pub returns-in-Begin : goal.returns-in-Begin
returns-in-Begin c = here c.in-Begin.is

pub returns-in_default : goal.returns-in_default
returns-in_default c = unknown
