-- A header gets a header's checks, and any other record those of a data record, which need only the number of its cells.
use Rattle.model.specs.rules.Base.{choose◌then◌else◌}
use Rattle.record_check.proofs.Records.{counted}
use Rattle.record_check.proofs.check.Goals as goal

pub returns-then-header : goal.returns-then-header
unfolding choose◌then◌else◌
returns-then-header c = rw c.if-header.true c.header.ensures

pub returns-else-header : goal.returns-else-header
unfolding choose◌then◌else◌
returns-else-header c = rw c.if-header.false (c.«data».ensures _ (counted c.requires))
