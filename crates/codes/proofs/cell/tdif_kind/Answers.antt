-- `codes::cell::tdif_kind` meets its contract, by its test.
use Rattle.model.specs.rules.Base.{choose◌then◌else◌}
use Rattle.model.proofs.Tests.{tests}
use Rattle.codes.specs.FirstByte.{kind_by}
use Rattle.codes.proofs.cell.tdif_kind.Goals as goal

pub returns-then-b-eq34 : goal.returns-then-b-eq34
unfolding kind_by choose◌then◌else◌
returns-then-b-eq34 c = search tests

pub returns-else-b-eq34 : goal.returns-else-b-eq34
unfolding kind_by choose◌then◌else◌
returns-else-b-eq34 c = search tests
