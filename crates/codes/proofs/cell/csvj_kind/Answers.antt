-- `codes::cell::csvj_kind` meets its contract, by its arms in the order of the definition.
use Rattle.model.specs.rules.Base.{choose◌then◌else◌}
use Rattle.model.proofs.Tests.{tests}
use Rattle.codes.specs.FirstByte.{kind_by}
use Rattle.codes.proofs.cell.csvj_kind.Goals as goal

pub returns-in-34 : goal.returns-in-34
unfolding kind_by choose◌then◌else◌
returns-in-34 c = rw c.in-34.is

pub returns-in-116 : goal.returns-in-116
unfolding kind_by choose◌then◌else◌
returns-in-116 c = rw c.in-116.is

pub returns-in-102 : goal.returns-in-102
unfolding kind_by choose◌then◌else◌
returns-in-102 c = rw c.in-102.is

pub returns-in-110 : goal.returns-in-110
unfolding kind_by choose◌then◌else◌
returns-in-110 c = rw c.in-110.is

pub returns-in_default : goal.returns-in_default
unfolding kind_by choose◌then◌else◌
returns-in_default c = search tests
