-- The dialect of a number meets its contract, by its tests.
use mathlib.Core.Path.{refl}
use Rattle.model.specs.rules.Base.{choose◌then◌else◌}
use Rattle.model.specs.rules.Dialect.{dialect_of}
use Rattle.model.proofs.Tests.{tests}
use Rattle.model.proofs.numbers.DialectTryFromU32.try_from.Goals as goal

pub returns-in-1 : goal.returns-in-1
unfolding dialect_of choose◌then◌else◌
returns-in-1 c = rw c.in-1.is refl

pub returns-in-2 : goal.returns-in-2
unfolding dialect_of choose◌then◌else◌
returns-in-2 c = rw c.in-2.is refl

pub returns-in-3 : goal.returns-in-3
unfolding dialect_of choose◌then◌else◌
returns-in-3 c = rw c.in-3.is refl

pub returns-in_default : goal.returns-in_default
unfolding dialect_of choose◌then◌else◌
returns-in_default c = search tests
