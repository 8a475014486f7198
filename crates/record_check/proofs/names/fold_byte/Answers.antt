-- `record_check::names::fold_byte` meets its contract, dialect by dialect.
use mathlib.Core.Path.{◌≡◌}
use Prim.Native.Nat.{ℕ}
use mathlib.Core.Bool.{and-false}
use mathlib.Core.Logic.{inl, inr}
use lib.Dec.{leb}
use borrow.Author.Tests.{le-leb, lt-leb}
use Rattle.std.specs.Char.{LowercasesTo}
use Rattle.model.specs.rules.Base.{choose◌then◌else◌}
use Rattle.model.specs.rules.Records.{lower}
use Rattle.record_check.proofs.names.fold_byte.Goals as goal

-- the library's lower case is the definition's
lower_of : (b r : ℕ) → LowercasesTo b r → r ≡ lower b
unfolding choose◌then◌else◌
lower_of b r (inl p) = rw (le-leb 65 b p.0.0, le-leb b 90 p.0.1) p.1
lower_of b r (inr (inl q, e)) = rw (lt-leb 65 b q) e
lower_of b r (inr (inr q, e)) = rw (lt-leb b 90 q, and-false (leb 65 b)) e

pub returns-in-Tdif : goal.returns-in-Tdif
returns-in-Tdif c = rw c.in-Tdif.is (lower_of _ _ c.to_ascii_lowercase.ensures.cases)
