-- The faults that a source finds in a complete record: those of a header or those of a data record (§7.8).
use Rattle.std.specs.Prelude.{ℕ, Bool, List}
use Rattle.model.specs.declared.Dialect.{Dialect}
use Rattle.model.specs.rules.Types.{CheckResult}
use Rattle.model.specs.rules.Base.{choose◌then◌else◌}
use Rattle.model.specs.rules.Text.{Value}
use Rattle.model.specs.rules.Records.{header_fault, data_fault}

-- the first fault of a record that is a header or not, in dialect d under a header of this many columns
abbrev pub source_fault : Dialect → (header : Bool) → (columns : ℕ) → List Value → CheckResult
source_fault d header columns vs = choose header then header_fault d vs else data_fault columns vs
