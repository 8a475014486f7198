-- The check result and the measured length for the records of a table.
use Rattle.std.specs.Prelude.{ℕ, Bool, true, false, List, length}
use Rattle.std.specs.Prelude.{Option, None, Some}
use Rattle.model.specs.declared.Dialect.{Dialect}
use Rattle.model.specs.declared.Report.{Report}
use Rattle.model.specs.declared.Target.{Target}
use Rattle.model.specs.rules.Types.{CheckResult}
use Rattle.std.specs.Prelude.{Result, Ok, Err}
use Rattle.model.specs.rules.Base.{Bytes}
use Rattle.model.specs.rules.Dialect.{into}
use Rattle.model.specs.rules.Text.{Value, table_text}
use Rattle.model.specs.rules.Records.{◌or_else◌, header_fault, target_fault}
use Rattle.model.specs.rules.Api.{rows_of, rows_fault}
use Rattle.cell_decoder.specs.declared.source.Source.TheVariants.{Contents}
use Rattle.cell_decoder.specs.Sources.{cells_in}

-- the records of a table: the cells of its lists, `columns` at a time (§13.1)
abbrev pub rows_given : (content : Bytes) (starts ends kinds : List ℕ) (columns records : ℕ) → List (List Value)
rows_given content starts ends kinds columns records = rows_of records columns (cells_in Contents content starts ends kinds)

-- the fault of a header, where the record is one (§13.12)
abbrev pub header_if : Dialect → (header : Bool) → List Value → CheckResult
header_if t true vs = header_fault t vs
header_if t false vs = Ok tt

-- the fault of a record after `written` bytes of text: a header's own, and then the target's (§13.11 §13.12)
abbrev pub row_check : Dialect → (header : Bool) → (written : ℕ) → List Value → CheckResult
row_check t header written vs = header_if t header vs or_else target_fault (into t) header written vs

-- the first fault of these records if there is one, or the length of their text
abbrev pub sum_by : Target → List (List Value) → Option Report → Result ℕ Report
sum_by t rs None = Ok (length (table_text t rs))
sum_by t rs (Some e) = Err e

abbrev pub measured_as : Target → List (List Value) → Result ℕ Report
measured_as t rs = sum_by t rs (rows_fault t rs)
