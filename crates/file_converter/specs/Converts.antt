-- The contract of each pass of a conversion, in terms of reading with a target.
use Rattle.std.specs.Prelude.{ℕ, ◌≤◌, ◌≡◌, length, Some, Result, Ok, Err}
use Rattle.model.specs.declared.Report.{Report}
use Rattle.model.specs.declared.Dialect.{Dialect}
use Rattle.model.specs.declared.Fault.{Fault}
use Rattle.model.specs.rules.Base.{Bytes}
use Rattle.model.specs.rules.Dialect.{into}
use Rattle.model.specs.rules.Text.{table_text}
use Rattle.model.specs.rules.Records.{rows, Read, going, stopped, read_file, fault_report}
use Rattle.model.specs.rules.Api.{Written, converted_as}

-- the answer for a file of d into t
abbrev pub answer_in : (d t : Dialect) → Bytes → (room : ℕ) → Written
answer_in d t file room = converted_as (into t) room (read_file d (Some (into t)) file)

-- the canonical text of what was read
abbrev pub text_in : Dialect → Read → Bytes
text_in t r = table_text (into t) (rows r.done)

-- the result of the first pass: the length of the text, or the report of a fault
pub data MeasureSound (d t : Dialect) (file : Bytes) : Result ℕ Report → Type 0 where
  accepted : {n : ℕ} (r : Read) → read_file d (Some (into t)) file ≡ going r → length (text_in t r) ≡ n → MeasureSound d t file (Ok n)
  refused : (e : Fault) (r : Read) → read_file d (Some (into t)) file ≡ stopped e r → MeasureSound d t file (Err (fault_report e r))

-- the file is accepted, and its text has room
pub record Accepts (d t : Dialect) (file : Bytes) (room : ℕ) : Type 0 where
  pub r : Read
  pub reads : read_file d (Some (into t)) file ≡ going r
  pub fits : length (text_in t r) ≤ room
