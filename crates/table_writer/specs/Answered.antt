-- The answer of the writer for a known dialect and known records.
use Rattle.std.specs.Prelude.{ℕ, List}
use Rattle.std.specs.Prelude.{Option, None, Some}
use Rattle.model.specs.declared.Dialect.{Dialect}
use Rattle.model.specs.rules.Dialect.{into}
use Rattle.model.specs.rules.Text.{Value}
use Rattle.model.specs.rules.Report.{refusal}
use Rattle.model.specs.rules.Api.{Table, Written, unwritten, rows_in, rows_fault, written_rows}

-- the answer for the records of a table (§13.11 §13.13)
abbrev pub table_written : Dialect → List (List Value) → (room : ℕ) → Written
table_written t rs room = written_rows (into t) room rs (rows_fault (into t) rs)

-- the answer for records, if what is given is a table (§13.2)
abbrev pub written_in : Dialect → (room : ℕ) → Option (List (List Value)) → Written
written_in t room None = unwritten (refusal 12)
written_in t room (Some rs) = table_written t rs room

-- the writer in a dialect that is known
abbrev pub writer_in : Dialect → Table → (room : ℕ) → Written
writer_in t table room = written_in t room (rows_in table)
