-- The reader's answer, as the definition of the call has it.
use Rattle.std.specs.Prelude.{ℕ, length, None}
use Rattle.model.specs.declared.Dialect.{Dialect}
use Rattle.model.specs.rules.Base.{Bytes}
use Rattle.model.specs.rules.Records.{read_file}
use Rattle.model.specs.rules.Api as api
use Rattle.file_reader.specs.declared.Answer.{Answer}

-- the report, columns, data records and cells, the header's included (§10.1)
abbrev pub call_answer : api.ReadCall → Answer
call_answer c = record { report = c.report; columns = c.columns; records = c.records; cells = c.cells }

-- the same of an answer that has its cells
abbrev pub reader_answer : api.Answer → Answer
reader_answer a = record { report = a.report; columns = a.columns; records = a.records; cells = length a.cells }

-- the answer for a file of this dialect
abbrev pub answer_in : Dialect → Bytes → (room : ℕ) → api.Answer
answer_in d file room = api.read_answer (read_file d None file) room
