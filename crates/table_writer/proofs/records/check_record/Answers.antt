-- `table_writer::records::check_record` meets its contract: a header's own fault comes first.
use mathlib.Core.Path.{sym, ap, ◌∙◌}
use mathlib.Core.List.{List}
use Rattle.std.proofs.lemmas.Result.{err_from_is_err_and}
use Rattle.std.specs.Prelude.{Result, Ok, ℕ, ◌++◌, length}
use Rattle.std.specs.Result.{result_and}
use Rattle.model.specs.declared.Fault.{Fault}
use Rattle.model.specs.rules.Types.{CheckResult}
use Rattle.model.specs.rules.Dialect.{into}
use Rattle.model.specs.rules.Text.{Value, record_text, ending}
use Rattle.model.proofs.Tests.{impossible}
use Rattle.cell_decoder.specs.declared.source.Source.TheVariants.{Contents}
use Rattle.cell_decoder.specs.Sources.{cells_in}
use Rattle.table_writer.proofs.Rows.{header_faulty, header_sound}
use Rattle.table_writer.proofs.records.check_record.Goals as goal

pub returns-in_err-header_fault : goal.returns-in_err-header_fault
returns-in_err-header_fault c =
    let a = c.args in
    let cells : List Value = cells_in Contents a.content.now a.starts.now a.ends.now a.kinds.now in
    let p = err_from_is_err_and c.from_residual.result c.from_residual.ensures.1 in
    rw (p.1, p.2, ← header_faulty a.t a.header a.written cells _ (sym c.header_fault.ensures ∙ c.in_err-header_fault.was))

-- a record of contents is never flagged clean
pub check_target-requires : goal.check_target-requires
check_target-requires c = record { cells = c.requires.cells; clean_record = λ e. impossible e; written_bound = c.requires.written_bound }

pub returns : goal.returns
returns c =
    let a = c.args in
    let cells : List Value = cells_in Contents a.content.now a.starts.now a.ends.now a.kinds.now in
    let long : Result ℕ Fault = Ok (length (record_text (into a.t) a.header cells ++ ending a.t)) in
    c.check_target.ensures
    ∙ ap (λ (v : CheckResult). result_and v long) (header_sound a.t a.header a.written cells (sym c.header_fault.ensures ∙ c.in_ok-header_fault.was))
