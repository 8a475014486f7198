-- The checks of a data record are those of the cursor: after some records the next is no header.
use mathlib.Core.Path.{◌≡◌, ap, ◌∙◌}
use mathlib.Core.Bool.{Bool, false}
use mathlib.Core.List.{◌++◌}
use lib.ListN.{length}
use lib.Dec.{eqb}
use Rattle.std.specs.Prelude.{Ok}
use Rattle.std.specs.Result.{result_and}
use Rattle.std.proofs.lemmas.Result.{err_from_is_err_and}
use Rattle.model.specs.rules.Dialect.{into}
use Rattle.model.specs.rules.Text.{record_text, ending}
use Rattle.model.specs.rules.Records.{target_fault}
use Rattle.cell_decoder.specs.declared.source.Source.TheVariants.{File}
use Rattle.cell_decoder.specs.Sources.{cells_in}
use Rattle.cell_decoder.proofs.CellsIn.{cells_length}
use Rattle.record_writer.specs.CleanRecord.{clean_data}
use Rattle.file_cursor.proofs.RecordChecks.{data_checked, asked_faulty, asked_reading, asked_into}
use Rattle.file_cursor.proofs.FastNext.{no_header}
use Rattle.file_cursor.proofs.fast.check_record.Goals as goal

pub returns-in_err-data : goal.returns-in_err-data
returns-in_err-data c =
    let a = c.args in
    let cells = cells_in (File a.d) a.file.now a.starts.now a.ends.now a.kinds.now in
    let long = cells_length (File a.d) a.file.now a.starts.now a.ends.now a.kinds.now c.requires.cells.with_ends c.requires.cells.with_kinds in
    let source = data_checked a.d cells _ a.cursor.done a.cursor.columns c.requires.fact.0 (c.«data».ensures cells long) in
    let p = err_from_is_err_and c.from_residual.result c.from_residual.ensures.1 in
    rw (p.1, p.2) (asked_faulty a.d a.cursor cells _ source a.target _ c.in_err-data.was)

pub check_target-requires-clause-clean_record : goal.check_target-requires-clause-clean_record
check_target-requires-clause-clean_record c = λ e. clean_data (c.requires.clean_in e)

pub returns-in-None : goal.returns-in-None
returns-in-None c =
    let a = c.args in
    let cells = cells_in (File a.d) a.file.now a.starts.now a.ends.now a.kinds.now in
    let long = cells_length (File a.d) a.file.now a.starts.now a.ends.now a.kinds.now c.requires.cells.with_ends c.requires.cells.with_kinds in
    let source = data_checked a.d cells _ a.cursor.done a.cursor.columns c.requires.fact.0 (c.«data».ensures cells long) in
    asked_reading a.d a.cursor cells _ source a.target c.in-None.is c.in_ok-data.was c.requires.fact.1

pub returns-in-Some : goal.returns-in-Some
returns-in-Some c =
    let a = c.args in
    let cells = cells_in (File a.d) a.file.now a.starts.now a.ends.now a.kinds.now in
    let long = cells_length (File a.d) a.file.now a.starts.now a.ends.now a.kinds.now c.requires.cells.with_ends c.requires.cells.with_kinds in
    let source = data_checked a.d cells _ a.cursor.done a.cursor.columns c.requires.fact.0 (c.«data».ensures cells long) in
    let t = c.in-Some.t in
    let later : false ≡ eqb a.cursor.done 0 = no_header a.cursor.done c.requires.fact.0 in
    asked_into a.d a.cursor cells _ source a.target _ _ c.in-Some.is c.in_ok-data.was
    (c.check_target.ensures
    ∙ ap (λ (h : Bool). result_and (target_fault (into t) h a.cursor.written cells) (Ok (length (record_text (into t) h cells ++ ending t)))) later)
