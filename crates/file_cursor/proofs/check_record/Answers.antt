-- `file_cursor::check_record` meets its contract: the source's check result first, then the target's.
use mathlib.Core.Path.{sym, ◌∙◌}
use Rattle.std.proofs.lemmas.Result.{err_from_is_err_and}
use Rattle.file_cursor.proofs.RecordChecks.{source_checked, asked_faulty, asked_reading, asked_both}
use Rattle.file_cursor.proofs.check_record.Goals as goal

pub returns-in_err-check-in-None : goal.returns-in_err-check-in-None
returns-in_err-check-in-None c =
    let a = c.args in
    let p = err_from_is_err_and c.from_residual.result c.from_residual.ensures.1 in
    rw (p.1, p.2)
    (asked_faulty a.d a.cursor _ _ (source_checked a.d _ a.cursor.done a.cursor.columns) a.target _
    (sym c.check.ensures ∙ c.in_err-check-in-None.was))

pub returns-in_ok-check-in-None : goal.returns-in_ok-check-in-None
returns-in_ok-check-in-None c =
    let a = c.args in
    asked_reading a.d a.cursor _ _ (source_checked a.d _ a.cursor.done a.cursor.columns) a.target c.in-None.is
    (sym c.check.ensures ∙ c.in_ok-check-in-None.was) c.requires.written_bound

pub returns-in-Some : goal.returns-in-Some
returns-in-Some c =
    let a = c.args in
    asked_both a.d a.cursor _ _ (source_checked a.d _ a.cursor.done a.cursor.columns) a.target _ _ c.in-Some.is c.check_record.ensures
