-- `file_converter::convert` meets its contract, by the dialects that the numbers name.
use mathlib.Core.Path.{sym, ap, ◌∙◌}
use Rattle.std.specs.Result.{result_ok}
use Rattle.file_converter.proofs.ConverterAnswers.{both_known, source_unknown, target_unknown}
use Rattle.file_converter.proofs.convert.Goals as goal

pub returns-in-Ok-try_from : goal.returns-in-Ok-try_from
returns-in-Ok-try_from c =
    let a = c.args in
    let o =
    both_known a.from a.to _ _ a.file.now a.room.now _ _
    (sym c.try_from.ensures ∙ ap result_ok c.in-Ok.is)
    (sym c.try_from-in-Ok.ensures ∙ ap result_ok c.in-Ok-try_from.is) c.convert_in.ensures.value
    c.convert_in.ensures.room_after in
    record { answer = o.0; leaves = o.1 }

pub returns-in-Err-try_from : goal.returns-in-Err-try_from
returns-in-Err-try_from c =
    let a = c.args in
    let o =
    target_unknown a.from a.to _ a.file.now a.room.now _ _
    (sym c.try_from.ensures ∙ ap result_ok c.in-Ok.is)
    (sym c.try_from-in-Ok.ensures ∙ ap result_ok c.in-Err-try_from.is)
    c.call_report.ensures c.refusal.ensures in
    record { answer = o.0; leaves = o.1 }

pub returns-in-Err : goal.returns-in-Err
returns-in-Err c =
    let a = c.args in
    let o =
    source_unknown a.from a.to a.file.now a.room.now _ _
    (sym c.try_from.ensures ∙ ap result_ok c.in-Err.is)
    c.call_report-in-Err.ensures c.refusal-in-Err.ensures in
    record { answer = o.0; leaves = o.1 }
