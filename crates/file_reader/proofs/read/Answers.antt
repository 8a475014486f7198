-- `file_reader::read` meets its contract, by the dialect that the number names.
use mathlib.Core.Path.{sym, ap, ◌∙◌}
use Rattle.std.specs.Result.{result_ok}
use Rattle.file_reader.proofs.ReaderAnswers.{known, unknown}
use Rattle.file_reader.proofs.read.Goals as goal

pub returns-in-Ok : goal.returns-in-Ok
returns-in-Ok c =
    let a = c.args in
    let t = c.read_in.ensures in
    let o =
    known a.dialect _ (ap result_ok (sym c.in-Ok.is) ∙ c.try_from.ensures) a.file.now a.starts.now
    a.ends.now a.kinds.now _ _ _ _ (t.value, (t.starts_after, (t.ends_after, t.kinds_after))) in
    record { answer = o.0; leaves_starts = o.1.0; leaves_ends = o.1.1.0; leaves_kinds = o.1.1.1 }

pub returns-in-Err : goal.returns-in-Err
returns-in-Err c =
    let a = c.args in
    let o =
    unknown a.dialect (ap result_ok (sym c.in-Err.is) ∙ c.try_from.ensures) a.file.now
    a.starts.now a.ends.now a.kinds.now _ _ c.call_report.ensures c.refused.ensures in
    record { answer = o.0; leaves_starts = o.1.0; leaves_ends = o.1.1.0; leaves_kinds = o.1.1.1 }
