-- `file_cursor::finish_file` meets its contract: a file without a record is refused.
use Rattle.file_cursor.proofs.RecordChecks.{ends_first, ends_later}
use Rattle.file_cursor.proofs.finish_file.Goals as goal

pub returns-then-done-eq0 : goal.returns-then-done-eq0
returns-then-done-eq0 c =
    let a = c.args in
    ends_first a.done a.offset _ c.if-done-eq0.true c.record_report.ensures

pub returns : goal.returns
returns c = let a = c.args in ends_later a.done a.offset c.if-done-eq0.false
