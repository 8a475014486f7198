-- `file_cursor::finish_record` meets its contract, by the number of cells and the check result.
use Rattle.file_cursor.proofs.RecordChecks.{too_many, ruled_faulty, ruled_sound}
use Rattle.file_cursor.proofs.finish_record.Goals as goal

-- one record more can be counted
pub returns-then-cells-gt-MAX_COLUMNS : goal.returns-then-cells-gt-MAX_COLUMNS
returns-then-cells-gt-MAX_COLUMNS c =
    let a = c.args in
    λ rs vs y z.
    too_many a.d a.target a.file.now a.starts.now a.ends.now a.kinds.now a.cursor a.start a.cells a.state a.next rs vs y z
    _ c.if-cells-gt-MAX_COLUMNS.true c.record_report.ensures

pub returns-in-Ok : goal.returns-in-Ok
returns-in-Ok c =
    let a = c.args in
    let sound = c.in-Ok.is in
    λ rs vs y z.
    ruled_sound a.d a.target a.file.now a.starts.now a.ends.now a.kinds.now a.cursor a.start a.cells a.state a.next rs vs y z
    _ z.values c.if-cells-gt-MAX_COLUMNS.false _ c.check_record.ensures _ sound

pub returns-in-Err : goal.returns-in-Err
returns-in-Err c =
    let a = c.args in
    λ rs vs y z.
    ruled_faulty a.d a.target a.file.now a.starts.now a.ends.now a.kinds.now a.cursor a.start a.cells a.state a.next rs vs y z
    _ z.values c.if-cells-gt-MAX_COLUMNS.false _ c.check_record.ensures _ _
    c.in-Err.is c.record_report-in-Err.ensures
