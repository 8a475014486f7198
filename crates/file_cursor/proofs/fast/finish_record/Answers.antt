-- A data record that passes its checks is the one that the cursor returns; all others fall back.
use mathlib.Core.Path.{sym, ◌∙◌}
use Rattle.file_cursor.proofs.RecordChecks.{ruled_sound, from_ok}
use Rattle.file_cursor.specs.FastNext.{sound, unsure}
use Rattle.file_cursor.proofs.fast.finish_record.Goals as goal

pub returns-then-cells-gt-MAX_COLUMNS : goal.returns-then-cells-gt-MAX_COLUMNS
returns-then-cells-gt-MAX_COLUMNS c = λ rs vs start y z. unsure

pub check_record-requires : goal.check_record-requires
check_record-requires c =
    let q = c.requires in
    let m = c.if-cells-gt-MAX_COLUMNS.false in
    record { cells = q.cells m; clean_in = q.clean_in m; fact = (q.fact.0, q.fact.2) }

-- one record more can be counted
pub returns-in_err-length : goal.returns-in_err-length
returns-in_err-length c = λ rs vs start y z. rw c.from_residual.ensures unsure

pub returns : goal.returns
returns c =
    let a = c.args in
    let kept = from_ok _ (sym c.ok.ensures.value ∙ c.in_ok-length.was) in
    λ rs vs start y z.
    sound
    (ruled_sound a.d a.target a.file.now a.starts.now a.ends.now a.kinds.now a.cursor start a.cells a.state a.next rs vs y z
    _ z.values c.if-cells-gt-MAX_COLUMNS.false _ c.check_record.ensures _ kept)
