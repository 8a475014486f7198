-- `scan_next` meets its contract, by the scanner's result; where that needs input, the file ends.
use Rattle.file_cursor.proofs.WholeFile.{at_record, at_fault, at_end}
use Rattle.file_cursor.proofs.scan.scan_next.Goals as goal

pub returns-in-Completed : goal.returns-in-Completed
returns-in-Completed c =
    let a = c.args in
    let t = c.scan.ensures in
    let o = at_record a.d a.file.now a.first a.from a.room a.base a.starts.now a.ends.now a.kinds.now
    c.requires.from_in_bounds.0 _ _ _ _ (t.value, (t.starts_after, (t.ends_after, (t.kinds_after, t.scan_in_bounds)))) _ _ _ _ c.in-Completed.is in
    record { value = o.event; starts_after = o.at_starts; ends_after = o.at_ends; kinds_after = o.at_kinds; event_in_bounds = o.bounds }

pub returns-in-Failed : goal.returns-in-Failed
returns-in-Failed c =
    let a = c.args in
    let t = c.scan.ensures in
    let o = at_fault a.d a.file.now a.first a.from a.room a.base a.starts.now a.ends.now a.kinds.now
    c.requires.from_in_bounds.0 _ _ _ _ (t.value, (t.starts_after, (t.ends_after, (t.kinds_after, t.scan_in_bounds)))) _ _ c.in-Failed.is in
    record { value = o.event; starts_after = o.at_starts; ends_after = o.at_ends; kinds_after = o.at_kinds; event_in_bounds = o.bounds }

pub returns-in-NeedInput : goal.returns-in-NeedInput
returns-in-NeedInput c =
    let a = c.args in
    let t = c.scan.ensures in
    let e = c.at_end.ensures in
    let o = at_end a.d a.file.now a.first a.from a.room a.base a.starts.now a.ends.now a.kinds.now
    c.requires.from_in_bounds.0 _ _ _ _ (t.value, (t.starts_after, (t.ends_after, (t.kinds_after, t.scan_in_bounds)))) _ _ c.in-NeedInput.is _ _ _
    _ (e.value, (e.starts_after, (e.ends_after, e.kinds_after))) in
    record { value = o.event; starts_after = o.at_starts; ends_after = o.at_ends; kinds_after = o.at_kinds; event_in_bounds = o.bounds }
