-- `next_data` meets its contract: the fast scan's record is the next one, and after a fallback the scanner's event is.
use mathlib.Core.Path.{refl}
use Rattle.file_cursor.proofs.FastRecords.{told_record, told_nothing}
use Rattle.file_reader.proofs.NextData.{as_data}
use Rattle.file_reader.proofs.pass.next_data.Goals as goal

pub returns-in-Some : goal.returns-in-Some
returns-in-Some c =
    let o = told_record _ _ _ _ _ _ c.scan.ensures c.in-Some.is c.requires.from_in_bounds.0 in
    let m = as_data o _ refl in
    record { value = m.0; starts_after = m.1.0; ends_after = m.1.1.0; kinds_after = m.1.1.1.0; event_in_bounds = m.1.1.1.1 }

pub returns-in-Completed : goal.returns-in-Completed
returns-in-Completed c =
    let n = c.scan_next.ensures in
    let o = told_nothing _ _ _ _ _ _ c.scan.ensures c.in-None.is (n.value, (n.starts_after, (n.ends_after, (n.kinds_after, n.event_in_bounds)))) in
    let m = as_data o _ c.in-Completed.is in
    record { value = m.0; starts_after = m.1.0; ends_after = m.1.1.0; kinds_after = m.1.1.1.0; event_in_bounds = m.1.1.1.1 }

pub returns-in-LastRecord : goal.returns-in-LastRecord
returns-in-LastRecord c =
    let n = c.scan_next.ensures in
    let o = told_nothing _ _ _ _ _ _ c.scan.ensures c.in-None.is (n.value, (n.starts_after, (n.ends_after, (n.kinds_after, n.event_in_bounds)))) in
    let m = as_data o _ c.in-LastRecord.is in
    record { value = m.0; starts_after = m.1.0; ends_after = m.1.1.0; kinds_after = m.1.1.1.0; event_in_bounds = m.1.1.1.1 }

pub returns-in-Failed : goal.returns-in-Failed
returns-in-Failed c =
    let n = c.scan_next.ensures in
    let o = told_nothing _ _ _ _ _ _ c.scan.ensures c.in-None.is (n.value, (n.starts_after, (n.ends_after, (n.kinds_after, n.event_in_bounds)))) in
    let m = as_data o _ c.in-Failed.is in
    record { value = m.0; starts_after = m.1.0; ends_after = m.1.1.0; kinds_after = m.1.1.1.0; event_in_bounds = m.1.1.1.1 }

pub returns-in-End : goal.returns-in-End
returns-in-End c =
    let n = c.scan_next.ensures in
    let o = told_nothing _ _ _ _ _ _ c.scan.ensures c.in-None.is (n.value, (n.starts_after, (n.ends_after, (n.kinds_after, n.event_in_bounds)))) in
    let m = as_data o _ c.in-End.is in
    record { value = m.0; starts_after = m.1.0; ends_after = m.1.1.0; kinds_after = m.1.1.1.0; event_in_bounds = m.1.1.1.1 }
