use Rattle.file_reader.proofs.PassInvariant.{goes, record_on, record_refused}
use Rattle.file_reader.proofs.PassInvariant.{last_accepted, fault_refused, finish_accepted}
use Rattle.file_reader.proofs.pass.data_records.Goals as goal

pub loop-start-init : goal.loop-start-init
loop-start-init c =
    let q = c.requires.from_in_bounds in
    goes _ q.0 q.1

pub returns-then-last : goal.returns-then-last
returns-then-last c =
    let l = c.loop-start in
    let v = c.next_data.ensures in
    last_accepted _ l.invariant (v.value, (v.starts_after, (v.ends_after, (v.kinds_after, v.event_in_bounds)))) _ _ _ _ _ c.in-Record.is _ c.«data».ensures
    c.if-last.true c.in-Ok.is

pub loop-start-preserved : goal.loop-start-preserved
loop-start-preserved c =
    let l = c.loop-start in
    let v = c.next_data.ensures in
    record_on _ l.invariant (v.value, (v.starts_after, (v.ends_after, (v.kinds_after, v.event_in_bounds)))) _ _ _ _ _ c.in-Record.is _ c.«data».ensures
    c.if-last.false c.in-Ok.is

pub returns-in-Err : goal.returns-in-Err
returns-in-Err c =
    let l = c.loop-start in
    let v = c.next_data.ensures in
    record_refused _ l.invariant (v.value, (v.starts_after, (v.ends_after, (v.kinds_after, v.event_in_bounds)))) _ _ _ _ _ c.in-Record.is _ c.«data».ensures
    _ c.in-Err.is _ c.record_report.ensures

pub returns-in-Failed : goal.returns-in-Failed
returns-in-Failed c =
    let v = c.next_data.ensures in
    fault_refused _ c.loop-start.invariant (v.value, (v.starts_after, (v.ends_after, (v.kinds_after, v.event_in_bounds)))) _ _
    c.in-Failed.is _ c.record_report-in-Failed.ensures

pub returns-in-End : goal.returns-in-End
returns-in-End c =
    let v = c.next_data.ensures in
    finish_accepted _ c.loop-start.invariant (v.value, (v.starts_after, (v.ends_after, (v.kinds_after, v.event_in_bounds)))) c.in-End.is
