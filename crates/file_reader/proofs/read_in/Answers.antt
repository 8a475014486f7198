-- `file_reader::read_in` meets its contract, by the cursor's result for the header.
use lib.ListN.{length}
use Rattle.file_cursor.proofs.Traversal.{at_value}
use Rattle.file_reader.proofs.ReaderAnswers.{from_start, begins, no_header, no_records, shortest}
use Rattle.file_reader.proofs.read_in.Goals as goal

pub read_records-requires-clause-header_read : goal.read_records-requires-clause-header_read
read_records-requires-clause-header_read c =
    begins (from_start c.at_start.ensures c.next_record.ensures.next_record_sound) (at_value c.in-Ok-Some.is c.in-Ok-Some.field-0-is)

pub returns-in-Ok-Some : goal.returns-in-Ok-Some
returns-in-Ok-Some c =
    let a = c.args in
    let lengths = shortest (length a.starts.now) (length a.ends.now) (length a.kinds.now) in
    let m = lengths _ _ c.min.ensures c.min-room.ensures in
    let t = c.read_records.ensures in
    record {
      value = rw (← m.0) t.value;
      starts_after = rw (← m.0) t.starts_after;
      ends_after = rw (← m.0) t.ends_after;
      kinds_after = rw (← m.0) t.kinds_after;
    }

pub returns-in-Ok-None : goal.returns-in-Ok-None
returns-in-Ok-None c =
    let q = c.at_start.ensures in
    let a = c.args in
    let n = from_start q c.next_record.ensures.next_record_sound in
    let o = no_records n _ a.starts.now a.ends.now a.kinds.now _ _ c.refused.ensures
    (at_value c.in-Ok-None.is c.in-Ok-None.field-0-is) c.call_report.ensures in
    record { value = o.answer; starts_after = o.at_starts; ends_after = o.at_ends; kinds_after = o.at_kinds }

pub returns-in-Err : goal.returns-in-Err
returns-in-Err c =
    let q = c.at_start.ensures in
    let a = c.args in
    let n = from_start q c.next_record.ensures.next_record_sound in
    let o = no_header n _ a.starts.now a.ends.now a.kinds.now _ _ c.refused-in-Err.ensures c.in-Err.is in
    record { value = o.answer; starts_after = o.at_starts; ends_after = o.at_ends; kinds_after = o.at_kinds }
