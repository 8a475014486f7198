-- `file_cursor::next_record` meets its contract, by the event of the scanner.
use Rattle.file_cursor.proofs.NextRecords.{met, now_kept, now_stand, now_shown, record_counts, last_counts, record_visited}
use Rattle.file_cursor.proofs.NextRecords.{last_visited, fault_visited, end_visited}
use Rattle.file_cursor.proofs.next_record.Goals as goal

pub finish_record-requires-clause-cells : goal.finish_record-requires-clause-cells
finish_record-requires-clause-cells c =
    let n = c.scan_next.ensures in
    let m = met c.requires.offset_in_bounds.2 c.requires.offset_in_bounds.0 c.requires.long n.value n.starts_after n.ends_after n.kinds_after n.event_in_bounds in
    now_stand m _ (record_counts m c.in-Completed.is)

pub finish_record-requires-in-LastRecord-clause-cells : goal.finish_record-requires-in-LastRecord-clause-cells
finish_record-requires-in-LastRecord-clause-cells c =
    let n = c.scan_next.ensures in
    let m = met c.requires.offset_in_bounds.2 c.requires.offset_in_bounds.0 c.requires.long n.value n.starts_after n.ends_after n.kinds_after n.event_in_bounds in
    now_stand m _ (last_counts m c.in-LastRecord.is)

pub returns-in-Completed : goal.returns-in-Completed
returns-in-Completed c =
    let n = c.scan_next.ensures in
    let m = met c.requires.offset_in_bounds.2 c.requires.offset_in_bounds.0 c.requires.long n.value n.starts_after n.ends_after n.kinds_after n.event_in_bounds in
    let a = c.args in
    let w = c.in-Completed.is in
    record { next_record_sound = λ rs y. record_visited m a.target rs w (c.finish_record.ensures rs _ y (now_shown m _ (record_counts m w))); same_lengths = now_kept m }

pub returns-in-LastRecord : goal.returns-in-LastRecord
returns-in-LastRecord c =
    let n = c.scan_next.ensures in
    let m = met c.requires.offset_in_bounds.2 c.requires.offset_in_bounds.0 c.requires.long n.value n.starts_after n.ends_after n.kinds_after n.event_in_bounds in
    let a = c.args in
    let w = c.in-LastRecord.is in
    record { next_record_sound = λ rs y. last_visited m a.target rs w (c.finish_record-in-LastRecord.ensures rs _ y (now_shown m _ (last_counts m w))); same_lengths = now_kept m }

pub returns-in-Failed : goal.returns-in-Failed
returns-in-Failed c =
    let n = c.scan_next.ensures in
    let m = met c.requires.offset_in_bounds.2 c.requires.offset_in_bounds.0 c.requires.long n.value n.starts_after n.ends_after n.kinds_after n.event_in_bounds in
    let a = c.args in
    record { next_record_sound = λ rs y. fault_visited m a.target rs a.cursor.done c.in-Failed.is y.count _ c.record_report.ensures; same_lengths = now_kept m }

pub returns-in-End : goal.returns-in-End
returns-in-End c =
    let n = c.scan_next.ensures in
    let m = met c.requires.offset_in_bounds.2 c.requires.offset_in_bounds.0 c.requires.long n.value n.starts_after n.ends_after n.kinds_after n.event_in_bounds in
    let a = c.args in
    record { next_record_sound = λ rs y. end_visited m a.target rs c.in-End.is (c.finish_file.ensures rs y.count); same_lengths = now_kept m }
