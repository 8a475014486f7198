-- `file_reader::read_records` meets its contract. The first pass stores nothing, so that a refusal leaves the lists as they were; then the
-- header fills its places, and a second pass those that follow.
use native.Mathlib.Omega.{arith}
use Prim.Native.Nat.{ℕ}
use mathlib.Core.List.{List}
use mathlib.Core.Path.{◌≡◌, ap, ◌∙◌}
use lib.ListN.{length}
use Rattle.record_scanner.specs.Stored.{stored_from}
use Rattle.record_scanner.proofs.StoreLaws.{length_stored_from}
use Rattle.file_reader.proofs.ReaderAnswers.{unchanged, part_room, data_refused, data_crowded, data_roomy}
use Rattle.file_reader.proofs.read_records.Goals as goal

-- a list that was filled has the length that it had before a pass that stored nothing
still : (room : ℕ) (xs : List ℕ) {old new first : List ℕ} → new ≡ stored_from room 0 xs old → old ≡ first → length new ≡ length first
still room xs {old = old} e k = ap length e ∙ length_stored_from room 0 xs old ∙ ap length k

pub data_records-requires : goal.data_records-requires
data_records-requires c =
    let b = c.requires.header_read in
    record { from_in_bounds = (b.inside, b.under); room_in_bounds = (omega arith, omega arith, omega arith) }

pub returns-then-room-columns : goal.returns-then-room-columns
returns-then-room-columns c =
    let kept = unchanged c.data_records.ensures in
    let o = data_crowded c.args.room c.requires.header_read c.data_records.ensures kept
    c.in-Ok.is c.if-room-columns.true _ c.call_report.ensures _
    c.refused-then-room-columns.ensures in
    record { value = o.answer; starts_after = o.at_starts; ends_after = o.at_ends; kinds_after = o.at_kinds }

pub data_records-requires-in-Ok : goal.data_records-requires-in-Ok
data_records-requires-in-Ok c =
    let kept = unchanged c.data_records.ensures in
    let a = c.args in
    let q = c.requires in
    let l = c.scan_next.new in
    let t = c.scan_next.ensures in
    record {
      from_in_bounds = (q.header_read.inside, q.header_read.under);
      room_in_bounds = (
        part_room a.room a.columns l.starts (rw (still _ _ t.starts_after kept.0) q.room_in_bounds.0),
        part_room a.room a.columns l.ends (rw (still _ _ t.ends_after kept.1) q.room_in_bounds.1),
        part_room a.room a.columns l.kinds (rw (still _ _ t.kinds_after kept.2) q.room_in_bounds.2),
      );
    }

pub returns-in-Err : goal.returns-in-Err
returns-in-Err c =
    let kept = unchanged c.data_records.ensures in
    let o = data_refused c.args.room c.requires.header_read c.data_records.ensures kept _ c.in-Err.is _ c.refused.ensures in
    record { value = o.answer; starts_after = o.at_starts; ends_after = o.at_ends; kinds_after = o.at_kinds }

pub returns-else-room-columns : goal.returns-else-room-columns
returns-else-room-columns c =
    let kept = unchanged c.data_records.ensures in
    let n = c.scan_next.ensures in
    let o = data_roomy c.args.room c.requires.header_read c.data_records.ensures kept
    c.in-Ok.is c.requires.room_in_bounds
    c.if-room-columns.false n.starts_after n.ends_after n.kinds_after
    c.data_records-in-Ok.ensures _ c.call_report-in-Ok.ensures in
    record { value = o.answer; starts_after = o.at_starts; ends_after = o.at_ends; kinds_after = o.at_kinds }
