use mathlib.Core.Path.{refl}
use Rattle.file_cursor.proofs.Traversal.{at_value, by_fields, walk_less, came, full_kept}
use Rattle.file_cursor.proofs.FastNext.{data_came}
use Rattle.file_converter.proofs.Passes.{fills, room_there, fills_on, room_data, fills_data, filled_all, never_refused}
use Rattle.file_converter.proofs.write_records.Goals as goal

pub loop-v-init : goal.loop-v-init
loop-v-init c = (fills _ _ _ _ _ c.at_start-cursor.ensures, record { at_starts = refl; at_ends = refl; at_kinds = refl })

pub write_data-at-requires : goal.write_data-at-requires
write_data-at-requires c =
    let inv = c.loop-v.invariant in
    let r = data_came (c.next_data_record.ensures.fast_next_sound _ (by_fields inv.0.walk.after)) c.in-Some.is in
    record { cells = r.next.stand; clean_in = r.cleans; room = room_data inv.0 c.requires r.next r.later }

pub loop-v-preserved-in-Some : goal.loop-v-preserved-in-Some
loop-v-preserved-in-Some c =
    let inv = c.loop-v.invariant in
    let r = data_came (c.next_data_record.ensures.fast_next_sound _ (by_fields inv.0.walk.after)) c.in-Some.is in
    (fills_data inv.0 c.requires r.next r.later c.write_data-at.ensures, full_kept inv.1 c.next_data_record.ensures.same_lengths)

pub write_record-at-requires : goal.write_record-at-requires
write_record-at-requires c =
    let inv = c.loop-v.invariant in
    let n = came (c.next_record.ensures.next_record_sound _ inv.0.walk.after) (at_value c.in-Ok-Some.is c.in-Ok-Some.field-0-is) in
    record { cells = n.stand; room = room_there inv.0 c.requires n }

pub loop-v-smaller : goal.loop-v-smaller
loop-v-smaller c =
    let inv = c.loop-v.invariant in
    let n = came (c.next_record.ensures.next_record_sound _ inv.0.walk.after) (at_value c.in-Ok-Some.is c.in-Ok-Some.field-0-is) in
    walk_less inv.0.walk n

pub loop-v-preserved : goal.loop-v-preserved
loop-v-preserved c =
    let inv = c.loop-v.invariant in
    let n = came (c.next_record.ensures.next_record_sound _ inv.0.walk.after) (at_value c.in-Ok-Some.is c.in-Ok-Some.field-0-is) in
    let l = full_kept (full_kept inv.1 c.next_data_record.ensures.same_lengths) c.next_record.ensures.same_lengths in
    (fills_on inv.0 c.requires n c.write_record-at.ensures, l)

pub returns-in-Ok-None : goal.returns-in-Ok-None
returns-in-Ok-None c =
    let inv = c.loop-v.invariant in
    filled_all inv.0 c.requires (c.next_record.ensures.next_record_sound _ inv.0.walk.after) (at_value c.in-Ok-None.is c.in-Ok-None.field-0-is)

pub returns-in-Err : goal.returns-in-Err
returns-in-Err c =
    let inv = c.loop-v.invariant in
    never_refused inv.0 c.requires (c.next_record.ensures.next_record_sound _ inv.0.walk.after) c.in-Err.is
