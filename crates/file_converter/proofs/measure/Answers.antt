use mathlib.Core.Path.{refl}
use Rattle.std.proofs.lemmas.Result.{err_from_is_err_and}
use Rattle.file_cursor.proofs.Traversal.{at_value, by_fields, sets_out, walks_on, came, full_kept}
use Rattle.file_cursor.proofs.FastNext.{data_came}
use Rattle.file_converter.proofs.Passes.{measured_all, measured_refused}
use Rattle.file_converter.proofs.measure.Goals as goal

pub loop-v-init : goal.loop-v-init
loop-v-init c = (sets_out _ _ _ _ c.at_start-cursor.ensures, record { at_starts = refl; at_ends = refl; at_kinds = refl })

pub loop-v-preserved-in-Some : goal.loop-v-preserved-in-Some
loop-v-preserved-in-Some c =
    let inv = c.loop-v.invariant in
    let r = data_came (c.next_data_record.ensures.fast_next_sound _ (by_fields inv.0.after)) c.in-Some.is in
    (walks_on inv.0 r.next, full_kept inv.1 c.next_data_record.ensures.same_lengths)

pub loop-v-preserved : goal.loop-v-preserved
loop-v-preserved c =
    let inv = c.loop-v.invariant in
    let n = came (c.next_record.ensures.next_record_sound _ inv.0.after) (at_value c.in_ok-v-in-None.was c.in-Some-2.is) in
    (walks_on inv.0 n, full_kept (full_kept inv.1 c.next_data_record.ensures.same_lengths) c.next_record.ensures.same_lengths)

pub returns-in-None-2 : goal.returns-in-None-2
returns-in-None-2 c =
    let inv = c.loop-v.invariant in
    measured_all inv.0 (c.next_record.ensures.next_record_sound _ inv.0.after) (at_value c.in_ok-v-in-None.was c.in-None-2.is)

pub returns-in_err-v-in-None : goal.returns-in_err-v-in-None
returns-in_err-v-in-None c =
    let inv = c.loop-v.invariant in
    let p = err_from_is_err_and c.from_residual.result c.from_residual.ensures.1 in
    rw (p.1, p.2) (measured_refused inv.0 (c.next_record.ensures.next_record_sound _ inv.0.after) c.in_err-v-in-None.was)
