-- `next_data_record` meets its contract, by the result of the fast scan.
use Prim.Native.Nat.{◌≤◌}
use native.Mathlib.Omega.{arith}
use mathlib.Core.Path.{refl}
use Rattle.file_cursor.proofs.NextRecords.{now_long, now_stand, now_shown, record_counts}
use Rattle.file_cursor.specs.FastNext.{nothing}
use Rattle.file_cursor.proofs.FastNext.{met, kept, clean_cells, tells}
use Rattle.file_cursor.proofs.fast.next_data_record.Goals as goal

pub returns-then-done-eq0 : goal.returns-then-done-eq0
returns-then-done-eq0 c = record { fast_next_sound = λ rs y. nothing; same_lengths = record { at_starts = refl; at_ends = refl; at_kinds = refl } }

pub finish_record-requires : goal.finish_record-requires
finish_record-requires c =
    let q = c.requires in
    let t = c.scan.ensures in
    let z = c.in_ok-cells.was in
    let m = met t q.from_in_bounds.2 q.from_in_bounds.0 q.long z in
    let later = c.if-done-eq0.false in
    let under : c.args.done ≤ c.args.from = q.done_le_from.0 in
    let most : c.args.from ≤ 16777215 = q.from_in_bounds.1 in
    record {
      long = now_long m;
      cells = now_stand m _ (record_counts m refl);
      clean_in = clean_cells t q.from_in_bounds.2 q.from_in_bounds.0 q.long z;
      fact = (later, omega arith, q.done_le_from.1);
    }

pub returns-in_err-cells : goal.returns-in_err-cells
returns-in_err-cells c =
    let q = c.requires in
    record {
      fast_next_sound = λ rs y. rw c.from_residual.ensures nothing;
      same_lengths = kept c.scan.ensures q.from_in_bounds.2 q.from_in_bounds.0 q.long;
    }

pub returns : goal.returns
returns c =
    let q = c.requires in
    let a = c.args in
    let t = c.scan.ensures in
    let z = c.in_ok-cells.was in
    let m = met t q.from_in_bounds.2 q.from_in_bounds.0 q.long z in
    record {
      fast_next_sound =
          λ rs y.
          tells t q.from_in_bounds.2 q.from_in_bounds.0 q.long a.target rs a.done y.count c.if-done-eq0.false z
          (c.finish_record.ensures rs _ _ y (now_shown m _ (record_counts m refl)));
      same_lengths = kept t q.from_in_bounds.2 q.from_in_bounds.0 q.long;
    }
