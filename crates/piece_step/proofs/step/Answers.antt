-- `piece_step::step` meets its contract: the scanner's result is a scan of the piece, and each outcome is a law of proofs/Steps.antt.
use Prim.Native.Nat.{◌≤◌}
use native.Mathlib.Omega.{arith}
use mathlib.Core.Path.{sym, subst, ◌∙◌}
use lib.ListN.{length}
use Rattle.model.specs.rules.Dialect.{into}
use Rattle.model.specs.rules.Report.{MAXCOLUMNS}
use Rattle.piece_step.specs.Steps.{StepInBounds, stopped_bounds, StepSound}
use Rattle.piece_step.proofs.ScanAnswers.{completed_as, pending_as, failed_as}
use Rattle.piece_step.proofs.Steps.{here, lists_done, cells_shown, next_file, cells_few, start_in, fits_done, bounds_done, turns_done, lists_pended}
use Rattle.piece_step.proofs.Steps.{cells_yet, room_open, end_file, start_yet, opened_yet, bounds_pended, turns_pended_on, turns_failed}
use Rattle.piece_step.proofs.step.Goals as goal

pub scan-requires : goal.scan-requires
scan-requires c =
    let in_starts : MAXCOLUMNS ≤ length c.args.starts.now =
    omega (arith, c.requires.scratch.long_starts) in
    let in_stops : MAXCOLUMNS ≤ length c.args.stops.now =
    omega (arith, c.requires.scratch.long_stops) in
    let in_kinds : MAXCOLUMNS ≤ length c.args.kinds.now =
    omega (arith, c.requires.scratch.long_kinds) in
    let r = c.requires.step_ready in
    let at = r.at in
    let offset = r.bounds.offset in
    record {
      from_in_bounds = (r.inside, omega arith, omega arith);
      size_bound = (r.bounds.size, omega arith);
      room_in_bounds = (in_starts, in_stops, in_kinds);
    }

pub complete_record-r-requires : goal.complete_record-r-requires
complete_record-r-requires c =
    let in_starts : MAXCOLUMNS ≤ length c.args.starts.now =
    omega (arith, c.requires.scratch.long_starts) in
    let in_stops : MAXCOLUMNS ≤ length c.args.stops.now =
    omega (arith, c.requires.scratch.long_stops) in
    let a = c.args in
    let adv = c.scan.ensures in
    let x = completed_as (here a.d a.piece.now a.n a.i a.p a.bytes.now a.ends.now a.out.now a.o c.requires.step_ready) _ _ _ _ (sym adv.value ∙ c.in-Completed.is) in
    let few = cells_few a.d a.piece.now a.n a.i a.p a.bytes.now a.ends.now a.out.now a.o c.requires.step_ready _ _ _ _ x in
    let file = next_file a.d a.piece.now a.n a.i a.p a.bytes.now a.ends.now a.out.now a.o c.requires.step_ready _ _ _ _ x in
    record {
      scratch = record {
        long_starts = c.starts-1.given ∙ c.requires.scratch.long_starts;
        long_stops = c.stops-1.given ∙ c.requires.scratch.long_stops;
        long_kinds = c.kinds-1.given ∙ c.requires.scratch.long_kinds;
      };
      lists = lists_done a.d a.piece.now a.n a.i a.p a.bytes.now a.ends.now a.out.now a.o c.requires.step_ready _ _ _ _ x _ _ _ _
          adv.starts_after adv.ends_after (in_starts) (in_stops) c.starts-1.given c.stops-1.given (omega arith);
      written_bound = (c.requires.step_ready.bounds.written, c.requires.step_ready.room);
    }

pub after_record-requires : goal.after_record-requires
after_record-requires c =
    let a = c.args in
    let adv = c.scan.ensures in
    let x = completed_as (here a.d a.piece.now a.n a.i a.p a.bytes.now a.ends.now a.out.now a.o c.requires.step_ready) _ _ _ _ (sym adv.value ∙ c.in-Completed.is) in
    let records = c.requires.step_ready.bounds.records in
    let offset = c.requires.step_ready.bounds.offset in
    record {
      next_bound = (
        next_file a.d a.piece.now a.n a.i a.p a.bytes.now a.ends.now a.out.now a.o c.requires.step_ready _ _ _ _ x,
        start_in a.d a.piece.now a.n a.i a.p a.bytes.now a.ends.now a.out.now a.o c.requires.step_ready _ _ _ _ x,
        omega arith,
      );
      fitting = fits_done a.d a.piece.now a.n a.i a.p a.bytes.now a.ends.now a.out.now a.o c.requires.step_ready _ _ _ _ x _ _ _ _ _ _
          c.complete_record-r.ensures;
    }

pub buffer_rest-requires : goal.buffer_rest-requires
buffer_rest-requires c =
    let in_starts : MAXCOLUMNS ≤ length c.args.starts.now =
    omega (arith, c.requires.scratch.long_starts) in
    let in_stops : MAXCOLUMNS ≤ length c.args.stops.now =
    omega (arith, c.requires.scratch.long_stops) in
    let a = c.args in
    let adv = c.scan.ensures in
    let x = pending_as (here a.d a.piece.now a.n a.i a.p a.bytes.now a.ends.now a.out.now a.o c.requires.step_ready) _ _ (sym adv.value ∙ c.in-NeedInput.is) in
    let file = end_file a.d a.piece.now a.n a.i a.p a.bytes.now a.ends.now a.out.now a.o c.requires.step_ready _ _ x in
    record {
      lists = lists_pended a.d a.piece.now a.n a.i a.p a.bytes.now a.ends.now a.out.now a.o c.requires.step_ready _ _ x _ _ _ _
          adv.starts_after adv.ends_after (in_starts) (in_stops) c.starts-1.given c.stops-1.given;
      piece_bound = (
        omega arith,
        start_yet a.d a.piece.now a.n a.i a.p a.bytes.now a.ends.now a.out.now a.o c.requires.step_ready _ _ x,
        opened_yet a.d a.piece.now a.n a.i a.p a.bytes.now a.ends.now a.out.now a.o c.requires.step_ready _ _ x,
      );
      piece_in_bounds = room_open a.d a.piece.now a.n a.i a.p a.bytes.now a.ends.now a.out.now a.o c.requires.step_ready _ _ x _ _ _ _
          adv.starts_after adv.ends_after (in_starts) (in_stops);
    }

pub returns-in-Completed : goal.returns-in-Completed
returns-in-Completed c =
    let in_starts : MAXCOLUMNS ≤ length c.args.starts.now =
    omega (arith, c.requires.scratch.long_starts) in
    let in_stops : MAXCOLUMNS ≤ length c.args.stops.now =
    omega (arith, c.requires.scratch.long_stops) in
    let a = c.args in
    let adv = c.scan.ensures in
    let x = completed_as (here a.d a.piece.now a.n a.i a.p a.bytes.now a.ends.now a.out.now a.o c.requires.step_ready) _ _ _ _ (sym adv.value ∙ c.in-Completed.is) in
    let done = c.complete_record-r.ensures in
    record {
      step_in_bounds = subst (StepInBounds a.piece.now a.n a.i _ a.out.now) (sym c.after_record.ensures)
          (bounds_done a.d a.piece.now a.n a.i a.p a.bytes.now a.ends.now a.out.now a.o c.requires.step_ready _ _ _ _ x _ _ _ _ _ _ done);
      step_sound = λ rs k hold. subst (StepSound a.d (into a.t) a.piece.now a.i a.p rs k a.o a.out.now _ _ _) (sym c.after_record.ensures)
          (turns_done a.d a.piece.now a.n a.i a.p a.bytes.now a.ends.now a.out.now a.o c.requires.step_ready _ _ _ _ x _ _ _ _ _ _ done
          (λ h. cells_shown a.d a.piece.now a.n a.i a.p a.bytes.now a.ends.now a.out.now a.o
          c.requires.step_ready _ _ _ _ x _ _ _ _ adv.starts_after adv.ends_after (in_starts) (in_stops) h) rs k hold);
    }

pub returns-in-NeedInput : goal.returns-in-NeedInput
returns-in-NeedInput c =
    let in_starts : MAXCOLUMNS ≤ length c.args.starts.now =
    omega (arith, c.requires.scratch.long_starts) in
    let in_stops : MAXCOLUMNS ≤ length c.args.stops.now =
    omega (arith, c.requires.scratch.long_stops) in
    let a = c.args in
    let adv = c.scan.ensures in
    let x = pending_as (here a.d a.piece.now a.n a.i a.p a.bytes.now a.ends.now a.out.now a.o c.requires.step_ready) _ _ (sym adv.value ∙ c.in-NeedInput.is) in
    let p = c.buffer_rest.ensures in
    record {
      step_in_bounds = bounds_pended a.d a.piece.now a.n a.i a.p a.bytes.now a.ends.now a.out.now a.o c.requires.step_ready _ _ x _ _ _ _ p
          (λ h. cells_yet a.d a.piece.now a.n a.i a.p a.bytes.now a.ends.now a.out.now a.o c.requires.step_ready _ _ x _ _ _ _
          adv.starts_after adv.ends_after (in_starts) (in_stops) h);
      step_sound = λ rs k hold. turns_pended_on a.d a.piece.now a.n a.i a.p a.bytes.now a.ends.now a.out.now a.o
          c.requires.step_ready _ _ x _ _ _ _ p
          (λ h. cells_yet a.d a.piece.now a.n a.i a.p a.bytes.now a.ends.now a.out.now a.o c.requires.step_ready _ _ x _ _ _ _
          adv.starts_after adv.ends_after (in_starts) (in_stops) h) (into a.t) rs k hold p;
    }

pub returns-in-Failed : goal.returns-in-Failed
returns-in-Failed c =
    let a = c.args in
    let adv = c.scan.ensures in
    let x = failed_as (here a.d a.piece.now a.n a.i a.p a.bytes.now a.ends.now a.out.now a.o c.requires.step_ready) _ _ (sym adv.value ∙ c.in-Failed.is) in
    record {
      step_in_bounds = stopped_bounds;
      step_sound = λ rs k hold. rw c.record_report.ensures
          (turns_failed a.d a.piece.now a.n a.i a.p a.bytes.now a.ends.now a.out.now a.o c.requires.step_ready _ _ x
          (into a.t) _ _ rs k hold);
    }
