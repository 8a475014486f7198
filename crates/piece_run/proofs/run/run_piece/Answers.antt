-- `piece_run::run::run_piece` meets its contract: until the header is complete a step uses its arrays; the steps after it use the others,
-- and do not change the names.
use Prim.Native.Nat.{◌<◌}
use native.Mathlib.Omega.{arith}
use mathlib.Core.Path.{◌≡◌, refl, sym, ap, subst}
use borrow.Author.Rules.{rules}
use Rattle.model.specs.rules.Dialect.{into}
use Rattle.piece_step.specs.declared.CallResult.{CallResult}
use Rattle.piece_step.specs.Steps.{StepInBounds, StepSound}
use Rattle.piece_run.specs.PieceRun.{PieceRunSound}
use Rattle.piece_step.proofs.CallStart.{begun_header, begun_later, ready_header, ready_later}
use Rattle.piece_run.proofs.Runs.{run_begins, walk_nowhere, pended_in_bounds}
use Rattle.piece_run.proofs.PieceRun.{begun_follows, none_current, entered_of, ready_behind, headed_begins, headed_next, took_later, took_pended}
use Rattle.piece_run.proofs.PieceRun.{took_stopped}
use Rattle.piece_run.proofs.run.run_piece.Goals as goal

pub run_after_header-requires : goal.run_after_header-requires
run_after_header-requires c = ready_later c.requires (λ e. omega arith)

pub returns-then-place-gt0 : goal.returns-then-place-gt0
returns-then-place-gt0 c =
    let a = c.args in
    let more : 0 < a.place.records = omega arith in
    let r = c.run_after_header.ensures in record {
      piece_run_sound = λ before done k b.
          let h = headed_begins b more in
          took_later h (r.steps_sound done k (entered_of (begun_later b (λ e. omega arith))) h.now);
      length_in_bounds = r.length_in_bounds;
    }

pub step-requires : goal.step-requires
step-requires c =
    record {
      step_ready = ready_header c.requires (omega arith);
      scratch = record { long_starts = search rules; long_stops = search rules; long_kinds = search rules };
    }

pub run_steps-requires : goal.run_steps-requires
run_steps-requires c =
    let a = c.args in
    let t = c.step in record {
      step_ready = ready_behind (subst (StepInBounds a.piece.now a.place.offset 0 _ a.out.now) c.in-Next.is
          t.ensures.step_in_bounds) c.requires.long_bytes c.requires.long_ends c.out-2-1.given;
      scratch = record {
        long_starts = c.starts-2-1.given;
        long_stops = c.stops-2-1.given;
        long_kinds = c.kinds-2-1.given;
      };
    }

pub returns-in-Next : goal.returns-in-Next
returns-in-Next c =
    let a = c.args in
    let t = c.step in
    let none : a.place.records ≡ 0 = omega arith in
    let bounds = subst (StepInBounds a.piece.now a.place.offset 0 _ a.out.now) c.in-Next.is t.ensures.step_in_bounds in
    let r = c.run_steps.ensures in
    let as_long = c.out-2-1.given in
    let room = r.length_in_bounds in record {
      piece_run_sound = λ before done k b.
          let begins = begun_header b none in
          let turn =
          subst (StepSound a.d (into a.t) a.piece.now 0 a.place done k 0 a.out.now _ _ _) c.in-Next.is
          (t.ensures.step_sound done k begins.hold) in
          let h = headed_next begins (begun_follows b none) none turn (none_current bounds) a.bytes.now a.ends.now in
          took_later h (r.steps_sound a.place done k a.out.now (entered_of begins) as_long h.now);
      length_in_bounds = omega arith;
    }

pub returns-in-NeedInput : goal.returns-in-NeedInput
returns-in-NeedInput c =
    let a = c.args in
    let t = c.step in
    let none : a.place.records ≡ 0 = omega arith in
    let bounds = subst (StepInBounds a.piece.now a.place.offset 0 _ a.out.now) c.in-NeedInput.is t.ensures.step_in_bounds in
    let length-is = ap (λ (x : CallResult). x.length) c.call_result.ensures in record {
      piece_run_sound = λ before done k b.
          let begins = begun_header b none in
          let turn =
          subst (StepSound a.d (into a.t) a.piece.now 0 a.place done k 0 a.out.now _ _ _) c.in-NeedInput.is
          (t.ensures.step_sound done k begins.hold) in
          subst (PieceRunSound a.d (into a.t) before a.piece.now a.place done k a.out.now _ _ a.bytes.now a.ends.now _)
          (sym c.call_result.ensures)
          (took_pended begins (begun_follows b none) none turn (pended_in_bounds bounds) c.call_report.ensures a.bytes.now a.ends.now);
      length_in_bounds = omega arith;
    }

pub returns-in-Failed : goal.returns-in-Failed
returns-in-Failed c =
    let a = c.args in
    let t = c.step in
    let none : a.place.records ≡ 0 = omega arith in
    let length-is = ap (λ (x : CallResult). x.length) c.call_result-in-Failed.ensures in record {
      piece_run_sound = λ before done k b.
          let begins = begun_header b none in
          let turn =
          subst (StepSound a.d (into a.t) a.piece.now 0 a.place done k 0 a.out.now _ _ _) c.in-Failed.is
          (t.ensures.step_sound done k begins.hold) in
          subst (PieceRunSound a.d (into a.t) before a.piece.now a.place done k a.out.now _ _ a.bytes.now a.ends.now _)
          (sym c.call_result-in-Failed.ensures)
          (took_stopped begins none turn a.bytes.now a.ends.now);
      length_in_bounds = omega arith;
    }

pub returns-in-BadState : goal.returns-in-BadState
unfolding run_begins
returns-in-BadState c =
    let a = c.args in
    let t = c.step in
    let none : a.place.records ≡ 0 = omega arith in
    let length-is = ap (λ (x : CallResult). x.length) c.call_result-in-BadState.ensures in record {
      piece_run_sound = λ before done k b.
          let begins = begun_header b none in
          let turn =
          subst (StepSound a.d (into a.t) a.piece.now 0 a.place done k 0 a.out.now _ _ _) c.in-BadState.is
          (t.ensures.step_sound done k begins.hold) in
          walk_nowhere (run_begins begins) (entered_of begins) refl turn;
      length_in_bounds = omega arith;
    }
