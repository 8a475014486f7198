use native.Mathlib.Omega.{arith}
use mathlib.Core.Path.{refl, sym, ap, subst, ◌∙◌}
use Rattle.model.specs.rules.Dialect.{into}
use Rattle.piece_step.specs.declared.CallResult.{CallResult}
use Rattle.piece_step.specs.Steps.{StepInBounds, StepSound}
use Rattle.piece_run.specs.Runs.{StepsSound}
use Rattle.piece_run.proofs.Runs.{since_begins, walk_on, walk_pends, walk_stops, walk_nowhere, walk_quickly, fast_behind, fast_nothing}
use Rattle.piece_run.proofs.Runs.{fast_ready, ready_fast, ready_still, since_still, ready_on, proceeds_forward, pended_in_bounds}
use Rattle.piece_run.proofs.steps.run_steps.Goals as goal

pub loop-q-init : goal.loop-q-init
loop-q-init c = (c.requires.step_ready, refl, refl, refl, refl, refl, refl, λ began done k first w. since_begins w)

pub data_record-requires : goal.data_record-requires
data_record-requires c =
    let l = c.loop-q.invariant in
    let s = c.requires.scratch in record {
      fast_step_ready = fast_ready l.0;
      scratch = record { long_starts = l.4 ∙ s.long_starts; long_stops = l.5 ∙ s.long_stops; long_kinds = l.6 ∙ s.long_kinds };
    }

pub loop-q-smaller-in-Some : goal.loop-q-smaller-in-Some
loop-q-smaller-in-Some c =
    let l = c.loop-q in
    let b = fast_behind c.data_record.ensures.fast_step_in_bounds c.in-Some.is in
    let g0 = b.onward in let g1 = b.inside in omega arith

pub loop-q-preserved-in-Some : goal.loop-q-preserved-in-Some
loop-q-preserved-in-Some c =
    let l = c.loop-q in
    let r = c.data_record.ensures in
    let e = c.in-Some.is in
    let b = fast_behind r.fast_step_in_bounds e in
    let o = c.out-1.given in (
      ready_fast b o l.invariant.0,
      l.invariant.1,
      l.invariant.2,
      o ∙ l.invariant.3,
      c.starts-1.given ∙ l.invariant.4,
      c.stops-1.given ∙ l.invariant.5,
      c.kinds-1.given ∙ l.invariant.6,
      λ began done k first z.
          let s = l.invariant.7 began done k first z in
          let w = s.now in
          walk_quickly w s.grows (r.by_index _ _ w.done' w.k' w.hold) e,
    )

pub step-requires : goal.step-requires
step-requires c =
    let l = c.loop-q.invariant in
    let s = c.requires.scratch in record {
      step_ready = ready_still (fast_nothing c.data_record.ensures.fast_step_in_bounds c.in-None.is) l.0;
      scratch = record {
        long_starts = c.starts-1.given ∙ l.4 ∙ s.long_starts;
        long_stops = c.stops-1.given ∙ l.5 ∙ s.long_stops;
        long_kinds = c.kinds-1.given ∙ l.6 ∙ s.long_kinds;
      };
    }

pub loop-q-smaller : goal.loop-q-smaller
loop-q-smaller c =
    let l = c.loop-q in
    let a = c.args in
    let t = c.step in
    let g = proceeds_forward (subst (StepInBounds a.piece.now a.n l.i _ _) c.in-Next.is t.ensures.step_in_bounds) in
    let g0 = g.0 in let g1 = g.1 in omega arith

pub loop-q-preserved : goal.loop-q-preserved
loop-q-preserved c =
    let l = c.loop-q in
    let a = c.args in
    let t = c.step in
    let same = fast_nothing c.data_record.ensures.fast_step_in_bounds c.in-None.is in
    let b = c.bytes-1.given in
    let e = c.ends-1.given in
    let o = c.out-in-None-1.given in (
      ready_on _ _ _ (subst (StepInBounds a.piece.now a.n l.i _ _) c.in-Next.is t.ensures.step_in_bounds) b e o
          (ready_still same l.invariant.0),
      b ∙ l.invariant.1,
      e ∙ l.invariant.2,
      o ∙ c.out-1.given ∙ l.invariant.3,
      c.starts-in-None-1.given ∙ c.starts-1.given ∙ l.invariant.4,
      c.stops-in-None-1.given ∙ c.stops-1.given ∙ l.invariant.5,
      c.kinds-in-None-1.given ∙ c.kinds-1.given ∙ l.invariant.6,
      λ began done k first z.
          let s = since_still same (l.invariant.7 began done k first z) in
          let w = s.now in
          walk_on w s.grows (subst (StepSound a.d (into a.t) a.piece.now l.i l.p w.done' w.k' l.o _ _ _ _)
          c.in-Next.is (t.ensures.step_sound w.done' w.k' w.hold)),
    )

pub returns-in-NeedInput : goal.returns-in-NeedInput
returns-in-NeedInput c =
    let l = c.loop-q in
    let a = c.args in
    let t = c.step in
    let same = fast_nothing c.data_record.ensures.fast_step_in_bounds c.in-None.is in
    let b = pended_in_bounds (subst (StepInBounds a.piece.now a.n l.i _ _) c.in-NeedInput.is t.ensures.step_in_bounds) in
    let length-is = ap (λ (x : CallResult). x.length) c.call_result.ensures in
    let room = l.invariant.0.room in
    let as_long = l.invariant.3 in record {
      steps_sound = λ began done k first entered long z.
          let s = since_still same (l.invariant.7 began done k first z) in
          let w = s.now in
          subst (StepsSound a.d (into a.t) a.piece.now began done k z.done' first _ _ _) (sym c.call_result.ensures)
          (walk_pends w (subst (StepSound a.d (into a.t) a.piece.now l.i l.p w.done' w.k' l.o _ _ _ _)
          c.in-NeedInput.is (t.ensures.step_sound w.done' w.k' w.hold)) b c.call_report.ensures z.done' s.grows);
      length_in_bounds = omega arith;
    }

pub returns-in-Failed : goal.returns-in-Failed
returns-in-Failed c =
    let l = c.loop-q in
    let a = c.args in
    let t = c.step in
    let same = fast_nothing c.data_record.ensures.fast_step_in_bounds c.in-None.is in
    let length-is = ap (λ (x : CallResult). x.length) c.call_result-in-Failed.ensures in
    let room = l.invariant.0.room in
    let as_long = l.invariant.3 in record {
      steps_sound = λ began done k first entered long z.
          let s = since_still same (l.invariant.7 began done k first z) in
          let w = s.now in
          subst (StepsSound a.d (into a.t) a.piece.now began done k z.done' first _ _ _) (sym c.call_result-in-Failed.ensures)
          (walk_stops w (subst (StepSound a.d (into a.t) a.piece.now l.i l.p w.done' w.k' l.o _ _ _ _)
          c.in-Failed.is (t.ensures.step_sound w.done' w.k' w.hold)) z.done' s.grows);
      length_in_bounds = omega arith;
    }

pub returns-in-BadState : goal.returns-in-BadState
returns-in-BadState c =
    let l = c.loop-q in
    let a = c.args in
    let t = c.step in
    let same = fast_nothing c.data_record.ensures.fast_step_in_bounds c.in-None.is in
    let length-is = ap (λ (x : CallResult). x.length) c.call_result-in-BadState.ensures in
    let room = l.invariant.0.room in
    let as_long = l.invariant.3 in record {
      steps_sound = λ began done k first entered long z.
          let w = (since_still same (l.invariant.7 began done k first z)).now in
          walk_nowhere w entered (c.out-1.given ∙ l.invariant.3 ∙ long)
          (subst (StepSound a.d (into a.t) a.piece.now l.i l.p w.done' w.k' l.o _ _ _ _)
          c.in-BadState.is (t.ensures.step_sound w.done' w.k' w.hold));
      length_in_bounds = omega arith;
    }
