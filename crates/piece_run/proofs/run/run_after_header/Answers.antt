-- `piece_run::run::run_after_header` meets its contract: a piece inside a cell takes no steps; after a fallback nothing was buffered, and
-- the steps begin as they would have.
use Prim.Native.Nat.{ℕ}
use native.Mathlib.Omega.{arith}
use mathlib.Core.Path.{refl, sym, ap, subst}
use mathlib.Core.List.{List}
use borrow.Author.Rules.{rules}
use Rattle.model.specs.rules.Dialect.{into}
use Rattle.piece_step.specs.declared.CallResult.{CallResult}
use Rattle.piece_step.specs.Steps.{StepReady}
use Rattle.piece_run.specs.Runs.{StepsSound}
use Rattle.piece_run.proofs.PieceRun.{cell_buffered, cell_nothing, still_proceeds}
use Rattle.piece_run.proofs.run.run_after_header.Goals as goal

pub returns-in-Some : goal.returns-in-Some
returns-in-Some c =
    let a = c.args in
    let none = ap (λ (x : CallResult). x.length) c.call_result.ensures in record {
      steps_sound = λ done k entered w.
          subst (StepsSound a.d (into a.t) a.piece.now a.place done k w.done' a.out.now _ a.ends.now a.out.now)
          (sym c.call_result.ensures)
          (cell_buffered w c.step.ensures c.in-Some.is c.call_report.ensures);
      length_in_bounds = omega arith;
    }

pub run_steps-requires : goal.run_steps-requires
run_steps-requires c =
    let a = c.args in
    let same = cell_nothing c.step.ensures c.in_default.is in record {
      step_ready = subst (λ (x : List ℕ). StepReady a.piece.now a.place.offset 0 a.place x a.ends.now a.out.now 0) (sym same) c.requires;
      scratch = record { long_starts = search rules; long_stops = search rules; long_kinds = search rules };
    }

pub returns : goal.returns
returns c =
    let a = c.args in
    let same = cell_nothing c.step.ensures c.in_default.is in
    let r = c.run_steps.ensures in record {
      steps_sound = λ done k entered. still_proceeds same (λ w. r.steps_sound a.place done k a.out.now entered refl w);
      length_in_bounds = r.length_in_bounds;
    }
