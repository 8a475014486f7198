-- `piece_run::steps::run_steps` meets its contract. The invariant: the place is ready and in bounds, and it represents the position that
-- reading reaches from the first place.
use Prim.Native.Nat.{ℕ, ◌-◌}
use mathlib.Core.Path.{◌≡◌}
use mathlib.Core.List.{List}
use lib.ListN.{length}
use Rattle.model.specs.rules.Dialect.{into}
use Rattle.model.specs.rules.Records.{Rec}
use Rattle.model.specs.laws.Scans.{Buffered}
use Rattle.piece_state.specs.declared.place.Place.{Place}
use Rattle.piece_step.specs.Steps.{StepReady}
use Rattle.piece_run.specs.Runs.{StepsSoFar}
use Rattle.piece_run.proofs.Runs.{Since}
use Rattle.piece_run.proofs.steps.run_steps.Given as goal

abbrev pub invariant-loop-q : goal.invariant-loop-q
invariant-loop-q l = StepReady l.piece l.n l.i l.p l.bytes l.ends l.out l.o × (length l.bytes ≡ length l.initial.bytes) × (length l.ends ≡ length l.initial.ends) × (length l.out ≡ length l.initial.out)
    × (length l.starts ≡ length l.initial.starts) × (length l.stops ≡ length l.initial.stops) × (length l.kinds ≡ length l.initial.kinds)
    × ((began : Place) (done : List Rec) (k : Buffered) (first : List ℕ)
    (w : StepsSoFar l.d (into l.t) l.piece began done k first l.from l.initial.p l.initial.bytes l.initial.ends l.initial.out l.at) →
    Since w.done' l.d (into l.t) l.piece began done k first l.i l.p l.bytes l.ends l.out l.o)

abbrev pub decreases-loop-q : goal.decreases-loop-q
decreases-loop-q l = length l.piece - l.i
