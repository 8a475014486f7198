-- Step after step over a piece: the loop's invariant, and what the steps result in.
use Rattle.std.specs.Prelude.{ℕ, ◌≤◌, ◌≡◌, List, length, drop}
use Rattle.std.specs.Prelude.{Some}
use Rattle.model.specs.rules.Base.{Bytes, over}
use Rattle.model.specs.rules.Report.{accepted, MAXPIECE, LEASTOUTPUT}
use Rattle.model.specs.rules.Records.{Rec, Read, going, stopped, read_from, fault_report}
use Rattle.model.specs.laws.Laws.{Grows}
use Rattle.model.specs.laws.Scans.{Buffered}
use Rattle.model.specs.laws.Machine.{new_text}
use Rattle.piece_state.specs.declared.place.Place.{Place}
use Rattle.piece_step.specs.Types.{Dialect, Target, Fault}
use Rattle.piece_step.specs.declared.CallResult.{CallResult}
use Rattle.piece_step.specs.Invariant.{read_at, StateInvariant}
use Rattle.piece_step.specs.Steps.{InBounds}
use Rattle.piece_step.specs.Calls.{Reached, CountsRecords}

-- the invariant at a step of a call that began with this output: the position of the reader, and the text that was written
pub record StepsSoFar (d : Dialect) (t : Target) (piece : Bytes) (place : Place) (done : List Rec) (k : Buffered) (out₀ : Bytes) (i : ℕ) (p : Place)
    (bytes ends out : List ℕ) (o : ℕ) : Type 0 where
  pub done' : List Rec
  pub k' : Buffered
  pub hold : StateInvariant d t p bytes ends done' k'
  pub grown : Grows done done'
  pub reads : read_from d (Some t) (going (read_at d place done k)) piece ≡ read_from d (Some t) (going (read_at d p done' k')) (drop i piece)
  pub text : out ≡ over (new_text t done done') out₀
  pub long : o ≡ length (new_text t done done')

-- the call began where earlier calls ended, with a piece and an output of allowed sizes
pub record Entered (d : Dialect) (t : Target) (piece : Bytes) (place : Place) (done : List Rec) (k : Buffered) (out₀ : Bytes) : Type 0 where
  pub reached : Reached d t (read_at d place done k)
  pub short : length piece ≤ MAXPIECE
  pub room : LEASTOUTPUT ≤ length out₀

-- what the steps result in after the records `mid`: reading continues from the place that is returned; or it met a fault, and the place
-- still counts the records before it
pub data StepsSound (d : Dialect) (t : Target) (piece : Bytes) (place : Place) (done : List Rec) (k : Buffered) (mid : List Rec)
    (out₀ bytes' ends' out' : List ℕ) (r : CallResult) : Type 0 where
  proceeds_all :
      (done' : List Rec) (k' : Buffered) → Grows mid done' → read_from d (Some t) (going (read_at d place done k)) piece ≡ going (read_at d r.place done' k') →
      StateInvariant d t r.place bytes' ends' done' k' → InBounds r.place ends' → r.report ≡ accepted → out' ≡ over (new_text t done done') out₀ →
      r.length ≡ length (new_text t done done') → StepsSound d t piece place done k mid out₀ bytes' ends' out' r
  proceeds_fault :
      (x : Fault) (q : Read) → Grows mid q.done → read_from d (Some t) (going (read_at d place done k)) piece ≡ stopped x q →
      CountsRecords r.place q.done →
      r.report ≡ fault_report x q → out' ≡ over (new_text t done q.done) out₀ → r.length ≡ length (new_text t done q.done) →
      StepsSound d t piece place done k mid out₀ bytes' ends' out' r
