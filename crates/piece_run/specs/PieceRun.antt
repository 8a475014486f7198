-- What a call over a piece results in: the report on reading its bytes, and the text of the records that it completed.
use Rattle.std.specs.Prelude.{ℕ, ◌≡◌, List, ◌++◌, length}
use Rattle.std.specs.Prelude.{Some}
use Rattle.model.specs.rules.Base.{Bytes, over}
use Rattle.model.specs.rules.Report.{accepted}
use Rattle.model.specs.rules.Records.{Rec, Read, going, stopped, read_from, fault_report}
use Rattle.model.specs.laws.Scans.{Buffered}
use Rattle.model.specs.laws.Machine.{new_text}
use Rattle.piece_state.specs.declared.place.Place.{Place}
use Rattle.piece_step.specs.Types.{Dialect, Target, Fault}
use Rattle.piece_step.specs.declared.CallResult.{CallResult}
use Rattle.piece_step.specs.Invariant.{read_at, StateInvariant}
use Rattle.piece_step.specs.Steps.{InBounds, current_in}
use Rattle.piece_step.specs.Calls.{Named, Heads, CountsRecords}

-- the steps over the piece are sound, and the header's names are buffered as they are encoded in the file, also after a fault (§15.2)
pub data PieceRunSound (d : Dialect) (t : Target) (before piece : Bytes) (p : Place) (done : List Rec) (k : Buffered)
    (out names' name_ends' bytes' ends' out' : List ℕ) (r : CallResult) : Type 0 where
  took_all :
      (done' : List Rec) (k' : Buffered) → read_from d (Some t) (going (read_at d p done k)) piece ≡ going (read_at d r.place done' k') →
      StateInvariant d t r.place (current_in r.place names' bytes') (current_in r.place name_ends' ends') done' k' →
      Heads (before ++ piece) r.place names' name_ends' done' k' →
      InBounds r.place (current_in r.place name_ends' ends') → r.report ≡ accepted → out' ≡ over (new_text t done done') out →
      r.length ≡ length (new_text t done done') → PieceRunSound d t before piece p done k out names' name_ends' bytes' ends' out' r
  took_fault :
      (x : Fault) (q : Read) → read_from d (Some t) (going (read_at d p done k)) piece ≡ stopped x q → CountsRecords r.place q.done →
      Named (before ++ piece) names' name_ends' q.done → r.report ≡ fault_report x q → out' ≡ over (new_text t done q.done) out →
      r.length ≡ length (new_text t done q.done) → PieceRunSound d t before piece p done k out names' name_ends' bytes' ends' out' r
