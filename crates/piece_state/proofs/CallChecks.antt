-- The checks before a call are the machine's: by the saved numbers they refuse what it refuses, and take what it takes.
use Prim.Native.Nat.{ℕ}
use mathlib.Core.Path.{◌≡◌, refl, ap, ap₂, ◌∙◌}
use mathlib.Core.Bool.{Bool, true, false}
use Rattle.std.specs.Prelude.{Option, None, Some, Ok, Err}
use lib.ListN.{length}
use borrow.Author.Tests.{lt-ltb}
use Rattle.model.specs.declared.Report.{Report}
use Rattle.model.specs.declared.Dialect.{Dialect}
use Rattle.model.specs.rules.Base.{choose◌then◌else◌}
use Rattle.model.specs.rules.Dialect.{dialect_of}
use Rattle.model.specs.rules.Report.{refusal}
use Rattle.model.specs.rules.Records.{Read}
use Rattle.model.specs.rules.Ledger.{Call, bytes_of, room_of, too_small}
use Rattle.model.specs.laws.Machine.{ConverterStage, taking, faulted, ended, answer_at, stage_after}
use Rattle.piece_state.specs.Checks.{check_between, check_named, check_now, StageEncoded, reports_taking, reports_faulted, reports_ended, CallCheckSound}
use Rattle.piece_state.specs.Checks.{means_refused, means_taken, ChecksMean}

-- ---- dialects

module _ (m n : ℕ) (fault : Report) (over piece room : ℕ) where
  pub unknown_source : dialect_of m ≡ None → check_now m n fault over piece room ≡ Err (refusal 11)
  unknown_source e = ap (λ (o : Option Dialect). check_named o (dialect_of n) fault over piece room) e

  no_target : (o : Option Dialect) → check_named o None fault over piece room ≡ Err (refusal 11)
  no_target None = refl
  no_target (Some d) = refl

  pub unknown_target : dialect_of n ≡ None → check_now m n fault over piece room ≡ Err (refusal 11)
  unknown_target e = ap (λ (o : Option Dialect). check_named (dialect_of m) o fault over piece room) e ∙ no_target (dialect_of m)

  pub both_known : (d t : Dialect) → dialect_of m ≡ Some d → dialect_of n ≡ Some t → check_now m n fault over piece room ≡ check_between d t fault over piece room
  both_known d t e f = ap₂ (λ (o p : Option Dialect). check_named o p fault over piece room) e f

-- ---- stages

module _ (d t : Dialect) (c : Call) where
  -- a call to a converter that takes bytes
  by_size : (r : Read) (small : Bool) → too_small c ≡ small → CallCheckSound d t (taking r) c (choose small then Err (refusal 10) else Ok (d, t))
  unfolding answer_at stage_after choose◌then◌else◌
  by_size r true e = means_refused {e = refusal 10} (rw e) e (rw e)
  by_size r false e = means_taken r refl e

  between :
      (w : ConverterStage) (fault : Report) (over : ℕ) → StageEncoded w fault over →
      CallCheckSound d t w c (check_between d t fault over (length (bytes_of c)) (room_of c))
  unfolding check_between answer_at stage_after choose◌then◌else◌
  between (taking r) fault over (reports_taking e) = rw e (by_size r (too_small c) refl)
  between (faulted e) fault over (reports_faulted h) = rw (lt-ltb 0 e.number h) (means_refused refl refl refl)
  between ended fault over (reports_ended e h) = rw (e, lt-ltb 0 over h) (means_refused refl refl refl)

pub checks_mean : ChecksMean
checks_mean m n d t w fault over c e f h = rw (both_known m n fault over (length (bytes_of c)) (room_of c) d t e f) (between d t c w fault over h)
