-- The checks before a call, by the saved numbers, and the stage of model's machine that these numbers encode.
use Rattle.std.specs.Prelude.{ℕ, ◌<◌, ◌≡◌, true, false, ◌||◌, length, ltb}
use Rattle.std.specs.Prelude.{Option, None, Some, Result, Ok, Err}
use Rattle.model.specs.declared.Report.{Report}
use Rattle.model.specs.declared.Dialect.{Dialect}
use Rattle.model.specs.rules.Base.{choose◌then◌else◌}
use Rattle.model.specs.rules.Dialect.{dialect_of, into}
use Rattle.model.specs.rules.Report.{refusal, MAXPIECE, LEASTOUTPUT}
use Rattle.model.specs.rules.Records.{Read}
use Rattle.model.specs.rules.Api.{unwritten}
use Rattle.model.specs.rules.Ledger.{Call, bytes_of, room_of, too_small}
use Rattle.model.specs.laws.Machine.{ConverterStage, taking, faulted, ended, answer_at, stage_after, checked_at}

-- the result of the checks before a call: the source's and the target's dialect, or a refusal
abbrev pub CallCheck : Type 0
CallCheck = Result (Dialect × Dialect) Report

-- between two known dialects: a fault met before is repeated; after an accepted end it is 11; a piece that is too long or an output that
-- is too short is 10 (§15.5 §15.6 §15.7)
unfoldable pub check_between : Dialect → Dialect → (fault : Report) → (ended piece room : ℕ) → CallCheck
check_between d t fault over piece room =
    choose ltb 0 fault.number then Err fault
    else choose ltb 0 over then Err (refusal 11)
    else choose ltb MAXPIECE piece || ltb room LEASTOUTPUT then Err (refusal 10)
    else Ok (d, t)

-- either number may be of no dialect, which is 11 (§15.4)
abbrev pub check_named : Option Dialect → Option Dialect → (fault : Report) → (ended piece room : ℕ) → CallCheck
check_named None t fault over piece room = Err (refusal 11)
check_named (Some d) None fault over piece room = Err (refusal 11)
check_named (Some d) (Some t) fault over piece room = check_between d t fault over piece room

-- the four checks (§15.4 §15.5 §15.6 §15.7)
abbrev pub check_now : (source target : ℕ) → (fault : Report) → (ended piece room : ℕ) → CallCheck
check_now m n fault over piece room = check_named (dialect_of m) (dialect_of n) fault over piece room

-- ---- the stage of a converter

-- how these two encode the stage: a fault that was met has a number above 0, and the flag is 0 until an end is accepted (§15.5 §15.6)
pub data StageEncoded : ConverterStage → (fault : Report) → (ended : ℕ) → Type 0 where
  reports_taking : {r : Read} {fault : Report} → fault.number ≡ 0 → StageEncoded (taking r) fault 0
  reports_faulted : {e : Report} {over : ℕ} → 0 < e.number → StageEncoded (faulted e) e over
  reports_ended : {fault : Report} {over : ℕ} → fault.number ≡ 0 → 0 < over → StageEncoded ended fault over

-- what a check result means for a call at this stage: the machine's answer, which leaves the stage as it is; or the call is taken
pub data CallCheckSound (d t : Dialect) (w : ConverterStage) (c : Call) : CallCheck → Type 0 where
  means_refused :
      {e : Report} → answer_at d (into t) w c ≡ unwritten e → checked_at w c ≡ true → stage_after d (into t) w c ≡ w → CallCheckSound d t w c (Err e)
  means_taken : (r : Read) → w ≡ taking r → too_small c ≡ false → CallCheckSound d t w c (Ok (d, t))

-- the check results are the machine's (§15.4 §15.5 §15.6 §15.7)
abbrev pub ChecksMean : Type 0
ChecksMean =
    (m n : ℕ) (d t : Dialect) (w : ConverterStage) (fault : Report) (over : ℕ) (c : Call) → dialect_of m ≡ Some d → dialect_of n ≡ Some t →
    StageEncoded w fault over → CallCheckSound d t w c (check_now m n fault over (length (bytes_of c)) (room_of c))
