-- The ledger as a state machine, one call at a time. All that a converter needs from the earlier calls is the reading state, or the
-- fault found, or that the end was accepted. Proved in proofs/piece_laws/MachineLaws.antt.
use Rattle.std.specs.Prelude.{ℕ, ◌≡◌, Bool, true, false, List, [], ◌∷◌, ◌++◌, length, drop, None, Some}
use Rattle.model.specs.rules.Types.{Report, Dialect, Target, Fault}
use Rattle.model.specs.rules.Base.{choose◌then◌else◌, Bytes, is_empty}
use Rattle.model.specs.rules.Dialect.{dialect_of, into}
use Rattle.model.specs.rules.Text.{record_text, table_text, ending}
use Rattle.model.specs.rules.Report.{refusal}
use Rattle.model.specs.rules.Records.{Rec, rows, Read, Progress, going, stopped, nothing_read, read_from, read_bytes, read_end, read_file, fault_report}
use Rattle.model.specs.rules.Api.{Written, unwritten}
use Rattle.model.specs.rules.Ledger.{Call, piece, finish, Entry, is_finish, fault_in, ended_in, consumed_in, written_in, too_small, taken, answer_now, checked}
use Rattle.model.specs.laws.Demands.{seen_in}

-- ---- the machine

-- the stage of a converter: it takes bytes, or has found a fault, or its end was accepted (§15.5 §15.6)
pub data ConverterStage : Type 0 where
  taking : Read → ConverterStage
  faulted : Report → ConverterStage
  ended : ConverterStage

-- what a call that is taken has read, with its own bytes (§16.5 §16.6)
abbrev pub seen_from : Dialect → Target → Read → Call → Progress
seen_from d t r (piece bs room) = read_from d (Some t) (going r) bs
seen_from d t r (finish room) = read_end d (Some t) (going r)

-- the answer to a call at a stage (§15.5 §15.6 §15.7 §16.7)
unfoldable pub answer_at : Dialect → Target → ConverterStage → Call → Written
answer_at d t (taking r) c = choose too_small c then unwritten (refusal 10) else taken t (table_text t (rows r.done)) (seen_from d t r c)
answer_at d t (faulted e) c = unwritten e
answer_at d t ended c = unwritten (refusal 11)

-- the stage after a call that is taken, by what it has read (§15.5 §15.6)
abbrev pub stage_then : (is_end : Bool) → Progress → ConverterStage
stage_then true (going r) = ended
stage_then false (going r) = taking r
stage_then is_end (stopped e r) = faulted (fault_report e r)

-- the stage after a call (§15.3)
unfoldable pub stage_after : Dialect → Target → ConverterStage → Call → ConverterStage
stage_after d t (taking r) c = choose too_small c then taking r else stage_then (is_finish c) (seen_from d t r c)
stage_after d t (faulted e) c = faulted e
stage_after d t ended c = ended

-- one of the checks refuses the call (§15.8)
abbrev pub checked_at : ConverterStage → Call → Bool
checked_at (taking r) c = too_small c
checked_at (faulted e) c = true
checked_at ended c = true

-- ---- the machine and the ledger

-- after these calls the converter is at this stage, and they have written the canonical text of the records completed (§16.3 §16.7)
pub data LiesAt (d : Dialect) (t : Target) (past : List Entry) : ConverterStage → Type 0 where
  stood_taking :
      {r : Read} → fault_in past ≡ None → ended_in past ≡ false → read_bytes d (Some t) (consumed_in past) ≡ going r →
      written_in past ≡ table_text t (rows r.done) → LiesAt d t past (taking r)
  stood_faulted :
      {e : Report} (f : Fault) (r : Read) → e ≡ fault_report f r → fault_in past ≡ Some e → seen_in d t past ≡ stopped f r →
      written_in past ≡ table_text t (rows r.done) → LiesAt d t past (faulted e)
  stood_ended :
      (r : Read) → fault_in past ≡ None → ended_in past ≡ true → read_file d (Some t) (consumed_in past) ≡ going r →
      written_in past ≡ table_text t (rows r.done) → LiesAt d t past ended

-- between two known dialects the ledger follows the machine (§16.1 §16.3)
pub record MachineLaws (m n : ℕ) (d : Dialect) (t : Target) : Type 0 where
  pub new : LiesAt d t [] (taking nothing_read)
  pub answers : (past : List Entry) (w : ConverterStage) (c : Call) → LiesAt d t past w → answer_now m n past c ≡ answer_at d t w c
  pub moves :
      (past : List Entry) (w : ConverterStage) (c : Call) → LiesAt d t past w →
      LiesAt d t (past ++ (record { call = c; answer = answer_at d t w c } ∷ [])) (stage_after d t w c)
  pub checks : (past : List Entry) (w : ConverterStage) (c : Call) → LiesAt d t past w → checked m n past c ≡ checked_at w c
  pub leaves : (w : ConverterStage) (c : Call) → checked_at w c ≡ true → stage_after d t w c ≡ w

-- the same for all dialect numbers that are known (§16.1)
abbrev pub Machine : Type 0
Machine = (m n : ℕ) (d t : Dialect) → dialect_of m ≡ Some d → dialect_of n ≡ Some t → MachineLaws m n d (into t)

-- a number that is no dialect: every call is 11, by a check (§15.4)
pub record UnknownLaws (m n : ℕ) : Type 0 where
  pub answers : (past : List Entry) (c : Call) → answer_now m n past c ≡ unwritten (refusal 11)
  pub checks : (past : List Entry) (c : Call) → checked m n past c ≡ true

-- the same for either number (§15.4)
pub record Unknown : Type 0 where
  pub source : (m n : ℕ) → dialect_of m ≡ None → UnknownLaws m n
  pub target : (m n : ℕ) → dialect_of n ≡ None → UnknownLaws m n

-- ---- a state of the code

-- Models relates a state to its dialect numbers and its stage; with a number of no dialect the stage is that after an end. This state
-- has answered these calls (§15.3)
pub data Carries {S : Type 0} (Models : ℕ → ℕ → ConverterStage → S → Type 0) (m n : ℕ) (past : List Entry) (s : S) : Type 0 where
  carries_known :
      (d t : Dialect) (w : ConverterStage) → dialect_of m ≡ Some d → dialect_of n ≡ Some t → LiesAt d (into t) past w → Models m n w s →
      Carries Models m n past s
  carries_source : dialect_of m ≡ None → Models m n ended s → Carries Models m n past s
  carries_target : dialect_of n ≡ None → Models m n ended s → Carries Models m n past s

-- ---- what a call writes

-- the text of the records after `done` (§16.7)
unfoldable pub new_text : Target → (done all : List Rec) → Bytes
new_text t done all = drop (length (table_text t (rows done))) (table_text t (rows all))

-- the new text grows by each record's text and ending (§16.7)
pub record NewTextLaws (t : Target) : Type 0 where
  pub nothing : (done : List Rec) → new_text t done done ≡ []
  pub one_more_lem :
      (done added : List Rec) (x : Rec) →
      new_text t done (done ++ added ++ (x ∷ [])) ≡ new_text t done (done ++ added) ++ (record_text t (is_empty (done ++ added)) x.cells ++ ending t.dialect)
