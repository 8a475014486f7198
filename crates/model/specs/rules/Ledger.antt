-- The ledger of piece and end calls: the answer to each call of a list, by the calls before it and their own reports.
use Rattle.std.specs.Prelude.{ℕ, Bool, true, false, ◌&&◌, ◌||◌, List, [], ◌∷◌, ◌++◌, map, length, drop, ltb, Option, None, Some}
use Rattle.model.specs.rules.Types.{Report, Dialect, Target}
use Rattle.model.specs.rules.Base.{choose◌then◌else◌, ◌is◌, within, Bytes, over}
use Rattle.model.specs.rules.Dialect.{dialect_of, into}
use Rattle.model.specs.rules.Text.{table_text}
use Rattle.model.specs.rules.Report.{refusal, MAXPIECE, LEASTOUTPUT}
use Rattle.model.specs.rules.Records.{rows, Progress, read_bytes, read_file, report_of, records_of}
use Rattle.model.specs.rules.Api.{Written, unwritten}

-- a call as the ledger sees it: its piece, if it is no end call, and the size of its output (§15.1 §16.2)
pub data Call : Type 0 where
  piece : Bytes → (room : ℕ) → Call
  finish : (room : ℕ) → Call

-- a call that was made, with the ledger's own answer to it (§16.3)
pub record Entry : Type 0 where
  pub call : Call
  pub answer : Written

-- the bytes of a call; an end call has none (§16.4)
abbrev pub bytes_of : Call → Bytes
bytes_of (piece bs room) = bs
bytes_of (finish room) = []

-- the size of a call's output (§16.2)
abbrev pub room_of : Call → ℕ
room_of (piece bs room) = room
room_of (finish room) = room

-- an end call (§15.1)
abbrev pub is_finish : Call → Bool
is_finish (piece bs room) = false
is_finish (finish room) = true

-- ---- the earlier reports

-- acceptance; no other report has number 0 (§6.15)
abbrev pub is_accepted : Report → Bool
is_accepted e = e.number is 0

-- a file fault, which is one of 1 to 9 (§15.5)
abbrev pub is_file_fault : Report → Bool
is_file_fault e = within 1 9 e.number

-- the file fault that an earlier call reported (§15.5)
unfoldable pub fault_in : List Entry → Option Report
fault_in [] = None
fault_in (x ∷ xs) = choose is_file_fault x.answer.report then Some x.answer.report else fault_in xs

-- an earlier end call was accepted (§15.6)
unfoldable pub ended_in : List Entry → Bool
ended_in [] = false
ended_in (x ∷ xs) = is_finish x.call && is_accepted x.answer.report || ended_in xs

-- the bytes consumed: those of the accepted calls, and of the call that found the fault; the calls after it repeat its report and
-- consume nothing (§15.8 §16.4)
unfoldable pub consumed_in : List Entry → Bytes
consumed_in [] = []
consumed_in (x ∷ xs) =
    choose is_file_fault x.answer.report then bytes_of x.call
    else (choose is_accepted x.answer.report then bytes_of x.call else []) ++ consumed_in xs

-- an end call was taken, so that the end of the file is known: an accepted one, or one that found the fault (§16.6)
unfoldable pub closed_in : List Entry → Bool
closed_in [] = false
closed_in (x ∷ xs) =
    choose is_file_fault x.answer.report then is_finish x.call
    else is_finish x.call && is_accepted x.answer.report || closed_in xs

-- all that was written before (§16.7)
unfoldable pub written_in : List Entry → Bytes
written_in [] = []
written_in (x ∷ xs) = x.answer.text ++ written_in xs

-- ---- the answer to a call

-- the call is 10: its piece is too long or its output too short. The sizes themselves are enough (§15.7 §15.11)
abbrev pub too_small : Call → Bool
too_small c = ltb MAXPIECE (length (bytes_of c)) || ltb (room_of c) LEASTOUTPUT

-- the file as far as this call shows it: the bytes consumed, for a piece without the file's end, for an end call with it
-- (§16.5 §16.6)
abbrev pub seen_by : Dialect → Target → Call → Bytes → Progress
seen_by d t (piece bs room) consumed = read_bytes d (Some t) consumed
seen_by d t (finish room) consumed = read_file d (Some t) consumed

-- the answer of a call that is not refused by the checks: the report on what was read, and the text of the records completed
-- before any fault, less what was written before (§9.5 §16.5 §16.6 §16.7 §16.8)
abbrev pub taken : Target → (written : Bytes) → Progress → Written
taken t written p = record { report = report_of p; text = drop (length written) (table_text t (rows (records_of p))) }

-- the answer to a call: the checks in their order, by earlier answers, and then the call itself (§15.5 §15.6 §15.7 §15.8
-- §16.3)
unfoldable pub answer_to : Dialect → Target → (past : List Entry) → Call → Written
answer_to d t past c =
    elim (fault_in past) [
      | Some e ↦ unwritten e
      | None ↦
          choose ended_in past then unwritten (refusal 11)
          else choose too_small c then unwritten (refusal 10)
          else taken t (written_in past) (seen_by d t c (consumed_in past ++ bytes_of c))
    ]

-- ---- any dialect numbers

-- one call's answer after these entries, 11 if either number is unknown (§15.4 §16.3)
unfoldable pub answer_now : (source target : ℕ) → (past : List Entry) → Call → Written
answer_now m n past c =
    elim (dialect_of m) [
      | None ↦ unwritten (refusal 11)
      | Some d ↦ elim (dialect_of n) [ None ↦ unwritten (refusal 11) | Some t ↦ answer_to d (into t) past c ]
    ]

-- one of the four checks refuses this call after these entries: it consumes and changes nothing (§15.4 §15.5 §15.6 §15.7 §15.8)
unfoldable pub checked : (source target : ℕ) → (past : List Entry) → Call → Bool
checked m n past c =
    elim (dialect_of m) [
      | None ↦ true
      | Some d ↦ elim (dialect_of n) [
        | None ↦ true
        | Some t ↦ elim (fault_in past) [ Some e ↦ true | None ↦ ended_in past || too_small c ]
      ]
    ]

-- each call with its answer, by the entries before it (§16.3)
unfoldable pub history_from : (source target : ℕ) → (past : List Entry) → List Call → List Entry
history_from m n past [] = past
history_from m n past (c ∷ cs) = history_from m n (past ++ (record { call = c; answer = answer_now m n past c } ∷ [])) cs

-- the calls of a list with their answers, from the first one on (§16.1)
abbrev pub history : (source target : ℕ) → List Call → List Entry
history m n cs = history_from m n [] cs

-- the ledger's answers to a list of calls on a converter made with these two numbers; demand 3 is stated over it. It defines nothing
-- for a state that no calls could have made (§15.4 §15.9 §16.1 §16.2 §16.9 §19.4)
unfoldable pub ledger : (source target : ℕ) → List Call → List Written
ledger m n cs = map (λ (x : Entry). x.answer) (history m n cs)

-- a call's lent output after it: what it writes, and then what was there before (§9.5 §16.7)
abbrev pub call_leaves : Written → (out : List ℕ) → List ℕ
call_leaves a out = over a.text out

-- helper: `unfolding ledger_computes` opens every definition of this module
unfoldable pub ledger_computes : Type 0
unfolding fault_in ended_in consumed_in closed_in written_in answer_to answer_now checked history_from ledger
ledger_computes = Unit {0}
