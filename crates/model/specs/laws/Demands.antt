-- Demand 3 as statements over the definitions, with demand 2's round trip. Proved in proofs/AllDemands.antt.
use Rattle.std.specs.Prelude.{ℕ, ◌≤◌, ◌≡◌, true, false, List, [], ◌∷◌, ◌++◌, map, length, None, Some}
use Rattle.model.specs.rules.Types.{Report, Dialect, Target}
use Rattle.model.specs.rules.Base.{choose◌then◌else◌, Bytes, concat}
use Rattle.model.specs.rules.Dialect.{dialect_of, into}
use Rattle.model.specs.rules.Text.{table_text}
use Rattle.model.specs.rules.Report.{accepted, MAXFILE, MAXPIECE, LEASTOUTPUT}
use Rattle.model.specs.rules.Records.{rows, Progress, read_bytes, read_file, records_of}
use Rattle.model.specs.rules.Api.{converter, Written}
use Rattle.model.specs.rules.Ledger.{Call, piece, finish, Entry, room_of, fault_in, consumed_in, closed_in, written_in, answer_now, checked, history, ledger}
use Rattle.model.specs.laws.Laws.{All}
use Rattle.model.specs.laws.RoundTrips.{RoundTrip}

-- ---- demand 3: the ledger

-- what these calls have shown of the file (§16.5 §16.6)
abbrev pub seen_in : Dialect → Target → List Entry → Progress
seen_in d t past = choose closed_in past then read_file d (Some t) (consumed_in past) else read_bytes d (Some t) (consumed_in past)

-- the outputs of any list of calls, joined, are the canonical text of the records completed in the bytes consumed (§19.4)
abbrev pub JoinedOutputs : Type 0
JoinedOutputs =
    (m n : ℕ) (d t : Dialect) (cs : List Call) → dialect_of m ≡ Some d → dialect_of n ≡ Some t →
    written_in (history m n cs) ≡ table_text (into t) (rows (records_of (seen_in d (into t) (history m n cs))))

-- no call writes more than its room: the output that the rules require is enough (§15.11)
abbrev pub OutputFits : Type 0
OutputFits = (m n : ℕ) (cs : List Call) → All (λ (x : Entry). length x.answer.text ≤ room_of x.call) (history m n cs)

-- ---- whole and pieces

-- a file in these pieces, each with the least output that the rules accept (§15.1)
abbrev pub pieces : List Bytes → List Call
pieces ps = map (λ (p : Bytes). piece p LEASTOUTPUT) ps

-- the answer to the end call after them (§16.6)
abbrev pub at_end : (source target : ℕ) → List Bytes → Written
at_end m n ps = answer_now m n (history m n (pieces ps)) (finish LEASTOUTPUT)

-- the end call reports what the whole converter does, and all that was written is its text where it accepts (§16.6 §19.4)
pub record SameAsWhole (m n : ℕ) (ps : List Bytes) : Type 0 where
  pub report : (at_end m n ps).report ≡ (converter m n (concat ps) MAXFILE).report
  pub text :
      (converter m n (concat ps) MAXFILE).report ≡ accepted →
      written_in (history m n (pieces ps)) ++ (at_end m n ps).text ≡ (converter m n (concat ps) MAXFILE).text

-- a file in pieces, however it is cut, is converted as it is whole (§16.6 §19.4)
abbrev pub WholeAndPieces : Type 0
WholeAndPieces = (m n : ℕ) (ps : List Bytes) → All (λ (p : Bytes). length p ≤ MAXPIECE) ps → SameAsWhole m n ps

-- an end call that no check refuses reports what the whole converter, with room enough, reports for the bytes consumed (§16.6)
abbrev pub EndIsWhole : Type 0
EndIsWhole =
    (m n : ℕ) (cs : List Call) (room : ℕ) → checked m n (history m n cs) (finish room) ≡ false →
    (answer_now m n (history m n cs) (finish room)).report ≡ (converter m n (consumed_in (history m n cs)) MAXFILE).report

-- a fault found by a piece call is the fault of every file that begins with the bytes consumed (§16.5 §16.7)
abbrev pub FaultOfEveryFile : Type 0
FaultOfEveryFile =
    (m n : ℕ) (cs : List Call) (bs rest : Bytes) (room : ℕ) (e : Report) → fault_in (history m n cs) ≡ None →
    fault_in (history m n (cs ++ (piece bs room ∷ []))) ≡ Some e →
    (converter m n (consumed_in (history m n (cs ++ (piece bs room ∷ []))) ++ rest) MAXFILE).report ≡ e

-- ---- demand 3: code

-- the contract of `piece` and `end`: Carries relates a state to the calls that it has answered (§15.3 §15.8 §16.1)
abbrev pub Answers : {S : Type 0} → (ℕ → ℕ → List Entry → S → Type 0) → S → Call → Written → S → Type 0
Answers Carries s c a next =
    (m n : ℕ) (past : List Entry) → Carries m n past s →
    (a ≡ answer_now m n past c) × Carries m n (past ++ (record { call = c; answer = a } ∷ [])) next
    × (checked m n past c ≡ true → next ≡ s)

-- any list of calls on a fresh state (§15.1 §16.1)
pub data CallsMade {S : Type 0} (Carries : ℕ → ℕ → List Entry → S → Type 0) (m n : ℕ) : List Entry → S → Type 0 where
  fresh : {s : S} → Carries m n [] s → CallsMade Carries m n [] s
  call :
      {made : List Entry} {s next : S} {c : Call} {a : Written} → CallsMade Carries m n made s → Answers Carries s c a next →
      CallsMade Carries m n (made ++ (record { call = c; answer = a } ∷ [])) next

-- one theorem over every list of calls, refused ones included: their answers are the ledger's (§16.1 §19.4)
abbrev pub PreservesLedger : {S : Type 0} → (ℕ → ℕ → List Entry → S → Type 0) → Type 0
PreservesLedger {S} Carries =
    (m n : ℕ) (made : List Entry) (s : S) → CallsMade Carries m n made s →
    map (λ (x : Entry). x.answer) made ≡ ledger m n (map (λ (x : Entry). x.call) made)

-- the demands that the definitions alone can satisfy; for the calls of a converter each follows from the call's contract (§19.3
-- §19.4)
pub record ModelDemands : Type 1 where
  pub round_trip : RoundTrip
  pub joined_outputs_lem : JoinedOutputs
  pub fits : OutputFits
  pub whole_and_pieces : WholeAndPieces
  pub end_is_whole : EndIsWhole
  pub fault_of_every_file : FaultOfEveryFile
  pub every_list_of_calls : {S : Type 0} (Carries : ℕ → ℕ → List Entry → S → Type 0) → PreservesLedger Carries
