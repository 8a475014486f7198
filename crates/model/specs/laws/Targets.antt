-- Reading with a target is reading without one, and then fault 9: a converter may scan first and check the target afterwards, record
-- by record. Proved in proofs/TargetLaws.antt.
use Rattle.std.specs.Prelude.{ℕ, suc, ◌≡◌, List, [], ◌∷◌, ◌++◌, length, None, Some}
use Rattle.model.specs.rules.Types.{Report, Dialect, Target, Fault, Ok, Err}
use Rattle.model.specs.rules.Base.{Bytes}
use Rattle.model.specs.rules.Text.{Value}
use Rattle.model.specs.rules.Report.{report, number_of, column_of}
use Rattle.model.specs.rules.Records.{Rec, rows, ◌or_else◌, target_next, record_fault, Read, Progress, going, stopped, read_from, read_file}
use Rattle.model.specs.rules.Records.{records_of, report_of}

-- ---- one record

-- a record's fault with a target is that without one, and then the target's (§7.8)
abbrev pub RecordTarget : Type 0
RecordTarget =
    (d : Dialect) (t : Target) (done : List Rec) (vs : List Value) →
    record_fault d (Some t) done vs ≡ (record_fault d None done vs or_else target_next t (rows done) vs)

-- ---- the records of a file

-- the target can represent each of these records, which follow `done` (§8.7)
pub data Passes (t : Target) : (done added : List Rec) → Type 0 where
  passes_none : {done : List Rec} → Passes t done []
  passes_more :
      {done : List Rec} {x : Rec} {xs : List Rec} → target_next t (rows done) x.cells ≡ Ok tt → Passes t (done ++ (x ∷ [])) xs →
      Passes t done (x ∷ xs)

-- the first record that it can't represent comes after `kept` and starts there (§8.7)
pub data Refuses (t : Target) (e : Fault) (kept : List Rec) (start : ℕ) : (done added : List Rec) → Type 0 where
  refuses_here : {x : Rec} {xs : List Rec} → target_next t (rows kept) x.cells ≡ Err e → x.start ≡ start → Refuses t e kept start kept (x ∷ xs)
  refuses_later :
      {done : List Rec} {x : Rec} {xs : List Rec} → target_next t (rows done) x.cells ≡ Ok tt → Refuses t e kept start (done ++ (x ∷ [])) xs →
      Refuses t e kept start done (x ∷ xs)

-- the results of reading without a target and with one, after `done` was read: the same, or fault 9 with the target (§8.7 §12.2)
pub data WithTarget (t : Target) (done : List Rec) : (without with : Progress) → Type 0 where
  same : {p : Progress} (added : List Rec) → records_of p ≡ done ++ added → Passes t done added → WithTarget t done p p
  refused :
      {p : Progress} {e : Fault} {r : Read} (added : List Rec) → records_of p ≡ done ++ added → Refuses t e r.done r.start done added →
      WithTarget t done p (stopped e r)

-- reading on with a target, from any place, and without one (§8.7 §12.2)
abbrev pub TargetReads : Type 0
TargetReads = (d : Dialect) (t : Target) (r : Read) (bs : Bytes) → WithTarget t r.done (read_from d None (going r) bs) (read_from d (Some t) (going r) bs)

-- reading a whole file with a target, and without one (§8.7 §12.2)
abbrev pub TargetFile : Type 0
TargetFile = (d : Dialect) (t : Target) (bs : Bytes) → WithTarget t [] (read_file d None bs) (read_file d (Some t) bs)

-- ---- the same as a function

-- the report of a reading, and the records completed before any fault (§6.14)
pub record Outcome : Type 0 where
  pub report : Report
  pub records : List Rec

-- the report and the records of a reading (§6.14)
abbrev pub outcome_of : Progress → Outcome
outcome_of p = record { report = report_of p; records = records_of p }

-- the target is checked record by record; `end` is the report if it can represent them all (§8.7)
unfoldable pub targeted : Target → (done added : List Rec) → (end : Report) → Outcome
targeted t done [] end = record { report = end; records = done }
targeted t done (x ∷ xs) end =
    elim (target_next t (rows done) x.cells) [
      | (Ok tt) ↦ targeted t (done ++ (x ∷ [])) xs end
      | Err e ↦ record { report = report (number_of e) (suc (length done)) (column_of e) x.start; records = done }
    ]

-- a converter's outcome is the reader's, with the target checked record by record (§8.7 §12.2)
abbrev pub TargetOutcome : Type 0
TargetOutcome =
    (d : Dialect) (t : Target) (bs : Bytes) →
    outcome_of (read_file d (Some t) bs) ≡ targeted t [] (records_of (read_file d None bs)) (report_of (read_file d None bs))
