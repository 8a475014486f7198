-- A complete record results in one record more or in a fault, by its check result, with a target or without.
use Prim.Native.Nat.{ℕ, suc}
use mathlib.Core.Path.{◌≡◌, refl}
use mathlib.Core.Bool.{true, false}
use Rattle.std.specs.Prelude.{Option, None, Ok, Err}
use mathlib.Core.List.{List, [], ◌∷◌, ◌++◌}
use lib.ListN.{length}
use Rattle.model.specs.declared.Dialect.{Dialect}
use Rattle.model.specs.declared.Target.{Target}
use Rattle.model.specs.declared.FileState.{FileState}
use Rattle.model.specs.declared.Fault.{Fault}
use Rattle.model.specs.rules.Types.{CheckResult}
use Rattle.model.specs.rules.Base.{choose◌then◌else◌}
use Rattle.model.specs.rules.Text.{Value}
use Rattle.model.specs.rules.Report.{report, number_of, column_of, is_at_byte}
use Rattle.model.specs.rules.Records.{Rec, Read, between_records, going, stopped, complete, record_fault, header_fault, data_fault, ◌or_else◌, fault_report}
use Rattle.model.proofs.file_laws.RecordFaults.{fault_record, fault_start}

-- ---- the report of a fault

pub report_byte :
    (e : Fault) (r : Read) (n : ℕ) → is_at_byte e ≡ true → length r.done ≡ n →
    report (number_of e) (suc n) (column_of e) r.offset ≡ fault_report e r
unfolding choose◌then◌else◌
report_byte e r n q l = rw (q, l)

-- the place of a record's fault is its start
pub report_start :
    (d : Dialect) (target : Option Target) (r : Read) (vs : List Value) (e : Fault) (n : ℕ) → record_fault d target r.done vs ≡ Err e →
    length r.done ≡ n → report (number_of e) (suc n) (column_of e) r.start ≡ fault_report e r
unfolding choose◌then◌else◌
report_start d target r vs e n q l =
    let s : is_at_byte e ≡ false = fault_start (record_fault d target r.done vs) q (fault_record d target r.done vs) in
    rw (s, l)

-- ---- a complete record is validated

or_nothing : (x : CheckResult) → (x or_else Ok tt) ≡ x
unfolding ◌or_else◌
or_nothing (Ok _) = refl
or_nothing (Err e) = refl

pub header_fault_lem : (d : Dialect) (vs : List Value) → record_fault d None [] vs ≡ header_fault d vs
unfolding record_fault
header_fault_lem d vs = or_nothing (header_fault d vs)

pub data_fault_lem : (d : Dialect) (h : Rec) (rs : List Rec) (vs : List Value) → record_fault d None (h ∷ rs) vs ≡ data_fault (length h.cells) vs
unfolding record_fault
data_fault_lem d h rs vs = or_nothing (data_fault (length h.cells) vs)

abbrev pub rec_of : Read → List Value → Rec
rec_of r vs = record { start = r.start; size = r.size; cells = vs }

pub complete_sound :
    (d : Dialect) (target : Option Target) (r : Read) (vs : List Value) (f : FileState) (o : ℕ) →
    record_fault d target r.done vs ≡ Ok tt → complete d target r vs f o ≡ going (between_records (r.done ++ (rec_of r vs ∷ [])) f o)
unfolding complete
complete_sound d target r vs f o q = rw q

pub complete_faulty :
    (d : Dialect) (target : Option Target) (r : Read) (vs : List Value) (f : FileState) (o : ℕ) (e : Fault) →
    record_fault d target r.done vs ≡ Err e → complete d target r vs f o ≡ stopped e r
unfolding complete
complete_faulty d target r vs f o e q = rw q
