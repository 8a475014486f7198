-- Demand 2: a text that was accepted is no longer than a file may be.
use Prim.Native.Nat.{ℕ, suc, ◌+◌, ◌*◌, ◌≤◌}
use native.Mathlib.Omega.{arith}
use mathlib.Core.Path.{◌≡◌, refl, sym, ap, ◌∙◌}
use mathlib.Core.Logic.{◌≢◌}
use mathlib.Core.Bool.{Bool, true, false}
use Rattle.std.specs.Prelude.{Option, None, Some, Ok}
use mathlib.Core.List.{List, [], ◌∷◌, ◌++◌, append-nil, append_assoc}
use lib.Dec.{ltb}
use lib.ListN.{length}
use borrow.Author.Tests.{le-ltb}
use Rattle.model.specs.declared.Report.{Report}
use Rattle.model.specs.declared.Dialect.{Dialect}
use Rattle.model.specs.declared.Target.{Target}
use Rattle.model.specs.declared.ByteFault.TheVariants.{Encoding, Syntax}
use Rattle.model.specs.declared.Fault.{Fault}
use Rattle.model.specs.declared.Fault.TheVariants.{NoRecord, Byte, CutShort, CellCount, RepeatedName, HeaderKind, FileTooLong, RecordTooLong}
use Rattle.model.specs.declared.Fault.TheVariants.{TooManyColumns, NoCells, LacksKind, LoneSurrogate, Clash, TextTooLong, OutputTooLong}
use Rattle.model.specs.rules.Base.{Bytes, is_empty}
use Rattle.model.specs.rules.Dialect.{dialect_of, into}
use Rattle.model.specs.rules.Text.{Value, record_text, table_text, ending}
use Rattle.model.specs.rules.Report.{number_of, refusal, MAXFILE}
use Rattle.model.specs.rules.Records.{rows, Progress, going, stopped, read_file, records_of, header_fault, target_next}
use Rattle.model.specs.rules.Api.{Written, fitted, converted_as, converter, Table, rows_in, row_fault, rows_from, rows_fault, written_rows, writer}
use Rattle.model.proofs.Tests.{split, impossible}
use Rattle.model.proofs.round_trip.TableText.{row_length}
use Rattle.model.proofs.file_laws.CheckResults.{else_sound, target_sound}
use Rattle.model.proofs.piece_laws.Room.{file_output, file_room}
use Rattle.model.proofs.round_trip.WriterBack.{next_none}

pub zero_ten : ◌≡◌ {A = ℕ} 0 10 → ⊥
zero_ten e = omega arith

eleven_ten : ◌≡◌ {A = ℕ} 11 10 → ⊥
eleven_ten e = omega arith

pub fault_ten : (e : Fault) → number_of e ≡ 10 → ⊥
fault_ten NoRecord h = omega arith
fault_ten (Byte Encoding) h = omega arith
fault_ten (Byte Syntax) h = omega arith
fault_ten CutShort h = omega arith
fault_ten CellCount h = omega arith
fault_ten (RepeatedName c) h = omega arith
fault_ten (HeaderKind c) h = omega arith
fault_ten FileTooLong h = omega arith
fault_ten RecordTooLong h = omega arith
fault_ten TooManyColumns h = omega arith
fault_ten NoCells h = omega arith
fault_ten (LacksKind c) h = omega arith
fault_ten (LoneSurrogate c) h = omega arith
fault_ten (Clash c) h = omega arith
fault_ten TextTooLong h = omega arith
fault_ten OutputTooLong h = omega arith

fitted_limit : (room : ℕ) (bs : Bytes) → length bs ≤ MAXFILE → length (fitted room bs).text ≤ MAXFILE
fitted_limit room bs h = split (λ (w : Written). length w.text ≤ MAXFILE) (ltb room (length bs)) (λ _. omega arith) λ _. h

-- ---- the converter

pub converted_limit : (m n : ℕ) (file : Bytes) (room : ℕ) → length (converter m n file room).text ≤ MAXFILE
unfolding converter
converted_limit m n file room = by_source (dialect_of m)
  where
    by_end : (t : Target) (p : Progress) → length (table_text t (rows (records_of p))) ≤ MAXFILE → length (converted_as t room p).text ≤ MAXFILE
    by_end t (stopped e r) h = omega arith
    by_end t (going r) h = fitted_limit room (table_text t (rows r.done)) h

    by_target : (d : Dialect) (o : Option Dialect) →
        length (elim o as (λ _. Written) [
          | None ↦ record { report = refusal 11; text = [] }
          | Some t ↦ converted_as (into t) room (read_file d (Some (into t)) file)
        ]).text ≤ MAXFILE
    by_target d None = omega arith
    by_target d (Some t) = by_end (into t) (read_file d (Some (into t)) file) (file_output d (into t) file)

    by_source : (o : Option Dialect) →
        length
        (elim o as (λ _. Written) [
          | None ↦ record { report = refusal 11; text = [] }
          | Some d ↦ elim (dialect_of n) as (λ _. Written)
              [ None ↦ record { report = refusal 11; text = [] } | Some t ↦ converted_as (into t) room (read_file d (Some (into t)) file) ]
        ]).text
        ≤ MAXFILE
    by_source None = omega arith
    by_source (Some d) = by_target d (dialect_of n)

-- ten is reported for a file that has a text for which there is no room
pub converted_room : (m n : ℕ) (file : Bytes) (room : ℕ) → 6 * (length file + 1) ≤ room → (converter m n file room).report ≢ refusal 10
unfolding converter
converted_room m n file room h = by_source (dialect_of m)
  where
    by_text : (bs : Bytes) → length bs ≤ room → (fitted room bs).report ≢ refusal 10
    by_text bs k =
        split (λ (w : Written). w.report ≢ refusal 10) (ltb room (length bs)) (λ q. impossible (sym (le-ltb room (length bs) k) ∙ q))
        λ _ e. zero_ten (ap (λ (x : Report). x.number) e)

    by_end : (t : Target) (p : Progress) → length (table_text t (rows (records_of p))) ≤ room → (converted_as t room p).report ≢ refusal 10
    by_end t (stopped x r) k = λ e. fault_ten x (ap (λ (y : Report). y.number) e)
    by_end t (going r) k = by_text (table_text t (rows r.done)) k

    by_target : (d : Dialect) (o : Option Dialect) →
        (elim o as (λ _. Written)
        [ None ↦ record { report = refusal 11; text = [] } | Some t ↦ converted_as (into t) room (read_file d (Some (into t)) file) ]).report
        ≢ refusal 10
    by_target d None = λ e. eleven_ten (ap (λ (x : Report). x.number) e)
    by_target d (Some t) = by_end (into t) (read_file d (Some (into t)) file) (let k = file_room d (into t) file in omega (arith, k, h))

    by_source : (o : Option Dialect) →
        (elim o as (λ _. Written) [
          | None ↦ record { report = refusal 11; text = [] }
          | Some d ↦ elim (dialect_of n) as (λ _. Written)
              [ None ↦ record { report = refusal 11; text = [] } | Some t ↦ converted_as (into t) room (read_file d (Some (into t)) file) ]
        ]).report
        ≢ refusal 10
    by_source None = λ e. eleven_ten (ap (λ (x : Report). x.number) e)
    by_source (Some d) = by_target d (dialect_of n)

-- ---- the writer

row_target : (t : Target) (done : List (List Value)) (r : List Value) → row_fault t done r ≡ Ok tt → target_next t done r ≡ Ok tt
row_target t [] r e = (else_sound (header_fault t.dialect r) (target_next t [] r) e).1
row_target t (h ∷ rs) r e = e

rows_limit :
    (t : Target) (done rs : List (List Value)) → rows_from t done rs ≡ None → length (table_text t done) ≤ MAXFILE →
    length (table_text t (done ++ rs)) ≤ MAXFILE
unfolding rows_from
rows_limit t done [] e h = rw (append-nil done) h
rows_limit t done (r ∷ rs) e h =
    let x = next_none (suc (length done)) (row_fault t done r) (rows_from t (done ++ (r ∷ [])) rs) e in
    let fits : length (table_text t done) + length (record_text t (is_empty done) r ++ ending t.dialect) ≤ MAXFILE =
    (target_sound t (is_empty done) (length (table_text t done)) r (row_target t done r x.0)).fits in
    let more : length (table_text t (done ++ (r ∷ [])))
    ≡ length (table_text t done) + length (record_text t (is_empty done) r ++ ending t.dialect)
    = row_length t done r in
    rw (sym (append_assoc done (r ∷ []) rs)) (rows_limit t (done ++ (r ∷ [])) rs x.1 (omega arith))

pub written_limit : (n : ℕ) (table : Table) (room : ℕ) → length (writer n table room).text ≤ MAXFILE
unfolding writer rows_fault table_text
written_limit n table room = by_dialect (dialect_of n)
  where
    by_fault : (t : Target) (rs : List (List Value)) (o : Option Report) → rows_from t [] rs ≡ o → length (written_rows t room rs o).text ≤ MAXFILE
    by_fault t rs (Some e) q = omega arith
    by_fault t rs None q = fitted_limit room (table_text t rs) (rows_limit t [] rs q (omega arith))

    by_rows : (t : Target) (o : Option (List (List Value))) →
        length
        (elim o as (λ _. Written)
        [ None ↦ record { report = refusal 12; text = [] } | Some rs ↦ written_rows t room rs (rows_fault t rs) ]).text ≤ MAXFILE
    by_rows t None = omega arith
    by_rows t (Some rs) = by_fault t rs (rows_fault t rs) refl

    by_dialect : (o : Option Dialect) →
        length
        (elim o as (λ _. Written) [
          | None ↦ record { report = refusal 11; text = [] }
          | Some t ↦ elim (rows_in table) as (λ _. Written)
              [ None ↦ record { report = refusal 12; text = [] } | Some rs ↦ written_rows (into t) room rs (rows_fault (into t) rs) ]
        ]).text
        ≤ MAXFILE
    by_dialect None = omega arith
    by_dialect (Some t) = by_rows (into t) (rows_in table)
