-- A text that the writer accepted is the canonical text of the table's rows, and the reader returns those rows.
use Prim.Native.Nat.{ℕ, suc, ◌≤◌}
use native.Mathlib.Omega.{arith}
use mathlib.Core.Path.{◌≡◌, refl, ap, ◌∙◌}
use mathlib.Core.Bool.{Bool, true, false}
use Rattle.std.specs.Prelude.{Option, None, Some}
use mathlib.Core.List.{List, [], ◌∷◌, ◌++◌, map}
use lib.Dec.{ltb}
use lib.ListN.{length}
use borrow.Author.Tests.{le-ltb, ltb-false}
use Rattle.model.specs.rules.Types.{Report, Dialect, Target, Encoding, Syntax, Fault, NoRecord, Byte, CutShort, CellCount, RepeatedName}
use Rattle.model.specs.rules.Types.{HeaderKind, FileTooLong, RecordTooLong, TooManyColumns, NoCells, LacksKind, LoneSurrogate, Clash}
use Rattle.model.specs.rules.Types.{TextTooLong, OutputTooLong, CheckResult, Ok, Err}
use Rattle.model.specs.rules.Base.{Bytes, concat, choose◌then◌else◌}
use Rattle.model.specs.rules.Dialect.{dialect_of, into}
use Rattle.model.specs.rules.Text.{Value, table_text}
use Rattle.model.specs.rules.Report.{report, accepted, refusal, number_of, column_of}
use Rattle.model.specs.rules.Records.{Rec, rows, read_file}
use Rattle.model.specs.rules.Api.{Answer, answered, read_answer, reader, Table, rows_in, or_next, row_fault, rows_from, rows_fault, Written}
use Rattle.model.specs.rules.Api.{unwritten, fitted, written_rows, writer}
use Rattle.model.specs.laws.RoundTrips.{meaning, Writable, SameRows, and_row}
use Rattle.model.proofs.round_trip.Meanings.{same_length, rows_length, cells_meaning, concat_same}
use Rattle.model.proofs.round_trip.TableRead.{Read-as}
use Rattle.model.proofs.round_trip.TableRows.{rows_even, even_writable}

-- ---- a fault is no acceptance

pub fault_number : {A : Type 0} (e : Fault) → number_of e ≡ 0 → A
fault_number NoRecord h = absurd (omega arith)
fault_number (Byte Encoding) h = absurd (omega arith)
fault_number (Byte Syntax) h = absurd (omega arith)
fault_number CutShort h = absurd (omega arith)
fault_number CellCount h = absurd (omega arith)
fault_number (RepeatedName c) h = absurd (omega arith)
fault_number (HeaderKind c) h = absurd (omega arith)
fault_number FileTooLong h = absurd (omega arith)
fault_number RecordTooLong h = absurd (omega arith)
fault_number TooManyColumns h = absurd (omega arith)
fault_number NoCells h = absurd (omega arith)
fault_number (LacksKind c) h = absurd (omega arith)
fault_number (LoneSurrogate c) h = absurd (omega arith)
fault_number (Clash c) h = absurd (omega arith)
fault_number TextTooLong h = absurd (omega arith)
fault_number OutputTooLong h = absurd (omega arith)

data Refuses : Option Report → Type 0 where
  no_report : Refuses None
  of_fault : {n : ℕ} (e : Fault) → Refuses (Some (report (number_of e) n (column_of e) 0))

next_refuses : (n : ℕ) (v : CheckResult) {next : Option Report} → Refuses next → Refuses (or_next n v next)
next_refuses n (Ok _) r = r
next_refuses n (Err e) r = of_fault e

from_refuses : (t : Target) (done rs : List (List Value)) → Refuses (rows_from t done rs)
unfolding rows_from
from_refuses t done [] = no_report
from_refuses t done (r ∷ rs) = next_refuses (suc (length done)) (row_fault t done r) (from_refuses t (done ++ (r ∷ [])) rs)

rows_refuse : (t : Target) (rs : List (List Value)) → Refuses (rows_fault t rs)
unfolding rows_fault
rows_refuse t rs = from_refuses t [] rs

-- ---- what the writer accepted

abbrev pub accepts : Bytes → Written
accepts text = record { report = accepted; text = text }

pub no_refusal : {A : Type 0} {e : Report} {text : Bytes} → unwritten e ≡ accepts text → (e.number ≡ 0 → A) → A
no_refusal e f = f (ap (λ (w : Written). w.report.number) e)

-- the text that fits
pub record Fitted (room : ℕ) (bs text : Bytes) : Type 0 where
  pub same : bs ≡ text
  pub fits : length text ≤ room

pub fitted_accepts : (room : ℕ) (bs text : Bytes) → fitted room bs ≡ accepts text → Fitted room bs text
unfolding choose◌then◌else◌
fitted_accepts room bs text e = go (ltb room (length bs)) refl
  where
    go : (t : Bool) → ltb room (length bs) ≡ t → Fitted room bs text
    go true p = no_refusal (rw p at e) (λ h. absurd (omega arith))
    go false p =
        let q : bs ≡ text = ap (λ (w : Written). w.text) (rw p at e) in
        record { same = q; fits = rw (← q) (ltb-false room (length bs) p) }

pub fitted_fits : (room : ℕ) (bs text : Bytes) → Fitted room bs text → fitted room bs ≡ accepts text
unfolding choose◌then◌else◌
fitted_fits room bs text f = rw (f.same, le-ltb room (length text) f.fits)

pub record Wrote (n : ℕ) (table : Table) (room : ℕ) (text : Bytes) : Type 0 where
  pub dialect : Dialect
  pub known : dialect_of n ≡ Some dialect
  pub cells : List (List Value)
  pub table_rows : rows_in table ≡ Some cells
  pub can_write : Writable dialect cells
  pub spelt : Fitted room (table_text (into dialect) cells) text

pub writer_wrote : (n : ℕ) (table : Table) (room : ℕ) (text : Bytes) → writer n table room ≡ accepts text → Wrote n table room text
unfolding writer
writer_wrote n table room text e = by_dialect (dialect_of n) refl e
  where
    by_fault :
        (t : Dialect) (rs : List (List Value)) → dialect_of n ≡ Some t → rows_in table ≡ Some rs → (o : Option Report) →
        rows_fault (into t) rs ≡ o → Refuses o → written_rows (into t) room rs o ≡ accepts text → Wrote n table room text
    by_fault t rs p q None f no_report k =
        let x = rows_even table rs q in
        record {
          dialect = t;
          known = p;
          cells = rs;
          table_rows = q;
          can_write = even_writable t table.columns table.records rs x.0 x.1 f;
          spelt = fitted_accepts room (table_text (into t) rs) text k;
        }
    by_fault t rs p q (Some y) f (of_fault w) k = no_refusal k (λ h. fault_number w h)

    by_rows :
        (t : Dialect) → dialect_of n ≡ Some t → (o : Option (List (List Value))) → rows_in table ≡ o →
        (elim o as (λ _. Written) [ None ↦ unwritten (refusal 12) | Some rs ↦ written_rows (into t) room rs (rows_fault (into t) rs) ])
        ≡ accepts text → Wrote n table room text
    by_rows t p None q k = no_refusal k (λ h. absurd (omega arith))
    by_rows t p (Some rs) q k = by_fault t rs p q (rows_fault (into t) rs) refl (rows_refuse (into t) rs) k

    by_dialect :
        (o : Option Dialect) → dialect_of n ≡ o → (elim o as (λ _. Written) [
          | None ↦ unwritten (refusal 11)
          | Some t ↦
              elim (rows_in table) as (λ _. Written)
              [ None ↦ unwritten (refusal 12) | Some rs ↦ written_rows (into t) room rs (rows_fault (into t) rs) ]
        ]) ≡ accepts text → Wrote n table room text
    by_dialect None p k = no_refusal k (λ h. absurd (omega arith))
    by_dialect (Some t) p k = by_rows t p (rows_in table) refl k

-- ---- the reader's answer

pub reader_known : (n : ℕ) (d : Dialect) (text : Bytes) (room : ℕ) → dialect_of n ≡ Some d → reader n text room ≡ read_answer (read_file d None text) room
unfolding reader
reader_known n d text room e = rw (e, reader)

-- an answer with these rows
pub record Answers (rs : List (List Value)) (width : ℕ) (a : Answer) : Type 0 where
  pub report : a.report ≡ accepted
  pub columns : a.columns ≡ width
  pub records : suc a.records ≡ length rs
  pub cells : map meaning a.cells ≡ map meaning (concat rs)

rows_count : (ds : List Rec) → length ds ≡ length (rows ds)
unfolding rows
rows_count [] = refl
rows_count (y ∷ ys) = ap suc (rows_count ys)

rows_answer :
    (ds : List Rec) (h : List Value) (rs : List (List Value)) (room : ℕ) → SameRows (rows ds) (h ∷ rs) → length (concat (h ∷ rs)) ≤ room →
    Answers (h ∷ rs) (length h) (answered ds (concat (rows ds)) room)
unfolding rows choose◌then◌else◌
rows_answer (x ∷ ds) h rs room (and_row c s) l =
    let all : SameRows (x.cells ∷ rows ds) (h ∷ rs) = and_row c s in
    let k : length (concat (x.cells ∷ rows ds)) ≡ length (concat (h ∷ rs)) = same_length (concat_same all) in
    let fit : ltb room (length (concat (x.cells ∷ rows ds))) ≡ false = le-ltb room (length (concat (x.cells ∷ rows ds))) (omega arith) in
    rw fit (record { report = refl; columns = same_length c; records = ap suc (rows_count ds ∙ rows_length s); cells = cells_meaning (concat_same all) })
rows_answer [] h rs room x'' l = elim x'' [ ]

pub reader_answers :
    (n : ℕ) (d : Dialect) (h : List Value) (rs : List (List Value)) (room : ℕ) (text : Bytes) → dialect_of n ≡ Some d →
    Read-as d None text (h ∷ rs) → length (concat (h ∷ rs)) ≤ room → Answers (h ∷ rs) (length h) (reader n text room)
reader_answers n d h rs room text e r l = rw (reader_known n d text room e, r.run) (rows_answer r.end.done h rs room r.same l)
