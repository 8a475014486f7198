-- Demand 1: the reports of the calls.
use Prim.Native.Nat.{ℕ, ◌≤◌}
use native.Mathlib.Omega.{arith}
use mathlib.Core.Path.{◌≡◌, refl, sym, ap, subst, ◌∙◌}
use mathlib.Core.Bool.{Bool, true, false}
use Rattle.std.specs.Prelude.{Option, None, Some, Ok, Err}
use mathlib.Core.List.{List, [], ◌∷◌}
use lib.Dec.{ltb}
use lib.ListN.{length}
use borrow.Author.Tests.{ltb-true, ltb-false}
use Rattle.model.specs.declared.Report.{Report}
use Rattle.model.specs.declared.Dialect.{Dialect}
use Rattle.model.specs.declared.Target.{Target}
use Rattle.model.specs.rules.Types.{CellCheck}
use Rattle.model.specs.rules.Base.{Bytes, concat}
use Rattle.model.specs.rules.Dialect.{dialect_of, into}
use Rattle.model.specs.rules.Decode.{content_of, validate_cell}
use Rattle.model.specs.rules.Text.{Value, table_text}
use Rattle.model.specs.rules.Report.{refusal}
use Rattle.model.specs.rules.Records.{Rec, rows, Read, Progress, going, stopped, read_file}
use Rattle.model.specs.rules.Api.{Answer, answered, read_answer, reader, Decoded, decoded_as, decoder, Written, fitted, converted_as, converter, Table}
use Rattle.model.specs.rules.Api.{rows_in, rows_fault, written_rows, writer}
use Rattle.model.proofs.Tests.{split}
use Rattle.model.proofs.round_trip.RoundTrip.{reader_known}
use Rattle.model.proofs.round_trip.ConvertBack.{converter_known}
use Rattle.theorems.specs.Demands.{ReportsFile, ReportsCell, ReportsTable}
use Rattle.theorems.specs.Demands as told

-- ---- 11

pub reader_unknown : (n : ℕ) → dialect_of n ≡ None → (file : Bytes) (room : ℕ) → (reader n file room).report ≡ refusal 11
unfolding reader
reader_unknown n e file room = rw (e, reader) refl

pub decoder_unknown : (n : ℕ) → dialect_of n ≡ None → (raw : Bytes) (room : ℕ) → (decoder n raw room).report ≡ refusal 11
unfolding decoder
decoder_unknown n e raw room = rw (e, decoder) refl

pub converter_unknown :
    (n : ℕ) → dialect_of n ≡ None → (m : ℕ) (file : Bytes) (room : ℕ) →
    ((converter n m file room).report ≡ refusal 11) × ((converter m n file room).report ≡ refusal 11)
unfolding converter
converter_unknown n e m file room = (rw (e, converter) refl, by_source (dialect_of m))
  where
    by_source : (o : Option Dialect) →
        (elim o as (λ _. Written) [
          | None ↦ record { report = refusal 11; text = [] }
          | Some d ↦ elim (dialect_of n) as (λ _. Written)
              [ None ↦ record { report = refusal 11; text = [] } | Some t ↦ converted_as (into t) room (read_file d (Some (into t)) file) ]
        ]).report
        ≡ refusal 11
    by_source None = refl
    by_source (Some d) = rw e refl

pub writer_unknown : (n : ℕ) → dialect_of n ≡ None → (table : Table) (room : ℕ) → (writer n table room).report ≡ refusal 11
unfolding writer
writer_unknown n e table room = rw (e, writer) refl

-- ---- the table of faults

abbrev cells_of : List Rec → ℕ
cells_of rs = length (concat (rows rs))

read_reports : (room : ℕ) (r : Read) (rs : List Rec) → r.done ≡ rs → ReportsFile cells_of room (going r) (answered rs (concat (rows rs)) room).report
unfolding rows concat
read_reports room r [] q = told.accepts {r = r} (rw q (omega arith))
read_reports room r (h ∷ rs) q =
    split (λ (a : Answer). ReportsFile cells_of room (going r) a.report) (ltb room (cells_of (h ∷ rs)))
    (λ x. told.no_room {r = r} (rw q (ltb-true room (cells_of (h ∷ rs)) x))) λ x. told.accepts {r = r} (rw q (ltb-false room (cells_of (h ∷ rs)) x))

pub reader_tells :
    (n : ℕ) (d : Dialect) (file : Bytes) (room : ℕ) → dialect_of n ≡ Some d →
    ReportsFile (λ (rs : List Rec). length (concat (rows rs))) room (read_file d None file) (reader n file room).report
reader_tells n d file room e = rw (reader_known n d file room e) (by_end (read_file d None file))
  where
    by_end : (p : Progress) → ReportsFile cells_of room p (read_answer p room).report
    by_end (stopped x r) = told.fault
    by_end (going r) = read_reports room r r.done refl

pub decoder_tells :
    (n : ℕ) (d : Dialect) (raw : Bytes) (room : ℕ) → dialect_of n ≡ Some d →
    ReportsCell (length (content_of d raw)) room (validate_cell d raw) (decoder n raw room).report
unfolding decoder
decoder_tells n d raw room e = rw (e, decoder) (by_check (validate_cell d raw))
  where
    by_check : (c : CellCheck) → ReportsCell (length (content_of d raw)) room c (decoded_as d raw room c).report
    by_check (Err u) = told.fault {e = u.fault} {o = u.offset}
    by_check (Ok _) =
        split (λ (a : Decoded). ReportsCell (length (content_of d raw)) room (Ok tt) a.report) (ltb room (length (content_of d raw)))
        (λ x. told.no_room (ltb-true room (length (content_of d raw)) x)) λ x. told.accepts (ltb-false room (length (content_of d raw)) x)

pub converter_tells :
    (m n : ℕ) (d t : Dialect) (file : Bytes) (room : ℕ) → dialect_of m ≡ Some d → dialect_of n ≡ Some t →
    ReportsFile (λ (rs : List Rec). length (table_text (into t) (rows rs))) room (read_file d (Some (into t)) file)
    (converter m n file room).report
converter_tells m n d t file room e k = rw (converter_known m n d t file room e k) (by_end (read_file d (Some (into t)) file))
  where
    needs : List Rec → ℕ
    needs rs = length (table_text (into t) (rows rs))

    by_end : (p : Progress) → ReportsFile needs room p (converted_as (into t) room p).report
    by_end (stopped x r) = told.fault
    by_end (going r) =
        split (λ (w : Written). ReportsFile needs room (going r) w.report) (ltb room (needs r.done))
        (λ x. told.no_room (ltb-true room (needs r.done) x)) λ x. told.accepts (ltb-false room (needs r.done) x)

pub writer_tells :
    (n : ℕ) (t : Dialect) (table : Table) (room : ℕ) → dialect_of n ≡ Some t →
    ReportsTable (into t) room (rows_in table) (writer n table room).report
unfolding writer
writer_tells n t table room e = rw (e, writer) (by_rows (rows_in table))
  where
    by_fault :
        (rs : List (List Value)) (o : Option Report) → rows_fault (into t) rs ≡ o →
        ReportsTable (into t) room (Some rs) (written_rows (into t) room rs o).report
    by_fault rs (Some x) q = told.fault q
    by_fault rs None q =
        split (λ (w : Written). ReportsTable (into t) room (Some rs) w.report) (ltb room (length (table_text (into t) rs)))
        (λ x. told.no_room q (ltb-true room (length (table_text (into t) rs)) x)) λ x. told.accepts q (ltb-false room (length (table_text (into t) rs)) x)

    by_rows : (o : Option (List (List Value))) →
        ReportsTable (into t) room o
        (elim o as (λ _. Written)
        [ None ↦ record { report = refusal 12; text = [] } | Some rs ↦ written_rows (into t) room rs (rows_fault (into t) rs) ]).report
    by_rows None = told.no_table
    by_rows (Some rs) = by_fault rs (rows_fault (into t) rs) refl
