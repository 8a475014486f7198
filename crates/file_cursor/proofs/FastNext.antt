-- A data record that the fast path returns is the one that the cursor returns.
use Prim.Native.Nat.{ℕ, ◌≤◌}
use native.Mathlib.Omega.{arith}
use mathlib.Core.Path.{◌≡◌, refl, sym, subst, ◌∙◌}
use mathlib.Core.Bool.{Bool, true, false}
use mathlib.Core.List.{List, [], ◌∷◌}
use lib.ListN.{length, take, drop}
use lib.Dec.{eqb}
use borrow.Author.Tests.{ne_eqb}
use Rattle.model.specs.declared.Dialect.{Dialect}
use Rattle.model.specs.declared.FileState.{FileState}
use Rattle.model.specs.rules.Base.{Bytes, is_empty}
use Rattle.model.specs.rules.Report.{MAXFILE, MAXCOLUMNS}
use Rattle.model.specs.rules.Records.{Rec, between_records}
use Rattle.record_scanner.specs.Tokens.{outer}
use Rattle.cell_fast.specs.Ends.{CleanIn}
use Rattle.record_fast.specs.declared.FastRecord.{FastRecord}
use Rattle.std.specs.Prelude.{Option, Some}
use Rattle.record_fast.specs.FastScan.{FastScanSound}
use Rattle.file_cursor.specs.Next.{next_record}
use Rattle.file_cursor.specs.declared.scan.FileScan.TheVariants.{Completed}
use Rattle.file_cursor.proofs.FastRecords.{told_record, told_clean, told_long}
use Rattle.file_cursor.specs.declared.Cursor.{Cursor}
use Rattle.file_cursor.specs.NextRecord as visits
use Rattle.record_fast.specs.CellLists.{Long, SameLengths}
use Rattle.file_cursor.proofs.NextRecords.{Met, record_counts, record_visited}
use Rattle.record_fast.proofs.CellLists.{clean_in}
use Rattle.file_cursor.proofs.Traversal.{came}
use Rattle.file_cursor.specs.declared.fast.FastNext.{FastNext}
use Rattle.file_cursor.specs.FastNext.{FastCheckSound, sound, unsure, FastNextSound, a_record, nothing}

-- after some records the next is no header
pub no_header : (done : ℕ) → (done ≡ 0 → ⊥) → false ≡ eqb done 0
no_header done n = sym (ne_eqb done 0 n)

pub some_read : (rs : List Rec) (done : ℕ) → length rs ≡ done → (done ≡ 0 → ⊥) → is_empty rs ≡ false
some_read [] done l n = absurd (n (sym l))
some_read (r ∷ rs) done l n = refl

module _ {d : Dialect} {file : Bytes} {f : FileState} {i : ℕ} {s₀ e₀ k₀ s e k : List ℕ} {q : Option FastRecord}
    (t : FastScanSound d MAXFILE file i f MAXCOLUMNS 0 s₀ e₀ k₀ s e k q) (between : outer f ≡ true) (inside : i ≤ length file)
    (long : Long s₀ e₀ k₀) where
  pub met :
      {x : FastRecord} → q ≡ Some x → Met d file f i s₀ e₀ k₀ s e k (Completed x.start x.cells x.state x.next)
  met z =
      let o = told_record d file f i MAXCOLUMNS 0 t z inside in
      record {
        between = between;
        inside = inside;
        long = long;
        event = o.event;
        at_starts = o.at_starts;
        at_ends = o.at_ends;
        at_kinds = o.at_kinds;
        bounds = o.bounds;
      }

  pub kept : SameLengths s₀ e₀ k₀ s e k
  kept = let l = told_long d file f i MAXCOLUMNS 0 t in record { at_starts = l.0; at_ends = l.1; at_kinds = l.2 }

  pub clean_cells :
      {x : FastRecord} → q ≡ Some x → x.cells ≤ MAXCOLUMNS → x.clean ≡ true → CleanIn d file (take x.cells s) (take x.cells e)
  clean_cells z few c = clean_in few (told_clean d file f i MAXCOLUMNS 0 t z c)

  pub tells :
      (target : Option Dialect) (rs : List Rec) (done : ℕ) → length rs ≡ done → (done ≡ 0 → ⊥) → {x : FastRecord} → q ≡ Some x → {r : Option FastNext} →
      FastCheckSound d target rs (next_record d (between_records [] f i) (drop i file)).cells x.start x.state x.next x.clean r →
      FastNextSound d target file rs f i s e k r
  tells target rs done l n z unsure = nothing
  tells target rs done c₀ n₀ {x} z (sound (visits.sound {m = counted} {n = n} {w = w} fault c l few text short)) =
      let m = met z in
      let same : x.cells ≡ n = sym (record_counts m refl) ∙ l in
      a_record (some_read rs done c₀ n₀) (came (record_visited m target rs refl (visits.sound fault c l few text short)) refl)
      (λ c. subst (λ (j : ℕ). CleanIn d file (take j s) (take j e)) same (clean_cells z (omega arith) c))

-- ---- the fast path by its result

other : {A : Type 0} → ◌≡◌ {A = ℕ} 0 1 → A
other z = absurd (omega arith)

-- a data record that the cursor returns, with its cells as verbatim texts where `clean` says so
pub record DataRecord (d : Dialect) (target : Option Dialect) (file : Bytes) (rs : List Rec) (f : FileState) (i : ℕ) (s e k : List ℕ) (v : Cursor)
    (clean : Bool) : Type 0 where
  pub later : is_empty rs ≡ false
  pub next : visits.Next d target file rs f i s e k v
  pub cleans : clean ≡ true → CleanIn d file (take v.columns s) (take v.columns e)

pub data_came :
    {d : Dialect} {target : Option Dialect} {file : Bytes} {rs : List Rec} {f : FileState} {i : ℕ} {s e k : List ℕ} {r : Option FastNext} {v : FastNext} →
    FastNextSound d target file rs f i s e k r → r ≡ Some v → DataRecord d target file rs f i s e k v.cursor v.clean
data_came {d} {target} {file} {rs} {f} {i} {s} {e} {k} {v = v} (a_record {v = w} {clean = b} l n c) q =
    let z : record { cursor = w; clean = b } ≡ v = cc in
    subst (λ (x : FastNext). DataRecord d target file rs f i s e k x.cursor x.clean) z (record { later = l; next = n; cleans = c })
data_came nothing q = other cc
