-- The canonical text of a table is read back as the same rows, over every dialect: alone, and for conversion into its own dialect,
-- whose checks see as many bytes written as were read.
use Prim.Native.Nat.{ℕ, ◌+◌, ◌≤◌}
use native.Mathlib.Omega.{arith}
use native.Mathlib.Nat.{add-zero}
use mathlib.Core.Path.{◌≡◌, refl, sym, ap, ◌∙◌}
use mathlib.Core.Bool.{true, false}
use Rattle.std.specs.Prelude.{Option, None, Some}
use mathlib.Core.List.{List, [], ◌∷◌, ◌++◌, append_assoc, append-nil}
use lib.Dec.{ltb}
use lib.ListN.{length, length-append}
use borrow.Author.Tests.{eq-eqb, le-ltb}
use Rattle.model.specs.rules.Types.{Dialect, Target, Top, Begin, TooManyColumns, Ok}
use Rattle.model.specs.rules.Base.{Bytes}
use Rattle.model.specs.rules.Dialect.{into}
use Rattle.model.specs.rules.File.{file_end}
use Rattle.model.specs.rules.Text.{Value, record_text, data_text, table_text, ending}
use Rattle.model.specs.rules.Report.{MAXFILE, MAXRECORD, MAXCOLUMNS}
use Rattle.model.specs.rules.Records.{Rec, Read, rows, ◌or_else◌, when, Progress, going, read_from, read_bytes, read_file, read_end, nothing_read}
use Rattle.model.specs.rules.Records.{record_fault, header_fault, data_fault, uncarried_from, target_fault, between_records}
use Rattle.model.specs.laws.Laws.{All, all_none, all_cons}
use Rattle.model.specs.laws.RoundTrips.{ReadAs, SameCells, SameRows, no_rows, and_row}
use Rattle.model.proofs.round_trip.Meanings.{same_length, record_same, fault_same, rows_meaning}
use Rattle.model.proofs.round_trip.TableText.{rows_append, row_length}
use Rattle.model.proofs.file_laws.CheckResults.{else_sound, when_sound, both_sound, not_when}
use Rattle.model.proofs.round_trip.RecordRead.{RowBack, Finishes, record_read}

-- ---- the data records

-- no target, or the dialect itself
pub data Own (d : Dialect) : Option Target → Type 0 where
  own_none : Own d None
  own_some : Own d (Some (into d))

-- what a data row needs, of a table with this number of columns
pub record DataBack (d : Dialect) (columns : ℕ) (row : List Value) : Type 0 where
  pub back : RowBack d Begin false row
  pub even : length row ≡ columns
  pub short : length (record_text (into d) false row) ≤ MAXRECORD
  pub carried : uncarried_from d 1 row ≡ Ok tt

even_fine : (n : ℕ) (vs : List Value) → length vs ≡ n → ltb MAXCOLUMNS n ≡ false → data_fault n vs ≡ Ok tt
unfolding data_fault when ◌or_else◌
even_fine n vs e c = rw (e, c, eq-eqb n n refl)

target_fine :
    (d : Dialect) (written : ℕ) (vs : List Value) → uncarried_from d 1 vs ≡ Ok tt → length (record_text (into d) false vs) ≤ MAXRECORD →
    written + length (record_text (into d) false vs ++ ending d) ≤ MAXFILE → target_fault (into d) false written vs ≡ Ok tt
unfolding target_fault
target_fine d written vs c k m =
    both_sound (not_when _ refl)
    (both_sound c
    (both_sound refl
    (both_sound (not_when _ (le-ltb MAXRECORD (length (record_text (into d) false vs)) k))
    (not_when _ (le-ltb MAXFILE (written + length (record_text (into d) false vs ++ ending d)) m)))))

module _ (d : Dialect) (T : Option Target) (own : Own d T) (h : Rec) where
  row_fine :
      {T : Option Target} → Own d T → (ds : List Rec) (vs : List Value) → length vs ≡ length h.cells →
      ltb MAXCOLUMNS (length h.cells) ≡ false → uncarried_from d 1 vs ≡ Ok tt → length (record_text (into d) false vs) ≤ MAXRECORD →
      length (table_text (into d) (rows (h ∷ ds))) + length (record_text (into d) false vs ++ ending d) ≤ MAXFILE →
      record_fault d T (h ∷ ds) vs ≡ Ok tt
  unfolding record_fault rows
  row_fine own_none ds vs e c u k m = both_sound (even_fine (length h.cells) vs e c) refl
  row_fine own_some ds vs e c u k m = both_sound (even_fine (length h.cells) vs e c) (target_fine d (length (table_text (into d) (rows (h ∷ ds)))) vs u k m)

  pub record Rest (ds : List Rec) (o : ℕ) (rs : List (List Value)) : Type 0 where
    pub recs : List Rec
    pub same : SameRows (rows recs) rs
    pub run :
        read_from d T (going (between_records (h ∷ ds) Begin o)) (data_text (into d) rs)
        ≡ going (between_records ((h ∷ ds) ++ recs) Begin (o + length (data_text (into d) rs)))

  no_more : (ds : List Rec) (o : ℕ) → going (between_records (h ∷ ds) Begin o) ≡ going (between_records ((h ∷ ds) ++ []) Begin (o + 0))
  no_more ds o = rw (append-nil ds, add-zero o)

  one_more_lem :
      (ds recs : List Rec) (x : Rec) (p q : ℕ) → p ≡ q →
      going (between_records ((h ∷ (ds ++ (x ∷ []))) ++ recs) Begin p) ≡ going (between_records ((h ∷ ds) ++ (x ∷ recs)) Begin q)
  one_more_lem ds recs x p q e = rw (append_assoc ds (x ∷ []) recs, e)

  -- how many bytes the records before have
  text_snoc :
      (ds : List Rec) (x : Rec) (r : List Value) (o : ℕ) → SameCells x.cells r → length (table_text (into d) (rows (h ∷ ds))) ≡ o →
      length (table_text (into d) (rows (h ∷ (ds ++ (x ∷ []))))) ≡ o + length (record_text (into d) false r ++ ending d)
  unfolding rows
  text_snoc ds x r o e k =
      ap (λ (l : List (List Value)). length (table_text (into d) (h.cells ∷ l))) (rows_append ds (x ∷ [])) ∙ row_length (into d) (h.cells ∷ rows ds) x.cells
      ∙ ap (λ (n : ℕ). n + length (record_text (into d) false x.cells ++ ending d)) k
      ∙ ap (λ (l : Bytes). o + length (l ++ ending d)) (record_same (into d) false e)

  -- one row read, and those after it
  and_rest :
      (rs : List (List Value)) (ds : List Rec) (o : ℕ) (r : List Value)
      (E : Finishes d T (h ∷ ds) o (between_records (h ∷ ds) Begin o) (o + length (record_text (into d) false r) + length (ending d))
      (length (record_text (into d) false r)) (record_text (into d) false r ++ ending d) r) →
      Rest (ds ++ (record { start = o; size = length (record_text (into d) false r); cells = E.cells } ∷ []))
      (o + length (record_text (into d) false r) + length (ending d)) rs →
      o + length (record_text (into d) false r) + length (ending d) + length (data_text (into d) rs)
      ≡ o + length (data_text (into d) (r ∷ rs)) → Rest ds o (r ∷ rs)
  unfolding data_text rows
  and_rest rs ds o r E I u =
      record {
        recs = record { start = o; size = length (record_text (into d) false r); cells = E.cells } ∷ I.recs;
        same = and_row E.same I.same;
        run =
            E.run (data_text (into d) rs)
            ∙ I.run
            ∙ one_more_lem ds I.recs (record { start = o; size = length (record_text (into d) false r); cells = E.cells })
            (o + length (record_text (into d) false r) + length (ending d) + length (data_text (into d) rs))
            (o + length (data_text (into d) (r ∷ rs))) u;
      }

  pub data_read :
      (rs : List (List Value)) (ds : List Rec) (o : ℕ) → All (DataBack d (length h.cells)) rs →
      ltb MAXCOLUMNS (length h.cells) ≡ false → length (table_text (into d) (rows (h ∷ ds))) ≡ o →
      o + length (data_text (into d) rs) ≤ MAXFILE → Rest ds o rs
  unfolding data_text read_from rows
  data_read [] ds o all_none c w m = record { recs = []; same = no_rows; run = no_more ds o }
  data_read (r ∷ rs) ds o (all_cons b bs) c w m =
      let t : Bytes = record_text (into d) false r in
      let len : length ((t ++ ending d) ++ data_text (into d) rs) ≡ length (t ++ ending d) + length (data_text (into d) rs)
      = length-append (t ++ ending d) (data_text (into d) rs) in
      let len' : length (t ++ ending d) ≡ length t + length (ending d) = length-append t (ending d) in
      let len'' : length (data_text (into d) (r ∷ rs)) ≡ length ((t ++ ending d) ++ data_text (into d) rs) = refl in
      let fine : record_fault d T (h ∷ ds) r ≡ Ok tt = row_fine own ds r b.even c b.carried b.short (rw w (omega arith)) in
      let E : Finishes d T (h ∷ ds) o (between_records (h ∷ ds) Begin o) (o + length t + length (ending d)) (length t) (t ++ ending d) r
      = record_read d T (h ∷ ds) Begin false r o b.back (omega arith) b.short (λ vs e. fault_same d T (h ∷ ds) e ∙ fine) in
      let x : Rec = record { start = o; size = length t; cells = E.cells } in
      let w' : length (table_text (into d) (rows (h ∷ (ds ++ (x ∷ []))))) ≡ o + length (t ++ ending d) = text_snoc ds x r o E.same w in
      let u : o + length (t ++ ending d) ≡ o + length t + length (ending d) = omega arith in
      let I : Rest (ds ++ (x ∷ [])) (o + length t + length (ending d)) rs
      = data_read rs (ds ++ (x ∷ [])) (o + length t + length (ending d)) bs c (w' ∙ u) (omega arith) in
      and_rest rs ds o r E I (omega arith)

-- ---- a table

-- what a table needs to be read back
pub data TableBack (d : Dialect) : List (List Value) → Type 0 where
  table_back :
      {h : List Value} {rs : List (List Value)} → RowBack d Top true h → header_fault d h ≡ Ok tt → target_fault (into d) true 0 h ≡ Ok tt →
      length (record_text (into d) true h) ≤ MAXRECORD → All (DataBack d (length h)) rs → length (table_text (into d) (h ∷ rs)) ≤ MAXFILE →
      TableBack d (h ∷ rs)

-- the reader accepts, with these rows
pub record Read-as (d : Dialect) (T : Option Target) (text : Bytes) (rs : List (List Value)) : Type 0 where
  pub end : Read
  pub run : read_file d T text ≡ going end
  pub same : SameRows (rows end.done) rs

few_columns : (d : Dialect) (h : List Value) → header_fault d h ≡ Ok tt → ltb MAXCOLUMNS (length h) ≡ false
unfolding header_fault
few_columns d h e = when_sound (ltb MAXCOLUMNS (length h)) TooManyColumns (else_sound (when (ltb MAXCOLUMNS (length h)) TooManyColumns) _ e).0

header_fine :
    {d : Dialect} {T : Option Target} (h : List Value) → Own d T → header_fault d h ≡ Ok tt → target_fault (into d) true 0 h ≡ Ok tt →
    record_fault d T [] h ≡ Ok tt
unfolding record_fault table_text
header_fine h own_none e k = both_sound e refl
header_fine h own_some e k = both_sound e k

-- the header read, and the rows after it
all_read :
    (d : Dialect) (T : Option Target) (own : Own d T) (h : List Value) (rs : List (List Value))
    (E : Finishes d T [] 0 (between_records [] Top 0) (0 + length (record_text (into d) true h) + length (ending d))
    (length (record_text (into d) true h)) (record_text (into d) true h ++ ending d) h) →
    Rest d T own (record { start = 0; size = length (record_text (into d) true h); cells = E.cells }) []
    (0 + length (record_text (into d) true h) + length (ending d)) rs → Read-as d T (table_text (into d) (h ∷ rs)) (h ∷ rs)
unfolding table_text read_file read_bytes read_end nothing_read file_end rows
all_read d T own h rs E I =
    let x : Rec = record { start = 0; size = length (record_text (into d) true h); cells = E.cells } in
    record {
      end = between_records (x ∷ I.recs) Begin (0 + length (record_text (into d) true h) + length (ending d) + length (data_text (into d) rs));
      run = ap (λ (p : Progress). read_end d T p) (E.run (data_text (into d) rs) ∙ I.run);
      same = and_row E.same I.same;
    }

pub table_read : (d : Dialect) (T : Option Target) (rs : List (List Value)) → Own d T → TableBack d rs → Read-as d T (table_text (into d) rs) rs
unfolding table_text data_text rows
table_read d T rows₀ own (table_back {h} {rs} b f g k bs m) =
    let t : Bytes = record_text (into d) true h in
    let len : length ((t ++ ending d) ++ data_text (into d) rs) ≡ length (t ++ ending d) + length (data_text (into d) rs)
    = length-append (t ++ ending d) (data_text (into d) rs) in
    let len' : length (t ++ ending d) ≡ length t + length (ending d) = length-append t (ending d) in
    let len'' : length (table_text (into d) (h ∷ rs)) ≡ length ((t ++ ending d) ++ data_text (into d) rs) = refl in
    let E : Finishes d T [] 0 (between_records [] Top 0) (0 + length t + length (ending d)) (length t) (t ++ ending d) h
    = record_read d T [] Top true h 0 b (omega arith) k (λ vs e. fault_same d T [] e ∙ header_fine h own f g) in
    let x : Rec = record { start = 0; size = length t; cells = E.cells } in
    let l : length h ≡ length E.cells = sym (same_length E.same) in
    let text : table_text (into d) (rows (x ∷ [])) ≡ (t ++ ending d) ++ [] = ap (λ (z : Bytes). (z ++ ending d) ++ []) (record_same (into d) true E.same) in
    let nil : length ((t ++ ending d) ++ []) ≡ length (t ++ ending d) = ap length (append-nil (t ++ ending d)) in
    let none_more : length ((t ++ ending d) ++ []) ≡ 0 + length t + length (ending d) = omega arith in
    let I : Rest d T own x [] (0 + length t + length (ending d)) rs
    = data_read d T own x rs [] (0 + length t + length (ending d)) (rw l at bs) (rw (← l) (few_columns d h f))
    (ap length text ∙ none_more) (omega arith) in
    all_read d T own h rs E I

pub read_as : {d : Dialect} {T : Option Target} {text : Bytes} {rs : List (List Value)} → Read-as d T text rs → ReadAs d T text rs
read_as r = record { end = r.end; run = r.run; same = rows_meaning r.same }
