-- A table that passes the writer's checks is read back as the same rows, over the dialect: each check that found no fault gives
-- what a record or the table needs to be read back.
use Prim.Native.Nat.{ℕ, suc, ◌+◌, ◌≤◌}
use native.Mathlib.Omega.{arith}
use native.Mathlib.Nat.{add-zero}
use mathlib.Core.Path.{◌≡◌, refl, sym, ap, ◌∙◌}
use mathlib.Core.Bool.{Bool, true, false, not, ◌&&◌, ◌||◌}
use Rattle.std.specs.Prelude.{Option, None, Some}
use mathlib.Core.List.{List, [], ◌∷◌, ◌++◌, append-nil}
use lib.Dec.{ltb}
use lib.ListN.{length, length-append}
use Rattle.model.specs.rules.Types.{Report, Kind, Text, Number, True, False, Null, Quote, Double, Single, Dialect, Csvj, Tdif, CsvPlus, Top, Begin}
use Rattle.model.specs.rules.Types.{TooManyColumns, HeaderKind, LacksKind, LoneSurrogate, CheckResult, Ok, Err}
use Rattle.model.specs.rules.Base.{Bytes, QUOTE, ◌is◌, holds, choose◌then◌else◌, is_empty}
use Rattle.model.specs.rules.Dialect.{into, quote_of, quote_byte, is_csvj}
use Rattle.model.specs.rules.File.{begin_record, begin_file, file_step, counts}
use Rattle.model.specs.rules.Text.{Value, is_text, begins_bom, special, doubled, quoted_text, json_body, json_cell, csv_plus_cell, cell_text}
use Rattle.model.specs.rules.Text.{record_text, data_text, table_text, ending}
use Rattle.model.specs.rules.Report.{MAXFILE, MAXCOLUMNS}
use Rattle.model.specs.rules.Records.{◌or_else◌, when, header_kind_from, header_fault, has_kind, loses_surrogate, uncarried_from, target_fault}
use Rattle.model.specs.rules.Records.{target_next, record_fault}
use Rattle.model.specs.rules.Api.{is_value, or_next, rows_from, rows_fault}
use Rattle.model.specs.laws.Laws.{All, all_none, all_cons}
use Rattle.model.specs.laws.RoundTrips.{Carried, has_cells, RecordTrip, Writable, writable}
use Rattle.model.proofs.Tests.{split, impossible}
use Rattle.model.proofs.round_trip.TextBack.{or_false}
use Rattle.model.proofs.round_trip.CellBack.{cell_back}
use Rattle.model.proofs.round_trip.CellRead.{like_begin, like_top}
use Rattle.model.proofs.round_trip.Meanings.{cells_meaning, fault_same}
use Rattle.model.proofs.round_trip.RecordRead.{MoreBack, RowBack, row_empty, row_cells, record_read}
use Rattle.model.proofs.round_trip.TableText.{row_length}
use Rattle.model.proofs.file_laws.CheckResults.{else_sound, when_sound, target_sound}
use Rattle.model.proofs.round_trip.TableRead.{DataBack, TableBack, table_back}

-- ---- what follows from no fault

pub not_false : (x : Bool) → not x ≡ false → x ≡ true
not_false true e = refl
not_false false e = impossible (sym e)

abbrev pub ValueCell : Value → Type 0
ValueCell v = is_value v.kind v.content ≡ true

pub carried_all : (t : Dialect) (n : ℕ) {vs : List Value} → All ValueCell vs → uncarried_from t n vs ≡ Ok tt → All (Carried t) vs
unfolding uncarried_from
carried_all t n all_none e = all_none
carried_all t n (all_cons {x} v vs) e =
    let a = else_sound (when (not (has_kind t x.kind)) (LacksKind n)) _ e in
    let b = else_sound (when (loses_surrogate t x) (LoneSurrogate n)) _ a.1 in
    all_cons
    (record { value = v; has_kind_lem = not_false (has_kind t x.kind) (when_sound _ _ a.0); keeps_text = when_sound (loses_surrogate t x) _ b.0 })
    (carried_all t (suc n) vs b.1)

abbrev TextCell : Value → Type 0
TextCell v = is_text v.kind ≡ true

text_all : (n : ℕ) (vs : List Value) → header_kind_from n vs ≡ Ok tt → All TextCell vs
unfolding header_kind_from
text_all n [] e = all_none
text_all n (v ∷ vs) e =
    let a = else_sound (when (not (is_text v.kind)) (HeaderKind n)) _ e in
    all_cons (not_false (is_text v.kind) (when_sound _ _ a.0)) (text_all (suc n) vs a.1)

header_text : (d : Dialect) (vs : List Value) → header_fault d vs ≡ Ok tt → All TextCell vs
unfolding header_fault
header_text d vs e =
    let a = else_sound (when (ltb MAXCOLUMNS (length vs)) TooManyColumns) _ e in
    text_all 1 vs (else_sound (header_kind_from 1 vs) _ a.1).0

-- ---- the rows

more_all : (d : Dialect) {vs : List Value} → All (Carried d) vs → All (MoreBack d) vs
unfolding MoreBack
more_all d all_none = all_none
more_all d (all_cons {x} f fs) = all_cons (cell_back d false false x f) (more_all d fs)

pub data_row : (d : Dialect) (vs : List Value) → has_cells d vs ≡ true → All (Carried d) vs → RowBack d Begin false vs
unfolding file_step begin_record counts choose◌then◌else◌
data_row Csvj [] f all_none = row_empty refl refl
data_row Tdif [] f all_none = impossible f
data_row (CsvPlus s) [] f all_none = impossible f
data_row d (v ∷ vs) f (all_cons x xs) = row_cells like_begin tt (cell_back d (is_empty vs) false v x) (more_all d xs)

-- the first header cell does not begin with the byte order mark
begins_quote : (q : ℕ) (xs : Bytes) → (q is 0xEF) ≡ false → begins_bom (q ∷ xs) ≡ false
begins_quote q [] e = refl
begins_quote q (x ∷ []) e = refl
begins_quote q (x ∷ y ∷ xs) e = rw e

quote_no_bom : (q : Quote) → (quote_byte q is 0xEF) ≡ false
quote_no_bom Double = refl
quote_no_bom Single = refl

json_clear : (k : Kind) (bs : Bytes) → is_text k ≡ true → begins_bom (json_cell k bs) ≡ false
unfolding json_cell
json_clear Text bs e = begins_quote QUOTE (json_body bs ++ (QUOTE ∷ [])) refl
json_clear Number bs e = impossible e
json_clear True bs e = impossible e
json_clear False bs e = impossible e
json_clear Null bs e = impossible e

first_clear : (d : Dialect) (only : Bool) (v : Value) → is_text v.kind ≡ true → begins_bom (cell_text d only true v) ≡ false
unfolding cell_text csv_plus_cell quoted_text
first_clear Csvj only v e = json_clear v.kind v.content e
first_clear Tdif only v e =
    split (λ t. begins_bom t ≡ false) (is_text v.kind) (λ _. begins_quote QUOTE (doubled QUOTE v.content ++ (QUOTE ∷ [])) refl) λ n.
    impossible (sym n ∙ e)
first_clear (CsvPlus s) only v e =
    split (λ t. begins_bom t ≡ false) _
    (λ _.
    begins_quote (quote_of (CsvPlus s)) (doubled (quote_of (CsvPlus s)) v.content ++ (quote_of (CsvPlus s) ∷ []))
    (quote_no_bom s.quote)) λ q.
    (or_false (holds (special s) v.content || only && is_empty v.content) (true && begins_bom v.content) q).1

header_row : (d : Dialect) (vs : List Value) → has_cells d vs ≡ true → All (Carried d) vs → All TextCell vs → RowBack d Top true vs
unfolding file_step begin_file begin_record counts choose◌then◌else◌
header_row Csvj [] f all_none t = row_empty refl refl
header_row Tdif [] f all_none t = impossible f
header_row (CsvPlus s) [] f all_none t = impossible f
header_row d (v ∷ vs) f (all_cons x xs) (all_cons t ts) =
    row_cells like_top (first_clear d (is_empty vs) v t) (cell_back d (is_empty vs) true v x) (more_all d xs)

pub header_back : (d e : Dialect) (vs : List Value) → has_cells d vs ≡ true → All (Carried d) vs → header_fault e vs ≡ Ok tt → RowBack d Top true vs
header_back d e vs f c h = header_row d vs f c (header_text e vs h)

pub has_cells_lem : (t : Dialect) (vs : List Value) → (true && is_empty vs && not (is_csvj t)) ≡ false → has_cells t vs ≡ true
has_cells_lem t vs e = rw e

pub has_even : (d : Dialect) (vs ws : List Value) → length ws ≡ length vs → has_cells d vs ≡ true → has_cells d ws ≡ true
has_even d [] [] e f = f
has_even d [] (w ∷ ws) e f = refl
has_even d (v ∷ vs) [] e f = absurd (omega arith)
has_even d (v ∷ vs) (w ∷ ws) e f = refl

-- ---- a record

-- the checks of the current record find no fault, so that its text, read where a record begins, completes it
pub record_trip : RecordTrip
record_trip d target [] o vs c f s k m =
    let E
    = record_read d target [] Top true vs o (header_back d d vs f c (unfold record_fault in (else_sound (header_fault d vs) _ s).0)) m k
    (λ ws e. fault_same d target [] e ∙ s) in
    record { cells = E.cells; same = cells_meaning E.same; run = E.run }
record_trip d target (h ∷ rs) o vs c f s k m =
    let E = record_read d target (h ∷ rs) Begin false vs o (data_row d vs f c) m k (λ ws e. fault_same d target (h ∷ rs) e ∙ s) in
    record { cells = E.cells; same = cells_meaning E.same; run = E.run }

-- ---- the table

some_none : {A : Type 0} {e : Report} → Some e ≡ None → A
some_none e = let z : ◌≡◌ {A = ℕ} 0 1 = cc in absurd (omega arith)

pub next_none : (n : ℕ) (v : CheckResult) (next : Option Report) → or_next n v next ≡ None → (v ≡ Ok tt) × (next ≡ None)
next_none n (Ok _) next e = (refl, e)
next_none n (Err f) next e = some_none e

module _ (d : Dialect) (h : List Value) (filled : has_cells d h ≡ true) where
  record Rows (done rs : List (List Value)) : Type 0 where
    backs : All (DataBack d (length h)) rs
    fits : length (table_text (into d) (h ∷ done)) + length (data_text (into d) rs) ≤ MAXFILE

  data_rows :
      (done rs : List (List Value)) → All (All ValueCell) rs → All (λ (r : List Value). length r ≡ length h) rs →
      length (table_text (into d) (h ∷ done)) ≤ MAXFILE → rows_from (into d) (h ∷ done) rs ≡ None → Rows done rs
  unfolding rows_from data_text
  data_rows done [] all_none all_none m e = record { backs = all_none; fits = rw (add-zero (length (table_text (into d) (h ∷ done)))) m }
  data_rows done (r ∷ rs) (all_cons v vs) (all_cons l ls) m e =
      let x = next_none (suc (suc (length done))) (target_next (into d) (h ∷ done) r) (rows_from (into d) ((h ∷ done) ++ (r ∷ [])) rs) e in
      let t = target_sound (into d) false (length (table_text (into d) (h ∷ done))) r x.0 in
      let more : length (table_text (into d) (h ∷ (done ++ (r ∷ []))))
      ≡ length (table_text (into d) (h ∷ done)) + length (record_text (into d) false r ++ ending d)
      = row_length (into d) (h ∷ done) r in
      let i = data_rows (done ++ (r ∷ [])) rs vs ls (let f = t.fits in omega arith) x.1 in
      let len : length ((record_text (into d) false r ++ ending d) ++ data_text (into d) rs)
      ≡ length (record_text (into d) false r ++ ending d) + length (data_text (into d) rs)
      = length-append (record_text (into d) false r ++ ending d) (data_text (into d) rs) in
      let len' : length (data_text (into d) (r ∷ rs)) ≡ length ((record_text (into d) false r ++ ending d) ++ data_text (into d) rs) = refl in
      record {
        backs =
            all_cons (record {
              back = data_row d r (has_even d h r l filled) (carried_all d 1 v t.carries);
              even = l;
              short = t.short;
              carried = t.carries;
            }) i.backs;
        fits = let f = i.fits in omega arith;
      }

-- every table that passes the writer's checks
pub writer_back : (d : Dialect) (rs : List (List Value)) → Writable d rs → TableBack d rs
unfolding rows_fault rows_from table_text data_text
writer_back d all (writable {h} {rs} (all_cons v vs) ls e) =
    let x = next_none 1 (header_fault d h or_else target_fault (into d) true 0 h) (rows_from (into d) (h ∷ []) rs) e in
    let y = else_sound (header_fault d h) (target_fault (into d) true 0 h) x.0 in
    let t = target_sound (into d) true 0 h y.1 in
    let f = has_cells_lem d h t.filled in
    let first : length (table_text (into d) (h ∷ [])) ≡ length (record_text (into d) true h ++ ending d)
    = ap length (append-nil (record_text (into d) true h ++ ending d)) in
    let r = data_rows d h f [] rs vs ls (let f = t.fits in omega arith) x.1 in
    let len : length ((record_text (into d) true h ++ ending d) ++ data_text (into d) rs)
    ≡ length (record_text (into d) true h ++ ending d) + length (data_text (into d) rs)
    = length-append (record_text (into d) true h ++ ending d) (data_text (into d) rs) in
    let len' : length (table_text (into d) (h ∷ rs)) ≡ length ((record_text (into d) true h ++ ending d) ++ data_text (into d) rs) = refl in
    table_back (header_back d d h f (carried_all d 1 v t.carries) y.0) y.0 y.1 t.short r.backs (let f = r.fits in omega arith)
