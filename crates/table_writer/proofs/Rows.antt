-- The records of a table in order: those left after n of them, the check of the next, and the text of the rest.
use Prim.Native.Nat.{ℕ, suc, ◌+◌, ◌-◌, ◌*◌, ◌<◌, ◌≤◌}
use native.Mathlib.Omega.{arith}
use native.Mathlib.Nat.{mul-suc}
use native.Mathlib.Numerals.{add-one}
use mathlib.Core.Path.{◌≡◌, refl, sym, ap, ◌∙◌}
use mathlib.Core.Bool.{Bool, true, false}
use Rattle.std.specs.Prelude.{Option, None, Some}
use mathlib.Core.List.{List, [], ◌∷◌, ◌++◌, append_assoc, append-nil}
use lib.Dec.{eqb}
use lib.ListN.{length, take, drop, length-append}
use lib.Seq.{drop-drop}
use borrow.Author.Tests.{ne_eqb}
use Rattle.model.specs.declared.Dialect.{Dialect}
use Rattle.model.specs.declared.Fault.{Fault}
use Rattle.model.specs.declared.Report.{Report}
use Rattle.model.specs.declared.Target.{Target}
use Rattle.model.specs.rules.Types.{CheckResult}
use Rattle.std.specs.Prelude.{Result, Ok, Err}
use Rattle.std.specs.Result.{result_and}
use Rattle.model.specs.rules.Base.{Bytes, choose◌then◌else◌, is_empty, over}
use Rattle.model.specs.rules.Dialect.{into}
use Rattle.model.specs.rules.Text.{Value, record_text, data_text, table_text, ending}
use Rattle.model.specs.rules.Report.{MAXFILE, report, number_of, column_of}
use Rattle.model.specs.rules.Records.{◌or_else◌, target_fault}
use Rattle.model.specs.rules.Api.{rows_of, row_fault, or_next, rows_from, rows_fault}
use Rattle.model.proofs.round_trip.TableText.{row_length}
use Rattle.model.proofs.file_laws.CheckResults.{else_sound, target_sound, fault_sound}
use Rattle.buffer.specs.Writes.{Room, WrittenAt}
use Rattle.buffer.proofs.WriteProgress.{Emitting, emitting, room_next, put_next, put_whole, written_first}
use Rattle.cell_decoder.specs.declared.source.Source.TheVariants.{Contents}
use Rattle.cell_decoder.specs.Sources.{cells_in, Cells}
use Rattle.cell_decoder.proofs.CellsIn.{cells_length}
use Rattle.table_writer.specs.Rows.{header_if, row_check, sum_by, measured_as}

-- ---- the records that are left

-- the record at a place
abbrev pub row_at : List Value → (columns at : ℕ) → List Value
row_at vs columns at = take columns (drop at vs)

-- the records from a place on, after n of them
abbrev pub rows_left : List Value → (columns records n at : ℕ) → List (List Value)
rows_left vs columns records n at = rows_of (records - n) columns (drop at vs)

module _ (vs : List Value) (columns records : ℕ) where
  rows_all : rows_left vs columns records 0 0 ≡ rows_of records columns vs
  rows_all = let e : records - 0 ≡ records = omega arith in ap (λ (k : ℕ). rows_of k columns vs) e

  rows_next : (n at : ℕ) → n < records → rows_left vs columns records n at ≡ row_at vs columns at ∷ rows_left vs columns records (n + 1) (at + columns)
  unfolding rows_of
  rows_next n at h =
      let e : records - n ≡ suc (records - (n + 1)) = omega arith in
      ap (λ (k : ℕ). rows_of k columns (drop at vs)) e
      ∙ ap (λ (l : List Value). row_at vs columns at ∷ rows_of (records - (n + 1)) columns l) (drop-drop columns at vs)

  rows_end : (n at : ℕ) → records ≤ n → rows_left vs columns records n at ≡ []
  unfolding rows_of
  rows_end n at h = let e : records - n ≡ 0 = omega arith in ap (λ (k : ℕ). rows_of k columns (drop at vs)) e

-- as many cells are left as the records have that are left
pub record Lies (vs : List Value) (columns records n at : ℕ) : Type 0 where
  pub few : n ≤ records
  pub place : at + columns * (records - n) ≡ length vs

stands : {vs : List Value} {columns records : ℕ} → length vs ≡ columns * records → Lies vs columns records 0 0
stands {vs} {columns} {records} e =
    let k : records - 0 ≡ records = omega arith in
    let f : columns * (records - 0) ≡ columns * records = ap (λ (j : ℕ). columns * j) k in
    record { few = omega arith; place = omega arith }

one_left : (columns records n : ℕ) → n < records → columns * (records - n) ≡ columns * (records - (n + 1)) + columns
one_left columns records n h =
    let e : records - n ≡ suc (records - (n + 1)) = omega arith in
    ap (λ (j : ℕ). columns * j) e ∙ mul-suc columns (records - (n + 1))

module _ {vs : List Value} {columns records n at : ℕ} (s : Lies vs columns records n at) (h : n < records) where
  pub row_inside : at + columns ≤ length vs
  row_inside = omega (arith, one_left columns records n h, s.place)

  stands_next : Lies vs columns records (n + 1) (at + columns)
  stands_next = record { few = omega arith; place = omega (arith, one_left columns records n h, s.place) }

-- ---- measuring

-- the two results of measuring
abbrev as_measured : ℕ → Result ℕ Report
as_measured n = Ok n

abbrev pub as_refused : Report → Result ℕ Report
as_refused e = Err e

empty_count : (done : List (List Value)) (n : ℕ) → length done ≡ n → is_empty done ≡ eqb n 0
empty_count [] n e = rw (← e)
empty_count (r ∷ rs) n e = sym (ne_eqb n 0 λ z. omega (arith, e, z))

row_check_lem :
    (t : Dialect) (done : List (List Value)) (r : List Value) →
    row_fault (into t) done r ≡ row_check t (is_empty done) (length (table_text (into t) done)) r
unfolding ◌or_else◌
row_check_lem t [] r = refl
row_check_lem t (h ∷ rs) r = refl

-- the check of a record, with the length of its text
abbrev pub check_as : Dialect → (header : Bool) → (written : ℕ) → List Value → Result ℕ Fault
check_as t header written r = result_and (row_check t header written r) (Ok (length (record_text (into t) header r ++ ending t)))

pub part_check : (t : Dialect) (header : Bool) (written : ℕ) {r s : List Value} → r ≡ s → check_as t header written r ≡ check_as t header written s
part_check t header written e = ap (check_as t header written) e

pub fault_by : (v : CheckResult) (k : ℕ) {e : Fault} → ◌≡◌ {A = Result ℕ Fault} (result_and v (Ok k)) (Err e) → v ≡ Err e
fault_by (Ok _) k x = fault_sound (sym x)
fault_by (Err f) k x = cc

sound_by : (v : CheckResult) (k n : ℕ) → ◌≡◌ {A = Result ℕ Fault} (result_and v (Ok k)) (Ok n) → (v ≡ Ok tt) × (n ≡ k)
sound_by (Ok _) k n x = (refl, cc)
sound_by (Err f) k n x = fault_sound x

-- n records are checked without a fault, and `size` is the length of their text
pub record Measuring (t : Dialect) (vs : List Value) (columns records n at size : ℕ) : Type 0 where
  pub stands_at : Lies vs columns records n at
  pub within : size ≤ MAXFILE
  pub done : List (List Value)
  pub count : length done ≡ n
  pub text : size ≡ length (table_text (into t) done)
  pub all_rows : rows_of records columns vs ≡ done ++ rows_left vs columns records n at
  pub faults : rows_fault (into t) (rows_of records columns vs) ≡ rows_from (into t) done (rows_left vs columns records n at)

pub measuring : {t : Dialect} {vs : List Value} {columns records : ℕ} → length vs ≡ columns * records → Measuring t vs columns records 0 0 0
unfolding rows_fault table_text
measuring {t} {vs} {columns} {records} e =
    record {
      stands_at = stands e;
      within = omega arith;
      done = [];
      count = refl;
      text = refl;
      all_rows = sym (rows_all vs columns records);
      faults = ap (rows_from (into t) []) (sym (rows_all vs columns records));
    }

module _ {t : Dialect} {vs : List Value} {columns records n at size : ℕ} (m : Measuring t vs columns records n at size) where
  module _ (h : n < records) where
    -- the check of the next record, and of those after it
    next_fault :
        rows_fault (into t) (rows_of records columns vs)
        ≡ or_next (suc n) (row_check t (eqb n 0) size (row_at vs columns at))
        (rows_from (into t) (m.done ++ (row_at vs columns at ∷ [])) (rows_left vs columns records (n + 1) (at + columns)))
    unfolding rows_from
    next_fault =
        let r : List Value = row_at vs columns at in
        let rs : List (List Value) = rows_left vs columns records (n + 1) (at + columns) in
        let next : Option Report = rows_from (into t) (m.done ++ (r ∷ [])) rs in
        m.faults
        ∙ ap (rows_from (into t) m.done) (rows_next vs columns records n at h)
        ∙ ap (λ (v : CheckResult). or_next (suc (length m.done)) v next) (row_check_lem t m.done r)
        ∙ ap (λ (k : ℕ). or_next (suc k) (row_check t (is_empty m.done) (length (table_text (into t) m.done)) r) next) m.count
        ∙ ap (λ (b : Bool). or_next (suc n) (row_check t b (length (table_text (into t) m.done)) r) next) (empty_count m.done n m.count)
        ∙ ap (λ (k : ℕ). or_next (suc n) (row_check t (eqb n 0) k r) next) (sym m.text)

    pub measured_fault : (e : Fault) → row_check t (eqb n 0) size (row_at vs columns at) ≡ Err e
        → measured_as (into t) (rows_of records columns vs) ≡ Err (report (number_of e) (n + 1) (column_of e) 0)
    measured_fault e v =
        let f : rows_fault (into t) (rows_of records columns vs) ≡ Some (report (number_of e) (suc n) (column_of e) 0) = next_fault ∙ rw v in
        ap (sum_by (into t) (rows_of records columns vs)) f ∙ ap (λ (k : ℕ). as_refused (report (number_of e) k (column_of e) 0)) (sym (add-one n))

    row_fits :
        row_check t (eqb n 0) size (row_at vs columns at) ≡ Ok tt →
        size + length (record_text (into t) (eqb n 0) (row_at vs columns at) ++ ending t) ≤ MAXFILE
    row_fits v =
        let r : List Value = row_at vs columns at in
        (target_sound (into t) (eqb n 0) size r (else_sound (header_if t (eqb n 0) r) (target_fault (into t) (eqb n 0) size r) v).1).fits

    pub measured_next : (k : ℕ) → row_check t (eqb n 0) size (row_at vs columns at) ≡ Ok tt
        → k ≡ length (record_text (into t) (eqb n 0) (row_at vs columns at) ++ ending t)
        → Measuring t vs columns records (n + 1) (at + columns) (size + k)
    measured_next k v l =
        let r : List Value = row_at vs columns at in
        let rs : List (List Value) = rows_left vs columns records (n + 1) (at + columns) in
        let first : is_empty m.done ≡ eqb n 0 = empty_count m.done n m.count in
        record {
          stands_at = stands_next m.stands_at h;
          within = omega (arith, l, row_fits v);
          done = m.done ++ (r ∷ []);
          count = length-append m.done (r ∷ []) ∙ ap (λ (j : ℕ). j + 1) m.count;
          text = sym (row_length (into t) m.done r ∙ rw (first, ← l, ← m.text));
          all_rows =
              m.all_rows ∙ ap (λ (l : List (List Value)). m.done ++ l) (rows_next vs columns records n at h)
              ∙ sym (append_assoc m.done (r ∷ []) rs);
          faults = next_fault ∙ rw v;
        }

  -- a record that passes its checks
  pub passed : (h : n < records) (k : ℕ) → check_as t (eqb n 0) size (row_at vs columns at) ≡ Ok k → Measuring t vs columns records (n + 1) (at + columns) (size + k)
  passed h k e =
      let s = sound_by (row_check t (eqb n 0) size (row_at vs columns at)) _ k e in
      measured_next h k s.0 s.1

  pub measured_all : records ≤ n → measured_as (into t) (rows_of records columns vs) ≡ Ok size
  unfolding rows_from
  measured_all h =
      let e : rows_left vs columns records n at ≡ [] = rows_end vs columns records n at h in
      let f : rows_fault (into t) (rows_of records columns vs) ≡ None = m.faults ∙ ap (rows_from (into t) m.done) e in
      let g : rows_of records columns vs ≡ m.done = m.all_rows ∙ ap (λ (l : List (List Value)). m.done ++ l) e ∙ append-nil m.done in
      ap (sum_by (into t) (rows_of records columns vs)) f ∙ ap (λ (l : List (List Value)). as_measured (length (table_text (into t) l))) g
      ∙ ap as_measured (sym m.text)

-- ---- writing

-- the text of the records that are left, the header's among them or not
abbrev rest_text : Target → (header : Bool) → List (List Value) → Bytes
rest_text t true rs = table_text t rs
rest_text t false rs = data_text t rs

rest_next :
    (t : Target) (header : Bool) (r : List Value) (rs : List (List Value)) →
    rest_text t header (r ∷ rs) ≡ (record_text t header r ++ ending t.dialect) ++ data_text t rs
unfolding table_text data_text
rest_next t true r rs = refl
rest_next t false r rs = refl

rest_end : (t : Target) (header : Bool) → rest_text t header [] ≡ []
unfolding table_text data_text
rest_end t true = refl
rest_end t false = refl

pub part_text : (t : Dialect) (header : Bool) {r s : List Value} → r ≡ s → record_text (into t) header r ++ ending t ≡ record_text (into t) header s ++ ending t
part_text t header e = ap (λ (r : List Value). record_text (into t) header r ++ ending t) e

after_first : (n : ℕ) → eqb (n + 1) 0 ≡ false
after_first n = ne_eqb (n + 1) 0 λ z. omega (arith, z)

-- n records are written over old, and their text ends at o
pub record WritingRows (t : Dialect) (vs : List Value) (columns records : ℕ) (old room : Bytes) (n at o : ℕ) : Type 0 where
  pub stands_at : Lies vs columns records n at
  pub going : Emitting true old 0 (table_text (into t) (rows_of records columns vs)) room o (rest_text (into t) (eqb n 0) (rows_left vs columns records n at))

pub writing_rows :
    {t : Dialect} {vs : List Value} {columns records : ℕ} {old : Bytes} → length vs ≡ columns * records →
    length (table_text (into t) (rows_of records columns vs)) ≤ length old → WritingRows t vs columns records old old 0 0 0
writing_rows {t} {vs} {columns} {records} {old} e l =
    let start : Emitting true old 0 (table_text (into t) (rows_of records columns vs)) old 0 (table_text (into t) (rows_of records columns vs)) =
    emitting true (record { measured = λ x. omega arith; inside = λ x. omega arith }) in
    record { stands_at = stands e; going = rw (rows_all vs columns records) start }

module _ {t : Dialect} {vs : List Value} {columns records : ℕ} {old room : Bytes} {n at o : ℕ} (w : WritingRows t vs columns records old room n at o) where
  module _ (h : n < records) where
    -- the text of the next record, and what follows it
    abbrev row_text : Bytes
    row_text = record_text (into t) (eqb n 0) (row_at vs columns at) ++ ending t

    abbrev later : Bytes
    later = rest_text (into t) (eqb (n + 1) 0) (rows_left vs columns records (n + 1) (at + columns))

    next_text : rest_text (into t) (eqb n 0) (rows_left vs columns records n at) ≡ row_text ++ later
    next_text =
        ap (rest_text (into t) (eqb n 0)) (rows_next vs columns records n at h)
        ∙ rest_next (into t) (eqb n 0) (row_at vs columns at) (rows_left vs columns records (n + 1) (at + columns))
        ∙ rw (after_first n)

    going_next : Emitting true old 0 (table_text (into t) (rows_of records columns vs)) room o (row_text ++ later)
    going_next = rw next_text at w.going

    pub row_room : Room true o (record_text (into t) (eqb n 0) (row_at vs columns at) ++ ending t) room
    row_room = room_next row_text later going_next

    pub row_written :
        {new : Bytes} {r : ℕ} → WrittenAt true room o (record_text (into t) (eqb n 0) (row_at vs columns at) ++ ending t) new r →
        WritingRows t vs columns records old new (n + 1) (at + columns) r
    row_written p = record { stands_at = stands_next w.stands_at h; going = put_next row_text going_next p }

  pub rows_written : records ≤ n → room ≡ over (table_text (into t) (rows_of records columns vs)) old
  unfolding choose◌then◌else◌
  rows_written h =
      let e : rest_text (into t) (eqb n 0) (rows_left vs columns records n at) ≡ []
      = ap (rest_text (into t) (eqb n 0)) (rows_end vs columns records n at h) ∙ rest_end (into t) (eqb n 0) in
      (put_whole (rw e at w.going)).text ∙ written_first old (table_text (into t) (rows_of records columns vs))

-- ---- one record

module _ (t : Dialect) (header : Bool) (written : ℕ) (r : List Value) where
  pub header_faulty : (e : Fault) → header_if t header r ≡ Err e → Err e ≡ row_check t header written r
  unfolding ◌or_else◌
  header_faulty e h = rw h

  pub header_sound : header_if t header r ≡ Ok tt → target_fault (into t) header written r ≡ row_check t header written r
  unfolding ◌or_else◌
  header_sound h = rw h

-- ---- the lists of one record

module _ {bs : Bytes} {ss es ks : List ℕ} {columns records n at : ℕ} (c : Cells Contents bs ss es ks) (s : Lies (cells_in Contents bs ss es ks) columns records n at) (h : n < records) where
  pub in_starts : at + columns ≤ length ss
  in_starts = omega (arith, row_inside s h, cells_length Contents bs ss es ks c.with_ends c.with_kinds)

  pub in_ends : at + columns ≤ length es
  in_ends = omega (arith, in_starts, c.with_ends)

  pub in_kinds : at + columns ≤ length ks
  in_kinds = omega (arith, in_starts, c.with_kinds)
