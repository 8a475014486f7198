-- Demand 2: a table that its dialect can represent within the limits is written, and read back. Each part of `CarriedTable` says that
-- one of the writer's checks finds no fault: so no check finds one (`no_fault`), and where none does every part holds (`carried_of`).
-- Reading back is then the round trip of model. Assumes nothing.
use Prim.Native.Nat.{ℕ, suc, ◌+◌, ◌≤◌}
use native.Mathlib.Omega.{arith}
use mathlib.Core.Path.{◌≡◌, refl, ap}
use mathlib.Core.Logic.{◌≢◌, ◌↔◌}
use mathlib.Core.Bool.{Bool, true, false, not, ◌&&◌}
use Rattle.std.specs.Prelude.{None, Some, Ok}
use mathlib.Core.List.{List, [], ◌∷◌, ◌++◌}
use lib.Dec.{ltb}
use lib.ListN.{length, length-append}
use borrow.Author.Tests.{le-ltb, ltb-false, not-true, not-false}
use Rattle.model.specs.declared.Report.{Report}
use Rattle.model.specs.declared.Dialect.{Dialect}
use Rattle.model.specs.declared.Kind.TheVariants.{Text}
use Rattle.model.specs.declared.Fault.{Fault}
use Rattle.model.specs.declared.Fault.TheVariants.{RepeatedName, HeaderKind, TooManyColumns, NoCells, LacksKind, LoneSurrogate, Clash, TextTooLong}
use Rattle.model.specs.declared.Fault.TheVariants.{OutputTooLong}
use Rattle.model.specs.rules.Base.{Bytes, is_empty, concat, choose◌then◌else◌}
use Rattle.model.specs.rules.Dialect.{dialect_of, into, is_csvj}
use Rattle.model.specs.rules.Text.{Value, is_text, record_text, data_text, table_text, ending}
use Rattle.model.specs.rules.Report.{accepted, MAXFILE, MAXRECORD, MAXCOLUMNS}
use Rattle.model.specs.rules.Records.{name_key, among, repeat_from, repeat_fault, header_kind_from, header_fault, ◌or_else◌, when, has_kind, loses_surrogate}
use Rattle.model.specs.rules.Records.{uncarried_from, clash_fault, target_fault, target_next}
use Rattle.model.specs.rules.Api.{Written, reader, Table, rows_in, row_fault, rows_from, rows_fault, writer}
use Rattle.model.specs.laws.Laws.{All, all_none, all_cons}
use Rattle.model.specs.laws.RoundTrips.{Writable, writable, ReadsBack}
use Rattle.model.proofs.file_laws.CheckResults.{fault_sound, else_sound, when_sound, both_sound, not_when, target_sound}
use Rattle.model.proofs.round_trip.TableText.{row_length}
use Rattle.model.proofs.round_trip.RoundTrip.{accepts, fitted_fits, Wrote, writer_wrote}
use Rattle.model.proofs.round_trip.WriterBack.{next_none}
use Rattle.model.proofs.round_trip.AllTrips.{trips}
use Rattle.grammar.proofs.RecordChecks.{not_text, among_cons, cons_among}
use Rattle.theorems.specs.Demands.{DistinctNames, no_names, a_name, CarriedTable}

module _ (t : Dialect) where
  -- ---- the parts of `CarriedTable`, by their names

  abbrev TextCell : Value → Type 0
  TextCell v = v.kind ≡ Text

  abbrev HasKind : Value → Type 0
  HasKind v = has_kind t v.kind ≡ true

  abbrev Lossless : Value → Type 0
  Lossless v = loses_surrogate t v ≡ false

  abbrev Short : List Value → Type 0
  Short r = length (record_text (into t) false r) ≤ MAXRECORD

  -- ---- the bytes of rows

  abbrev line_of : (header : Bool) → List Value → Bytes
  line_of header r = record_text (into t) header r ++ ending t

  abbrev table_size : List (List Value) → ℕ
  table_size rs = length (table_text (into t) rs)

  abbrev data_size : List (List Value) → ℕ
  data_size rs = length (data_text (into t) rs)

  no_size : table_size [] ≡ 0
  unfolding table_text
  no_size = refl

  data_size_lem : (r : List Value) (rs : List (List Value)) → data_size (r ∷ rs) ≡ length (line_of false r) + data_size rs
  unfolding data_text
  data_size_lem r rs = length-append (line_of false r) (data_text (into t) rs)

  header_size : (h : List Value) → table_size (h ∷ []) ≡ 0 + length (line_of true h)
  unfolding table_text
  header_size h = row_length (into t) [] h

  table_size_lem : (h : List Value) (rs : List (List Value)) → table_size (h ∷ rs) ≡ table_size (h ∷ []) + data_size rs
  unfolding table_text
  table_size_lem h rs =
      let all : length (line_of true h ++ data_text (into t) rs) ≡ length (line_of true h) + data_size rs = length-append (line_of true h) (data_text (into t) rs) in
      let first : table_size (h ∷ []) ≡ 0 + length (line_of true h) = header_size h in
      omega arith

  row_size : (h : List Value) (done : List (List Value)) (r : List Value) → table_size (h ∷ (done ++ (r ∷ []))) ≡ table_size (h ∷ done) + length (line_of false r)
  row_size h done r = row_length (into t) (h ∷ done) r

  -- ---- a table that the dialect can represent has no fault: names

  abbrev key_of : Value → Bytes
  key_of v = name_key t v.content

  abbrev Unseen : List Bytes → List Value → Type 0
  Unseen seen vs = All (λ (v : Value). among (key_of v) seen ≡ false) vs

  unseen_none : (vs : List Value) → Unseen [] vs
  unfolding among
  unseen_none [] = all_none
  unseen_none (v ∷ vs) = all_cons refl (unseen_none vs)

  cons_unseen : (y : Bytes) (seen : List Bytes) {vs : List Value} → All (λ (w : Value). key_of w ≢ y) vs → Unseen seen vs → Unseen (y ∷ seen) vs
  cons_unseen y seen all_none all_none = all_none
  cons_unseen y seen (all_cons {x} n k) (all_cons p m) = all_cons (cons_among (key_of x) y seen n p) (cons_unseen y seen k m)

  names_sound :
      (fault : ℕ → Fault) (seen : List Bytes) (n : ℕ) {vs : List Value} → Unseen seen vs → DistinctNames t vs → repeat_from t fault seen n vs ≡ Ok tt
  unfolding repeat_from choose◌then◌else◌
  names_sound fault seen n all_none no_names = refl
  names_sound fault seen n (all_cons {x} {xs} p ps) (a_name w m) =
      let unseen : Unseen (key_of x ∷ seen) xs = cons_unseen (key_of x) seen w ps in
      rw p (names_sound fault (key_of x ∷ seen) (suc n) unseen m)

  -- ---- a header and a record

  texts_sound : (n : ℕ) {vs : List Value} → All TextCell vs → header_kind_from n vs ≡ Ok tt
  unfolding header_kind_from
  texts_sound n all_none = refl
  texts_sound n (all_cons {x} k ks) =
      let q : not (is_text x.kind) ≡ false = rw k in
      both_sound (not_when (HeaderKind n) q) (texts_sound (suc n) ks)

  pub header_sound : (h : List Value) → length h ≤ MAXCOLUMNS → All TextCell h → DistinctNames t h → header_fault t h ≡ Ok tt
  unfolding header_fault repeat_fault
  header_sound h few texts names =
      let columns : when (ltb MAXCOLUMNS (length h)) TooManyColumns ≡ Ok tt = not_when TooManyColumns (le-ltb MAXCOLUMNS (length h) few) in
      both_sound columns (both_sound (texts_sound 1 texts) (names_sound RepeatedName [] 1 (unseen_none h) names))

  kinds_sound : (n : ℕ) {vs : List Value} → All HasKind vs → All Lossless vs → uncarried_from t n vs ≡ Ok tt
  unfolding uncarried_from
  kinds_sound n all_none all_none = refl
  kinds_sound n (all_cons {x} k ks) (all_cons l ls) =
      let q : not (has_kind t x.kind) ≡ false = rw k in
      both_sound (not_when (LacksKind n) q) (both_sound (not_when (LoneSurrogate n) l) (kinds_sound (suc n) ks ls))

  record_sound :
      (header : Bool) (written : ℕ) (vs : List Value) → (header && is_empty vs && not (is_csvj t)) ≡ false → uncarried_from t 1 vs ≡ Ok tt →
      clash_fault t header vs ≡ Ok tt → length (record_text (into t) header vs) ≤ MAXRECORD → written + length (line_of header vs) ≤ MAXFILE →
      target_fault (into t) header written vs ≡ Ok tt
  unfolding target_fault
  record_sound header written vs filled carries clash short fits =
      let size : ltb MAXRECORD (length (record_text (into t) header vs)) ≡ false = le-ltb MAXRECORD (length (record_text (into t) header vs)) short in
      let room : ltb MAXFILE (written + length (line_of header vs)) ≡ false = le-ltb MAXFILE (written + length (line_of header vs)) fits in
      both_sound (not_when NoCells filled) (both_sound carries (both_sound clash (both_sound (not_when TextTooLong size) (not_when OutputTooLong room))))

  -- ---- the rows after the header

  rows_sound :
      (h : List Value) (done rs : List (List Value)) → All (All HasKind) rs → All (All Lossless) rs → All Short rs →
      table_size (h ∷ done) + data_size rs ≤ MAXFILE → rows_from (into t) (h ∷ done) rs ≡ None
  unfolding rows_from
  rows_sound h done [] all_none all_none all_none fits = refl
  rows_sound h done (r ∷ rs) (all_cons a u) (all_cons b v) (all_cons c w) fits =
      let left : data_size (r ∷ rs) ≡ length (line_of false r) + data_size rs = data_size_lem r rs in
      let next : table_size (h ∷ (done ++ (r ∷ []))) ≡ table_size (h ∷ done) + length (line_of false r) = row_size h done r in
      let sound : target_fault (into t) false (table_size (h ∷ done)) r ≡ Ok tt =
      record_sound false (table_size (h ∷ done)) r refl (kinds_sound 1 a b) refl c (omega arith) in
      rw sound (rows_sound h (done ++ (r ∷ [])) rs u v w (omega arith))

  pub no_fault : (h : List Value) (rs : List (List Value)) → CarriedTable t h rs → rows_fault (into t) (h ∷ rs) ≡ None
  unfolding rows_fault rows_from repeat_fault
  no_fault h rs c = go c.kinds c.lossless
    where
      filled : (true && is_empty h && not (is_csvj t)) ≡ false
      filled = not-true (is_empty h && not (is_csvj t)) c.has_cells_lem

      go : All (All HasKind) (h ∷ rs) → All (All Lossless) (h ∷ rs) → rows_fault (into t) (h ∷ rs) ≡ None
      go (all_cons a u) (all_cons b v) =
          let all : table_size (h ∷ rs) ≡ table_size (h ∷ []) + data_size rs = table_size_lem h rs in
          let first : table_size (h ∷ []) ≡ 0 + length (line_of true h) = header_size h in
          let none_yet : table_size [] ≡ 0 = no_size in
          let short : table_size (h ∷ rs) ≤ MAXFILE = c.short_file in
          let header : header_fault t h ≡ Ok tt = header_sound h c.columns c.texts c.names in
          let clash : clash_fault t true h ≡ Ok tt = names_sound Clash [] 1 (unseen_none h) c.names in
          let target : target_next (into t) [] h ≡ Ok tt =
          record_sound true (table_size []) h filled (kinds_sound 1 a b) clash c.short_header (omega arith) in
          let sound : row_fault (into t) [] h ≡ Ok tt = both_sound header target in
          rw sound (rows_sound h [] rs u v c.short_records (omega arith))

  -- ---- a table without a fault is one that the dialect can represent

  texts_of : (n : ℕ) (vs : List Value) → header_kind_from n vs ≡ Ok tt → All TextCell vs
  unfolding header_kind_from
  texts_of n [] e = all_none
  texts_of n (v ∷ vs) e =
      let a = else_sound (when (not (is_text v.kind)) (HeaderKind n)) _ e in
      all_cons (not_text v.kind (when_sound _ _ a.0)) (texts_of (suc n) vs a.1)

  unseen_cons : (y : Bytes) (seen : List Bytes) {vs : List Value} → Unseen (y ∷ seen) vs → All (λ (w : Value). key_of w ≢ y) vs × Unseen seen vs
  unseen_cons y seen all_none = (all_none, all_none)
  unseen_cons y seen (all_cons {x} p k) =
      let q = among_cons (key_of x) y seen p in
      let m = unseen_cons y seen k in
      (all_cons q.0 m.0, all_cons q.1 m.1)

  -- the names are distinct, and none is among those seen
  abbrev Fresh : List Bytes → List Value → Type 0
  Fresh seen vs = Unseen seen vs × DistinctNames t vs

  pub names_of : (fault : ℕ → Fault) (seen : List Bytes) (n : ℕ) (vs : List Value) → repeat_from t fault seen n vs ≡ Ok tt → Fresh seen vs
  unfolding repeat_from choose◌then◌else◌
  names_of fault seen n [] e = (all_none, no_names)
  names_of fault seen n (v ∷ vs) e = go (among (key_of v) seen) refl (λ q. names_of fault (key_of v ∷ seen) (suc n) vs q)
    where
      go :
          (b : Bool) → among (key_of v) seen ≡ b → (repeat_from t fault (key_of v ∷ seen) (suc n) vs ≡ Ok tt → Fresh (key_of v ∷ seen) vs) →
          Fresh seen (v ∷ vs)
      go true q ih = fault_sound (rw q at e)
      go false q ih = let m = ih (rw q at e) in let u = unseen_cons (key_of v) seen m.0 in (all_cons q u.1, a_name u.0 m.1)

  kinds_of : (n : ℕ) (vs : List Value) → uncarried_from t n vs ≡ Ok tt → All HasKind vs × All Lossless vs
  unfolding uncarried_from
  kinds_of n [] e = (all_none, all_none)
  kinds_of n (v ∷ vs) e =
      let a = else_sound (when (not (has_kind t v.kind)) (LacksKind n)) _ e in
      let b = else_sound (when (loses_surrogate t v) (LoneSurrogate n)) _ a.1 in
      let m = kinds_of (suc n) vs b.1 in
      (all_cons (not-false (has_kind t v.kind) (when_sound _ _ a.0)) m.0, all_cons (when_sound _ _ b.0) m.1)

  record RowsOf (h : List Value) (done rs : List (List Value)) : Type 0 where
    kinds : All (All HasKind) rs
    lossless : All (All Lossless) rs
    short : All Short rs
    fits : table_size (h ∷ done) + data_size rs ≤ MAXFILE

  rows_of :
      (h : List Value) (done rs : List (List Value)) → table_size (h ∷ done) ≤ MAXFILE → rows_from (into t) (h ∷ done) rs ≡ None → RowsOf h done rs
  unfolding rows_from
  rows_of h done [] k e = record { kinds = all_none; lossless = all_none; short = all_none; fits = unfold data_text in omega arith }
  rows_of h done (r ∷ rs) k e =
      let a = next_none (suc (length (h ∷ done))) (row_fault (into t) (h ∷ done) r) (rows_from (into t) (h ∷ (done ++ (r ∷ []))) rs) e in
      let b = target_sound (into t) false (table_size (h ∷ done)) r a.0 in
      let c = kinds_of 1 r b.carries in
      let left : data_size (r ∷ rs) ≡ length (line_of false r) + data_size rs = data_size_lem r rs in
      let next : table_size (h ∷ (done ++ (r ∷ []))) ≡ table_size (h ∷ done) + length (line_of false r) = row_size h done r in
      let room : table_size (h ∷ done) + length (line_of false r) ≤ MAXFILE = b.fits in
      let m = rows_of h (done ++ (r ∷ [])) rs (omega arith) a.1 in
      let fits : table_size (h ∷ (done ++ (r ∷ []))) + data_size rs ≤ MAXFILE = m.fits in
      record { kinds = all_cons c.0 m.kinds; lossless = all_cons c.1 m.lossless; short = all_cons b.short m.short; fits = omega arith }

  pub carried_of : (h : List Value) (rs : List (List Value)) → rows_fault (into t) (h ∷ rs) ≡ None → CarriedTable t h rs
  unfolding rows_fault rows_from header_fault repeat_fault
  carried_of h rs e =
      let a = next_none 1 (row_fault (into t) [] h) (rows_from (into t) (h ∷ []) rs) e in
      let b = else_sound (header_fault t h) (target_next (into t) [] h) a.0 in
      let p = else_sound (when (ltb MAXCOLUMNS (length h)) TooManyColumns) (header_kind_from 1 h or_else repeat_from t RepeatedName [] 1 h) b.0 in
      let q = else_sound (header_kind_from 1 h) (repeat_from t RepeatedName [] 1 h) p.1 in
      let c = target_sound (into t) true (table_size []) h b.1 in
      let k = kinds_of 1 h c.carries in
      let all : table_size (h ∷ rs) ≡ table_size (h ∷ []) + data_size rs = table_size_lem h rs in
      let first : table_size (h ∷ []) ≡ 0 + length (line_of true h) = header_size h in
      let room : table_size [] + length (line_of true h) ≤ MAXFILE = c.fits in
      let m = rows_of h [] rs (omega arith) a.1 in
      let fits : table_size (h ∷ []) + data_size rs ≤ MAXFILE = m.fits in
      record {
        columns = ltb-false MAXCOLUMNS (length h) (when_sound _ _ p.0);
        has_cells_lem = ap not c.filled;
        texts = texts_of 1 h q.0;
        names = (names_of RepeatedName [] 1 h q.1).1;
        kinds = all_cons k.0 m.kinds;
        lossless = all_cons k.1 m.lossless;
        short_header = c.short;
        short_records = m.short;
        short_file = omega arith;
      }

-- ---- the writer

pub writes :
    (n : ℕ) (t : Dialect) (table : Table) (h : List Value) (rs : List (List Value)) (room : ℕ) → dialect_of n ≡ Some t → rows_in table ≡ Some (h ∷ rs) →
    CarriedTable t h rs → length (table_text (into t) (h ∷ rs)) ≤ room → writer n table room ≡ accepts (table_text (into t) (h ∷ rs))
unfolding writer
writes n t table h rs room e q c f =
    let z : rows_fault (into t) (h ∷ rs) ≡ None = no_fault t h rs c in
    let text : Bytes = table_text (into t) (h ∷ rs) in
    rw (e, writer, q, z) (fitted_fits room text text (record { same = refl; fits = f }))

-- the dialect can represent the table's rows, and the text has room
abbrev WritesOut : Dialect → Table → (room : ℕ) → Type 0
WritesOut t table room =
    (h : List Value) × (rs : List (List Value)) × (rows_in table ≡ Some (h ∷ rs)) × CarriedTable t h rs × (length (table_text (into t) (h ∷ rs)) ≤ room)

pub written_exactly :
    (n : ℕ) (t : Dialect) (table : Table) (room : ℕ) → dialect_of n ≡ Some t → ((writer n table room).report ≡ accepted) ↔ WritesOut t table room
written_exactly n t table room e = (only, enough)
  where
    by_rows :
        (d : Dialect) (cells : List (List Value)) (bs : Bytes) → dialect_of n ≡ Some d → rows_in table ≡ Some cells → Writable d cells →
        table_text (into d) cells ≡ bs → length bs ≤ room → WritesOut t table room
    by_rows d cells bs k q (writable {h} {rs} v w f) s l =
        let same_dialect : d ≡ t = cc in
        let c : CarriedTable t h rs = carried_of t h rs (rw same_dialect at f) in
        let m : length (table_text (into t) (h ∷ rs)) ≤ room = rw same_dialect at (rw (← s) at l) in
        (h, rs, q, c, m)

    only : (writer n table room).report ≡ accepted → WritesOut t table room
    only r =
        let wrote : writer n table room ≡ accepts (writer n table room).text
        = ap (λ (x : Report). record { report = x; text = (writer n table room).text }) r in
        let w : Wrote n table room (writer n table room).text = writer_wrote n table room (writer n table room).text wrote in
        by_rows w.dialect w.cells (writer n table room).text w.known w.table_rows w.can_write w.spelt.same w.spelt.fits

    enough : WritesOut t table room → (writer n table room).report ≡ accepted
    enough (h, rs, q, c, m) = ap (λ (w : Written). w.report) (writes n t table h rs room e q c m)

pub carried_comes_back :
    (n : ℕ) (t : Dialect) (table : Table) (h : List Value) (rs : List (List Value)) (room places : ℕ) → dialect_of n ≡ Some t → rows_in table ≡ Some (h ∷ rs) →
    CarriedTable t h rs → length (table_text (into t) (h ∷ rs)) ≤ room → length (concat (h ∷ rs)) ≤ places →
    (writer n table room ≡ record { report = accepted; text = table_text (into t) (h ∷ rs) })
    × ReadsBack n table (h ∷ rs) (table_text (into t) (h ∷ rs)) (reader n (table_text (into t) (h ∷ rs)) places)
carried_comes_back n t table h rs room places e q c f g =
    let w = writes n t table h rs room e q c f in (w, trips.round_trip n table (h ∷ rs) room places (table_text (into t) (h ∷ rs)) q w g)
