-- The text of a converted file is read back, in the target, as the records that were read; and converting canonical text to its own
-- dialect gives the same text. Each record that passed the checks of the target adds a row to a table that is read back.
use Prim.Native.Nat.{ℕ, suc, ◌+◌}
use native.Mathlib.Omega.{arith}
use mathlib.Core.Path.{◌≡◌, refl, sym, ap, ◌∙◌}
use mathlib.Core.Bool.{Bool, true, false, not}
use Rattle.std.specs.Prelude.{Option, None, Some}
use mathlib.Core.List.{List, [], ◌∷◌, ◌++◌}
use lib.Dec.{ltb, eqb}
use lib.ListN.{length, length-append}
use borrow.Author.Tests.{eqb-true}
use Rattle.model.specs.rules.Types.{Dialect, Fault, TooManyColumns, CellCount, RepeatedName, Clash, Top, Ok, Err}
use Rattle.model.specs.rules.Base.{Bytes, concat, choose◌then◌else◌}
use Rattle.model.specs.rules.Dialect.{dialect_of, into}
use Rattle.model.specs.rules.Text.{Value, record_text, data_text, table_text, ending}
use Rattle.model.specs.rules.Report.{refusal, MAXCOLUMNS}
use Rattle.model.specs.rules.Records.{Rec, Read, rows, ◌or_else◌, when, among, name_key, repeat_from, repeat_fault, header_kind_from, header_fault}
use Rattle.model.specs.rules.Records.{data_fault, target_fault, record_fault, Progress, going, stopped, read_file, records_of}
use Rattle.model.specs.rules.Api.{answered, read_answer, reader, Written, unwritten, fitted, converted_as, converter}
use Rattle.model.specs.laws.Laws.{All, all_none, all_cons, SoundRecord}
use Rattle.model.specs.laws.RoundTrips.{has_cells, SameAnswer, SameRows, and_row, ConvertedBack, ConvertedOnce, SameText}
use Rattle.model.proofs.round_trip.Meanings.{same_length, table_same, cells_meaning, concat_same}
use Rattle.model.proofs.Tests.{split_on}
use Rattle.model.proofs.cell_laws.CellRuns.{all_snoc}
use Rattle.model.proofs.Spans.{cells_sound_file}
use Rattle.model.proofs.round_trip.RecordRead.{RowBack, row_empty, row_cells}
use Rattle.model.proofs.file_laws.CheckResults.{else_sound, when_sound, both_sound, target_sound}
use Rattle.model.proofs.round_trip.TableRead.{own_none, own_some, DataBack, TableBack, table_back, Read-as, table_read}
use Rattle.model.proofs.round_trip.TableText.{rows_append, row_length}
use Rattle.model.proofs.round_trip.WriterBack.{ValueCell, not_false, carried_all, header_back, data_row, has_cells_lem, has_even, writer_back}
use Rattle.model.proofs.round_trip.ReadValid.{values_valid}
use Rattle.model.proofs.TargetLaws.{file_alone}
use Rattle.model.proofs.file_laws.RecordInduction.{file_keeps, file_header}
use Rattle.model.proofs.round_trip.RoundTrip.{accepts, no_refusal, fault_number, Fitted, fitted_accepts, fitted_fits, writer_wrote, reader_known}

-- ---- a record that the target can represent

-- the same names repeat, whatever the fault is called
repeat_alike :
    (t : Dialect) (f g : ℕ → Fault) (seen : List Bytes) (n : ℕ) (vs : List Value) → repeat_from t f seen n vs ≡ Ok tt →
    repeat_from t g seen n vs ≡ Ok tt
unfolding repeat_from choose◌then◌else◌
repeat_alike t f g seen n [] e = refl
repeat_alike t f g seen n (v ∷ vs) e = go (among (name_key t v.content) seen) refl (repeat_alike t f g (name_key t v.content ∷ seen) (suc n) vs)
  where
    go :
        (b : Bool) → among (name_key t v.content) seen ≡ b →
        (repeat_from t f (name_key t v.content ∷ seen) (suc n) vs ≡ Ok tt →
        repeat_from t g (name_key t v.content ∷ seen) (suc n) vs ≡ Ok tt) → repeat_from t g seen n (v ∷ vs) ≡ Ok tt
    go true p ih = let z : Err (f n) ≡ Ok tt = rw p at e in (let y : ◌≡◌ {A = ℕ} 0 1 = cc in absurd (omega arith))
    go false p ih = rw p (ih (rw p at e))

header_target : (d t : Dialect) (vs : List Value) → header_fault d vs ≡ Ok tt → repeat_fault t Clash vs ≡ Ok tt → header_fault t vs ≡ Ok tt
unfolding header_fault repeat_fault
header_target d t vs e k =
    let a = else_sound (when (ltb MAXCOLUMNS (length vs)) TooManyColumns) _ e in
    let b = else_sound (header_kind_from 1 vs) _ a.1 in
    both_sound a.0 (both_sound b.0 (repeat_alike t Clash RepeatedName [] 1 vs k))

header_backed : (d t : Dialect) (vs : List Value) → All ValueCell vs → (header_fault d vs or_else target_fault (into t) true 0 vs) ≡ Ok tt → TableBack t (vs ∷ [])
unfolding table_text data_text
header_backed d t vs v e =
    let x = else_sound (header_fault d vs) (target_fault (into t) true 0 vs) e in
    let g = target_sound (into t) true 0 vs x.1 in
    let len : length ((record_text (into t) true vs ++ ending t) ++ []) ≡ length (record_text (into t) true vs ++ ending t) + 0
    = length-append (record_text (into t) true vs ++ ending t) [] in
    let len' : length (table_text (into t) (vs ∷ [])) ≡ length ((record_text (into t) true vs ++ ending t) ++ []) = refl in
    table_back (header_back t d vs (has_cells_lem t vs g.filled) (carried_all t 1 v g.carries) x.0)
    (header_target d t vs x.0 g.clash) x.1 g.short all_none (let h = g.fits in omega arith)

header_cells : {t : Dialect} {h : List Value} → RowBack t Top true h → has_cells t h ≡ true
header_cells (row_empty e k) = refl
header_cells (row_cells l n b bs) = refl

even_length : (n : ℕ) (vs : List Value) → data_fault n vs ≡ Ok tt → length vs ≡ n
unfolding data_fault
even_length n vs e =
    let a = else_sound (when (ltb MAXCOLUMNS (length vs)) TooManyColumns) _ e in
    eqb-true (length vs) n (not_false (eqb (length vs) n) (when_sound (not (eqb (length vs) n)) CellCount a.1))

data_backed :
    (t : Dialect) (h : List Value) (rs : List (List Value)) (vs : List Value) → TableBack t (h ∷ rs) → All ValueCell vs →
    (data_fault (length h) vs or_else target_fault (into t) false (length (table_text (into t) (h ∷ rs))) vs) ≡ Ok tt →
    TableBack t (h ∷ (rs ++ (vs ∷ [])))
data_backed t h rs vs (table_back b f g k bs m) v e =
    let x = else_sound (data_fault (length h) vs) (target_fault (into t) false (length (table_text (into t) (h ∷ rs))) vs) e in
    let z = target_sound (into t) false (length (table_text (into t) (h ∷ rs))) vs x.1 in
    let n : length vs ≡ length h = even_length (length h) vs x.0 in
    let row : DataBack t (length h) vs
    = record {
      back = data_row t vs (has_even t h vs n (header_cells b)) (carried_all t 1 v z.carries);
      even = n;
      short = z.short;
      carried = z.carries;
    } in
    let s : length (table_text (into t) (h ∷ (rs ++ (vs ∷ []))))
    ≡ length (table_text (into t) (h ∷ rs)) + length (record_text (into t) false vs ++ ending t)
    = row_length (into t) (h ∷ rs) vs in
    table_back b f g k (all_snoc bs row) (let h = z.fits in omega arith)

-- ---- all the records that were read for the target

-- no record yet, or a table that is read back
data Backed (t : Dialect) : List Rec → Type 0 where
  not_yet : Backed t []
  backed : {ds : List Rec} → TableBack t (rows ds) → Backed t ds

all_split : {P : Rec → Type 0} (ds : List Rec) (x : Rec) → All P (ds ++ (x ∷ [])) → All P ds × P x
all_split [] x (all_cons p ps) = (all_none, p)
all_split (y ∷ ds) x (all_cons p ps) = let i = all_split ds x ps in (all_cons p i.0, i.1)

module _ (d t : Dialect) where
  one_more_lem :
      (ds : List Rec) (x : Rec) → All ValueCell x.cells → record_fault d (Some (into t)) ds x.cells ≡ Ok tt → Backed t ds →
      Backed t (ds ++ (x ∷ []))
  unfolding record_fault rows table_text
  one_more_lem [] x v e b = backed (header_backed d t x.cells v e)
  one_more_lem (h ∷ ds) x v e (backed b) =
      let k : rows (ds ++ (x ∷ [])) ≡ rows ds ++ (x.cells ∷ []) = rows_append ds (x ∷ []) in
      let z : TableBack t (rows ((h ∷ ds) ++ (x ∷ []))) = rw k (data_backed t h.cells (rows ds) x.cells b v e) in
      backed z

  abbrev Backs : List Rec → Type 0
  Backs ds = All (SoundRecord d) ds → Backed t ds

  keep : (ds : List Rec) (x : Rec) → Backs ds → record_fault d (Some (into t)) ds x.cells ≡ Ok tt → Backs (ds ++ (x ∷ []))
  keep ds x b e s = let y = all_split ds x s in one_more_lem ds x (values_valid y.1) e (b y.0)

  file_backed : (xs : Bytes) → Backed t (records_of (read_file d (Some (into t)) xs))
  file_backed xs = file_keeps d (Some (into t)) Backs keep (λ s. not_yet) xs (cells_sound_file d (Some (into t)) xs)

  open_backed : (ds : List Rec) (h : Rec) (rs : List Rec) → Backed t ds → ds ≡ h ∷ rs → TableBack t (rows ds)
  open_backed ds h rs not_yet e = let z : ◌≡◌ {A = ℕ} 0 1 = cc in absurd (omega arith)
  open_backed ds h rs (backed b) e = b

  -- the records of an accepted file make a table that the target reads back
  pub file_back : (xs : Bytes) (r : Read) → read_file d (Some (into t)) xs ≡ going r → TableBack t (rows r.done)
  file_back xs r e =
      let h = file_header d (Some (into t)) xs r e in
      let b : Backed t r.done = rw e at (file_backed xs) in
      open_backed r.done h.header h.rest b h.done

-- ---- the converter

pub record Converts (m n : ℕ) (file : Bytes) (room : ℕ) (text : Bytes) : Type 0 where
  pub source : Dialect
  pub target : Dialect
  pub known : dialect_of m ≡ Some source
  pub known_target : dialect_of n ≡ Some target
  pub end : Read
  pub run : read_file source (Some (into target)) file ≡ going end
  pub spelt : Fitted room (table_text (into target) (rows end.done)) text

pub converter_converts : (m n : ℕ) (file : Bytes) (room : ℕ) (text : Bytes) → converter m n file room ≡ accepts text → Converts m n file room text
unfolding converter
converter_converts m n file room text e = by_source (dialect_of m) refl e
  where
    by_end :
        (d t : Dialect) → dialect_of m ≡ Some d → dialect_of n ≡ Some t → (p : Progress) → read_file d (Some (into t)) file ≡ p →
        converted_as (into t) room p ≡ accepts text → Converts m n file room text
    by_end d t p q (stopped w r) k h = no_refusal h (λ z. fault_number w z)
    by_end d t p q (going r) k h =
        record {
          source = d;
          target = t;
          known = p;
          known_target = q;
          end = r;
          run = k;
          spelt = fitted_accepts room (table_text (into t) (rows r.done)) text h;
        }

    by_target :
        (d : Dialect) → dialect_of m ≡ Some d → (o : Option Dialect) → dialect_of n ≡ o →
        (elim o as (λ _. Written)
        [ None ↦ unwritten (refusal 11) | Some t ↦ converted_as (into t) room (read_file d (Some (into t)) file) ]) ≡ accepts text →
        Converts m n file room text
    by_target d p None q k = no_refusal k (λ h. absurd (omega arith))
    by_target d p (Some t) q k = by_end d t p q (read_file d (Some (into t)) file) refl k

    by_source :
        (o : Option Dialect) → dialect_of m ≡ o → (elim o as (λ _. Written) [
          | None ↦ unwritten (refusal 11)
          | Some d ↦
              elim (dialect_of n) as (λ _. Written)
              [ None ↦ unwritten (refusal 11) | Some t ↦ converted_as (into t) room (read_file d (Some (into t)) file) ]
        ]) ≡ accepts text → Converts m n file room text
    by_source None p k = no_refusal k (λ h. absurd (omega arith))
    by_source (Some d) p k = by_target d p (dialect_of n) refl k

pub converter_known :
    (m n : ℕ) (d t : Dialect) (file : Bytes) (room : ℕ) → dialect_of m ≡ Some d → dialect_of n ≡ Some t →
    converter m n file room ≡ converted_as (into t) room (read_file d (Some (into t)) file)
unfolding converter
converter_known m n d t file room e k = rw (e, converter) (rw k)

-- canonical text, converted to its own dialect
own_text :
    (n : ℕ) (d : Dialect) (rs : List (List Value)) (room : ℕ) (text : Bytes) → dialect_of n ≡ Some d → TableBack d rs →
    Fitted room (table_text (into d) rs) text → converter n n text room ≡ accepts text
own_text n d rs room text e b f =
    let r : Read-as d (Some (into d)) (table_text (into d) rs) rs = table_read d (Some (into d)) rs own_some b in
    let run : read_file d (Some (into d)) text ≡ going r.end = ap (read_file d (Some (into d))) (sym f.same) ∙ r.run in
    let same : table_text (into d) (rows r.end.done) ≡ table_text (into d) rs = table_same (into d) r.same in
    converter_known n n d d text room e e ∙ ap (converted_as (into d) room) run ∙ ap (fitted room) same ∙ fitted_fits room (table_text (into d) rs) text f

pub same_text : SameText
same_text n table room text e =
    let w = writer_wrote n table room text e in
    own_text n w.dialect w.cells room text w.known (writer_back w.dialect w.cells w.can_write) w.spelt

pub converted_once : ConvertedOnce
converted_once m n file text room e =
    let c = converter_converts m n file room text e in
    own_text n c.target (rows c.end.done) room text c.known_target (file_back c.source c.target file c.end c.run) c.spelt

-- ---- the two readings

rows_count : (ds es : List Rec) → SameRows (rows ds) (rows es) → length ds ≡ length es
unfolding rows
rows_count [] [] s = refl
rows_count (x ∷ ds) (y ∷ es) (and_row c s) = ap suc (rows_count ds es s)
rows_count [] (y ∷ es) s = elim s [ ]
rows_count (x ∷ ds) [] s = elim s [ ]

answered_alike :
    (ds es : List Rec) (room : ℕ) → SameRows (rows ds) (rows es) →
    SameAnswer (answered ds (concat (rows ds)) room) (answered es (concat (rows es)) room)
unfolding rows choose◌then◌else◌
answered_alike [] [] room s = record { report = refl; columns = refl; records = refl; cells = refl }
answered_alike (x ∷ ds) (y ∷ es) room (and_row c s) =
    let all : SameRows (x.cells ∷ rows ds) (y.cells ∷ rows es) = and_row c s in
    let k : length (concat (x.cells ∷ rows ds)) ≡ length (concat (y.cells ∷ rows es)) = same_length (concat_same all) in
    split_on (ltb room (length (concat (y.cells ∷ rows es))))
    (λ p. rw (k, p) (record { report = refl; columns = refl; records = refl; cells = refl })) λ p.
    rw (k, p) (record { report = refl; columns = same_length c; records = rows_count ds es s; cells = cells_meaning (concat_same all) })
answered_alike [] (y ∷ es) room s = elim s [ ]
answered_alike (x ∷ ds) [] room s = elim s [ ]

reads_alike :
    (m n : ℕ) (d t : Dialect) (file text : Bytes) (end : Read) (places : ℕ) → dialect_of m ≡ Some d → dialect_of n ≡ Some t →
    read_file d (Some (into t)) file ≡ going end → table_text (into t) (rows end.done) ≡ text →
    SameAnswer (reader n text places) (reader m file places)
reads_alike m n d t file text end places k l e f =
    let r : Read-as t None (table_text (into t) (rows end.done)) (rows end.done)
    = table_read t None (rows end.done) own_none (file_back d t file end e) in
    let run : read_file t None text ≡ going r.end = ap (read_file t None) (sym f) ∙ r.run in
    let here : reader n text places ≡ read_answer (going r.end) places = reader_known n t text places l ∙ ap (λ (p : Progress). read_answer p places) run in
    let there : reader m file places ≡ read_answer (going end) places
    = reader_known m d file places k ∙ ap (λ (p : Progress). read_answer p places) (file_alone d (into t) file end e) in
    rw (here, there) (answered_alike r.end.done end.done places r.same)

pub converted_back : ConvertedBack
converted_back m n file text room places e =
    let c = converter_converts m n file room text e in
    reads_alike m n c.source c.target file text c.end places c.known c.known_target c.run c.spelt.same
