-- The checks of a complete record, by its source and then by its target, and the cursor's result by them.
use Prim.Native.Nat.{ℕ, suc, ◌+◌, ◌≤◌, ◌<◌}
use native.Mathlib.Omega.{arith}
use mathlib.Core.Path.{◌≡◌, refl, sym, ap, subst, ◌∙◌}
use mathlib.Core.Bool.{Bool}
use Rattle.std.specs.Prelude.{Option, None, Some, Result, Ok, Err}
use Rattle.std.specs.Result.{result_and, result_ok, IfOk}
use Rattle.std.proofs.lemmas.Result.{IfOk-at_ok}
use mathlib.Core.List.{List, [], ◌∷◌, ◌++◌}
use lib.ListN.{length, length-append}
use lib.Dec.{ltb, eqb}
use borrow.Author.Tests.{lt-ltb, ne_eqb, eqb-true, not-false}
use Rattle.model.specs.declared.Dialect.{Dialect}
use Rattle.model.specs.declared.Target.{Target}
use Rattle.model.specs.declared.FileState.{FileState}
use Rattle.model.specs.declared.Fault.{Fault}
use Rattle.model.specs.declared.Fault.TheVariants.{NoRecord, TooManyColumns}
use Rattle.model.specs.declared.Report.{Report}
use Rattle.model.specs.rules.Types.{CheckResult}
use Rattle.model.specs.rules.Base.{Bytes, is_empty, choose◌then◌else◌}
use Rattle.model.specs.rules.Dialect.{into}
use Rattle.model.specs.rules.Text.{Value, record_text, table_text, ending}
use Rattle.model.specs.rules.Report.{report, number_of, column_of, MAXFILE, MAXCOLUMNS}
use Rattle.model.specs.rules.Records.{Rec, rows, record_fault, header_fault, data_fault, target_fault, ◌or_else◌, when}
use Rattle.model.proofs.file_laws.CheckResults.{fault_sound, else_sound, when_sound, target_sound}
use Rattle.model.proofs.round_trip.TableText.{rows_empty, table_snoc}
use Rattle.model.proofs.TargetLaws.{record_target}
use Rattle.file_cursor.proofs.Complete.{header_fault_lem, data_fault_lem}
use Rattle.record_check.specs.SourceFault.{source_fault}
use Rattle.file_cursor.specs.declared.Cursor.{Cursor}
use Rattle.file_cursor.specs.NextRecord.{target_of, text_of, text_next, cursor_of, Columns, After, CheckSound, RecordChecked, sound, faulty}
use Rattle.file_cursor.specs.NextRecord.{FileEnded, no_record, at_end}
use Rattle.record_fast.specs.CellLists.{Shows}

-- the value of a result
pub from_ok : (r : Result ℕ Fault) {n : ℕ} → result_ok r ≡ Some n → r ≡ Ok n
from_ok (Ok m) {n} h = let z : m ≡ n = cc in rw z refl
from_ok (Err e) h = let z : ◌≡◌ {A = ℕ} 0 1 = cc in absurd (omega arith)

-- ---- the source's checks

pub source_checked :
    (d : Dialect) (vs : List Value) (done columns : ℕ) (rs : List Rec) → length rs ≡ done → Columns rs columns →
    source_fault d (eqb done 0) columns vs ≡ record_fault d None rs vs
unfolding choose◌then◌else◌
source_checked d vs done columns [] l c = rw (sym l) (sym (header_fault_lem d vs))
source_checked d vs done columns (h ∷ rs) l c = rw (ne_eqb done 0 (λ z. omega arith)) (ap (λ (m : ℕ). data_fault m vs) (sym c) ∙ sym (data_fault_lem d h rs vs))

pub data_checked :
    (d : Dialect) (vs : List Value) (v : CheckResult) (done columns : ℕ) → (done ≡ 0 → ⊥) → v ≡ data_fault columns vs → (rs : List Rec) →
    length rs ≡ done → Columns rs columns → v ≡ record_fault d None rs vs
data_checked d vs v done columns n e [] l c = absurd (n (sym l))
data_checked d vs v done columns n e (h ∷ rs) l c = e ∙ ap (λ (m : ℕ). data_fault m vs) (sym c) ∙ sym (data_fault_lem d h rs vs)

-- ---- the target's checks

-- a fault in its source stays, whatever the target says
source_first :
    (d : Dialect) (target : Option Dialect) (rs : List Rec) (vs : List Value) (e : Fault) → record_fault d None rs vs ≡ Err e →
    record_fault d (target_of target) rs vs ≡ Err e
unfolding ◌or_else◌
source_first d None rs vs e h = h
source_first d (Some t) rs vs e h = record_target d (into t) rs vs ∙ rw h

target_next :
    (d : Dialect) (t : Dialect) (rs : List Rec) (vs : List Value) →
    record_fault d (Some (into t)) rs vs
    ≡ (record_fault d None rs vs or_else target_fault (into t) (is_empty rs) (length (table_text (into t) (rows rs))) vs)
target_next d t rs vs =
    record_target d (into t) rs vs
    ∙ ap (λ (b : Bool). record_fault d None rs vs or_else target_fault (into t) b (length (table_text (into t) (rows rs))) vs) (rows_empty rs)

or_next : (v w : CheckResult) → v ≡ Ok tt → w ≡ (v or_else w)
unfolding ◌or_else◌
or_next v w h = rw h

pub empty_none : (rs : List Rec) (done : ℕ) → length rs ≡ done → eqb done 0 ≡ is_empty rs
empty_none [] done l = rw (sym l) refl
empty_none (h ∷ rs) done l = ne_eqb done 0 (λ z. omega arith)

-- a check result first, and then a number
and_first : (w : CheckResult) (n : ℕ) (e : Fault) → w ≡ Err e → result_and w (Ok n) ≡ Err e
and_first w n e h = rw h refl

and_if_ok : (w : CheckResult) (n : ℕ) (P : ℕ → Type 0) → (w ≡ Ok tt → P n) → IfOk (result_and w (Ok n)) P
and_if_ok (Ok _) n P f = f refl
and_if_ok (Err e) n P f = tt

and_faulty : (w : CheckResult) (n : ℕ) (e : Fault) → result_and w (Ok n) ≡ Err e → w ≡ Err e
and_faulty (Ok _) n e h = fault_sound (sym h)
and_faulty (Err x) n e h = let z : x ≡ e = cc in ap (λ (y : Fault). Err y) z

and_sound : (w : CheckResult) (n m : ℕ) → result_and w (Ok n) ≡ Ok m → (w ≡ Ok tt) × (n ≡ m)
and_sound (Ok _) n m h = let z : n ≡ m = cc in (refl, z)
and_sound (Err x) n m h = fault_sound h

module _ (d : Dialect) (at : Cursor) (vs : List Value) (u : CheckResult)
    (by_source : (rs : List Rec) → length rs ≡ at.done → Columns rs at.columns → u ≡ record_fault d None rs vs) where
  pub asked_faulty : (target : Option Dialect) (e : Fault) → u ≡ Err e → CheckSound d target at vs (Err e)
  asked_faulty target e h =
      record {
        checked = λ rs a. sym (and_first _ _ e (source_first d target rs vs e (sym (by_source rs a.count a.headed) ∙ h)));
        fits = tt;
      }

  pub asked_reading : (target : Option Dialect) → target ≡ None → u ≡ Ok tt → at.written ≤ MAXFILE → CheckSound d target at vs (Ok 0)
  asked_reading target q h w =
      rw q (record { checked = λ rs a. ap (λ (x : CheckResult). result_and x (Ok 0)) (sym h ∙ by_source rs a.count a.headed); fits = omega arith })

  -- the fault that the target finds if the source finds none
  abbrev Target-fault : Dialect → CheckResult
  Target-fault t = target_fault (into t) (eqb at.done 0) at.written vs

  -- the length of the text in the target
  abbrev Target-length : Dialect → (header : Bool) → Result ℕ Fault
  Target-length t header = Ok (length (record_text (into t) header vs ++ ending t))

  pub asked_both :
      (target : Option Dialect) (t : Dialect) (r : Result ℕ Fault) → target ≡ Some t →
      r ≡ result_and (u or_else Target-fault t) (Target-length t (eqb at.done 0)) → CheckSound d target at vs r
  asked_both target t r q v = rw q (record { checked = checked; fits = fits })
    where
      checked : (rs : List Rec) → After (Some t) at rs → r ≡ result_and (record_fault d (Some (into t)) rs vs) (Target-length t (is_empty rs))
      checked rs a =
          v
          ∙ ap (λ (x : CheckResult). result_and (x or_else Target-fault t) (Target-length t (eqb at.done 0))) (by_source rs a.count a.headed)
          ∙ ap (λ (b : Bool). result_and (record_fault d None rs vs or_else target_fault (into t) b at.written vs) (Target-length t b))
          (empty_none rs at.done a.count)
          ∙ ap (λ (n : ℕ). result_and (record_fault d None rs vs or_else target_fault (into t) (is_empty rs) n vs) (Target-length t (is_empty rs)))
          (sym a.text)
          ∙ ap (λ (x : CheckResult). result_and x (Target-length t (is_empty rs))) (sym (target_next d t rs vs))

      fits : IfOk r (λ n. at.written + n ≤ MAXFILE)
      fits =
          subst (λ (x : Result ℕ Fault). IfOk x (λ n. at.written + n ≤ MAXFILE)) (sym v)
          (and_if_ok (u or_else Target-fault t) _ (λ n. at.written + n ≤ MAXFILE)
          λ s. (target_sound (into t) (eqb at.done 0) at.written vs (else_sound u (Target-fault t) s).1).fits)

  pub asked_into :
      (target : Option Dialect) (t : Dialect) (r : Result ℕ Fault) → target ≡ Some t → u ≡ Ok tt →
      r ≡ result_and (Target-fault t) (Target-length t (eqb at.done 0)) → CheckSound d target at vs r
  asked_into target t r q h v =
      asked_both target t r q (v ∙ ap (λ (x : CheckResult). result_and x (Target-length t (eqb at.done 0))) (or_next u (Target-fault t) h))

-- ---- the result

-- more cells than a record may have
pub columns_fault :
    (d : Dialect) (target : Option Target) (rs : List Rec) (vs : List Value) → MAXCOLUMNS < length vs →
    record_fault d target rs vs ≡ Err TooManyColumns
unfolding record_fault header_fault data_fault when ◌or_else◌
columns_fault d target [] vs h = rw (lt-ltb MAXCOLUMNS (length vs) h)
columns_fault d target (x ∷ rs) vs h = rw (lt-ltb MAXCOLUMNS (length vs) h)

-- the report of a record's fault
numbered :
    (rs : List Rec) (done : ℕ) (e : Fault) (start : ℕ) (t : Report) → length rs ≡ done →
    t ≡ report (number_of e) (done + 1) (column_of e) start → report (number_of e) (suc (length rs)) (column_of e) start ≡ t
numbered rs done e start t l h =
    let n : suc (length rs) ≡ done + 1 = omega arith in
    ap (λ (m : ℕ). report (number_of e) m (column_of e) start) n ∙ sym h

module _ (d : Dialect) (target : Option Dialect) (file : Bytes) (starts ends kinds : List ℕ) (at : Cursor) (start cells : ℕ) (f : FileState) (o : ℕ)
    (rs : List Rec) (vs : List Value) (a : After target at rs) (y : Shows d file vs cells starts ends kinds) where
  completes_faulty :
      (e : Fault) (t : Report) → record_fault d (target_of target) rs vs ≡ Err e → t ≡ report (number_of e) (at.done + 1) (column_of e) start →
      RecordChecked d target rs vs start f o (Err t)
  completes_faulty e t h q =
      subst (λ (x : Report). RecordChecked d target rs vs start f o (Err x)) (numbered rs at.done e start t a.count q) (faulty e h)

  pub too_many :
      (t : Report) → MAXCOLUMNS < cells → t ≡ report (number_of TooManyColumns) (at.done + 1) (column_of TooManyColumns) start →
      RecordChecked d target rs vs start f o (Err t)
  too_many t h q = completes_faulty TooManyColumns t (columns_fault d (target_of target) rs vs (omega (arith, y.count))) q

  -- the check was of the cells that the lists show
  module _ (ws : List Value) (same : cells ≤ MAXCOLUMNS → ws ≡ vs) (few : cells ≤ MAXCOLUMNS) (r : Result ℕ Fault) (z : CheckSound d target at ws r) where
    now : r ≡ result_and (record_fault d (target_of target) rs vs) (Ok (length (text_next target (is_empty rs) vs)))
    now =
        z.checked rs a
        ∙ ap (λ (l : List Value). result_and (record_fault d (target_of target) rs l) (Ok (length (text_next target (is_empty rs) l)))) (same few)

    pub ruled_faulty :
        (e : Fault) (t : Report) → r ≡ Err e → t ≡ report (number_of e) (at.done + 1) (column_of e) start → RecordChecked d target rs vs start f o (Err t)
    ruled_faulty e t h q = completes_faulty e t (and_faulty _ _ e (sym now ∙ h)) q

    pub ruled_sound : (n : ℕ) → r ≡ Ok n → RecordChecked d target rs vs start f o (Ok (Some (cursor_of (at.done + 1) cells (at.written + n) o f)))
    ruled_sound n h =
        let k = and_sound _ _ n (sym now ∙ h) in
        sound {w = at.written + n} k.0 (ap (λ (n : ℕ). n + 1) a.count) y.count few
        (ap (λ (m : ℕ). m + length (text_next target (is_empty rs) vs)) a.text ∙ ap (λ (m : ℕ). at.written + m) k.1)
        (IfOk-at_ok (λ n. at.written + n ≤ MAXFILE) h z.fits)

-- ---- the end of the file

pub ends_first :
    (done o : ℕ) (t : Report) → done ≡ 0 → t ≡ report (number_of NoRecord) 1 (column_of NoRecord) o → (rs : List Rec) → length rs ≡ done →
    FileEnded rs o (Err t)
ends_first done o t z e [] l = subst (λ (x : Report). FileEnded [] o (Err x)) (sym e) no_record
ends_first done o t z e (h ∷ rs) l = absurd (omega arith)

pub ends_later : (done o : ℕ) → (done ≡ 0 → ⊥) → (rs : List Rec) → length rs ≡ done → FileEnded rs o (Ok None)
ends_later done o n [] l = absurd (n (sym l))
ends_later done o n (h ∷ rs) l = at_end

-- ---- one record more

pub text_snoc :
    (target : Option Dialect) (rs : List Rec) (x : Rec) →
    length (text_of target (rs ++ (x ∷ []))) ≡ length (text_of target rs) + length (text_next target (is_empty rs) x.cells)
text_snoc None rs x = refl
text_snoc (Some t) rs x =
    ap length (table_snoc (into t) rs x)
    ∙ length-append (table_text (into t) (rows rs)) (record_text (into t) (is_empty rs) x.cells ++ ending t)

pub columns_snoc :
    (d : Dialect) (target : Option Target) (rs : List Rec) (x : Rec) (n : ℕ) → record_fault d target rs x.cells ≡ Ok tt →
    length x.cells ≡ n → Columns (rs ++ (x ∷ [])) n
unfolding record_fault data_fault
columns_snoc d target [] x n h l = l
columns_snoc d target (y ∷ rs) x n h l =
    let a = else_sound (data_fault (length y.cells) x.cells) _ h in
    let b = else_sound (when (ltb MAXCOLUMNS (length x.cells)) TooManyColumns) _ a.0 in
    let c : length x.cells ≡ length y.cells
    = eqb-true (length x.cells) (length y.cells)
    (not-false (eqb (length x.cells) (length y.cells)) (when_sound _ _ b.1)) in
    sym c ∙ l
