-- The fault of a complete record by the numbers of a place is that of reading, and its offset is the record's start.
use Prim.Native.Nat.{ℕ, suc, ◌+◌}
use native.Mathlib.Omega.{arith}
use mathlib.Core.Path.{◌≡◌, refl, sym, ap, ◌∙◌}
use mathlib.Core.Bool.{Bool, true, false, not}
use Rattle.std.specs.Prelude.{Some}
use mathlib.Core.List.{List, [], ◌∷◌, ◌++◌}
use lib.ListN.{length}
use lib.Dec.{ltb, eqb}
use borrow.Author.Tests.{ne_eqb}
use Rattle.model.specs.rules.Base.{choose◌then◌else◌, ◌is◌, Bytes, is_empty}
use Rattle.model.specs.rules.Text.{Value, is_text, carried, record_text, table_text, ending}
use Rattle.model.specs.rules.Report.{report, number_of, column_of, is_at_byte, MAXCOLUMNS}
use Rattle.model.specs.rules.Records.{Rec, rows, Read, fault_report, ◌or_else◌, when, name_key, among, repeat_from, repeat_fault, header_kind_from, header_fault}
use Rattle.model.specs.rules.Records.{data_fault, has_kind, loses_surrogate, uncarried_from, clash_fault, target_fault, record_fault}
use Rattle.model.specs.laws.RoundTrips.{SameCells}
use Rattle.model.proofs.Tests.{split}
use Rattle.model.proofs.round_trip.Meanings.{place_free}
use Rattle.piece_step.specs.Types.{Dialect, Target, Fault, CellCount, RepeatedName, HeaderKind, TooManyColumns, NoCells, LacksKind, LoneSurrogate, Clash}
use Rattle.piece_step.specs.Types.{TextTooLong, OutputTooLong, CheckResult, Ok, Err}
use Rattle.piece_state.specs.declared.place.Place.{Place}
use Rattle.piece_step.specs.Invariant.{columns_of}
use Rattle.piece_record.specs.Completion.{fault_at, text_at}

-- ---- the offset of a record's fault is its start

data AtStart : CheckResult → Type 0 where
  start_sound : AtStart (Ok tt)
  start_fault : {e : Fault} → is_at_byte e ≡ false → AtStart (Err e)

when_start : (b : Bool) (e : Fault) → is_at_byte e ≡ false → AtStart (when b e)
unfolding when
when_start true e h = start_fault h
when_start false e h = start_sound

or_start : {v w : CheckResult} → AtStart v → AtStart w → AtStart (v or_else w)
unfolding ◌or_else◌
or_start start_sound k = k
or_start (start_fault h) k = start_fault h

kinds_start : (n : ℕ) (vs : List Value) → AtStart (header_kind_from n vs)
unfolding header_kind_from
kinds_start n [] = start_sound
kinds_start n (v ∷ vs) = or_start (when_start (not (is_text v.kind)) (HeaderKind n) refl) (kinds_start (suc n) vs)

repeat_start :
    (d : Dialect) (fault : ℕ → Fault) → ((n : ℕ) → is_at_byte (fault n) ≡ false) → (seen : List Bytes) (n : ℕ) (vs : List Value) →
    AtStart (repeat_from d fault seen n vs)
unfolding repeat_from
repeat_start d fault h seen n [] = start_sound
repeat_start d fault h seen n (v ∷ vs) =
    split AtStart (among (name_key d v.content) seen) (λ _. start_fault (h n)) λ _. repeat_start d fault h (name_key d v.content ∷ seen) (suc n) vs

header_start : (d : Dialect) (vs : List Value) → AtStart (header_fault d vs)
unfolding header_fault repeat_fault
header_start d vs =
    or_start (when_start (ltb MAXCOLUMNS (length vs)) TooManyColumns refl)
    (or_start (kinds_start 1 vs) (repeat_start d RepeatedName (λ n. refl) [] 1 vs))

data_start : (columns : ℕ) (vs : List Value) → AtStart (data_fault columns vs)
unfolding data_fault
data_start n vs = or_start (when_start (ltb MAXCOLUMNS (length vs)) TooManyColumns refl) (when_start (not (eqb (length vs) n)) CellCount refl)

uncarried_start : (t : Dialect) (n : ℕ) (vs : List Value) → AtStart (uncarried_from t n vs)
unfolding uncarried_from
uncarried_start t n [] = start_sound
uncarried_start t n (v ∷ vs) =
    or_start (when_start (not (has_kind t v.kind)) (LacksKind n) refl)
    (or_start (when_start (loses_surrogate t v) (LoneSurrogate n) refl) (uncarried_start t (suc n) vs))

names_start : (t : Dialect) (header : Bool) (vs : List Value) → AtStart (clash_fault t header vs)
unfolding repeat_fault
names_start t true vs = repeat_start t Clash (λ n. refl) [] 1 vs
names_start t false vs = start_sound

target_start : (t : Target) (header : Bool) (written : ℕ) (vs : List Value) → AtStart (target_fault t header written vs)
unfolding target_fault
target_start t header written vs =
    or_start (when_start _ NoCells refl)
    (or_start (uncarried_start t.dialect 1 (carried t vs))
    (or_start (names_start t.dialect header (carried t vs)) (or_start (when_start _ TextTooLong refl) (when_start _ OutputTooLong refl))))

at_start : (d : Dialect) (t : Target) (p : Place) (vs : List Value) → AtStart (fault_at d t p vs)
unfolding fault_at
at_start d t p vs =
    or_start (split AtStart (p.records is 0) (λ _. header_start d vs) λ _. data_start p.columns vs) (target_start t (p.records is 0) p.written vs)

start_of : {v : CheckResult} (e : Fault) → AtStart v → v ≡ Err e → is_at_byte e ≡ false
start_of e start_sound q = let z : ◌≡◌ {A = ℕ} 0 1 = cc in absurd (omega arith)
start_of e (start_fault {e = x} a) q = let z : x ≡ e = cc in rw (sym z) a

pub fault_start : (d : Dialect) (t : Target) (p : Place) (vs : List Value) (e : Fault) → fault_at d t p vs ≡ Err e → is_at_byte e ≡ false
fault_start d t p vs e q = start_of e (at_start d t p vs) q

pub report_start :
    (e : Fault) (r : Read) (n : ℕ) → is_at_byte e ≡ false → length r.done ≡ n → fault_report e r ≡ report (number_of e) (n + 1) (column_of e) r.start
unfolding choose◌then◌else◌
report_start e r n q l = let z : suc n ≡ n + 1 = omega arith in rw (q, l, z)

pub report_byte :
    (e : Fault) (r : Read) (n : ℕ) → is_at_byte e ≡ true → length r.done ≡ n → fault_report e r ≡ report (number_of e) (n + 1) (column_of e) r.offset
unfolding choose◌then◌else◌
report_byte e r n q l = let z : suc n ≡ n + 1 = omega arith in rw (q, l, z)

-- ---- by the numbers of a place

by_records :
    (d : Dialect) (t : Target) (done : List Rec) (vs : List Value) →
    ((choose is_empty done then header_fault d vs else data_fault (columns_of done) vs) or_else target_fault t (is_empty done)
    (length (table_text t (rows done))) vs) ≡ record_fault d (Some t) done vs
unfolding record_fault rows choose◌then◌else◌
by_records d t [] vs = refl
by_records d t (x ∷ xs) vs = refl

module _ (d : Dialect) (t : Target) (p : Place) (done : List Rec) (records : p.records ≡ length done) where
  pub is_first_lem : (p.records is 0) ≡ is_empty done
  is_first_lem = rw records (go done)
    where
      go : (xs : List Rec) → (length xs is 0) ≡ is_empty xs
      go [] = refl
      go (x ∷ xs) = ne_eqb (suc (length xs)) 0 (λ e. omega arith)

  module _ (columns : p.columns ≡ columns_of done) (written : p.written ≡ length (table_text t (rows done))) where
    by_numbers : (vs : List Value) → fault_at d t p vs ≡ record_fault d (Some t) done vs
    unfolding fault_at
    by_numbers vs = rw (is_first_lem, columns, written) (by_records d t done vs)

    -- the same for cells at other offsets
    pub fault_of : (ws vs : List Value) → SameCells ws vs → fault_at d t p ws ≡ record_fault d (Some t) done vs
    fault_of ws vs s = by_numbers ws ∙ place_free.fault d (Some t) done ws vs s

  pub text_of : (ws vs : List Value) → SameCells ws vs → text_at t p ws ≡ record_text t (is_empty done) vs ++ ending t.dialect
  text_of ws vs s = rw is_first_lem (ap (λ l. l ++ ending t.dialect) (place_free.text t (is_empty done) ws vs s))
