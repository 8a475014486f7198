-- Demand 2: the files that the converter accepts. Reading with a target is reading without one, and then the target's check of each
-- record (`target_file` of model), so a file is converted exactly where it is read and its records pass (`converts_exactly`). They
-- pass exactly where the writer would find no fault in their rows, since the source checks the header's columns and kinds: so the
-- target can represent them (`Carrying`). The records read are those of the derivation. Assumes nothing.
use Prim.Native.Nat.{ℕ, suc, ◌≤◌}
use native.Mathlib.Omega.{arith}
use mathlib.Core.Path.{◌≡◌, refl, sym, ap, ◌∙◌}
use mathlib.Core.Logic.{◌↔◌}
use mathlib.Core.Bool.{true}
use Rattle.std.specs.Prelude.{None, Some, Ok}
use mathlib.Core.List.{List, [], ◌∷◌, ◌++◌, map}
use lib.ListN.{length}
use Rattle.model.specs.declared.Report.{Report}
use Rattle.model.specs.declared.Dialect.{Dialect}
use Rattle.model.specs.declared.Kind.TheVariants.{Text}
use Rattle.model.specs.declared.Fault.{Fault}
use Rattle.model.specs.declared.Fault.TheVariants.{Clash}
use Rattle.model.specs.declared.Target.{Target}
use Rattle.model.specs.rules.Types.{CheckResult}
use Rattle.model.specs.rules.Base.{Bytes, choose◌then◌else◌}
use Rattle.model.specs.rules.Dialect.{dialect_of, into}
use Rattle.model.specs.rules.Text.{Value, table_text}
use Rattle.model.specs.rules.Report.{accepted, MAXCOLUMNS}
use Rattle.model.specs.rules.Records.{Rec, rows, Read, Progress, going, records_of, read_file, repeat_from, repeat_fault, header_fault, target_next}
use Rattle.model.specs.rules.Api.{Written, fitted, converted_as, converter, row_fault, rows_from, rows_fault}
use Rattle.model.specs.laws.Targets.{Passes, Refuses, refuses_here, refuses_later, passes_none, passes_more, WithTarget, same, refused}
use Rattle.model.specs.laws.Laws.{All, all_none, all_cons}
use Rattle.model.specs.laws.RoundTrips.{SameCells, no_cells, and_cell, SameRows, no_rows, and_row}
use Rattle.model.proofs.file_laws.CheckResults.{else_sound, both_sound, target_sound}
use Rattle.model.proofs.round_trip.Meanings.{table_same}
use Rattle.model.proofs.round_trip.TableText.{rows_append}
use Rattle.model.proofs.round_trip.RoundTrip.{fault_number, fitted_fits}
use Rattle.model.proofs.round_trip.ConvertBack.{converter_known}
use Rattle.model.proofs.TargetLaws.{target_file}
use Rattle.model.proofs.round_trip.WriterBack.{next_none}
use Rattle.grammar.specs.rfc.Derived.{Derived, kind_in, Line, cells_in, Every, every_none, every_cons, Each, each_none, each_cons}
use Rattle.grammar.specs.Accepted.{Acceptable, ChecksHold, checks_hold, ShowsCell, ShowsRecord}
use Rattle.grammar.proofs.Acceptance.{ReadAs, read_as, acceptable_read, AcceptedAs, accepted_as, read_acceptable}
use Rattle.grammar.proofs.RecordChecks.{each_length}
use Rattle.grammar.proofs.Theorems.{same_records}
use Rattle.theorems.specs.Demands.{ReportsFile, CarriedTable, value_in, row_in}
use Rattle.theorems.specs.Demands as told
use Rattle.theorems.proofs.Reports.{converter_tells}
use Rattle.theorems.proofs.SameRows.{cells_back, rows_back, carried_alike}
use Rattle.theorems.proofs.CarriedTables.{header_sound, names_of, no_fault, carried_of}
use Rattle.theorems.proofs.ReaderDerivation.{no_records}

-- the file is read, its records pass the target's checks, and the text has room
abbrev Converts : Dialect → Target → Bytes → (room : ℕ) → Type 0
Converts d t file room =
    (r : Read) × (read_file d None file ≡ going r) × Passes t [] r.done × (length (table_text t (rows r.done)) ≤ room)

module _ (t : Target) where
  -- a record that the target refuses is none that it passes
  not_both : {e : Fault} {kept : List Rec} {start : ℕ} {done added : List Rec} {A : Type 0} → Passes t done added → Refuses t e kept start done added → A
  not_both (passes_more p ps) (refuses_here q s) = let z : ◌≡◌ {A = ℕ} 0 1 = cc in absurd (omega arith)
  not_both (passes_more p ps) (refuses_later q r) = not_both ps r
  not_both passes_none x = elim x [ ]

  accepts_from :
      {needs : List Rec → ℕ} {room : ℕ} (p : Progress) (x : Report) → ReportsFile needs room p x → x ≡ accepted →
      (r : Read) × (p ≡ going r) × (needs r.done ≤ room)
  accepts_from p x (told.fault {e} {r}) q = fault_number e (ap (λ (y : Report). y.number) q)
  accepts_from p x (told.no_room {r} h) q = let z : ◌≡◌ {A = ℕ} 10 0 = ap (λ (y : Report). y.number) q in absurd (omega arith)
  accepts_from p x (told.accepts {r} h) q = (r, refl, h)

  accepts_to :
      {needs : List Rec → ℕ} {room : ℕ} (p : Progress) (x : Report) (r : Read) → ReportsFile needs room p x → p ≡ going r →
      needs r.done ≤ room → x ≡ accepted
  accepts_to p x r (told.fault) q h = let z : ◌≡◌ {A = ℕ} 0 1 = cc in absurd (omega arith)
  accepts_to {needs} p x r (told.no_room {r = s} k) q h =
      let z : s ≡ r = cc in let w : needs s.done ≡ needs r.done = ap (λ (y : Read). needs y.done) z in absurd (omega arith)
  accepts_to p x r (told.accepts k) q h = refl

  -- with a target and without one
  passes_from : {p q : Progress} (r : Read) → WithTarget t [] p q → q ≡ going r → (p ≡ going r) × Passes t [] r.done
  passes_from {p} r (same added sum ps) e =
      let z : records_of p ≡ r.done = ap records_of e in
      (e, rw (sym z ∙ sum) ps)
  passes_from r (refused added sum f) e = let z : ◌≡◌ {A = ℕ} 0 1 = cc in absurd (omega arith)

  passes_to : {p q : Progress} (r : Read) → WithTarget t [] p q → p ≡ going r → Passes t [] r.done → q ≡ going r
  passes_to r (same added sum ps) e k = e
  passes_to {p} r (refused added sum f) e k =
      let z : records_of p ≡ r.done = ap records_of e in
      not_both (rw (sym z ∙ sum) at k) f

converts_exactly :
    (m n : ℕ) (d t : Dialect) (file : Bytes) (room : ℕ) → dialect_of m ≡ Some d → dialect_of n ≡ Some t →
    ((converter m n file room).report ≡ accepted) ↔ Converts d (into t) file room
converts_exactly m n d t file room e k = (only, enough)
  where
    tells : ReportsFile (λ (rs : List Rec). length (table_text (into t) (rows rs))) room (read_file d (Some (into t)) file) (converter m n file room).report
    tells = converter_tells m n d t file room e k

    only : (converter m n file room).report ≡ accepted → Converts d (into t) file room
    only q =
        let x = accepts_from (into t) (read_file d (Some (into t)) file) (converter m n file room).report tells q in
        let y = passes_from (into t) x.0 (target_file d (into t) file) x.1 in
        (x.0, y.0, y.1, x.2)

    enough : Converts d (into t) file room → (converter m n file room).report ≡ accepted
    enough (r, x, ps, h) =
        accepts_to (into t) (read_file d (Some (into t)) file) (converter m n file room).report r tells
        (passes_to (into t) r (target_file d (into t) file) x ps) h

-- ---- the target's checks, and the writer's

module _ (t : Target) where
  passes_rows : (h : Rec) (done added : List Rec) → Passes t (h ∷ done) added → rows_from t (rows (h ∷ done)) (rows added) ≡ None
  unfolding rows_from rows
  passes_rows h done [] passes_none = refl
  passes_rows h done (x ∷ xs) (passes_more p ps) =
      let more : rows (h ∷ (done ++ (x ∷ []))) ≡ rows (h ∷ done) ++ (x.cells ∷ []) = rows_append (h ∷ done) (x ∷ []) in
      rw p (rw more at (passes_rows h (done ++ (x ∷ [])) xs ps))

  rows_pass : (h : Rec) (done added : List Rec) → rows_from t (rows (h ∷ done)) (rows added) ≡ None → Passes t (h ∷ done) added
  unfolding rows_from rows
  rows_pass h done [] e = passes_none
  rows_pass h done (x ∷ xs) e =
      let more : rows (h ∷ (done ++ (x ∷ []))) ≡ rows (h ∷ done) ++ (x.cells ∷ []) = rows_append (h ∷ done) (x ∷ []) in
      let check : CheckResult = target_next t (rows (h ∷ done)) x.cells in
      let a = next_none (suc (length (rows (h ∷ done)))) check (rows_from t (rows (h ∷ done) ++ (x.cells ∷ [])) (rows xs)) e in
      passes_more a.0 (rows_pass h (done ++ (x ∷ [])) xs (rw more a.1))

module _ (t : Dialect) where
  -- the source has checked the header's columns and kinds
  passed_carried :
      (h : Rec) (rs : List Rec) → length h.cells ≤ MAXCOLUMNS → All (λ (v : Value). v.kind ≡ Text) h.cells → Passes (into t) [] (h ∷ rs) →
      CarriedTable t h.cells (rows rs)
  unfolding rows_fault rows_from rows repeat_fault
  passed_carried h rs few texts (passes_more p ps) =
      let clash : repeat_from t Clash [] 1 h.cells ≡ Ok tt = (target_sound (into t) true (length (table_text (into t) [])) h.cells p).clash in
      let header : header_fault t h.cells ≡ Ok tt = header_sound t h.cells few texts (names_of t Clash [] 1 h.cells clash).1 in
      let first : row_fault (into t) [] h.cells ≡ Ok tt = both_sound header p in
      carried_of t h.cells (rows rs) (rw first (passes_rows (into t) h [] rs ps))

  carried_passes : (h : Rec) (rs : List Rec) → CarriedTable t h.cells (rows rs) → Passes (into t) [] (h ∷ rs)
  unfolding rows_fault rows_from rows
  carried_passes h rs c =
      let a = next_none 1 (row_fault (into t) [] h.cells) (rows_from (into t) (h.cells ∷ []) (rows rs)) (no_fault t h.cells (rows rs) c) in
      passes_more (else_sound (header_fault t h.cells) (target_next (into t) [] h.cells) a.0).1 (rows_pass (into t) h [] rs a.1)

-- ---- the rows of the records read are those of the derivation

shown_cells : {file : Bytes} {vs : List Value} {cs : List Derived} → Each (ShowsCell file) vs cs → SameCells vs (map value_in cs)
shown_cells each_none = no_cells
shown_cells (each_cons s k) = and_cell (record { kind = s.kind; content = s.content }) (shown_cells k)

shown_rows : {file : Bytes} {rs : List Rec} {ls : List (Line Derived)} → Each (ShowsRecord file) rs ls → SameRows (rows rs) (map row_in ls)
unfolding rows
shown_rows each_none = no_rows
shown_rows (each_cons s k) = and_row (shown_cells s.cells) (shown_rows k)

shown_texts :
    {file : Bytes} {vs : List Value} {cs : List Derived} → Each (ShowsCell file) vs cs → Every (λ (c : Derived). kind_in c ≡ Text) cs →
    All (λ (v : Value). v.kind ≡ Text) vs
shown_texts each_none every_none = all_none
shown_texts (each_cons s k) (every_cons e m) = all_cons (s.kind ∙ e) (shown_texts k m)

-- ---- the converter

-- the file is acceptable, the target can represent its rows, and the text has room
abbrev Carries : (source target : Dialect) → Bytes → (room : ℕ) → Type 0
Carries d t file room =
    (l : Line Derived) × (ls : List (Line Derived)) × Acceptable d file (l ∷ ls) × CarriedTable t (row_in l) (map row_in ls)
    × (length (table_text (into t) (map row_in (l ∷ ls))) ≤ room)

first_of : {A : Type 0} {P : A → Type 0} {x : A} {xs : List A} → Every P (x ∷ xs) → P x
first_of (every_cons p ps) = p

header_texts : {d : Dialect} {l : Line Derived} {ls : List (Line Derived)} → ChecksHold d (l ∷ ls) → Every (λ (c : Derived). kind_in c ≡ Text) (cells_in l)
header_texts (checks_hold k n e) = k

module _ (d t : Dialect) (file : Bytes) (room : ℕ) where
  records_carried :
      {rs : List Rec} {ls : List (Line Derived)} → Each (ShowsRecord file) rs ls → Acceptable d file ls → Passes (into t) [] rs →
      length (table_text (into t) (rows rs)) ≤ room → Carries d t file room
  records_carried each_none a ps f = no_records a.checks
  records_carried (each_cons {x = h} {xs = rs} {y = l} {ys = ls} s k) a ps f =
      let few : length (cells_in l) ≤ MAXCOLUMNS = first_of a.limits.columns in
      let texts : All (λ (v : Value). v.kind ≡ Text) h.cells = shown_texts s.cells (header_texts a.checks) in
      let c : CarriedTable t h.cells (rows rs) = passed_carried t h rs (rw (each_length s.cells) few) texts ps in
      let same : table_text (into t) (rows (h ∷ rs)) ≡ table_text (into t) (map row_in (l ∷ ls)) = table_same (into t) (shown_rows (each_cons s k)) in
      (l, ls, a, carried_alike t (shown_cells s.cells) (shown_rows k) c, rw same at f)

  carried_records :
      {rs : List Rec} {l : Line Derived} {ls : List (Line Derived)} → Each (ShowsRecord file) rs (l ∷ ls) → CarriedTable t (row_in l) (map row_in ls) →
      Passes (into t) [] rs
  carried_records (each_cons {x = h} {xs = rs} s k) c =
      carried_passes t h rs (carried_alike t (cells_back (shown_cells s.cells)) (rows_back (shown_rows k)) c)

  converts_carries : Converts d (into t) file room → Carries d t file room
  converts_carries (r, e, ps, f) = go (read_acceptable d file r e)
    where
      go : AcceptedAs d file r → Carries d t file room
      go (accepted_as ls a k) = records_carried k a ps f

  carries_converts : Carries d t file room → Converts d (into t) file room
  carries_converts (l, ls, a, c, f) = go (acceptable_read d file (l ∷ ls) a)
    where
      go : ReadAs d file (l ∷ ls) → Converts d (into t) file room
      go (read_as end e k) =
          let same : table_text (into t) (rows end.done) ≡ table_text (into t) (map row_in (l ∷ ls)) = table_same (into t) (shown_rows k) in
          (end, e, carried_records k c, rw same f)

pub converted_exactly :
    (m n : ℕ) (d t : Dialect) (file : Bytes) (room : ℕ) → dialect_of m ≡ Some d → dialect_of n ≡ Some t →
    ((converter m n file room).report ≡ accepted) ↔ Carries d t file room
converted_exactly m n d t file room e k =
    let x = converts_exactly m n d t file room e k in (λ q. converts_carries d t file room (x.0 q), λ c. x.1 (carries_converts d t file room c))

pub converted_text :
    (m n : ℕ) (d t : Dialect) (file : Bytes) (room : ℕ) (ls : List (Line Derived)) → dialect_of m ≡ Some d → dialect_of n ≡ Some t → Acceptable d file ls →
    (converter m n file room).report ≡ accepted → (converter m n file room).text ≡ table_text (into t) (map row_in ls)
unfolding choose◌then◌else◌
converted_text m n d t file room ls e k a q =
    let x = accepts_from (into t) (read_file d (Some (into t)) file) (converter m n file room).report (converter_tells m n d t file room e k) q in
    let y = passes_from (into t) x.0 (target_file d (into t) file) x.1 in
    let text : Bytes = table_text (into t) (rows x.0.done) in
    let known : converter m n file room ≡ fitted room text = converter_known m n d t file room e k ∙ ap (converted_as (into t) room) x.1 in
    let same : text ≡ table_text (into t) (map row_in ls) = table_same (into t) (shown_rows (same_records d file ls a.derived x.0 y.0)) in
    ap (λ (w : Written). w.text) (known ∙ fitted_fits room text text (record { same = refl; fits = x.2 })) ∙ same
