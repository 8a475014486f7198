-- Demand 2 over a call of the reader and its three lists. The reader's room is the length of the shortest list, so it has a place for every
-- cell exactly where each list has (`places_room`); a file that is read and not accepted has too few. The lists begin with the spans and
-- kinds of the reader's cells, which are those of the derivation; and each cell of the reader decodes from its span.
use Prim.Native.Nat.{ℕ, suc, ◌+◌, ◌≤◌}
use native.Mathlib.Omega.{arith}
use mathlib.Core.Path.{◌≡◌, refl, sym, ap, ◌∙◌}
use mathlib.Core.Logic.{◌≢◌, ◌↔◌}
use Rattle.std.specs.Prelude.{None, Some, min}
use mathlib.Core.List.{List, [], ◌∷◌, map, map-map}
use lib.ListN.{length, drop, length-append, length-map}
use lib.Seq.{take_at}
use Rattle.model.specs.declared.Report.{Report}
use Rattle.model.specs.declared.Dialect.{Dialect}
use Rattle.model.specs.rules.Base.{Bytes, concat}
use Rattle.model.specs.rules.Dialect.{dialect_of}
use Rattle.model.specs.rules.Decode.{kind_number}
use Rattle.model.specs.rules.Text.{Value}
use Rattle.model.specs.rules.Report.{accepted, refusal}
use Rattle.model.specs.rules.Records.{Rec, rows, Read, Progress, going, read_file}
use Rattle.model.specs.rules.Api.{Answer, reader, starts_of, ends_of, kinds_of, read_call}
use Rattle.model.specs.laws.Laws.{All, all_none, all_cons}
use Rattle.model.specs.laws.RoundTrips.{Decodes}
use Rattle.model.proofs.round_trip.AllTrips.{trips}
use Rattle.grammar.specs.rfc.Derived.{Derived, kind_in, content_in, Line, cells_in, Each, each_none, each_cons}
use Rattle.grammar.specs.dialects.Spans.{Span, stretches, span_of}
use Rattle.grammar.specs.Accepted.{Acceptable, cell_count}
use Rattle.grammar.proofs.Acceptance.{ten, ReadAs, read_as, acceptable_read, AcceptedAs, accepted_as, read_acceptable}
use Rattle.grammar.proofs.AcceptedOnly.{stopped_going}
use Rattle.grammar.proofs.Theorems.{one_meaning, reader_exactly, reader_places}
use Rattle.theorems.specs.Demands.{ReportsFile, AsDerived, HasPlaces, FilledAsDerived, DecodesTo}
use Rattle.theorems.specs.Demands as reports
use Rattle.theorems.proofs.BuffersAfter.{least_first, least_second}
use Rattle.theorems.proofs.Reports.{reader_tells}
use Rattle.theorems.proofs.Limits.{zero_ten, fault_ten}
use Rattle.theorems.proofs.ReaderDerivation.{as_derived}

-- ---- the shortest list

below_least : (n a b : ℕ) → n ≤ a → n ≤ b → n ≤ min a b
below_least n a b p q = omega arith

module _ (starts ends kinds : List ℕ) where
  -- the room of a call with these lists
  abbrev room_in : ℕ
  room_in = min (length starts) (min (length ends) (length kinds))

  places_room : (n : ℕ) → HasPlaces n starts ends kinds ↔ (n ≤ room_in)
  places_room n = (enough, only)
    where
      enough : HasPlaces n starts ends kinds → n ≤ room_in
      enough p =
          let both : n ≤ min (length ends) (length kinds) = below_least n (length ends) (length kinds) p.for_ends p.for_kinds in
          below_least n (length starts) (min (length ends) (length kinds)) p.for_starts both

      only : n ≤ room_in → HasPlaces n starts ends kinds
      only h =
          let both : ℕ = min (length ends) (length kinds) in
          let x : min (length starts) both ≤ length starts = least_first (length starts) both in
          let y : min (length starts) both ≤ both = least_second (length starts) both in
          let u : both ≤ length ends = least_first (length ends) (length kinds) in
          let v : both ≤ length kinds = least_second (length ends) (length kinds) in
          record { for_starts = omega arith; for_ends = omega arith; for_kinds = omega arith }

pub accepted_exactly :
    (n : ℕ) (d : Dialect) (file : Bytes) (starts ends kinds : List ℕ) → dialect_of n ≡ Some d →
    ((read_call n file starts ends kinds).report ≡ accepted)
    ↔ ((ls : List (Line Derived)) × Acceptable d file ls × HasPlaces (cell_count ls) starts ends kinds)
unfolding read_call
accepted_exactly n d file starts ends kinds e =
    let x = reader_exactly n d file (room_in starts ends kinds) e in (
      λ q. let y = x.0 q in (y.0, y.1, (places_room starts ends kinds (cell_count y.0)).1 y.2),
      λ y. x.1 (y.0, y.1, (places_room starts ends kinds (cell_count y.0)).0 y.2),
    )

-- ---- too few places

module _ {needs : List Rec → ℕ} {room : ℕ} where
  full_read : (p : Progress) (x : Report) → ReportsFile needs room p x → x ≡ refusal 10 → (r : Read) × (p ≡ going r)
  full_read p x (reports.fault {e}) q = absurd (fault_ten e (ap (λ (y : Report). y.number) q))
  full_read p x (reports.no_room {r} h) q = (r, refl)
  full_read p x (reports.accepts {r} h) q = absurd (zero_ten (ap (λ (y : Report). y.number) q))

  read_full : (p : Progress) (x : Report) (r : Read) → ReportsFile needs room p x → p ≡ going r → x ≢ accepted → x ≡ refusal 10
  read_full p x r reports.fault q n = stopped_going q
  read_full p x r (reports.no_room h) q n = refl
  read_full p x r (reports.accepts h) q n = absurd (n refl)

module _ (n : ℕ) (d : Dialect) (file : Bytes) (starts ends kinds : List ℕ) (known : dialect_of n ≡ Some d) where
  abbrev reported : Report
  reported = (reader n file (room_in starts ends kinds)).report

  file_report : ReportsFile (λ (rs : List Rec). length (concat (rows rs))) (room_in starts ends kinds) (read_file d None file) reported
  file_report = reader_tells n d file (room_in starts ends kinds) known

  accepted_with : (reported ≡ accepted) ↔ ((ls : List (Line Derived)) × Acceptable d file ls × (cell_count ls ≤ room_in starts ends kinds))
  accepted_with = reader_exactly n d file (room_in starts ends kinds) known

  full_only : reported ≡ refusal 10 → (ls : List (Line Derived)) × Acceptable d file ls × (¬ HasPlaces (cell_count ls) starts ends kinds)
  full_only q = let x = full_read (read_file d None file) reported file_report q in go (read_acceptable d file x.0 x.1)
    where
      go : {r : Read} → AcceptedAs d file r → (ls : List (Line Derived)) × Acceptable d file ls × (¬ HasPlaces (cell_count ls) starts ends kinds)
      go (accepted_as ls a k) = (ls, a, λ h. ten (sym q ∙ accepted_with.1 (ls, a, (places_room starts ends kinds (cell_count ls)).0 h)))

  full_enough : (ls : List (Line Derived)) → Acceptable d file ls → (¬ HasPlaces (cell_count ls) starts ends kinds) → reported ≡ refusal 10
  full_enough ls a few = go (acceptable_read d file ls a)
    where
      refused : reported ≢ accepted
      refused q =
          let y = accepted_with.0 q in
          let same : y.0 ≡ ls = one_meaning d file y.0 ls y.1.derived a.derived in
          few (rw same at ((places_room starts ends kinds (cell_count y.0)).1 y.2))

      go : ReadAs d file ls → reported ≡ refusal 10
      go (read_as end e k) = read_full (read_file d None file) reported end file_report e refused

pub too_few_places :
    (n : ℕ) (d : Dialect) (file : Bytes) (starts ends kinds : List ℕ) → dialect_of n ≡ Some d →
    ((read_call n file starts ends kinds).report ≡ refusal 10)
    ↔ ((ls : List (Line Derived)) × Acceptable d file ls × (¬ HasPlaces (cell_count ls) starts ends kinds))
unfolding read_call
too_few_places n d file starts ends kinds e =
    (λ q. full_only n d file starts ends kinds e q, λ y. full_enough n d file starts ends kinds e y.0 y.1 y.2)

-- ---- what the lists begin with

cells_count : (ls : List (Line Derived)) → length (concat (map cells_in ls)) ≡ cell_count ls
unfolding concat
cells_count [] = refl
cells_count (l ∷ ls) = length-append (cells_in l) (concat (map cells_in ls)) ∙ ap (λ (n : ℕ). length (cells_in l) + n) (cells_count ls)

answer_count : (ls : List (Line Derived)) (a : Answer) → AsDerived ls a → length a.cells ≡ cell_count ls
answer_count ls a x =
    sym (length-map a.cells (λ (v : Value). v.kind)) ∙ ap length x.kinds ∙ length-map (concat (map cells_in ls)) kind_in ∙ cells_count ls

pub filled_as_derived :
    (n : ℕ) (d : Dialect) (file : Bytes) (starts ends kinds : List ℕ) (ls : List (Line Derived)) (a : Acceptable d file ls) → dialect_of n ≡ Some d →
    HasPlaces (cell_count ls) starts ends kinds → FilledAsDerived d file ls a.derived (read_call n file starts ends kinds)
unfolding read_call
filled_as_derived n d file starts ends kinds ls a e h =
    let room : ℕ = room_in starts ends kinds in
    let fits : cell_count ls ≤ room = (places_room starts ends kinds (cell_count ls)).0 h in
    let vs : List Value = (reader n file room).cells in
    let x : AsDerived ls (reader n file room) = as_derived n d file room ls e a fits in
    let reported : (reader n file room).report ≡ accepted = (reader_exactly n d file room e).1 (ls, a, fits) in
    let spans : map span_of vs ≡ concat (stretches d file ls a.derived) = reader_places n d file room ls a.derived e reported in
    record {
      columns = x.columns;
      records = x.records;
      cells = answer_count ls (reader n file room) x;
      starts =
          take_at (starts_of vs) (drop (length (starts_of vs)) starts) (length vs) (length-map vs (λ (v : Value). v.from)) ∙
          sym (map-map (λ (s : Span). s.from) span_of vs) ∙ ap (map (λ (s : Span). s.from)) spans;
      ends =
          take_at (ends_of vs) (drop (length (ends_of vs)) ends) (length vs) (length-map vs (λ (v : Value). v.upto)) ∙
          sym (map-map (λ (s : Span). s.upto) span_of vs) ∙ ap (map (λ (s : Span). s.upto)) spans;
      kinds =
          take_at (kinds_of vs) (drop (length (kinds_of vs)) kinds) (length vs) (length-map vs (λ (v : Value). kind_number v.kind)) ∙
          sym (map-map kind_number (λ (v : Value). v.kind) vs) ∙ ap (map kind_number) x.kinds ∙ map-map kind_number kind_in (concat (map cells_in ls));
    }

-- ---- what the spans decode to

module _ (n : ℕ) (file : Bytes) where
  spans_decode :
      (vs : List Value) (cs : List Derived) → map (λ (v : Value). v.kind) vs ≡ map kind_in cs → map (λ (v : Value). v.content) vs ≡ map content_in cs →
      All (Decodes n file) vs → Each (DecodesTo n file) (map span_of vs) cs
  spans_decode [] [] p q all_none = each_none
  spans_decode [] (c ∷ cs) p q all_none = let z : 0 ≡ suc (length (map kind_in cs)) = ap length p in absurd (omega arith)
  spans_decode (v ∷ vs) [] p q (all_cons m ms) = let z : suc (length (map (λ (w : Value). w.kind) vs)) ≡ 0 = ap length p in absurd (omega arith)
  spans_decode (v ∷ vs) (c ∷ cs) p q (all_cons m ms) =
      let kind : v.kind ≡ kind_in c = cc in
      let content : v.content ≡ content_in c = cc in
      let kinds : map (λ (w : Value). w.kind) vs ≡ map kind_in cs = cc in
      let contents : map (λ (w : Value). w.content) vs ≡ map content_in cs = cc in
      each_cons (rw (kind, content) at m) (spans_decode vs cs kinds contents ms)

pub decoded_as_derived :
    (n : ℕ) (d : Dialect) (file : Bytes) (ls : List (Line Derived)) (a : Acceptable d file ls) → dialect_of n ≡ Some d →
    Each (DecodesTo n file) (concat (stretches d file ls a.derived)) (concat (map cells_in ls))
decoded_as_derived n d file ls a e =
    let room : ℕ = cell_count ls in
    let fits : cell_count ls ≤ room = omega arith in
    let vs : List Value = (reader n file room).cells in
    let x : AsDerived ls (reader n file room) = as_derived n d file room ls e a fits in
    let reported : (reader n file room).report ≡ accepted = (reader_exactly n d file room e).1 (ls, a, fits) in
    let spans : map span_of vs ≡ concat (stretches d file ls a.derived) = reader_places n d file room ls a.derived e reported in
    rw spans at (spans_decode n file vs (concat (map cells_in ls)) x.kinds x.contents (trips.reader_decodes n file room))
