-- The invariant of the scanner's loop, and one law for each path through a step.
use Prim.Native.Nat.{ℕ, suc, ◌+◌, ◌-◌, ◌^◌, ◌≤◌, ◌<◌}
use native.Mathlib.Numerals.{add-one}
use native.Mathlib.Omega.{arith}
use mathlib.Core.Path.{◌≡◌, refl, sym, ap, subst, ◌∙◌}
use mathlib.Core.Bool.{Bool, true, false, ◌&&◌}
use mathlib.Core.List.{List, [], ◌∷◌, map, map-append}
use lib.ListN.{length, drop, get_or, length-append, length-map, drop_of_length-le}
use lib.Seq.{drop-cons}
use lib.Dec.{leb}
use borrow.Author.Tests.{le-leb, lt-leb}
use Rattle.model.specs.rules.Base.{choose◌then◌else◌, Bytes}
use Rattle.model.specs.rules.Decode.{kind_number, kind_of}
use Rattle.model.specs.rules.Report.{MAXFILE, MAXRECORD}
use Rattle.model.specs.rules.File.{after_cell, counts}
use Rattle.model.specs.laws.Scans.{
  RawCell,
  Scan,
  ScanResult,
  pends,
  fails,
  closing_raw,
  scan_step,
  scan,
  in_record,
  fresh,
  bytes_in,
  SizedTo,
  sized_pends,
  sized_fails,
  sized_completes,
}
use Rattle.model.proofs.Tests.{impossible}
use Rattle.model.proofs.piece_laws.ScanSize.{scan_size}
use Rattle.model.specs.rules.Api.{slice}
use Rattle.cell_scanner.proofs.Runs.{part_end}
use Rattle.model.specs.declared.Dialect.{Dialect}
use Rattle.model.specs.declared.Cell.{Cell}
use Rattle.model.specs.declared.ByteFault.{ByteFault}
use Rattle.model.specs.declared.FileState.{FileState}
use Rattle.model.specs.declared.FileState.TheVariants.{Top, Begin, Ended, Bom1, Bom2, PlainBom1, PlainBom2, Comment, Blanks, ExpectCell, Inside, After, Cr}
use Rattle.model.specs.declared.ByteRole.{ByteRole}
use Rattle.model.specs.declared.ByteRole.TheVariants.{Outside, Passed, OfCell, Between, Tail, Ends}
use Rattle.model.specs.rules.Types.{Step}
use Rattle.std.specs.Prelude.{Ok, Err}
use Rattle.model.specs.declared.Fault.TheVariants.{Byte, FileTooLong, RecordTooLong}
use Rattle.record_scanner.specs.declared.record_state.RecordState.{RecordState}
use Rattle.record_scanner.specs.declared.token.Token.{Token}
use Rattle.record_scanner.specs.declared.token.Token.TheVariants.{Is, Skipped, AfterCell, Refused, Open}
use Rattle.record_scanner.specs.declared.token.ScanOutcome.{ScanOutcome}
use Rattle.record_scanner.specs.declared.token.ScanOutcome.TheVariants as reached
use Rattle.record_scanner.specs.CurrentRecord.{closes_cell, ends_record, one_more, state_after_byte, extended_by}
use Rattle.record_scanner.specs.Parts.{current_of, Found, found_of, found_in, raw_starts, raw_ends, raw_kinds, CurrentInBounds, ScanInBounds}
use Rattle.record_scanner.specs.Tokens.{scan_at, cells_next, stepped_at, met_next, outer, TokenInBounds, TokenCorrect}
use Rattle.record_scanner.specs.Stored.{store_if, stored_from}
use Rattle.record_scanner.proofs.StoreLaws.{stored_from_snoc, length_stored_from}
use Rattle.record_scanner.proofs.TokenOutcomes.{goes_to, refuses}
use Rattle.record_scanner.proofs.OuterStates.{Calm, step_calm, after_calm, leaves, passes, grows, blanks, parts, tails, finishes}

-- ---- lists

-- the current cell, if it ends before the next byte
abbrev pub cell_here : Scan → RawCell
cell_here s = record { from = s.opened; upto = s.offset; bytes = s.raw }

abbrev from_of : RawCell → ℕ
from_of c = c.from

abbrev upto_of : RawCell → ℕ
upto_of c = c.upto

abbrev number_of : Dialect → RawCell → ℕ
number_of d c = kind_number (kind_of d c.bytes)

-- the cell that ends is stored after the others
pub closing_written : (φ : RawCell → ℕ) (room base n : ℕ) (old : List ℕ) (k : Bool) (s : Scan) → length s.cells ≡ n
    → store_if k room (base + n) (φ (cell_here s)) (stored_from room base (map φ s.cells) old) ≡ stored_from room base (map φ (closing_raw k s)) old
unfolding store_if choose◌then◌else◌
closing_written φ room base n old true s e =
    let l : length (map φ s.cells) ≡ n = length-map s.cells φ ∙ e in
    rw (map-append φ s.cells (cell_here s ∷ []), stored_from_snoc room base (map φ s.cells) (φ (cell_here s)) old, l)
closing_written φ room base n old false s e = refl

closing_counts : (k : Bool) (s : Scan) (n : ℕ) → length s.cells ≡ n → length (closing_raw k s) ≡ one_more k n
unfolding one_more choose◌then◌else◌
closing_counts true s n e = length-append s.cells (cell_here s ∷ []) ∙ ap (λ (m : ℕ). m + 1) e
closing_counts false s n e = e

one_more_few : (k : Bool) (a n i : ℕ) → a + n ≤ i → a + one_more k n ≤ i + 1
unfolding one_more choose◌then◌else◌
one_more_few true a n i h = omega arith
one_more_few false a n i h = omega arith

-- between records there is no current cell
pub between_outer : (f : FileState) → in_record f ≡ false → outer f ≡ true
between_outer Top e = refl
between_outer Begin e = refl
between_outer Ended e = refl
between_outer Bom1 e = refl
between_outer Bom2 e = refl
between_outer PlainBom1 e = impossible (sym e)
between_outer PlainBom2 e = impossible (sym e)
between_outer (Comment c) e = refl
between_outer Blanks e = refl
between_outer ExpectCell e = impossible (sym e)
between_outer (Inside c) e = impossible (sym e)
between_outer After e = impossible (sym e)
between_outer Cr e = impossible (sym e)

-- ---- the size of the current record

-- the counted bytes of the current record, if the part ends in one
abbrev size_in : ScanOutcome → ℕ
size_in (reached.Completed start cells f next) = 0
size_in (reached.NeedInput f h) = h.size
size_in (reached.Failed e offset) = 0

size_found : {w : ScanResult} → SizedTo w → size_in (found_of w).answer ≤ MAXRECORD
size_found (sized_pends z) = z.limit
size_found (sized_fails z) = omega arith
size_found (sized_completes z l) = omega arith

-- ---- the invariant

-- the arguments of a call: where reading begins, the index of the first cell, and the lists at entry
pub record Call : Type 0 where
  pub d : Dialect
  pub part : Bytes
  pub first : FileState
  pub size : ℕ
  pub limit : ℕ
  pub from : ℕ
  pub room : ℕ
  pub base : ℕ
  pub starts₀ : List ℕ
  pub ends₀ : List ℕ
  pub kinds₀ : List ℕ

module _ (call : Call) where
  open call use {d, part, first, size, limit, from, room, base, starts₀, ends₀, kinds₀}

  abbrev Whole : Found
  Whole = found_in d limit (fresh first size from) (drop from part)

  -- the lists hold the complete cells of the current record
  pub record Holds (cs : List RawCell) (starts ends kinds : List ℕ) : Type 0 where
    pub at_starts : starts ≡ stored_from room base (map from_of cs) starts₀
    pub at_ends : ends ≡ stored_from room base (map upto_of cs) ends₀
    pub at_kinds : kinds ≡ stored_from room base (map (number_of d) cs) kinds₀

  -- the part from i on remains to be read, in this state and with this record; nothing else is assumed of i
  pub record InPart (f : FileState) (i : ℕ) (h : RecordState) (cs : List RawCell) : Type 0 where
    pub onward : from ≤ i
    pub inside : i ≤ length part
    pub under : i ≤ limit
    pub counted : length cs ≡ h.cells
    pub few : base + h.cells ≤ i
    pub low : limit ≤ MAXFILE
    pub sized : h.size ≤ MAXRECORD + i
    pub started : h.start ≤ i
    pub opened : h.opened ≤ i
    pub rest : outer f ≡ true → cs ≡ []

  pub record Scanning (f : FileState) (i : ℕ) (h : RecordState) (starts ends kinds : List ℕ) : Type 0 where
    pub cs : List RawCell
    pub same : Whole ≡ found_in d limit (scan_at part f i h cs) (drop i part)
    pub place : InPart f i h cs
    pub lists : Holds cs starts ends kinds

  pub begins : from ≤ length part → from ≤ limit → base ≤ from → size ≤ MAXRECORD → limit ≤ MAXFILE
      → Scanning first from (record { start = from; size = size; opened = from; cells = 0 }) starts₀ ends₀ kinds₀
  unfolding stored_from
  begins l m b z low =
      record {
        cs = [];
        same =
            ap (λ (raw : Bytes). found_in d limit (record {
              state = first;
              offset = from;
              start = from;
              size = size;
              opened = from;
              raw = raw;
              cells = [];
            }) (drop from part)) (sym (part_end part from));
        place =
            record {
              onward = omega arith;
              inside = l;
              under = m;
              counted = refl;
              few = omega arith;
              low = low;
              sized = omega arith;
              started = omega arith;
              opened = omega arith;
              rest = λ _. refl;
            };
        lists = record { at_starts = refl; at_ends = refl; at_kinds = refl };
      }

  -- ---- one byte

  module _ {f : FileState} {i : ℕ} {h : RecordState} {cs : List RawCell} (q : InPart f i h cs) where
    abbrev Here : Scan
    Here = scan_at part f i h cs

    -- what is stored if this byte ends a cell
    abbrev PutStarts : ByteRole → List ℕ → List ℕ
    PutStarts p xs = store_if (closes_cell p) room (base + h.cells) h.opened xs

    abbrev PutEnds : ByteRole → List ℕ → List ℕ
    PutEnds p xs = store_if (closes_cell p) room (base + h.cells) i xs

    abbrev PutKinds : ByteRole → List ℕ → List ℕ
    PutKinds p xs = store_if (closes_cell p) room (base + h.cells) (kind_number (kind_of d (slice part h.opened i))) xs

    -- the lists hold the record's cells after a byte, whether it ends one or not
    put_closing : (k : Bool) {starts ends kinds : List ℕ} → Holds cs starts ends kinds
        → Holds (closing_raw k Here) (store_if k room (base + h.cells) h.opened starts) (store_if k room (base + h.cells) i ends)
        (store_if k room (base + h.cells) (kind_number (kind_of d (slice part h.opened i))) kinds)
    put_closing k y =
        record {
          at_starts =
              ap (λ (xs : List ℕ). store_if k room (base + h.cells) h.opened xs) y.at_starts
              ∙ closing_written from_of room base h.cells starts₀ k Here q.counted;
          at_ends =
              ap (λ (xs : List ℕ). store_if k room (base + h.cells) i xs) y.at_ends ∙ closing_written upto_of room base h.cells ends₀ k Here q.counted;
          at_kinds =
              ap (λ (xs : List ℕ). store_if k room (base + h.cells) (kind_number (kind_of d (slice part h.opened i))) xs) y.at_kinds
              ∙ closing_written (number_of d) room base h.cells kinds₀ k Here q.counted;
        }

    -- no cell ends, and none was complete
    put_none : {starts ends kinds : List ℕ} → cs ≡ [] → Holds cs starts ends kinds
        → Holds [] (store_if false room (base + h.cells) h.opened starts) (store_if false room (base + h.cells) i ends)
        (store_if false room (base + h.cells) (kind_number (kind_of d (slice part h.opened i))) kinds)
    unfolding store_if choose◌then◌else◌
    put_none {starts = starts} {ends = ends} {kinds = kinds} e y = subst (λ (ws : List RawCell). Holds ws starts ends kinds) e y

    put_same : {starts ends kinds : List ℕ} → Holds cs starts ends kinds
        → Holds cs (store_if false room (base + h.cells) h.opened starts) (store_if false room (base + h.cells) i ends)
        (store_if false room (base + h.cells) (kind_number (kind_of d (slice part h.opened i))) kinds)
    unfolding store_if choose◌then◌else◌
    put_same y = y

    module _ (g : FileState) (l : i < length part) (m : i < limit) where
      goes_on : (p : ByteRole) → ends_record p ≡ false → Whole ≡ stepped_at d limit part f i h cs (Ok (g, p))
          → Whole ≡ found_in d limit (scan_at part g (i + 1) (state_after_byte p i h) (cells_next p Here)) (drop (i + 1) part)
      goes_on p e w = w ∙ goes_to d limit part p f g i h cs q.opened l e

      pub on : (p : ByteRole) → Calm f (get_or part i 0) (Ok (g, p)) → ends_record p ≡ false → Whole ≡ stepped_at d limit part f i h cs (Ok (g, p))
          → {starts ends kinds : List ℕ} → Holds cs starts ends kinds
          → Scanning g (i + 1) (state_after_byte p i h) (PutStarts p starts) (PutEnds p ends) (PutKinds p kinds)
      on Outside (leaves o) e w y =
          let b : base + h.cells ≤ i = q.few in
          let w' : from ≤ i = q.onward in
          let t' : h.start ≤ i = q.started in
          record { cs = []; same = goes_on Outside e w; place = record { onward = omega arith; inside = omega arith; under = omega arith; counted = refl; few = omega arith; low = q.low; sized = omega arith; started = omega arith; opened = omega arith; rest = λ _. refl }; lists = put_none (q.rest o) y }
      on Passed (passes o) e w y =
          let b : base + h.cells ≤ i = q.few in
          let w' : from ≤ i = q.onward in
          let t' : h.start ≤ i = q.started in
          record { cs = []; same = goes_on Passed e w; place = record { onward = omega arith; inside = omega arith; under = omega arith; counted = refl; few = omega arith; low = q.low; sized = omega arith; started = omega arith; opened = omega arith; rest = λ _. refl }; lists = put_none (q.rest o) y }
      on OfCell (grows n' o) e w y =
          let b : base + h.cells ≤ i = q.few in
          let w' : from ≤ i = q.onward in
          let t' : h.start ≤ i = q.started in
          let s : h.size ≤ MAXRECORD + i = q.sized in
          let n : h.opened ≤ i = q.opened in
          record { cs = cs; same = goes_on OfCell e w; place = record { onward = omega arith; inside = omega arith; under = omega arith; counted = q.counted; few = omega arith; low = q.low; sized = omega arith; started = omega arith; opened = omega arith; rest = λ t. impossible (sym o ∙ t) }; lists = put_same y }
      on (Between k) (blanks n' o) e w y =
          let b : base + h.cells ≤ i = q.few in
          let w' : from ≤ i = q.onward in
          let t' : h.start ≤ i = q.started in
          let s : h.size ≤ MAXRECORD + i = q.sized in
          record { cs = closing_raw false Here; same = goes_on (Between false) e w; place = record { onward = omega arith; inside = omega arith; under = omega arith; counted = closing_counts false Here h.cells q.counted; few = one_more_few false base h.cells i b; low = q.low; sized = omega arith; started = omega arith; opened = omega arith; rest = λ _. q.rest o }; lists = put_closing false y }
      on (Between k) (parts n' o) e w y =
          let b : base + h.cells ≤ i = q.few in
          let w' : from ≤ i = q.onward in
          let t' : h.start ≤ i = q.started in
          let s : h.size ≤ MAXRECORD + i = q.sized in
          record { cs = closing_raw k Here; same = goes_on (Between k) e w; place = record { onward = omega arith; inside = omega arith; under = omega arith; counted = closing_counts k Here h.cells q.counted; few = one_more_few k base h.cells i b; low = q.low; sized = omega arith; started = omega arith; opened = omega arith; rest = λ t. impossible (sym o ∙ t) }; lists = put_closing k y }
      on (Tail k) (tails o) e w y =
          let b : base + h.cells ≤ i = q.few in
          let w' : from ≤ i = q.onward in
          let t' : h.start ≤ i = q.started in
          let s : h.size ≤ MAXRECORD + i = q.sized in
          record { cs = closing_raw k Here; same = goes_on (Tail k) e w; place = record { onward = omega arith; inside = omega arith; under = omega arith; counted = closing_counts k Here h.cells q.counted; few = one_more_few k base h.cells i b; low = q.low; sized = omega arith; started = omega arith; opened = omega arith; rest = λ t. impossible (sym o ∙ t) }; lists = put_closing k y }
      on (Ends k) (finishes o) e w y = impossible (sym e)

  -- ---- the exits of the loop

  -- the outcome, its bounds, and the lists with its cells
  pub record Out (e : ScanOutcome) (starts ends kinds : List ℕ) : Type 0 where
    pub answer : e ≡ Whole.answer
    pub at_starts : starts ≡ stored_from room base (raw_starts Whole.cells) starts₀
    pub at_ends : ends ≡ stored_from room base (raw_ends Whole.cells) ends₀
    pub at_kinds : kinds ≡ stored_from room base (raw_kinds d Whole.cells) kinds₀
    pub bounds : ScanInBounds (length part) from limit base e

  gives : (n : Found) {starts ends kinds : List ℕ} → Whole ≡ n → Holds n.cells starts ends kinds
      → ScanInBounds (length part) from limit base n.answer → Out n.answer starts ends kinds
  gives n w y b =
      record {
        answer = ap (λ (x : Found). x.answer) (sym w);
        at_starts = y.at_starts ∙ ap (λ (x : Found). stored_from room base (raw_starts x.cells) starts₀) (sym w);
        at_ends = y.at_ends ∙ ap (λ (x : Found). stored_from room base (raw_ends x.cells) ends₀) (sym w);
        at_kinds = y.at_kinds ∙ ap (λ (x : Found). stored_from room base (raw_kinds d x.cells) kinds₀) (sym w);
        bounds = b;
      }

  module _ {f : FileState} {i : ℕ} {h : RecordState} {starts ends kinds : List ℕ} (y : Scanning f i h starts ends kinds) where
    abbrev There : Scan
    There = scan_at part f i h y.cs

    pub too_long_file : i < length part → limit ≤ i → Out (reached.Failed FileTooLong i) starts ends kinds
    unfolding scan choose◌then◌else◌
    too_long_file l m =
        let n : drop i part ≡ get_or part i 0 ∷ drop (i + 1) part = rw (add-one, drop-cons part i 0) in
        gives (found_of (fails FileTooLong There)) (y.same ∙ rw (n, scan, le-leb limit i m)) y.lists l

    pub too_long_record : i < length part → i < limit → (leb MAXRECORD h.size && counts f (get_or part i 0)) ≡ true
        → Out (reached.Failed RecordTooLong i) starts ends kinds
    unfolding scan choose◌then◌else◌
    too_long_record l m e =
        let n : drop i part ≡ get_or part i 0 ∷ drop (i + 1) part = rw (add-one, drop-cons part i 0) in
        gives (found_of (fails RecordTooLong There)) (y.same ∙ rw (n, scan, lt-leb limit i m, e)) y.lists l

    ended : length part ≤ i → Whole ≡ found_of (pends There)
    unfolding scan
    ended l =
        let n : drop i part ≡ [] = drop_of_length-le part l in
        y.same ∙ rw n

    -- the part ends here
    pub pending : length part ≤ i → size ≤ MAXRECORD → Out (reached.NeedInput f h) starts ends kinds
    unfolding bytes_in
    pending l z =
        let w : Whole ≡ found_of (pends There) = ended l in
        let held : 0 + 0 ≤ size = omega arith in
        let all : size_in Whole.answer ≤ MAXRECORD =
        size_found (scan_size d limit (fresh first size from) (drop from part) (record { held = held; limit = z })) in
        let s : h.size ≤ MAXRECORD = subst (λ (x : Found). size_in x.answer ≤ MAXRECORD) w all in
        let c : length y.cs ≡ h.cells = y.place.counted in
        let n : i ≤ length part = y.place.inside in
        let u : i ≤ limit = y.place.under in
        let t : h.start ≤ i = y.place.started in
        let o : h.opened ≤ i = y.place.opened in
        let b : base + h.cells ≤ i = y.place.few in
        let bounds : CurrentInBounds (length part) limit base f h =
        record {
          under = omega arith;
          size = s;
          start = omega arith;
          opened = omega arith;
          few = omega arith;
          between = λ e. sym c ∙ ap length (y.place.rest (between_outer f e));
        } in
        let e : reached.NeedInput f (current_of There) ≡ reached.NeedInput f h =
        ap (λ (m : ℕ). reached.NeedInput f (record { start = h.start; size = h.size; opened = h.opened; cells = m })) c in
        subst (λ (x : ScanOutcome). Out x starts ends kinds) e
        (gives (found_of (pends There)) w y.lists (subst (λ (x : ScanOutcome). ScanInBounds (length part) from limit base x) (sym e) bounds))

  -- a byte that ends its record, or that is refused
  module _ {f : FileState} {i : ℕ} {h : RecordState} {cs : List RawCell} (q : InPart f i h cs) (l : i < length part) (m : i < limit)
      {starts ends kinds : List ℕ} (y : Holds cs starts ends kinds) where
    refused : (x : ByteFault) → Whole ≡ stepped_at d limit part f i h cs (Err x) → Out (reached.Failed (Byte x) i) starts ends kinds
    refused x w = gives (record { answer = reached.Failed (Byte x) i; cells = cs }) (w ∙ refuses d limit part x f i h cs) y l

    ends_here : (g : FileState) (k : Bool) → Whole ≡ stepped_at d limit part f i h cs (Ok (g, Ends k))
        → Out (reached.Completed h.start (one_more k h.cells) g (i + 1)) (store_if k room (base + h.cells) h.opened starts)
        (store_if k room (base + h.cells) i ends) (store_if k room (base + h.cells) (kind_number (kind_of d (slice part h.opened i))) kinds)
    unfolding scan_step
    ends_here g k w =
        let r : Scan = scan_at part f i h cs in
        let n : length (closing_raw k r) ≡ one_more k h.cells = closing_counts k r h.cells q.counted in
        let z : suc i ≡ i + 1 = sym (add-one i) in
        let v : Whole ≡ record { answer = reached.Completed h.start (one_more k h.cells) g (i + 1); cells = closing_raw k r } =
        w ∙ ap (λ (m : ℕ). record { answer = reached.Completed h.start m g (suc i); cells = closing_raw k r }) n
        ∙ ap (λ (o : ℕ). record { answer = reached.Completed h.start (one_more k h.cells) g o; cells = closing_raw k r }) z in
        let t : h.start ≤ i = q.started in
        let w' : from ≤ i = q.onward in
        gives (record {
          answer = reached.Completed h.start (one_more k h.cells) g (i + 1);
          cells = closing_raw k r;
        }) v (put_closing q k y) (omega arith, omega arith, omega arith, omega arith, one_more_few k base h.cells i q.few)

    ends_record_lem : (g : FileState) (p : ByteRole) → ends_record p ≡ true → Whole ≡ stepped_at d limit part f i h cs (Ok (g, p))
        → Out (reached.Completed (state_after_byte p i h).start (state_after_byte p i h).cells g (i + 1))
        (store_if (closes_cell p) room (base + h.cells) h.opened starts) (store_if (closes_cell p) room (base + h.cells) i ends)
        (store_if (closes_cell p) room (base + h.cells) (kind_number (kind_of d (slice part h.opened i))) kinds)
    ends_record_lem g Outside e w = impossible e
    ends_record_lem g Passed e w = impossible e
    ends_record_lem g OfCell e w = impossible e
    ends_record_lem g (Between k) e w = impossible e
    ends_record_lem g (Tail k) e w = impossible e
    ends_record_lem g (Ends k) e w = ends_here g k w

  -- ---- tokens of more than one byte

  pub grows_to : {f : FileState} {i j : ℕ} {h : RecordState} {cs : List RawCell} → i ≤ j → j ≤ length part → j ≤ limit → InPart f i h cs
      → InPart f j (extended_by h (j - i)) cs
  grows_to {i = i} {j = j} {h = h} l m n q =
      let b : base + h.cells ≤ i = q.few in
      let w' : from ≤ i = q.onward in
      let s : h.size ≤ MAXRECORD + i = q.sized in
      let t : h.start ≤ i = q.started in
      let o : h.opened ≤ i = q.opened in
      record { onward = omega arith; inside = m; under = n; counted = q.counted; few = omega arith; low = q.low; sized = omega arith; started = omega arith; opened = omega arith; rest = q.rest }

  pub still_open : {f : FileState} {c : Cell} {i j : ℕ} {h : RecordState} {starts ends kinds : List ℕ}
      (y : Scanning f i h starts ends kinds) → i < j → j ≤ length part → j ≤ limit
      → Whole ≡ found_in d limit (scan_at part (Inside c) j (extended_by h (j - i)) y.cs) (drop j part)
      → Scanning (Inside c) j (extended_by h (j - i)) starts ends kinds
  still_open {i = i} {j = j} {h = h} y l m n w =
      let b : base + h.cells ≤ i = y.place.few in
      let w' : from ≤ i = y.place.onward in
      let s : h.size ≤ MAXRECORD + i = y.place.sized in
      let t : h.start ≤ i = y.place.started in
      let o : h.opened ≤ i = y.place.opened in
      record { cs = y.cs; same = w; place = record { onward = omega arith; inside = m; under = n; counted = y.place.counted; few = omega arith; low = y.place.low; sized = omega arith; started = omega arith; opened = omega arith; rest = λ t. impossible t }; lists = y.lists }

  pub skipped : {f : FileState} {i j : ℕ} {h : RecordState} {starts ends kinds : List ℕ} (y : Scanning f i h starts ends kinds)
      → outer f ≡ true → i < j → j ≤ length part → j ≤ limit
      → Whole ≡ found_in d limit (scan_at part f j (state_after_byte Outside (j - 1) h) []) (drop j part)
      → Scanning f j (state_after_byte Outside (j - 1) h) starts ends kinds
  skipped {i = i} {j = j} {h = h} {starts = ss} {ends = es} {kinds = ks} y o l m n w =
      let b : base + h.cells ≤ i = y.place.few in
      let w' : from ≤ i = y.place.onward in
      let t : h.start ≤ i = y.place.started in
      record { cs = []; same = w; place = record { onward = omega arith; inside = m; under = n; counted = refl; few = omega arith; low = y.place.low; sized = omega arith; started = omega arith; opened = omega arith; rest = λ _. refl }; lists = subst (λ (ws : List RawCell). Holds ws ss es ks) (y.place.rest o) y.lists }

  -- ---- lengths

  pub lengths : {cs : List RawCell} {starts ends kinds : List ℕ} → Holds cs starts ends kinds
      → (length starts ≡ length starts₀) × (length ends ≡ length ends₀) × (length kinds ≡ length kinds₀)
  lengths {cs = cs} y = (
    ap length y.at_starts ∙ length_stored_from room base (map from_of cs) starts₀,
    ap length y.at_ends ∙ length_stored_from room base (map upto_of cs) ends₀,
    ap length y.at_kinds ∙ length_stored_from room base (map (number_of d) cs) kinds₀,
  )

  -- ---- the step of one byte, as the code computes it

  pub record Stepping (f : FileState) (i : ℕ) (h : RecordState) (s : Step) (starts ends kinds : List ℕ) : Type 0 where
    pub cs : List RawCell
    pub whole : Whole ≡ stepped_at d limit part f i h cs s
    pub place : InPart f i h cs
    pub lists : Holds cs starts ends kinds
    pub calm : Calm f (get_or part i 0) s
    pub inside : i < length part
    pub under : i < limit

  -- the byte at i is not one too many, and this token is next
  pub record Asked (f : FileState) (i : ℕ) (h : RecordState) (starts ends kinds : List ℕ) (met : Token) : Type 0 where
    pub scanning : Scanning f i h starts ends kinds
    pub inside : i < length part
    pub under : i < limit
    pub fits : (leb MAXRECORD h.size && counts f (get_or part i 0)) ≡ false
    pub lies : TokenInBounds d limit part f i met
    pub comes : TokenCorrect d limit part f i h.size met

  pub ask : {f : FileState} {i : ℕ} {h : RecordState} {starts ends kinds : List ℕ} {met : Token} → Scanning f i h starts ends kinds
      → i < length part → i < limit → (leb MAXRECORD h.size && counts f (get_or part i 0)) ≡ false → TokenInBounds d limit part f i met
      → TokenCorrect d limit part f i h.size met → Asked f i h starts ends kinds met
  ask s m u n l t = record { scanning = s; inside = m; under = u; fits = n; lies = l; comes = t }

  module _ {f : FileState} {i : ℕ} {h : RecordState} {starts ends kinds : List ℕ} {met : Token} (a : Asked f i h starts ends kinds met) where
    comes_to : Whole ≡ met_next d limit part f i h a.scanning.cs met
    comes_to = a.scanning.same ∙ a.comes.comes h a.scanning.cs refl a.scanning.place.opened a.fits

    pub by_byte : (s : Step) → met ≡ Is s → Stepping f i h s starts ends kinds
    unfolding met_next
    by_byte s q =
        let n : TokenInBounds d limit part f i (Is s) = subst (λ (x : Token). TokenInBounds d limit part f i x) q a.lies in
        let w : Whole ≡ met_next d limit part f i h a.scanning.cs (Is s) = comes_to ∙ ap (λ (x : Token). met_next d limit part f i h a.scanning.cs x) q in
        record { cs = a.scanning.cs; whole = w; place = a.scanning.place; lists = a.scanning.lists; calm = subst (λ (x : Step). Calm f (get_or part i 0) x) (sym n) (step_calm d f (get_or part i 0)); inside = a.inside; under = a.under }

    pub by_cell : (closes : Bool) (j : ℕ) → met ≡ AfterCell closes j → (g : RecordState) → g ≡ extended_by h (j - i) → (s : Step)
        → s ≡ after_cell d closes (get_or part j 0) → Stepping f j g s starts ends kinds
    unfolding met_next
    by_cell closes j q g eg s es =
        let n : TokenInBounds d limit part f i (AfterCell closes j) = subst (λ (x : Token). TokenInBounds d limit part f i x) q a.lies in
        let w : Whole ≡ met_next d limit part f i h a.scanning.cs (AfterCell closes j) =
        comes_to ∙ ap (λ (x : Token). met_next d limit part f i h a.scanning.cs x) q in
        let k : j < length part = n.1 in
        let u : j < limit = n.2 in
        subst (λ (x : RecordState). Stepping f j x s starts ends kinds) (sym eg)
        (subst (λ (x : Step). Stepping f j (extended_by h (j - i)) x starts ends kinds) (sym es)
        (record {
          cs = a.scanning.cs;
          whole = w;
          place = grows_to n.0 (omega arith) (omega arith) a.scanning.place;
          lists = a.scanning.lists;
          calm = after_calm f (get_or part j 0) d closes;
          inside = k;
          under = u;
        }))

    pub by_skip : (j : ℕ) → met ≡ Skipped j → (g : RecordState) → g ≡ state_after_byte Outside (j - 1) h → Scanning f j g starts ends kinds
    unfolding met_next
    by_skip j q g eg =
        let n : TokenInBounds d limit part f i (Skipped j) = subst (λ (x : Token). TokenInBounds d limit part f i x) q a.lies in
        let w : Whole ≡ met_next d limit part f i h a.scanning.cs (Skipped j) =
        comes_to ∙ ap (λ (x : Token). met_next d limit part f i h a.scanning.cs x) q in
        subst (λ (x : RecordState). Scanning f j x starts ends kinds) (sym eg) (skipped a.scanning n.0 n.1 n.2 n.3 w)

    pub by_open : (c : Cell) (j : ℕ) → met ≡ Open c j → (g : RecordState) → g ≡ extended_by h (j - i) → Scanning (Inside c) j g starts ends kinds
    unfolding met_next
    by_open c j q g eg =
        let n : TokenInBounds d limit part f i (Open c j) = subst (λ (x : Token). TokenInBounds d limit part f i x) q a.lies in
        let w : Whole ≡ met_next d limit part f i h a.scanning.cs (Open c j) =
        comes_to ∙ ap (λ (x : Token). met_next d limit part f i h a.scanning.cs x) q in
        subst (λ (x : RecordState). Scanning (Inside c) j x starts ends kinds) (sym eg) (still_open a.scanning n.0 n.1 n.2 w)

    pub by_refusal : (x : ByteFault) (j : ℕ) → met ≡ Refused x j → Out (reached.Failed (Byte x) j) starts ends kinds
    unfolding met_next
    by_refusal x j q =
        let n : j < length part = subst (λ (t : Token). TokenInBounds d limit part f i t) q a.lies in
        gives (record {
          answer = reached.Failed (Byte x) j;
          cells = a.scanning.cs;
        }) (comes_to ∙ ap (λ (t : Token). met_next d limit part f i h a.scanning.cs t) q) a.scanning.lists n

    -- its bounds
    pub lies_cell : (closes : Bool) (j : ℕ) → met ≡ AfterCell closes j → (i ≤ j) × (j < length part) × (j < limit)
    lies_cell closes j q = subst (λ (x : Token). TokenInBounds d limit part f i x) q a.lies

    pub lies_skip : (j : ℕ) → met ≡ Skipped j → (i < j) × (j ≤ length part) × (j ≤ limit)
    lies_skip j q =
        let n : TokenInBounds d limit part f i (Skipped j) = subst (λ (x : Token). TokenInBounds d limit part f i x) q a.lies in (n.1, n.2, n.3)

    pub lies_open : (c : Cell) (j : ℕ) → met ≡ Open c j → (i < j) × (j ≤ length part) × (j ≤ limit)
    lies_open c j q = subst (λ (x : Token). TokenInBounds d limit part f i x) q a.lies

  -- what the contracts of the calls say of a step
  module _ {f : FileState} {i : ℕ} {h : RecordState} {starts ends kinds : List ℕ} {s : Step} (y : Stepping f i h s starts ends kinds) where
    pub step_refused : (x : ByteFault) → s ≡ Err x → Out (reached.Failed (Byte x) i) starts ends kinds
    step_refused x q = refused y.place y.inside y.under y.lists x (y.whole ∙ ap (λ (t : Step). stepped_at d limit part f i h y.cs t) q)

    module _ (g : FileState) (p : ByteRole) (q : s ≡ Ok (g, p)) (closes : Bool) (c : closes ≡ closes_cell p) (starts' ends' kinds' : List ℕ)
        (put : (starts' ≡ store_if closes room (base + h.cells) h.opened
        starts) × ((ends' ≡ store_if closes room (base + h.cells) i ends) × (kinds' ≡ store_if closes room (base + h.cells)
        (kind_number (kind_of d (slice part h.opened i)))
        kinds))) (h' : RecordState) (eh : h' ≡ state_after_byte p i h) (over : Bool) (eo : over ≡ ends_record p) where
      stepped_to : Whole ≡ stepped_at d limit part f i h y.cs (Ok (g, p))
      stepped_to = y.whole ∙ ap (λ (t : Step). stepped_at d limit part f i h y.cs t) q

      put_starts : starts' ≡ store_if (closes_cell p) room (base + h.cells) h.opened starts
      put_starts = put.0 ∙ ap (λ (k : Bool). store_if k room (base + h.cells) h.opened starts) c

      put_ends : ends' ≡ store_if (closes_cell p) room (base + h.cells) i ends
      put_ends = put.1.0 ∙ ap (λ (k : Bool). store_if k room (base + h.cells) i ends) c

      put_kinds : kinds' ≡ store_if (closes_cell p) room (base + h.cells) (kind_number (kind_of d (slice part h.opened i))) kinds
      put_kinds = put.1.1 ∙ ap (λ (k : Bool). store_if k room (base + h.cells) (kind_number (kind_of d (slice part h.opened i))) kinds) c

      pub step_on : over ≡ false → Scanning g (i + 1) h' starts' ends' kinds'
      step_on z =
          rw (eh, put_starts, put_ends, put_kinds)
          (on y.place g y.inside y.under p (subst (λ (t : Step). Calm f (get_or part i 0) t) q y.calm) (sym eo ∙ z) stepped_to y.lists)

      pub step_over : over ≡ true → Out (reached.Completed h'.start h'.cells g (i + 1)) starts' ends' kinds'
      step_over z =
          rw (eh, put_starts, put_ends, put_kinds)
          (ends_record_lem y.place y.inside y.under y.lists g p (sym eo ∙ z) stepped_to)

  -- ---- no overflow

  pub small_sum : {f : FileState} {i : ℕ} {h : RecordState} {s : Step} {starts ends kinds : List ℕ} → Stepping f i h s starts ends kinds
      → base + h.cells < 2 ^ 64
  small_sum {i = i} {h = h} y =
      let b : base + h.cells ≤ i = y.place.few in
      let u : i < limit = y.under in
      let v : limit ≤ MAXFILE = y.place.low in
      omega arith

  pub small_step : {f : FileState} {i : ℕ} {h : RecordState} {s : Step} {starts ends kinds : List ℕ} → Stepping f i h s starts ends kinds
      → (i + 1 < 2 ^ 64) × (h.size + 1 < 2 ^ 64) × (h.cells + 1 < 2 ^ 64)
  small_step {i = i} {h = h} y =
      let b : base + h.cells ≤ i = y.place.few in
      let z : h.size ≤ MAXRECORD + i = y.place.sized in
      let u : i < limit = y.under in
      let v : limit ≤ MAXFILE = y.place.low in
      (omega arith, omega arith, omega arith)
