-- A part of a file that begins in a record. Nothing lies outside the record up to its end (`proceeds`). Where a cell is open, that cell
-- is the first that closes, and all others begin later (`first_closes`); and every byte of a cell counts, beside those that were counted
-- before (`grows`).
use Prim.Native.Nat.{ℕ, suc, ◌+◌, ◌≤◌}
use native.Mathlib.Omega.{arith}
use mathlib.Core.Path.{◌≡◌, refl}
use mathlib.Core.Bool.{Bool, true, false}
use mathlib.Core.List.{List, [], ◌∷◌, ◌++◌}
use lib.ListN.{length, length-append}
use Rattle.model.specs.rules.Base.{Bytes}
use Rattle.model.specs.rules.File.{file_step}
use Rattle.model.specs.laws.Laws.{All, all_none}
use Rattle.model.specs.laws.Scans.{RawCell, Scan, ScanResult, pends, fails, completes, closing_raw, scan_step, scan, in_record, bytes_in}
use Rattle.model.proofs.Tests.{split, impossible}
use Rattle.model.proofs.cell_laws.CellRuns.{all_snoc}
use Rattle.model.proofs.file_laws.FileSteps as steps
use Rattle.model.proofs.file_laws.FileSteps.{Rests, Around, Grown, Free, Starts, Opens, Leaves, Transition, step_transition}
use Rattle.piece_step.specs.Types.{Dialect, FileState, Top, Begin, Ended, Bom1, Bom2, PlainBom1, PlainBom2, Comment, Blanks, ExpectCell, Inside, After}
use Rattle.piece_step.specs.Types.{Cr, Outside, Passed, OfCell, Between, Tail, Ends, Step, Ok, Err, ByteFault, Fault}
use Rattle.piece_step.specs.Invariant.{in_cell}

-- ---- a byte of a record

-- it stays in the record or ends it, and where a cell is open it belongs to the cell or closes it
pub data Proceeds (f : FileState) : Step → Type 0 where
  go_fault : {e : ByteFault} → Proceeds f (Err e)
  go_cell : {g : FileState} → in_cell g ≡ true → Proceeds f (Ok (g, OfCell))
  go_between : {g : FileState} {k : Bool} → in_record g ≡ true → (in_cell f ≡ true → k ≡ true) → Proceeds f (Ok (g, (Between k)))
  go_tail : {g : FileState} {k : Bool} → in_record g ≡ true → (in_cell f ≡ true → k ≡ true) → Proceeds f (Ok (g, (Tail k)))
  go_ends : {g : FileState} {k : Bool} → (in_cell f ≡ true → k ≡ true) → Proceeds f (Ok (g, (Ends k)))

pub cell_record : (f : FileState) → in_cell f ≡ true → in_record f ≡ true
cell_record Top h = h
cell_record Begin h = h
cell_record Ended h = h
cell_record Bom1 h = h
cell_record Bom2 h = h
cell_record PlainBom1 h = h
cell_record PlainBom2 h = h
cell_record (Comment c) h = h
cell_record Blanks h = h
cell_record ExpectCell h = refl
cell_record (Inside c) h = h
cell_record After h = refl
cell_record Cr h = refl

rests_not : {A : Type 0} {f : FileState} → Rests f → in_record f ≡ true → A
rests_not steps.top h = impossible h
rests_not steps.begin h = impossible h
rests_not steps.ended h = impossible h
rests_not steps.bom1 h = impossible h
rests_not steps.bom2 h = impossible h
rests_not steps.comment h = impossible h

around_not : {A : Type 0} {d : Dialect} {f : FileState} → Around d f → in_record f ≡ true → A
around_not (steps.rests r) h = rests_not r h
around_not steps.unread h = impossible h

pub starts_not : {A : Type 0} {f : FileState} → Starts f → in_record f ≡ true → A
starts_not steps.s_top h = impossible h
starts_not steps.s_begin h = impossible h
starts_not steps.s_ended h = impossible h
starts_not steps.s_blanks h = impossible h

free_not : {A : Type 0} {f : FileState} → Free f → in_cell f ≡ true → A
free_not steps.f_top h = impossible h
free_not steps.f_begin h = impossible h
free_not steps.f_ended h = impossible h
free_not steps.f_blanks h = impossible h
free_not steps.f_wanting h = impossible h
free_not steps.f_after h = impossible h

pub grown_cell : {g : FileState} → Grown g → in_cell g ≡ true
grown_cell steps.g_inside = refl
grown_cell steps.g_plain1 = refl
grown_cell steps.g_plain2 = refl

pub opens_record : {g : FileState} → Opens g → in_record g ≡ true
opens_record steps.o_after = refl
opens_record steps.o_wanting = refl
opens_record steps.o_fresh = refl

leaves_closes : {d : Dialect} {b : ℕ} {f : FileState} {k : Bool} → Leaves d b f k → in_cell f ≡ true → k ≡ true
leaves_closes (steps.none e) h = free_not e h
leaves_closes (steps.stops x s w) h = refl

cr_not : {A : Type 0} {f : FileState} → f ≡ Cr → in_cell f ≡ true → A
cr_not e h = impossible (rw e at h)

proceeds_of : {d : Dialect} {f : FileState} {b : ℕ} {s : Step} → Transition d f b s → in_record f ≡ true → Proceeds f s
proceeds_of (steps.refuses t) h = go_fault
proceeds_of (steps.outside t a r) h = around_not a h
proceeds_of (steps.passes t r n) h = rests_not r h
proceeds_of (steps.adds t n i g j s) h = go_cell (grown_cell g)
proceeds_of (steps.blanks t n e c) h = starts_not e h
proceeds_of (steps.parts t n l o) h = go_between (opens_record o) (leaves_closes l)
proceeds_of (steps.turns t p l) h = go_tail refl (leaves_closes l)
proceeds_of (steps.ends t p l g) h = go_ends (leaves_closes l)
proceeds_of (steps.ends_cr t e p) h = go_ends (λ i. cr_not e i)

pub proceeds : (d : Dialect) (f : FileState) (b : ℕ) → in_record f ≡ true → Proceeds f (file_step d f b)
proceeds d f b h = proceeds_of (step_transition d f b) h

-- ---- the open cell closes first

-- the first cell began with the part, and all others later
pub data ClosedFirst (began : ℕ) : List RawCell → Type 0 where
  closed_first : {c : RawCell} {cs : List RawCell} → c.from ≡ began → All (λ (x : RawCell). suc began ≤ x.from) cs → ClosedFirst began (c ∷ cs)

-- the cell that was open where the part began is still open, or was the first to close
pub data First (began : ℕ) (s : Scan) : Type 0 where
  still_open : in_cell s.state ≡ true → s.opened ≡ began → s.cells ≡ [] → First began s
  then_closed : in_record s.state ≡ true → suc began ≤ s.opened → ClosedFirst began s.cells → First began s

pub data FirstIn (began : ℕ) : ScanResult → Type 0 where
  first_pends : {s : Scan} → First began s → FirstIn began (pends s)
  first_fails : {e : Fault} {s : Scan} → FirstIn began (fails e s)
  first_completes : {s : Scan} {cs : List RawCell} {f : FileState} {next : ℕ} {left : Bytes} → ClosedFirst began cs → FirstIn began (completes s cs f next left)

first_record : {began : ℕ} {s : Scan} → First began s → in_record s.state ≡ true
first_record {began} {s} (still_open h o c) = cell_record s.state h
first_record (then_closed h o c) = h

closed_snoc : {began : ℕ} {cs : List RawCell} (c : RawCell) → suc began ≤ c.from → ClosedFirst began cs → ClosedFirst began (cs ++ (c ∷ []))
closed_snoc c l (closed_first e all) = closed_first e (all_snoc all l)

closes_first : {began : ℕ} (k : Bool) (s : Scan) → First began s → (in_cell s.state ≡ true → k ≡ true) → ClosedFirst began (closing_raw k s)
closes_first true s (still_open h o c) u = rw c (closed_first o all_none)
closes_first false s (still_open h o c) u = impossible (u h)
closes_first true s (then_closed h o c) u = closed_snoc (record { from = s.opened; upto = s.offset; bytes = s.raw }) o c
closes_first false s (then_closed h o c) u = c

module _ (d : Dialect) (limit began : ℕ) where
  abbrev Firsts : Bytes → Type 0
  Firsts bs = (s : Scan) → First began s → began ≤ s.offset → FirstIn began (scan d limit s bs)

  step_first :
      (s : Scan) (b : ℕ) (bs : Bytes) → Firsts bs → First began s → began ≤ s.offset → (x : Step) → Proceeds s.state x →
      FirstIn began (scan_step s b bs (λ s'. scan d limit s' bs) x)
  unfolding scan_step
  step_first s b bs ih i l (Err e) go_fault = first_fails
  step_first s b bs ih i l (Ok (g, OfCell)) (go_cell h) = ih _ (grown i) (omega arith)
    where
      grown :
          First began s →
          First began (record {
            state = g;
            offset = suc s.offset;
            start = s.start;
            size = suc s.size;
            opened = s.opened;
            raw = s.raw ++ (b ∷ []);
            cells = s.cells;
          })
      grown (still_open u o c) = still_open h o c
      grown (then_closed u o c) = then_closed (cell_record g h) o c
  step_first s b bs ih i l (Ok (g, (Between k))) (go_between h u) = ih _ (then_closed h (omega arith) (closes_first k s i u)) (omega arith)
  step_first s b bs ih i l (Ok (g, (Tail k))) (go_tail h u) = ih _ (then_closed h (omega arith) (closes_first k s i u)) (omega arith)
  step_first s b bs ih i l (Ok (g, (Ends k))) (go_ends u) = first_completes (closes_first k s i u)
  step_first s b bs ih i l (Ok (g, Outside)) z = elim z [ ]
  step_first s b bs ih i l (Ok (g, Passed)) z = elim z [ ]

  firsts : (bs : Bytes) → Firsts bs
  unfolding scan
  firsts [] s i l = first_pends i
  firsts (b ∷ bs) s i l =
      split (FirstIn began) _ (λ _. first_fails) λ _. split (FirstIn began) _ (λ _. first_fails) λ _.
      step_first s b bs (firsts bs) i l (file_step d s.state b) (proceeds d s.state b (first_record i))

-- a part that begins in an open cell
pub first_closes :
    (d : Dialect) (limit : ℕ) (s : Scan) (bs : Bytes) → in_cell s.state ≡ true → s.opened ≡ s.offset → s.cells ≡ [] →
    FirstIn s.offset (scan d limit s bs)
first_closes d limit s bs h o c = firsts d limit s.offset bs s (still_open h o c) (omega arith)

-- ---- every byte of a cell counts

-- the bytes of cells count beside those that were counted before
pub data Grew (base : ℕ) : ScanResult → Type 0 where
  grew_pends : {s : Scan} → in_record s.state ≡ true → base + (bytes_in s.cells + length s.raw) ≤ s.size → Grew base (pends s)
  grew_fails : {e : Fault} {s : Scan} → Grew base (fails e s)
  grew_completes :
      {s : Scan} {cs : List RawCell} {f : FileState} {next : ℕ} {left : Bytes} → base + bytes_in cs ≤ s.size → Grew base (completes s cs f next left)

pub bytes_snoc : (cs : List RawCell) (c : RawCell) → bytes_in (cs ++ (c ∷ [])) ≡ bytes_in cs + length c.bytes
unfolding bytes_in
bytes_snoc [] c = omega arith
bytes_snoc (x ∷ cs) c = let e : bytes_in (cs ++ (c ∷ [])) ≡ bytes_in cs + length c.bytes = bytes_snoc cs c in omega arith

closing_grew : (base : ℕ) (k : Bool) (s : Scan) → base + (bytes_in s.cells + length s.raw) ≤ s.size → base + bytes_in (closing_raw k s) ≤ s.size
closing_grew base true s h =
    let e : bytes_in (closing_raw true s) ≡ bytes_in s.cells + length s.raw =
    bytes_snoc s.cells (record { from = s.opened; upto = s.offset; bytes = s.raw }) in
    omega arith
closing_grew base false s h = omega arith

module _ (d : Dialect) (limit base : ℕ) where
  abbrev Grow : Bytes → Type 0
  Grow bs = (s : Scan) → in_record s.state ≡ true → base + (bytes_in s.cells + length s.raw) ≤ s.size → Grew base (scan d limit s bs)

  step_grew :
      (s : Scan) (b : ℕ) (bs : Bytes) → Grow bs → base + (bytes_in s.cells + length s.raw) ≤ s.size → (x : Step) → Proceeds s.state x →
      Grew base (scan_step s b bs (λ s'. scan d limit s' bs) x)
  unfolding scan_step bytes_in
  step_grew s b bs ih l (Err e) go_fault = grew_fails
  step_grew s b bs ih l (Ok (g, OfCell)) (go_cell h) =
      let e : length (s.raw ++ (b ∷ [])) ≡ length s.raw + 1 = length-append s.raw (b ∷ []) in
      let m : base + (bytes_in s.cells + length (s.raw ++ (b ∷ []))) ≤ suc s.size = omega arith in
      ih _ (cell_record g h) m
  step_grew s b bs ih l (Ok (g, (Between k))) (go_between h u) =
      let c : base + bytes_in (closing_raw k s) ≤ s.size = closing_grew base k s l in
      let m : base + (bytes_in (closing_raw k s) + 0) ≤ suc s.size = omega arith in
      ih _ h m
  step_grew s b bs ih l (Ok (g, (Tail k))) (go_tail h u) =
      let c : base + bytes_in (closing_raw k s) ≤ s.size = closing_grew base k s l in
      let m : base + (bytes_in (closing_raw k s) + 0) ≤ s.size = omega arith in
      ih _ h m
  step_grew s b bs ih l (Ok (g, (Ends k))) (go_ends u) = grew_completes (closing_grew base k s l)
  step_grew s b bs ih l (Ok (g, Outside)) z = elim z [ ]
  step_grew s b bs ih l (Ok (g, Passed)) z = elim z [ ]

  grow : (bs : Bytes) → Grow bs
  unfolding scan
  grow [] s h l = grew_pends h l
  grow (b ∷ bs) s h l =
      split (Grew base) _ (λ _. grew_fails) λ _. split (Grew base) _ (λ _. grew_fails) λ _.
      step_grew s b bs (grow bs) l (file_step d s.state b) (proceeds d s.state b h)

pub grows :
    (d : Dialect) (limit base : ℕ) (s : Scan) (bs : Bytes) → in_record s.state ≡ true → base + (bytes_in s.cells + length s.raw) ≤ s.size →
    Grew base (scan d limit s bs)
grows d limit base s bs h l = grow d limit base bs s h l
