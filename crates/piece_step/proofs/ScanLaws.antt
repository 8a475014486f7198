-- What a scan preserves, from wherever it begins: the current cell follows the cell automaton, every complete cell is whole, and
-- something is buffered only in a record (`scan_preserves`). How far it gets, and how many cells it finds (`scan_within`). Its faults are
-- at a byte (`scan_faults`).
use Prim.Native.Nat.{ℕ, suc, ◌+◌, ◌≤◌}
use native.Mathlib.Omega.{arith}
use mathlib.Core.Path.{◌≡◌, refl}
use mathlib.Core.Bool.{Bool, true, false}
use mathlib.Core.List.{List, [], ◌∷◌, ◌++◌}
use lib.ListN.{length, length-append}
use borrow.Author.Tests.{leb-false}
use Rattle.model.specs.rules.Base.{Bytes}
use Rattle.model.specs.rules.File.{file_step}
use Rattle.model.specs.rules.Decode.{validate_cell}
use Rattle.model.specs.rules.Report.{is_at_byte}
use Rattle.model.specs.laws.Laws.{All, all_none}
use Rattle.model.specs.laws.Scans.{RawCell, Scan, ScanResult, pends, fails, completes, closing_raw, scan_step, scan, Buffered, Holds, current, nothing_current}
use Rattle.model.proofs.Tests.{split}
use Rattle.model.proofs.cell_laws.CellRuns.{Runs, here, snoc, runs_sound, all_snoc}
use Rattle.model.proofs.cell_laws.Cells as cell
use Rattle.model.proofs.cell_laws.Cells.{cell_at, Closes, Fits, step_fits}
use Rattle.model.proofs.file_laws.FileSteps as steps
use Rattle.model.proofs.file_laws.FileSteps.{Starts, Transition, step_transition}
use Rattle.piece_step.specs.Types.{Dialect, Fresh, FileState, Outside, Passed, OfCell, Between, Tail, Ends, Step, Ok, Err, Fault}
use Rattle.piece_step.specs.Invariant.{Open, in_cell_lem, no_bytes, IsWhole}
use Rattle.piece_step.proofs.OpenCells.{cell_record, grown_cell, opens_record, starts_not}

-- ---- the current cell and the complete cells

-- the current record, as it would be buffered at the end of a part
abbrev pub buffered_of : Scan → Buffered
buffered_of s = record { start = s.start; opened = s.opened; raw = s.raw; cells = s.cells }

pub record Preserves (d : Dialect) (s : Scan) : Type 0 where
  pub runs : Runs d Fresh s.raw (cell_at s.state)
  pub whole : All (IsWhole d) s.cells
  pub opens : Open s.state s.raw
  pub holds : Holds s.state (buffered_of s)

pub data PreservesTo (d : Dialect) : ScanResult → Type 0 where
  preserves_pends : {s : Scan} → Preserves d s → PreservesTo d (pends s)
  preserves_fails : {e : Fault} {s : Scan} → PreservesTo d (fails e s)
  preserves_completes :
      {s : Scan} {cs : List RawCell} {f : FileState} {next : ℕ} {left : Bytes} → All (IsWhole d) cs → cell_at f ≡ Fresh →
      PreservesTo d (completes s cs f next left)

closing_whole : {d : Dialect} (k : Bool) (s : Scan) → Preserves d s → Closes d (cell_at s.state) k → All (IsWhole d) (closing_raw k s)
unfolding validate_cell
closing_whole true s z w = all_snoc z.whole (runs_sound 0 z.runs w)
closing_whole false s z w = z.whole

-- before a record nothing is buffered
before_none : (s : Scan) → Starts s.state → Holds s.state (buffered_of s) → s.cells ≡ []
before_none s e (current h) = starts_not e h
before_none s e (nothing_current r c) = c

module _ (d : Dialect) (limit : ℕ) where
  abbrev Keep : Bytes → Type 0
  Keep bs = (s : Scan) → Preserves d s → PreservesTo d (scan d limit s bs)

  step_keeps :
      (s : Scan) (b : ℕ) (bs : Bytes) → Keep bs → Preserves d s → (x : Step) → Transition d s.state b x → Fits d (cell_at s.state) b x →
      PreservesTo d (scan_step s b bs (λ s'. scan d limit s' bs) x)
  unfolding scan_step
  step_keeps s b bs ih z (Err e) (steps.refuses t) y = preserves_fails
  step_keeps s b bs ih z (Ok (f, Outside)) (steps.outside t a r) (cell.leaves e) =
      ih _ (record { runs = rw e here; whole = all_none; opens = no_bytes refl; holds = nothing_current refl refl })
  step_keeps s b bs ih z (Ok (f, Passed)) (steps.passes t a r) (cell.passes e) =
      ih _ (record { runs = rw e here; whole = all_none; opens = no_bytes refl; holds = nothing_current refl refl })
  step_keeps s b bs ih z (Ok (f, OfCell)) (steps.adds t n h g i q) (cell.adds e) =
      ih _ (record { runs = snoc b z.runs e; whole = z.whole; opens = in_cell_lem (grown_cell g); holds = current (cell_record f (grown_cell g)) })
  step_keeps s b bs ih z (Ok (f, (Between k))) (steps.blanks t n e c) (cell.parts y w) =
      ih _ (record { runs = rw y here; whole = closing_whole k s z w; opens = no_bytes refl; holds = nothing_current refl (before_none s e z.holds) })
  step_keeps s b bs ih z (Ok (f, (Between k))) (steps.parts t n l o) (cell.parts y w) =
      ih _ (record { runs = rw y here; whole = closing_whole k s z w; opens = no_bytes refl; holds = current (opens_record o) })
  step_keeps s b bs ih z (Ok (f, (Tail k))) (steps.turns t p l) (cell.turns y w) =
      ih _ (record { runs = rw y here; whole = closing_whole k s z w; opens = no_bytes refl; holds = current refl })
  step_keeps s b bs ih z (Ok (f, (Ends k))) (steps.ends t p l g) (cell.completes y w) = preserves_completes (closing_whole k s z w) y
  step_keeps s b bs ih z (Ok (f, (Ends k))) (steps.ends_cr t e p) (cell.completes y w) = preserves_completes (closing_whole k s z w) y

  keep : (bs : Bytes) → Keep bs
  unfolding scan
  keep [] s z = preserves_pends z
  keep (b ∷ bs) s z =
      split (PreservesTo d) _ (λ _. preserves_fails) λ _. split (PreservesTo d) _ (λ _. preserves_fails) λ _.
      step_keeps s b bs (keep bs) z (file_step d s.state b) (step_transition d s.state b) (step_fits d s.state b)

pub scan_preserves : (d : Dialect) (limit : ℕ) (s : Scan) (bs : Bytes) → Preserves d s → PreservesTo d (scan d limit s bs)
scan_preserves d limit s bs z = keep d limit bs s z

-- ---- how far it gets

-- a scan that began there is at most at the limit, and has no more cells than bytes
pub record Within (began limit : ℕ) (s : Scan) : Type 0 where
  pub under : s.offset ≤ limit
  pub few : began + length s.cells ≤ s.offset
  pub started : s.start ≤ s.offset

pub data WithinTo (began limit : ℕ) : ScanResult → Type 0 where
  within_pends : {s : Scan} → Within began limit s → WithinTo began limit (pends s)
  within_fails : {e : Fault} {s : Scan} → Within began limit s → WithinTo began limit (fails e s)
  within_completes :
      {s : Scan} {cs : List RawCell} {f : FileState} {next : ℕ} {left : Bytes} → Within began limit s → suc s.offset ≤ limit →
      began + length cs ≤ suc s.offset →
      WithinTo began limit (completes s cs f next left)

closing_few : (began : ℕ) (k : Bool) (s : Scan) → began + length s.cells ≤ s.offset → began + length (closing_raw k s) ≤ suc s.offset
closing_few began true s h =
    let x : RawCell = record { from = s.opened; upto = s.offset; bytes = s.raw } in
    let e : length (s.cells ++ (x ∷ [])) ≡ length s.cells + 1 = length-append s.cells (x ∷ []) in omega arith
closing_few began false s h = omega arith

module _ (d : Dialect) (began limit : ℕ) where
  abbrev Goes-in : Bytes → Type 0
  Goes-in bs = (s : Scan) → Within began limit s → WithinTo began limit (scan d limit s bs)

  step_within :
      (s : Scan) (b : ℕ) (bs : Bytes) → Goes-in bs → Within began limit s → suc s.offset ≤ limit → (x : Step) →
      WithinTo began limit (scan_step s b bs (λ s'. scan d limit s' bs) x)
  unfolding scan_step
  step_within s b bs ih z l (Err e) = within_fails z
  step_within s b bs ih z l (Ok (f, Outside)) =
      let q : began + length s.cells ≤ s.offset = z.few in
      let g : s.start ≤ s.offset = z.started in
      ih _ (record { under = l; few = omega arith; started = omega arith })
  step_within s b bs ih z l (Ok (f, Passed)) =
      let q : began + length s.cells ≤ s.offset = z.few in
      ih _ (record { under = l; few = omega arith; started = omega arith })
  step_within s b bs ih z l (Ok (f, OfCell)) =
      let q : began + length s.cells ≤ s.offset = z.few in
      let g : s.start ≤ s.offset = z.started in
      ih _ (record { under = l; few = omega arith; started = omega arith })
  step_within s b bs ih z l (Ok (f, (Between k))) =
      let g : s.start ≤ s.offset = z.started in
      ih _ (record { under = l; few = closing_few began k s z.few; started = omega arith })
  step_within s b bs ih z l (Ok (f, (Tail k))) =
      let g : s.start ≤ s.offset = z.started in
      ih _ (record { under = l; few = closing_few began k s z.few; started = omega arith })
  step_within s b bs ih z l (Ok (f, (Ends k))) = within_completes z l (closing_few began k s z.few)

  go_in : (bs : Bytes) → Goes-in bs
  unfolding scan
  go_in [] s z = within_pends z
  go_in (b ∷ bs) s z =
      split (WithinTo began limit) _ (λ _. within_fails z) λ h. split (WithinTo began limit) _ (λ _. within_fails z) λ _.
      step_within s b bs (go_in bs) z (leb-false limit s.offset h) (file_step d s.state b)

pub scan_within : (d : Dialect) (began limit : ℕ) (s : Scan) (bs : Bytes) → Within began limit s → WithinTo began limit (scan d limit s bs)
scan_within d began limit s bs z = go_in d began limit bs s z

-- ---- its faults

pub data FaultsAt : ScanResult → Type 0 where
  faults_pends : {s : Scan} → FaultsAt (pends s)
  faults_fails : {e : Fault} {s : Scan} → is_at_byte e ≡ true → FaultsAt (fails e s)
  faults_completes : {s : Scan} {cs : List RawCell} {f : FileState} {next : ℕ} {left : Bytes} → FaultsAt (completes s cs f next left)

module _ (d : Dialect) (limit : ℕ) where
  step_faults :
      (s : Scan) (b : ℕ) (bs : Bytes) → ((s : Scan) → FaultsAt (scan d limit s bs)) → (x : Step) → FaultsAt (scan_step s b bs (λ s'. scan d limit s' bs) x)
  unfolding scan_step
  step_faults s b bs ih (Err e) = faults_fails refl
  step_faults s b bs ih (Ok (f, Outside)) = ih _
  step_faults s b bs ih (Ok (f, Passed)) = ih _
  step_faults s b bs ih (Ok (f, OfCell)) = ih _
  step_faults s b bs ih (Ok (f, (Between k))) = ih _
  step_faults s b bs ih (Ok (f, (Tail k))) = ih _
  step_faults s b bs ih (Ok (f, (Ends k))) = faults_completes

  pub scan_faults : (bs : Bytes) (s : Scan) → FaultsAt (scan d limit s bs)
  unfolding scan
  scan_faults [] s = faults_pends
  scan_faults (b ∷ bs) s =
      split FaultsAt _ (λ _. faults_fails refl) λ _. split FaultsAt _ (λ _. faults_fails refl) λ _.
      step_faults s b bs (scan_faults bs) (file_step d s.state b)
