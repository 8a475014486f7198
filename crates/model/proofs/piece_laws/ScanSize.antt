-- The buffered bytes of the current record fit into the record's limit: every byte of a cell counts, and so does every byte between
-- cells, and a byte that counts is refused where the record is full.
use Prim.Native.Nat.{ℕ, suc, ◌+◌, ◌≤◌}
use native.Mathlib.Omega.{arith}
use mathlib.Core.Path.{◌≡◌, refl}
use mathlib.Core.Bool.{Bool, true, false, ◌&&◌}
use mathlib.Core.List.{List, [], ◌∷◌, ◌++◌}
use lib.ListN.{length, length-append}
use lib.Dec.{leb}
use borrow.Author.Tests.{leb-false}
use Rattle.model.specs.rules.Types.{Dialect, Outside, Passed, OfCell, Between, Tail, Ends, Step, Ok, Err}
use Rattle.model.specs.rules.Base.{Bytes}
use Rattle.model.specs.rules.File.{file_step, counts}
use Rattle.model.specs.rules.Report.{MAXRECORD}
use Rattle.model.specs.laws.Scans.{RawCell, Scan, closing_raw, scan_step, scan, bytes_in, Sized, SizedTo, sized_pends, sized_fails}
use Rattle.model.specs.laws.Scans.{sized_completes, ScanSize}
use Rattle.model.proofs.Tests.{split}
use Rattle.model.proofs.file_laws.FileSteps.{Transition, cell_counts, between_counts, step_transition}

-- ---- sizes

bytes_snoc : (cs : List RawCell) (c : RawCell) → bytes_in (cs ++ (c ∷ [])) ≡ bytes_in cs + length c.bytes
unfolding bytes_in
bytes_snoc [] c = omega arith
bytes_snoc (x ∷ cs) c = let e : bytes_in (cs ++ (c ∷ [])) ≡ bytes_in cs + length c.bytes = bytes_snoc cs c in omega arith

closing_size : (k : Bool) (s : Scan) → Sized s → bytes_in (closing_raw k s) ≤ s.size
closing_size true s z =
    let e : bytes_in (closing_raw true s) ≡ bytes_in s.cells + length s.raw
    = bytes_snoc s.cells (record { from = s.opened; upto = s.offset; bytes = s.raw }) in
    let h : bytes_in s.cells + length s.raw ≤ s.size = z.held in
    omega arith
closing_size false s z = let h : bytes_in s.cells + length s.raw ≤ s.size = z.held in omega arith

-- a byte that counts was not one too many
not_full : (n : ℕ) (c : Bool) → (leb MAXRECORD n && c) ≡ false → c ≡ true → suc n ≤ MAXRECORD
not_full n c h e = leb-false MAXRECORD n (go (leb MAXRECORD n) (rw e at h))
  where
    go : (x : Bool) → (x && true) ≡ false → x ≡ false
    go true z = z
    go false z = refl

module _ (d : Dialect) (limit : ℕ) where
  abbrev Fits : Bytes → Type 0
  Fits bs = (s : Scan) → Sized s → SizedTo (scan d limit s bs)

  step_sized :
      (s : Scan) (b : ℕ) (bs : Bytes) → Fits bs → Sized s → (leb MAXRECORD s.size && counts s.state b) ≡ false → (x : Step) →
      Transition d s.state b x → SizedTo (scan_step s b bs (λ s'. scan d limit s' bs) x)
  unfolding scan_step bytes_in
  step_sized s b bs ih z h (Err e) y = sized_fails z
  step_sized s b bs ih z h (Ok (f, Outside)) y = ih _ (record { held = omega arith; limit = omega arith })
  step_sized s b bs ih z h (Ok (f, Passed)) y = ih _ (record { held = omega arith; limit = omega arith })
  step_sized s b bs ih z h (Ok (f, OfCell)) y =
      let m : suc s.size ≤ MAXRECORD = not_full s.size (counts s.state b) h (cell_counts y) in
      let l : bytes_in s.cells + length s.raw ≤ s.size = z.held in
      let e : length (s.raw ++ (b ∷ [])) ≡ length s.raw + 1 = length-append s.raw (b ∷ []) in
      let g : bytes_in s.cells + length (s.raw ++ (b ∷ [])) ≤ suc s.size = omega arith in
      ih _ (record { held = g; limit = m })
  step_sized s b bs ih z h (Ok (f, Between k)) y =
      let m : suc s.size ≤ MAXRECORD = not_full s.size (counts s.state b) h (between_counts y) in
      let l : bytes_in (closing_raw k s) ≤ s.size = closing_size k s z in
      let g : bytes_in (closing_raw k s) + 0 ≤ suc s.size = omega arith in
      ih _ (record { held = g; limit = m })
  step_sized s b bs ih z h (Ok (f, Tail k)) y =
      let l : bytes_in (closing_raw k s) ≤ s.size = closing_size k s z in
      let g : bytes_in (closing_raw k s) + 0 ≤ s.size = omega arith in
      ih _ (record { held = g; limit = z.limit })
  step_sized s b bs ih z h (Ok (f, Ends k)) y = sized_completes z (closing_size k s z)

  sizes : (bs : Bytes) → Fits bs
  unfolding scan
  sizes [] s z = sized_pends z
  sizes (b ∷ bs) s z =
      split SizedTo _ (λ _. sized_fails z) λ _. split SizedTo _ (λ _. sized_fails z) λ h.
      step_sized s b bs (sizes bs) z h (file_step d s.state b) (step_transition d s.state b)

pub scan_size : ScanSize
scan_size d limit s bs z = sizes d limit bs s z
