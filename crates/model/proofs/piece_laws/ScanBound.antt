-- A record that lies in the bytes scanned is bounded when written, whatever the state of the file in which it begins: the argument of
-- Bound, over scanning.
use Prim.Native.Nat.{ℕ, suc, ◌+◌, ◌≤◌}
use native.Mathlib.Omega.{arith}
use mathlib.Core.Path.{subst}
use Rattle.std.specs.Prelude.{None}
use mathlib.Core.List.{List, [], ◌∷◌, map}
use lib.ListN.{length}
use Rattle.model.specs.rules.Types.{Dialect, FileState, Outside, Passed, OfCell, Between, Tail, Ends, Step, Ok, Err, Fault}
use Rattle.model.specs.rules.Base.{Bytes}
use Rattle.model.specs.rules.File.{file_step}
use Rattle.model.specs.rules.Text.{Value}
use Rattle.model.specs.rules.Records.{Read, going, move}
use Rattle.model.specs.laws.Laws.{all_none, Bounded}
use Rattle.model.specs.laws.Scans.{RawCell, Scan, ScanResult, pends, fails, completes, scan_between, scan_step, scan, value_of, read_of, ScanBound}
use Rattle.model.proofs.Tests.{split}
use Rattle.model.proofs.file_laws.Bound.{weigh_none, slack, Steady, y_ends, y_over, step_steady, Counted, CountedTo, c_going, closed_bound}
use Rattle.model.proofs.file_laws.Bound.{over_bound, move_counted}
use Rattle.model.proofs.piece_laws.ScanLaws.{values_closing}

module _ (d : Dialect) (limit : ℕ) where
  -- the result of a scan of at most `room` bytes
  data Fitting (room : ℕ) : ScanResult → Type 0 where
    fit_pends : {s : Scan} → Fitting room (pends s)
    fit_fails : {e : Fault} {s : Scan} → Fitting room (fails e s)
    fit_completes :
        {s : Scan} {cs : List RawCell} {f : FileState} {next : ℕ} {left : Bytes} → Bounded s.size (map (value_of d) cs) → suc s.size + length left ≤ room →
        Fitting room (completes s cs f next left)

  counted_of : {r : Read} → CountedTo d None (going r) → Counted d None r
  counted_of (c_going i) = i

  abbrev Fits : Bytes → Type 0
  Fits bs = (s : Scan) (room : ℕ) → Counted d None (read_of d [] s) → s.size + length bs ≤ room → Fitting room (scan d limit s bs)

  step_fits :
      (s : Scan) (b : ℕ) (bs : Bytes) (room : ℕ) → Fits bs → Counted d None (read_of d [] s) → s.size + suc (length bs) ≤ room →
      (x : Step) → Steady s.state x →
      Fitting room (scan_step s b bs (λ s'. scan d limit s' bs) x)
  unfolding scan_step move
  step_fits s b bs room ih i l (Err e) y = fit_fails
  step_fits s b bs room ih i l (Ok (f, Outside)) y = ih _ room (counted_of (move_counted d None (read_of d [] s) b (Ok (f, Outside)) i y)) (omega arith)
  step_fits s b bs room ih i l (Ok (f, Passed)) y = ih _ room (counted_of (move_counted d None (read_of d [] s) b (Ok (f, Passed)) i y)) (omega arith)
  step_fits s b bs room ih i l (Ok (f, OfCell)) y = ih _ room (counted_of (move_counted d None (read_of d [] s) b (Ok (f, OfCell)) i y)) (omega arith)
  step_fits s b bs room ih i l (Ok (f, Between k)) y =
      ih _ room (rw (values_closing d None [] k s) at (counted_of (move_counted d None (read_of d [] s) b (Ok (f, Between k)) i y))) (omega arith)
  step_fits s b bs room ih i l (Ok (f, Tail k)) y =
      ih _ room (rw (values_closing d None [] k s) at (counted_of (move_counted d None (read_of d [] s) b (Ok (f, Tail k)) i y))) (omega arith)
  step_fits s b bs room ih i l (Ok (f, Ends k)) (y_ends z) =
      let m : suc s.size + length bs ≤ room = omega arith in
      fit_completes (subst (λ (vs : List Value). Bounded s.size vs) (values_closing d None [] k s) (closed_bound d None (read_of d [] s) k i z)) m
  step_fits s b bs room ih i l (Ok (f, Ends k)) y_over =
      let m : suc s.size + length bs ≤ room = omega arith in fit_completes (over_bound d None (read_of d [] s) i) m

  fits : (bs : Bytes) → Fits bs
  unfolding scan
  fits [] s room i l = fit_pends
  fits (b ∷ bs) s room i l =
      let P : ScanResult → Type 0 = Fitting room in
      split P _ (λ _. fit_fails) λ _. split P _ (λ _. fit_fails) λ _. step_fits s b bs room (fits bs) i l (file_step d s.state b) (step_steady d s.state b)

  fitting :
      {room : ℕ} {s : Scan} {cs : List RawCell} {f : FileState} {next : ℕ} {left : Bytes} → Fitting room (completes s cs f next left) →
      Bounded s.size (map (value_of d) cs) × (suc s.size + length left ≤ room)
  fitting (fit_completes b l) = (b, l)

pub scan_bound : ScanBound
scan_bound d limit f o bs s cs g next left e =
    let z : 0 + 0 ≤ 0 + slack f = omega arith in
    let all : Fitting d limit (length bs) (scan d limit (scan_between f o) bs)
    = fits d limit bs (scan_between f o) (length bs) (record { sum = 0; cells = weigh_none; fits = z; done = all_none })
    (omega arith) in
    fitting d limit (rw e at all)
