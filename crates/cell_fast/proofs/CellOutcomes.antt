-- Laws of the result of reading a cell: one byte more, one text more, and where it ends.
use Prim.Native.Nat.{ℕ, suc, ◌+◌, ◌-◌, ◌≤◌, ◌<◌}
use native.Mathlib.Omega.{arith}
use mathlib.Core.Path.{◌≡◌, refl, ap, ◌∙◌}
use mathlib.Core.Bool.{Bool, true}
use mathlib.Core.List.{[], ◌∷◌, ◌++◌}
use lib.ListN.{length, drop, get_or, length-drop}
use lib.Seq.{length-take-le}
use Rattle.model.specs.declared.Dialect.{Dialect}
use Rattle.model.specs.declared.Char.{Char}
use Rattle.model.specs.declared.Char.TheVariants.{Whole}
use Rattle.std.specs.Prelude.{Option, Some, None}
use Rattle.model.specs.declared.Cell.{Cell}
use Rattle.model.specs.declared.CellStep.TheVariants.{More, Stop}
use Rattle.model.specs.rules.Base.{Bytes}
use Rattle.model.specs.rules.Utf8.{char_step}
use Rattle.model.specs.rules.Cell.{cell_step}
use Rattle.model.specs.rules.Api.{slice}
use Rattle.model.proofs.Tests.{and_true}
use Rattle.model.proofs.cell_laws.Utf8.{broken_on}
use Rattle.swar.specs.Words.{all_pass}
use Rattle.utf8.specs.Multibyte.{chars_from}
use Rattle.utf8.proofs.MultibyteRuns.{part_join}
use Rattle.cell_scanner.specs.Run.{cell_run}
use Rattle.cell_scanner.proofs.Runs.{rest_more, rest_stops}
use Rattle.cell_fast.specs.Ends.{EndsFrom}
use Rattle.cell_fast.specs.TextRuns.{TextRun}
use Rattle.cell_fast.specs.CellOutcome.{Results}

pub results_none : (d : Dialect) (s : Bytes) (stop : ℕ) (c : Cell) (at : ℕ) → at ≤ stop → Results d s stop c at c at
results_none d s stop c at h = record { from = omega arith; upto = h; rest = refl }

pub results_on : {d : Dialect} {s : Bytes} {stop : ℕ} {c t u : Cell} {at i r : ℕ} → Results d s stop c at t i → Results d s stop t i u r
    → Results d s stop c at u r
results_on {at} {i} {r} x y =
    let h : at ≤ i = x.from in
    let k : i ≤ r = y.from in
    record { from = omega arith; upto = y.upto; rest = x.rest ∙ y.rest }

module _ {d : Dialect} {s : Bytes} {stop : ℕ} {c t : Cell} {at i : ℕ} (x : Results d s stop c at t i) (h : i < stop) (k : stop ≤ length s) where
  -- one byte more; j is the offset after it
  pub comes_byte : (u : Cell) (j : ℕ) → j ≡ i + 1 → cell_step d t (get_or s i 0) ≡ More u → Results d s stop c at u j
  comes_byte u j n e =
      let f : at ≤ i = x.from in
      record { from = omega arith; upto = omega arith; rest = rw n (x.rest ∙ rest_more d t s i stop h k u e) }

  pub ends_here : cell_step d t (get_or s i 0) ≡ Stop → EndsFrom d s stop c at i
  ends_here e = record { cell = t; ran = x.rest ∙ rest_stops d t s i stop h k e }

pub results_ends : {d : Dialect} {s : Bytes} {stop : ℕ} {c t : Cell} {at i end : ℕ} → Results d s stop c at t i → EndsFrom d s stop t i end
    → EndsFrom d s stop c at end
results_ends x y = record { cell = y.cell; ran = x.rest ∙ y.ran }

-- ---- bytes that lead from one cell state to another by the UTF-8 state of a text

module _ (d : Dialect) (f : Char → Cell) (passes : ℕ → Bool)
    (step : (c c' : Char) (b : ℕ) → passes b ≡ true → char_step c b ≡ Some c' → cell_step d (f c) b ≡ More (f c')) where
  list_comes : (xs ys : Bytes) (c c' : Char) (i : ℕ) → all_pass passes xs ≡ true → chars_from c xs ≡ Some c'
      → cell_run d (f c) i (xs ++ ys) ≡ cell_run d (f c') (i + length xs) ys
  unfolding cell_run all_pass chars_from
  list_comes [] ys c c' i e h =
      let z : c ≡ c' = cc in
      let n : i ≡ i + 0 = omega arith in
      rw z (ap (λ (k : ℕ). cell_run d (f c') k ys) n)
  list_comes (b ∷ xs) ys c c' i e h = go (char_step c b) refl h λ t k. list_comes xs ys t c' (suc i) (and_true (passes b) (all_pass passes xs) e).1 k
    where
      go : (o : Option Char) → char_step c b ≡ o → (elim o as (λ _. Option Char) [ Some t ↦ chars_from t xs | None ↦ None ]) ≡ Some c'
          → ((t : Char) → chars_from t xs ≡ Some c' → cell_run d (f t) (suc i) (xs ++ ys) ≡ cell_run d (f c') (suc i + length xs) ys)
          → cell_run d (f c) i (b ∷ (xs ++ ys)) ≡ cell_run d (f c') (i + suc (length xs)) ys
      go (Some t) p k ih =
          let n : suc i + length xs ≡ i + suc (length xs) = omega arith in
          rw (step c t b (and_true (passes b) (all_pass passes xs) e).0 p, cell_run) (ih t k ∙ ap (λ (m : ℕ). cell_run d (f c') m ys) n)
      go None p k ih = broken_on k

  pub text_comes : {s : Bytes} {at stop r : ℕ} → TextRun passes s at stop r → stop ≤ length s → Results d s stop (f Whole) at (f Whole) r
  text_comes {s} {at} {stop} {r} x k =
      let h : at ≤ r = x.from in
      let l : r ≤ stop = x.upto in
      let left : length (drop at s) ≡ length s - at = length-drop at s in
      let size : length (slice s at r) ≡ r - at = length-take-le (r - at) (drop at s) (omega arith) in
      let n : at + length (slice s at r) ≡ r = omega arith in
      record {
        from = h;
        upto = l;
        rest =
            ap (cell_run d (f Whole) at) (part_join s at r stop h l)
            ∙ list_comes (slice s at r) (slice s r stop) Whole Whole at x.each x.whole
            ∙ ap (λ (m : ℕ). cell_run d (f Whole) m (slice s r stop)) n;
      }
