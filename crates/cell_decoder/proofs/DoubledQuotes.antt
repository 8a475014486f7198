-- Text with doubled quotes by offset: the definition's content of the bytes from an offset on, by the bytes there.
use mathlib.Core.Path.{◌≡◌, refl, sym, ap, ◌∙◌}
use mathlib.Core.Bool.{Bool, true, false, not}
use mathlib.Core.List.{[], ◌∷◌}
use Prim.Native.Nat.{ℕ, zero, suc, ◌+◌, ◌-◌, ◌<◌, ◌≤◌}
use native.Mathlib.Omega.{arith}
use lib.ListN.{length, drop, get_or, length-drop, drop_of_length-le}
use lib.Seq.{drop-drop}
use borrow.Author.Tests.{eq-eqb, ne_eqb}
use Rattle.model.specs.rules.Base.{choose◌then◌else◌, ◌is◌, Bytes}
use Rattle.model.specs.rules.Decode.{undouble}
use Rattle.model.proofs.Tests.{split_on}
use Rattle.swar.specs.Words.{passing}
use Rattle.swar.proofs.FlaggedPrefix.{passing_short}
use Rattle.cell_decoder.specs.DoubledQuotes.{UndoubledThere, RunBefore}
use Rattle.buffer.proofs.WriteProgress.{drop_next}

pub at_end : (q : ℕ) (seen : Bool) (raw : Bytes) (i : ℕ) → length raw ≤ i → undouble q seen (drop i raw) ≡ []
unfolding undouble
at_end q seen raw i h = rw (drop_of_length-le raw h)

module _ (q : ℕ) (raw : Bytes) (i : ℕ) (h : i < length raw) where
  pub at_other : (get_or raw i 0 ≡ q → ⊥) → undouble q false (drop i raw) ≡ get_or raw i 0 ∷ undouble q false (drop (i + 1) raw)
  unfolding undouble choose◌then◌else◌
  at_other e = rw (drop_next raw i (i + 1) h refl, ne_eqb (get_or raw i 0) q e)

  at_first : get_or raw i 0 ≡ q → undouble q false (drop i raw) ≡ undouble q true (drop (i + 1) raw)
  unfolding undouble choose◌then◌else◌
  at_first e = rw (drop_next raw i (i + 1) h refl, eq-eqb (get_or raw i 0) q e)

  -- a second quote follows
  pub at_double : get_or raw i 0 ≡ q → i + 1 < length raw → get_or raw (i + 1) 0 ≡ q
      → undouble q false (drop i raw) ≡ get_or raw i 0 ∷ undouble q false (drop (i + 1 + 1) raw)
  unfolding undouble choose◌then◌else◌
  at_double e k f =
      at_first e
      ∙ rw (drop_next raw (i + 1) (i + 1 + 1) k refl, eq-eqb (get_or raw (i + 1) 0) q f)
      (ap (λ (b : ℕ). b ∷ undouble q false (drop (i + 1 + 1) raw)) (f ∙ sym e))

  -- no second quote follows
  pub at_close : get_or raw i 0 ≡ q → i + 1 < length raw → (get_or raw (i + 1) 0 ≡ q → ⊥) → undouble q false (drop i raw) ≡ []
  unfolding undouble choose◌then◌else◌
  at_close e k f = at_first e ∙ rw (drop_next raw (i + 1) (i + 1 + 1) k refl, ne_eqb (get_or raw (i + 1) 0) q f)

  pub at_last : get_or raw i 0 ≡ q → length raw ≤ i + 1 → undouble q false (drop i raw) ≡ []
  at_last e k = at_first e ∙ at_end q true raw (i + 1) k

  before : get_or raw (i + 1 - 1) 0 ≡ get_or raw i 0
  before = let e : i + 1 - 1 ≡ i = omega arith in rw e

  pub there_other : (get_or raw i 0 ≡ q → ⊥) → UndoubledThere q raw i (get_or raw i 0) (i + 1)
  there_other e = record { stands = at_other e; on = omega arith; inside = omega arith; last = before }

  pub there_double : get_or raw i 0 ≡ q → i + 1 < length raw → get_or raw (i + 1) 0 ≡ q → UndoubledThere q raw i (get_or raw i 0) (i + 2)
  there_double e k f =
      let two : i + 1 + 1 ≡ i + 2 = omega arith in
      let back : i + 2 - 1 ≡ i + 1 = omega arith in
      record {
        stands = at_double e k f ∙ ap (λ (n : ℕ). get_or raw i 0 ∷ undouble q false (drop n raw)) two;
        on = omega arith;
        inside = omega arith;
        last = ap (λ (n : ℕ). get_or raw n 0) back ∙ f ∙ sym e;
      }

-- ---- bytes before a quote

abbrev pub is_other : (q b : ℕ) → Bool
is_other q b = not (b is q)

run_counted : (q : ℕ) (bs : Bytes) (n : ℕ) → n ≤ passing (is_other q) bs
    → length (undouble q false bs) ≡ n + length (undouble q false (drop n bs))
unfolding passing undouble choose◌then◌else◌
run_counted q bs zero h = omega arith
run_counted q [] (suc n) h = absurd (omega arith)
run_counted q (b ∷ bs) (suc n) h =
    split_on (b is q)
    (λ t. let k = rw t at h in absurd (omega arith))
    λ t. let k : suc n ≤ suc (passing (is_other q) bs) = rw t at h in rw t (omega (arith, run_counted q bs n (omega arith)))

pub run_none : (q : ℕ) (raw : Bytes) (at : ℕ) → RunBefore q raw at at
run_none q raw at = record { from = omega arith; upto = λ h. absurd (omega arith); counted = omega arith }

pub run_more : {q : ℕ} {raw : Bytes} {at i : ℕ} (n : ℕ) → RunBefore q raw at i → i ≤ length raw → n ≤ passing (is_other q) (drop i raw)
    → RunBefore q raw at (i + n)
run_more {q} {raw} {at} {i} n x h k =
    let from : at ≤ i = x.from in
    let short = passing_short (is_other q) (drop i raw) in
    let rest = length-drop i raw in
    record {
      from = omega arith;
      upto = λ l. omega arith;
      counted = omega (arith, x.counted, run_counted q (drop i raw) n k, ap (λ (bs : Bytes). length (undouble q false bs)) (drop-drop n i raw));
    }
