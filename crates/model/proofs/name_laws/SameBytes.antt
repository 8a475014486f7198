-- Whether two lists of bytes are the same, by what they have at an offset: what a loop over both of them needs.
use Prim.Native.Nat.{ℕ, ◌+◌, ◌<◌, ◌≤◌}
use native.Mathlib.Omega.{arith}
use native.Mathlib.Numerals.{add-one}
use mathlib.Core.Path.{◌≡◌, refl, ◌∙◌}
use mathlib.Core.Bool.{Bool, true, false, ◌&&◌, and-false}
use mathlib.Core.List.{[], ◌∷◌}
use lib.ListN.{length, drop, get_or, drop_of_length-le}
use lib.Seq.{drop-cons}
use lib.Dec.{eqb}
use borrow.Author.Tests.{eq-eqb, ne_eqb}
use Rattle.model.specs.rules.Base.{Bytes, same}

-- lists of different lengths are different
pub same_lengths : (a b : Bytes) → (length a ≡ length b → ⊥) → same a b ≡ false
unfolding same
same_lengths [] [] h = absurd (h refl)
same_lengths [] (y ∷ b) h = refl
same_lengths (x ∷ a) [] h = refl
same_lengths (x ∷ a) (y ∷ b) h = rw (same_lengths a b (λ e. h (omega arith))) (and-false (eqb x y))

module _ (a b : Bytes) where
  -- whether they are the same from offset i on
  abbrev pub same_from : ℕ → Bool
  same_from i = same (drop i a) (drop i b)

  pub same_end : (i : ℕ) → length a ≤ i → length b ≤ i → same_from i ≡ true
  unfolding same
  same_end i h k = rw (drop_of_length-le a h, drop_of_length-le b k)

  module _ (i : ℕ) (h : i < length a) (k : i < length b) where
    same_at : same_from i ≡ (eqb (get_or a i 0) (get_or b i 0) && same_from (i + 1))
    unfolding same
    same_at = rw (add-one, drop-cons a i 0, drop-cons b i 0)

    pub same_differs : (get_or a i 0 ≡ get_or b i 0 → ⊥) → same_from i ≡ false
    same_differs e = same_at ∙ rw (ne_eqb (get_or a i 0) (get_or b i 0) e)

    pub same_next : get_or a i 0 ≡ get_or b i 0 → same_from i ≡ same_from (i + 1)
    same_next e = same_at ∙ rw (eq-eqb (get_or a i 0) (get_or b i 0) e)
