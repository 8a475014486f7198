-- Two folded names from an offset on: the laws of both loops that compare them.
use mathlib.Core.Path.{◌≡◌, sym, ◌∙◌}
use mathlib.Core.Bool.{Bool, true, false}
use Prim.Native.Nat.{ℕ, ◌+◌, ◌<◌, ◌≤◌}
use lib.ListN.{length, get_or}
use Rattle.model.specs.rules.Base.{Bytes, same}
use Rattle.model.specs.rules.Names.{fold_name}
use Rattle.model.proofs.name_laws.Folding.{fold_length}
use Rattle.model.proofs.name_laws.SameBytes as bytes

module _ (a b : Bytes) where
  -- names of different lengths are different
  pub different_lengths : (length a ≡ length b → ⊥) → same (fold_name a) (fold_name b) ≡ false
  different_lengths h = bytes.same_lengths (fold_name a) (fold_name b) (λ e. h (sym (fold_length a) ∙ e ∙ fold_length b))

  -- whether they are the same from offset i on
  abbrev pub same_from : ℕ → Bool
  same_from i = bytes.same_from (fold_name a) (fold_name b) i

  pub same_end : (i : ℕ) → length a ≤ i → length b ≤ i → same_from i ≡ true
  same_end i h k = bytes.same_end (fold_name a) (fold_name b) i (rw (fold_length a) h) (rw (fold_length b) k)

  module _ (i : ℕ) (h : i < length a) (k : i < length b) where
    pub same_differs : (get_or (fold_name a) i 0 ≡ get_or (fold_name b) i 0 → ⊥) → same_from i ≡ false
    same_differs e = bytes.same_differs (fold_name a) (fold_name b) i (rw (fold_length a) h) (rw (fold_length b) k) e

    pub same_next : get_or (fold_name a) i 0 ≡ get_or (fold_name b) i 0 → same_from i ≡ same_from (i + 1)
    same_next e = bytes.same_next (fold_name a) (fold_name b) i (rw (fold_length a) h) (rw (fold_length b) k) e
