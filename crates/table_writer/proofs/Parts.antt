-- The cells of a part of the lists are that part of the cells, and are as valid.
use Prim.Native.Nat.{ℕ, zero, suc, ◌+◌, ◌-◌, ◌<◌, ◌≤◌}
use native.Mathlib.Omega.{arith}
use mathlib.Core.Path.{◌≡◌, refl, sym, ap, ◌∙◌}
use mathlib.Core.List.{List, [], ◌∷◌}
use lib.ListN.{length, take, drop, get_or, length-take, length-drop}
use lib.Seq.{get_or-drop, get_or-take}
use Rattle.model.specs.rules.Base.{Bytes}
use Rattle.model.specs.rules.Text.{Value}
use Rattle.model.specs.rules.Api.{slice}
use Rattle.cell_decoder.specs.declared.source.Source.{Source}
use Rattle.cell_decoder.specs.Sources.{cell_in, cells_in, Cells}

-- ---- parts of lists

part_is : (xs : List ℕ) (at m : ℕ) → slice xs at (at + m) ≡ take m (drop at xs)
part_is xs at m = let e : at + m - at ≡ m = omega arith in ap (λ (n : ℕ). take n (drop at xs)) e

part_length : (xs : List ℕ) (at m : ℕ) → at + m ≤ length xs → length (slice xs at (at + m)) ≡ m
part_length xs at m h =
    ap length (part_is xs at m)
    ∙ (length-take m (drop at xs) ∙ (let e : length (drop at xs) ≡ length xs - at = length-drop at xs in omega arith))

part_at : (xs : List ℕ) (at m k : ℕ) → k < m → get_or (slice xs at (at + m)) k 0 ≡ get_or xs (at + k) 0
part_at xs at m k h = ap (λ (l : List ℕ). get_or l k 0) (part_is xs at m) ∙ get_or-take m (drop at xs) k 0 h ∙ get_or-drop at xs k 0

-- ---- their cells

module _ (src : Source) (s : Bytes) where
  cells_take : (m : ℕ) (ss es ks : List ℕ) → cells_in src s (take m ss) (take m es) (take m ks) ≡ take m (cells_in src s ss es ks)
  unfolding cells_in
  cells_take zero ss es ks = refl
  cells_take (suc m) [] es ks = refl
  cells_take (suc m) (i ∷ ss) [] ks = refl
  cells_take (suc m) (i ∷ ss) (j ∷ es) [] = refl
  cells_take (suc m) (i ∷ ss) (j ∷ es) (k ∷ ks) = ap (λ (vs : List Value). cell_in src s i j k ∷ vs) (cells_take m ss es ks)

  no_ends : (ss ks : List ℕ) → cells_in src s ss [] ks ≡ []
  unfolding cells_in
  no_ends [] ks = refl
  no_ends (i ∷ ss) ks = refl

  no_kinds : (ss es : List ℕ) → cells_in src s ss es [] ≡ []
  unfolding cells_in
  no_kinds [] es = refl
  no_kinds (i ∷ ss) [] = refl
  no_kinds (i ∷ ss) (j ∷ es) = refl

  cells_drop : (n : ℕ) (ss es ks : List ℕ) → cells_in src s (drop n ss) (drop n es) (drop n ks) ≡ drop n (cells_in src s ss es ks)
  unfolding cells_in
  cells_drop zero ss es ks = refl
  cells_drop (suc n) [] es ks = refl
  cells_drop (suc n) (i ∷ ss) [] ks = no_ends (drop n ss) (drop (suc n) ks)
  cells_drop (suc n) (i ∷ ss) (j ∷ es) [] = no_kinds (drop n ss) (drop n es)
  cells_drop (suc n) (i ∷ ss) (j ∷ es) (k ∷ ks) = cells_drop n ss es ks

  module _ (ss es ks : List ℕ) (at m : ℕ) where
    pub part_cells : cells_in src s (slice ss at (at + m)) (slice es at (at + m)) (slice ks at (at + m)) ≡ take m (drop at (cells_in src s ss es ks))
    part_cells =
        rw (part_is ss at m, part_is es at m, part_is ks at m)
        (cells_take m (drop at ss) (drop at es) (drop at ks) ∙ ap (take m) (cells_drop at ss es ks))

    pub part_stands : Cells src s ss es ks → at + m ≤ length ss → Cells src s (slice ss at (at + m)) (slice es at (at + m)) (slice ks at (at + m))
    part_stands c h =
        let p : at + m ≤ length es = omega (arith, c.with_ends) in
        let q : at + m ≤ length ks = omega (arith, c.with_kinds) in
        let long : length (slice ss at (at + m)) ≡ m = part_length ss at m h in
        record {
          with_ends = long ∙ sym (part_length es at m p);
          with_kinds = long ∙ sym (part_length ks at m q);
          each = λ k l.
              let i : k < m = omega (arith, l, long) in
              rw (part_at ss at m k i, part_at es at m k i, part_at ks at m k i) (c.each (at + k) (omega arith));
        }
