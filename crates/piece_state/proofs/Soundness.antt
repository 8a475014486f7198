-- The checks of a saved state, as propositions: what a true result gives, and that a state with these facts passes.
use Prim.Native.Nat.{ℕ, ◌+◌, ◌<◌, ◌≤◌}
use native.Mathlib.Omega.{arith}
use mathlib.Core.Path.{◌≡◌, refl, ◌∙◌}
use mathlib.Core.Bool.{Bool, true, false, ◌&&◌}
use mathlib.Core.List.{List, [], ◌∷◌}
use lib.ListN.{length, drop, drop_of_length-le, get_or}
use lib.Dec.{leb}
use borrow.Author.Tests.{eq-eqb, le-leb, lt-leb, leb-true}
use Rattle.model.specs.rules.Base.{◌is◌}
use Rattle.model.proofs.Tests.{and_true, is→eq}
use Rattle.model.specs.laws.Scans.{in_record}
use Rattle.buffer.proofs.WriteProgress.{drop_next}
use Rattle.piece_state.specs.declared.place.Place.{Place}
use Rattle.piece_state.specs.Sound.{buffered_in_record, in_order, InOrder, order_end, order_next}

-- ---- ends ascend

pub ordered : (at : ℕ) (es : List ℕ) (fill : ℕ) → in_order at es fill ≡ true → InOrder at es fill
unfolding in_order
ordered at [] fill h = order_end (leb-true at fill h)
ordered at (e ∷ es) fill h = let both = and_true (leb at e) (in_order e es fill) h in order_next (leb-true at e both.0) (ordered e es fill both.1)

pub is_ordered : (at : ℕ) (es : List ℕ) (fill : ℕ) → InOrder at es fill → in_order at es fill ≡ true
unfolding in_order
is_ordered at [] fill (order_end h) = le-leb at fill h
is_ordered at (e ∷ es) fill (order_next h hs) = rw (le-leb at e h) (is_ordered e es fill hs)

-- ---- the loop

module _ (es : List ℕ) (fill k at : ℕ) where
  module _ (h : k < length es) where
    order_at : in_order at (drop k es) fill ≡ (leb at (get_or es k 0) && in_order (get_or es k 0) (drop (k + 1) es) fill)
    unfolding in_order
    order_at = rw (drop_next es k (k + 1) h refl)

    pub order_breaks : get_or es k 0 < at → in_order at (drop k es) fill ≡ false
    order_breaks b = order_at ∙ rw (lt-leb at (get_or es k 0) b)

    pub order_goes_on : at ≤ get_or es k 0 → in_order at (drop k es) fill ≡ in_order (get_or es k 0) (drop (k + 1) es) fill
    order_goes_on b = order_at ∙ rw (le-leb at (get_or es k 0) b)

  pub order_ends : length es ≤ k → in_order at (drop k es) fill ≡ leb at fill
  unfolding in_order
  order_ends h = rw (drop_of_length-le es h)

-- ---- cells are buffered only in a record

pub buffered_outside : (p : Place) → buffered_in_record p ≡ true → in_record p.state ≡ false → (p.fill ≡ 0) × (p.cells ≡ 0)
unfolding buffered_in_record
buffered_outside p h e =
    let both = and_true (leb p.fill 0) (p.cells is 0) (rw e at h) in
    let none : p.fill ≤ 0 = leb-true p.fill 0 both.0 in
    (omega arith, is→eq p.cells 0 both.1)

is_buffered_by : (p : Place) (in_hand : Bool) → in_record p.state ≡ in_hand → (in_hand ≡ false → (p.fill ≡ 0) × (p.cells ≡ 0)) → buffered_in_record p ≡ true
unfolding buffered_in_record
is_buffered_by p true e h = rw e
is_buffered_by p false e h = rw (e, le-leb p.fill 0 (omega (arith, (h refl).0)), eq-eqb p.cells 0 (h refl).1)

pub is_buffered : (p : Place) → (in_record p.state ≡ false → (p.fill ≡ 0) × (p.cells ≡ 0)) → buffered_in_record p ≡ true
is_buffered p h = is_buffered_by p (in_record p.state) refl h
