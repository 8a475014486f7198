-- Laws of storing cells in lists.
use Prim.Native.Nat.{ℕ, suc, ◌+◌, ◌≤◌, ◌<◌}
use native.Mathlib.Omega.{arith}
use mathlib.Core.Path.{◌≡◌, refl, ap, ◌∙◌}
use mathlib.Core.Bool.{Bool, true, false}
use mathlib.Core.List.{List, [], ◌∷◌, ◌++◌}
use lib.ListN.{length, set, length-set}
use borrow.Author.Tests.{lt-ltb, le-ltb}
use Rattle.model.specs.rules.Base.{choose◌then◌else◌}
use Rattle.model.proofs.Tests.{split}
use Rattle.record_scanner.specs.Stored.{store_at, store_if, stored_from}

pub not_stored : (closes : Bool) (room k x : ℕ) (old : List ℕ) → closes ≡ false → old ≡ store_if closes room k x old
unfolding store_if choose◌then◌else◌
not_stored closes room k x old e = rw e

-- by equal tests
pub same_stored : (closes closes' : Bool) (room k x : ℕ) (old new : List ℕ) → closes ≡ closes' → new ≡ store_if closes room k x old
    → new ≡ store_if closes' room k x old
same_stored closes closes' room k x old new e q = q ∙ ap (λ (b : Bool). store_if b room k x old) e

pub no_room : (closes : Bool) (room k x : ℕ) (old : List ℕ) → closes ≡ true → room ≤ k → old ≡ store_if closes room k x old
unfolding store_if store_at choose◌then◌else◌
no_room closes room k x old e h = rw (e, le-ltb k room h)

pub stored_there : (closes : Bool) (room k x : ℕ) (old : List ℕ) → closes ≡ true → k < room → set old k x ≡ store_if closes room k x old
unfolding store_if store_at choose◌then◌else◌
stored_there closes room k x old e h = rw (e, lt-ltb k room h)

-- ---- lengths

pub length_stored : (room k x : ℕ) (old : List ℕ) → length (store_at room k x old) ≡ length old
unfolding store_at
length_stored room k x old = split (λ (xs : List ℕ). length xs ≡ length old) _ (λ _. length-set old k x) λ _. refl

pub length_stored_if : (closes : Bool) (room k x : ℕ) (old : List ℕ) → length (store_if closes room k x old) ≡ length old
unfolding store_if
length_stored_if closes room k x old = split (λ (xs : List ℕ). length xs ≡ length old) closes (λ _. length_stored room k x old) λ _. refl

pub length_stored_from : (room k : ℕ) (xs old : List ℕ) → length (stored_from room k xs old) ≡ length old
unfolding stored_from
length_stored_from room k [] old = refl
length_stored_from room k (x ∷ xs) old = length_stored_from room (suc k) xs (store_at room k x old) ∙ length_stored room k x old

-- the room is the same as before
pub still_room : (room k n : ℕ) (xs old new : List ℕ) → new ≡ stored_from room k xs old → n ≤ length old → n ≤ length new
still_room room k n xs old new e l = rw (e, length_stored_from room k xs old) l

-- ---- one more at the end

pub stored_from_snoc : (room k : ℕ) (xs : List ℕ) (x : ℕ) (old : List ℕ)
    → stored_from room k (xs ++ (x ∷ [])) old ≡ store_at room (k + length xs) x (stored_from room k xs old)
unfolding stored_from
stored_from_snoc room k [] x old = let e : k ≡ k + 0 = omega arith in ap (λ (n : ℕ). store_at room n x old) e
stored_from_snoc room k (y ∷ ys) x old =
    let e : suc k + length ys ≡ k + suc (length ys) = omega arith in
    stored_from_snoc room (suc k) ys x (store_at room k y old) ∙ ap (λ (n : ℕ). store_at room n x (stored_from room (suc k) ys (store_at room k y old))) e
