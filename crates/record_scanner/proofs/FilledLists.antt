-- What lists hold after cells were stored in them.
use Prim.Native.Nat.{ℕ, suc, ◌+◌, ◌≤◌}
use native.Mathlib.Omega.{arith}
use mathlib.Core.Path.{◌≡◌, refl, sym, ap, ◌∙◌}
use mathlib.Core.List.{List, [], ◌∷◌, ◌++◌, append_assoc}
use lib.ListN.{length, take, drop, set, length-set, take-append-drop}
use lib.Seq.{take-suc-set, drop-set-lt, take-append_seam}
use borrow.Author.Tests.{lt-ltb, le-ltb}
use Rattle.model.specs.rules.Base.{choose◌then◌else◌, over}
use Rattle.record_scanner.specs.Stored.{store_at, stored_from}

pub stored_from_append : (room k : ℕ) (xs ys old : List ℕ) → stored_from room k (xs ++ ys) old ≡ stored_from room (k + length xs) ys (stored_from room k xs old)
unfolding stored_from
stored_from_append room k [] ys old = let e : k ≡ k + 0 = omega arith in ap (λ (n : ℕ). stored_from room n ys old) e
stored_from_append room k (x ∷ xs) ys old =
    let e : suc k + length xs ≡ k + suc (length xs) = omega arith in
    stored_from_append room (suc k) xs ys (store_at room k x old) ∙ ap (λ (n : ℕ). stored_from room n ys (stored_from room (suc k) xs (store_at room k x old))) e

-- without room nothing is stored
pub stored_from_none : (k : ℕ) (xs old : List ℕ) → stored_from 0 k xs old ≡ old
unfolding stored_from store_at choose◌then◌else◌
stored_from_none k [] old = refl
stored_from_none k (x ∷ xs) old = rw (le-ltb k 0 (omega arith)) (stored_from_none (suc k) xs old)

-- with room for all they lie one after the other
pub stored_from_all : (room k : ℕ) (xs old : List ℕ) → k + length xs ≤ room → room ≤ length old
    → stored_from room k xs old ≡ take k old ++ (xs ++ drop (k + length xs) old)
unfolding stored_from store_at choose◌then◌else◌
stored_from_all room k [] old h l = let e : k + 0 ≡ k = omega arith in rw e (sym (take-append-drop k old))
stored_from_all room k (x ∷ xs) old h l =
    let e : suc k + length xs ≡ k + suc (length xs) = omega arith in
    let m : length (set old k x) ≡ length old = length-set old k x in
    let t : take (suc k) (set old k x) ≡ take k old ++ (x ∷ []) = take-suc-set old k x (omega arith) in
    let d : drop (suc k + length xs) (set old k x) ≡ drop (suc k + length xs) old = drop-set-lt (suc k + length xs) old k x (omega arith) in
    rw (lt-ltb k room (omega arith))
    (stored_from_all room (suc k) xs (set old k x) (omega arith) (omega arith)
    ∙ rw (t, d, e) (append_assoc (take k old) (x ∷ []) (xs ++ drop (k + suc (length xs)) old)))

pub stored_from_over : (room : ℕ) (xs old : List ℕ) → length xs ≤ room → room ≤ length old → stored_from room 0 xs old ≡ over xs old
stored_from_over room xs old h l = let e : 0 + length xs ≡ length xs = omega arith in stored_from_all room 0 xs old (omega arith) l ∙ rw e

-- and can be read back
pub stored_from_shown : (room : ℕ) (xs old : List ℕ) → length xs ≤ room → room ≤ length old → take (length xs) (stored_from room 0 xs old) ≡ xs
stored_from_shown room xs old h l = rw (stored_from_over room xs old h l) (take-append_seam xs (drop (length xs) old))
