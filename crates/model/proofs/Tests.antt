-- Laws by the tests of a definition (`split`), and the list of facts that a test of the code gives about them, for `search`.
use Prim.Native.Nat.{ℕ, ◌≤◌}
use native.Mathlib.Omega.{arith}
use mathlib.Core.Path.{◌≡◌, refl, sym, subst}
use mathlib.Core.Bool.{Bool, true, false, ◌&&◌}
use lib.Dec.{leb, T, eqb→eq}
use borrow.Author.Tests.{eq-eqb, ne_eqb, lt-ltb, le-ltb, le-leb, lt-leb, leb-true}
use Rattle.model.specs.rules.Base.{choose◌then◌else◌, ◌is◌, within}

pub ruleset tests = (eq-eqb, ne_eqb, lt-ltb, le-ltb, le-leb, lt-leb)

-- a choice has a property if each side has it, given the result of the test
pub split {ℓ κ} : {A : Type ℓ} (P : A → Type κ) {x y : A} (t : Bool) → (t ≡ true → P x) → (t ≡ false → P y) → P (choose t then x else y)
unfolding choose◌then◌else◌
split P true f g = f refl
split P false f g = g refl

pub split_on : {A : Type 0} (t : Bool) → (t ≡ true → A) → (t ≡ false → A) → A
split_on true f g = f refl
split_on false f g = g refl

pub impossible : {A : Type 0} → false ≡ true → A
impossible e = let z : ◌≡◌ {A = ℕ} 0 1 = cc in absurd (omega arith)

pub and_true : (x y : Bool) → (x && y) ≡ true → (x ≡ true) × (y ≡ true)
and_true true y e = (refl, e)
and_true false y e = impossible e

pub is→eq : (b c : ℕ) → (b is c) ≡ true → b ≡ c
is→eq b c e = eqb→eq b c (subst T (sym e) tt)

pub same_byte : (b : ℕ) → (b is b) ≡ true
same_byte b = eq-eqb b b refl

pub within_true : (lo hi b : ℕ) → within lo hi b ≡ true → (lo ≤ b) × (b ≤ hi)
within_true lo hi b e = let x = and_true (leb lo b) (leb b hi) e in (leb-true lo b x.0, leb-true b hi x.1)
