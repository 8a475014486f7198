-- Which tests make a byte ordinary and which do not.
use Prim.Native.Nat.{ℕ, ◌≤◌, ◌<◌}
use native.Mathlib.Omega.{arith}
use mathlib.Core.Path.{◌≡◌}
use mathlib.Core.Bool.{true, false, not, ◌&&◌, and-false}
use borrow.Author.Tests.{eq-eqb, ne_eqb, le-leb, lt-leb}
use Rattle.model.specs.rules.Base.{◌is◌, within}
use Rattle.swar.specs.Words.{ordinary}

pub below : (p q b : ℕ) → b < 0x20 → ordinary p q b ≡ false
unfolding ordinary
below p q b h = rw (lt-leb 0x20 b h)

pub above : (p q b : ℕ) → 0x7E < b → ordinary p q b ≡ false
unfolding ordinary
above p q b h = rw (le-leb 0x20 b (omega arith), lt-leb b 0x7E h)

pub first_stop : (p q b : ℕ) → b ≡ p → ordinary p q b ≡ false
unfolding ordinary
first_stop p q b e = rw (eq-eqb b p e, and-false (within 0x20 0x7E b))

pub second_stop : (p q b : ℕ) → b ≡ q → ordinary p q b ≡ false
unfolding ordinary
second_stop p q b e = rw (eq-eqb b q e) (and-false (within 0x20 0x7E b && not (b is p)))

pub proceeds_on : (p q b : ℕ) → 0x20 ≤ b → b ≤ 0x7E → ¬ (b ≡ p) → ¬ (b ≡ q) → ordinary p q b ≡ true
unfolding ordinary
proceeds_on p q b l h m n = rw (le-leb 0x20 b l, le-leb b 0x7E h, ne_eqb b p m, ne_eqb b q n)
