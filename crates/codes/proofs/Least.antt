-- The least of two numbers is at most either, and any number below both is below it.
use Prim.Native.Nat.{ℕ, ◌≤◌, ◌<◌}
use Rattle.std.specs.Prelude.{min}
use native.Mathlib.Omega.{arith}

pub least_first : (a b : ℕ) → min a b ≤ a
least_first a b = omega arith

pub least_second : (a b : ℕ) → min a b ≤ b
least_second a b = omega arith

pub least_above : (x a b : ℕ) → x < a → x < b → x < min a b
least_above x a b h k = omega arith
