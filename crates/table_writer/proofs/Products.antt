-- A product is checked by its quotient, which can't overflow.
use Prim.Native.Nat.{ℕ, ◌*◌, ◌%◌}
use native.Mathlib.Nat.{mul-mod_right}
use mathlib.Core.Path.{◌≡◌, ap, ◌∙◌}
use mathlib.Core.Bool.{false}
use lib.Dec.{eqb}
use borrow.Author.Tests.{ne_eqb}

pub not_whole : (cells columns records : ℕ) → (cells % columns ≡ 0 → ⊥) → eqb cells (columns * records) ≡ false
not_whole cells columns records f = ne_eqb cells (columns * records) λ e. f (ap (λ (n : ℕ). n % columns) e ∙ mul-mod_right columns records)
