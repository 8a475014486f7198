-- The code's table against the definition's rows: the first byte is searched for in the same rows, and the second byte is tested by the
-- entries of its row.
use mathlib.Core.Path.{◌≡◌}
use Prim.Native.Nat.{ℕ}
use Rattle.std.specs.Prelude.{Some, None}
use Rattle.model.specs.rules.Base.{choose◌then◌else◌, within}
use Rattle.model.specs.rules.Utf8.{after_second, inner_step}
use Rattle.model.specs.declared.Lead.{Lead}
use Rattle.model.specs.declared.Inner.TheVariants.{Second}
use Rattle.utf8.specs.declared.Row.{Row}
use Rattle.utf8.specs.Table.{IsRow}

-- the second byte of a character of this row
pub second_at : (l : Lead) (r : Row) (b : ℕ) → IsRow l r
    → inner_step (Second l) b ≡ (choose within r.low r.high b then Some (after_second r.length) else None)
unfolding inner_step
second_at l r b h = rw (h.low, h.high, h.size)
