-- The code's table against the rules' (§2.11).
use Rattle.std.specs.Prelude.{ℕ, ◌≡◌, ◌≤◌, Option, Some, None, MatchOption}
use Rattle.model.specs.declared.Lead.{Lead}
use Rattle.model.specs.declared.Inner.TheVariants.{Second}
use Rattle.model.specs.declared.Char.TheVariants.{Within}
use Rattle.model.specs.rules.Utf8.{row_of, leads, lead_byte}
use Rattle.utf8.specs.declared.Row.{Row}

-- the code's row is the table's row of this name
pub record IsRow (l : Lead) (r : Row) : Type 0 where
  pub lead : r.lead ≡ l
  pub first : r.first ≡ (row_of l).lo
  pub last : r.last ≡ (row_of l).hi
  pub size : r.length ≡ (row_of l).size
  pub low : r.low ≡ (row_of l).lo2
  pub high : r.high ≡ (row_of l).hi2

-- the table's row of a first byte, or that it has none
abbrev pub RowFor : ℕ → Option Row → Type 0
RowFor b r =
    MatchOption r (lead_byte leads b ≡ None)
    (λ row. IsRow row.lead row × (lead_byte leads b ≡ Some (Within (Second row.lead))) × (0x80 ≤ b) × (2 ≤ row.length))
