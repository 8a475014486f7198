-- The kind that the first byte names equals the definition's kind of the cell.
use mathlib.Core.Path.{◌≡◌, refl}
use mathlib.Core.List.{[], ◌∷◌}
use lib.ListN.{get_or}
use Rattle.model.specs.declared.Dialect.{Dialect}
use Rattle.model.specs.declared.Dialect.TheVariants.{Csvj, Tdif, CsvPlus}
use Rattle.model.specs.rules.Base.{choose◌then◌else◌, Bytes}
use Rattle.model.specs.rules.Decode.{kind_of}
use Rattle.codes.specs.FirstByte.{kind_by}

pub kind_first : (d : Dialect) (raw : Bytes) → kind_by d (get_or raw 0 0) ≡ kind_of d raw
unfolding kind_by kind_of choose◌then◌else◌
kind_first Csvj [] = refl
kind_first Csvj (b ∷ bs) = refl
kind_first Tdif [] = refl
kind_first Tdif (b ∷ bs) = refl
kind_first (CsvPlus s) raw = refl
