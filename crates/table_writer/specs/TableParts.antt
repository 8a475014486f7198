-- A table from the lists that the writer is given, and whether an option holds a value.
use Rattle.std.specs.Prelude.{ℕ, Bool, true, false, List}
use Rattle.std.specs.Prelude.{Option, None, Some}
use Rattle.model.specs.rules.Base.{Bytes}
use Rattle.model.specs.rules.Api.{Table}

-- what the writer is given (§13.1)
abbrev pub given : (content : Bytes) (starts ends kinds : List ℕ) (columns records : ℕ) → Table
given content starts ends kinds columns records =
    record { content = content; starts = starts; ends = ends; kinds = kinds; columns = columns; records = records }

abbrev pub is_there : {A : Type 0} → Option A → Bool
is_there None = false
is_there (Some x) = true
