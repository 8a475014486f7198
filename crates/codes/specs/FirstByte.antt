-- The kind of a cell by its first byte. A cell without bytes is treated as one that begins with 0.
use Rattle.std.specs.Prelude.{ℕ}
use Rattle.model.specs.declared.Kind.{Kind}
use Rattle.model.specs.declared.Kind.TheVariants.{Text, Number, True, False, Null}
use Rattle.model.specs.declared.Dialect.{Dialect}
use Rattle.model.specs.declared.Dialect.TheVariants.{Csvj, Tdif, CsvPlus}
use Rattle.model.specs.rules.Base.{choose◌then◌else◌, ◌is◌, QUOTE}

unfoldable pub kind_by : Dialect → ℕ → Kind
kind_by Csvj b =
    choose b is QUOTE then Text
    else choose b is 0x74 then True
    else choose b is 0x66 then False
    else choose b is 0x6E then Null
    else Number
kind_by Tdif b = choose b is QUOTE then Text else Null
kind_by (CsvPlus s) b = Text
