-- The encoding of a cell by its first byte. A cell without bytes is treated as one that begins with 0.
use Rattle.std.specs.Prelude.{ℕ, false, ◌||◌, [], drop}
use Rattle.model.specs.declared.Dialect.{Dialect}
use Rattle.model.specs.declared.Dialect.TheVariants.{Csvj, Tdif, CsvPlus}
use Rattle.model.specs.rules.Base.{choose◌then◌else◌, ◌is◌, Bytes, QUOTE}
use Rattle.model.specs.rules.Dialect.{quote_of}
use Rattle.model.specs.rules.Cell.{is_digit}
use Rattle.model.specs.rules.Decode.{undouble}
use Rattle.cell_decoder.specs.declared.first_byte.Spelling.{Spelling}
use Rattle.cell_decoder.specs.declared.first_byte.Spelling.TheVariants.{Nothing, AsItStands, Doubled, Escaped}
use Rattle.cell_decoder.specs.Strings.{string_from}

unfoldable pub spelling_by : Dialect → ℕ → Spelling
spelling_by Csvj b =
    choose b is QUOTE then Escaped
    else choose b is 0x2D || is_digit b then AsItStands
    else Nothing
spelling_by Tdif b = choose b is QUOTE then Doubled QUOTE else Nothing
spelling_by (CsvPlus s) b = choose b is quote_of (CsvPlus s) then Doubled (quote_of (CsvPlus s)) else AsItStands

-- the content of a cell in this encoding
abbrev pub content_in : Spelling → Bytes → Bytes
content_in Nothing raw = []
content_in AsItStands raw = raw
content_in (Doubled q) raw = undouble q false (drop 1 raw)
content_in Escaped raw = string_from raw 1
