-- The words by which the command line names a dialect.
use Rattle.std.specs.Prelude.{ℕ, Bool, ◌||◌, Option, None, Some}
use Rattle.model.specs.declared.Dialect.TheVariants.{Tdif}
use Rattle.model.specs.rules.Base.{Bytes, same, choose◌then◌else◌}
use Rattle.model.specs.laws.Ascii.{ascii}
use Rattle.model.specs.rules.Records.{name_key}

-- the same in upper or lower case, as TDIF compares names (§4.10)
abbrev pub spells : (word name : Bytes) → Bool
spells word name = same (name_key Tdif word) (name_key Tdif name)

-- the number of the dialect that a word names, by its name or its number, if it names one (§1.1 §1.2 §1.3 §1.4)
unfoldable pub dialect_named : Bytes → Option ℕ
dialect_named word =
    choose spells word (ascii "csvj") || spells word (ascii "1") then Some 1
    else choose spells word (ascii "tdif") || spells word (ascii "2") then Some 2
    else choose spells word (ascii "csv+") || spells word (ascii "3") then Some 3
    else None
