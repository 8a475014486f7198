-- Dialects by number, and the characters that each separates and quotes cells with.
use Rattle.std.specs.Prelude.{ℕ, Bool, true, false, Option, None, Some}
use Rattle.model.specs.rules.Types.{Delimiter, Comma, Semicolon, Tab, Bar, Quote, Double, Single, Settings, Dialect, Csvj, Tdif, CsvPlus, Target}
use Rattle.model.specs.rules.Base.{choose◌then◌else◌, ◌is◌, COMMA, QUOTE}

-- the byte of each delimiter that CSV+ may be set to (§5.12)
abbrev pub delimiter_byte : Delimiter → ℕ
delimiter_byte Comma = 0x2C
delimiter_byte Semicolon = 0x3B
delimiter_byte Tab = 0x09
delimiter_byte Bar = 0x7C

-- the byte of each quote that CSV+ may be set to (§5.12)
abbrev pub quote_byte : Quote → ℕ
quote_byte Double = 0x22
quote_byte Single = 0x27

-- the settings of dialect 3, the comma and the double quote (§5.12)
abbrev pub standard : Settings
standard = record { delimiter = Comma; quote = Double }

-- the dialect of a number, or none if the number is unknown; nothing else selects a dialect (§1.1 §1.2 §1.3 §1.4 §1.8)
unfoldable pub dialect_of : ℕ → Option Dialect
dialect_of n =
    choose n is 1 then Some Csvj
    else choose n is 2 then Some Tdif
    else choose n is 3 then Some (CsvPlus standard)
    else None

-- the target that a dialect's number in a call denotes (§1.1 §12.1)
abbrev pub into : Dialect → Target
into d = record { dialect = d }

-- the byte between two cells: the comma, in CSV+ the delimiter of its settings (§3.3 §4.5 §5.3 §5.12)
abbrev pub delimiter_of : Dialect → ℕ
delimiter_of Csvj = COMMA
delimiter_of Tdif = COMMA
delimiter_of (CsvPlus s) = delimiter_byte s.delimiter

-- what a quoted cell begins and ends with: the quote, in CSV+ that of its settings (§3.6 §4.3 §5.4 §5.12)
abbrev pub quote_of : Dialect → ℕ
quote_of Csvj = QUOTE
quote_of Tdif = QUOTE
quote_of (CsvPlus s) = quote_byte s.quote

-- the dialect is CSVJ, which alone can represent a header with no cells and lone surrogates (§8.2 §8.3)
abbrev pub is_csvj : Dialect → Bool
is_csvj Csvj = true
is_csvj Tdif = false
is_csvj (CsvPlus s) = false

-- helper: `unfolding dialect_computes` opens every definition of this module
unfoldable pub dialect_computes : Type 0
unfolding dialect_of
dialect_computes = Unit {0}
