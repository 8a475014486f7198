-- One cell, a byte at a time, in each dialect. A record is cells with delimiters between them (File), and the decoder runs this
-- automaton alone (Decode).
use Rattle.std.specs.Prelude.{ℕ, ◌≡◌, Bool, true, false, ◌||◌, [], ◌∷◌, ltb}
use Rattle.model.specs.rules.Types.{Dialect, Csvj, Tdif, CsvPlus, Char, Whole, Within, Option, Some, None}
use Rattle.model.specs.rules.Types.{HexLeft, Four, Three, Two, One, Numeral, Minus, Zero, Integer, Point, Fraction, E, ESign, Exponent}
use Rattle.model.specs.rules.Types.{Word, T, Tr, Tru, F, Fa, Fal, Fals, N, Nu, Nul, Backslash}
use Rattle.model.specs.rules.Types.{Cell, Fresh, Quoted, Closed, Escape, Hex, InNumber, InWord, Plain, Complete, CellStep, More, Stop, Refuse}
use Rattle.model.specs.rules.Types.{Encoding, Syntax}
use Rattle.model.specs.rules.Base.{Bytes, choose◌then◌else◌, ◌is◌, within, LF, CR, QUOTE, BACKSLASH}
use Rattle.model.specs.rules.Dialect.{quote_of, delimiter_of}
use Rattle.model.specs.rules.Utf8.{char_step}

-- a byte of text, which is fault 2 where it breaks the table (§6.2)
abbrev pub text_byte : (Char → Cell) → Option Char → CellStep
text_byte f None = Refuse Encoding
text_byte f (Some c) = More (f c)

-- ---- values of RFC 8259 in CSVJ, and \N of TDIF

-- a decimal digit, of a number or of an escape (§3.5 §3.6)
abbrev pub is_digit : ℕ → Bool
is_digit b = within 0x30 0x39 b

-- a hexadecimal digit of an escape, of either case (§3.6)
abbrev pub is_hex : ℕ → Bool
is_hex b = is_digit b || within 0x41 0x46 b || within 0x61 0x66 b

-- the byte after the backslash of an escape without digits (§3.6)
abbrev pub is_short : ℕ → Bool
is_short b =
    b is QUOTE || b is BACKSLASH || b is 0x2F || b is 0x62 || b is 0x66 || b is 0x6E || b is 0x72 || b is 0x74

-- the letter that begins a number's exponent (§3.5)
abbrev is_e : ℕ → Bool
is_e b = b is 0x65 || b is 0x45

-- the digits of a \u escape are counted down from four, and then the string continues (§3.6)
abbrev pub after_hex : HexLeft → Cell
after_hex Four = Hex Three
after_hex Three = Hex Two
after_hex Two = Hex One
after_hex One = Quoted Whole

-- the next byte of a number (§3.5)
unfoldable pub numeral_step : Numeral → ℕ → CellStep
numeral_step Minus b =
    choose b is 0x30 then More (InNumber Zero) else choose is_digit b then More (InNumber Integer) else Refuse Syntax
numeral_step Zero b = choose b is 0x2E then More (InNumber Point) else choose is_e b then More (InNumber E) else Stop
numeral_step Integer b =
    choose is_digit b then More (InNumber Integer)
    else choose b is 0x2E then More (InNumber Point)
    else choose is_e b then More (InNumber E)
    else Stop
numeral_step Point b = choose is_digit b then More (InNumber Fraction) else Refuse Syntax
numeral_step Fraction b = choose is_digit b then More (InNumber Fraction) else choose is_e b then More (InNumber E) else Stop
numeral_step E b =
    choose is_digit b then More (InNumber Exponent)
    else choose b is 0x2B || b is 0x2D then More (InNumber ESign)
    else Refuse Syntax
numeral_step ESign b = choose is_digit b then More (InNumber Exponent) else Refuse Syntax
numeral_step Exponent b = choose is_digit b then More (InNumber Exponent) else Stop

-- the next letter of a word: true, false, null, and the N of TDIF's null (§3.4 §4.3)
abbrev pub letter_of : Word → ℕ
letter_of T = 0x72
letter_of Tr = 0x75
letter_of Tru = 0x65
letter_of F = 0x61
letter_of Fa = 0x6C
letter_of Fal = 0x73
letter_of Fals = 0x65
letter_of N = 0x75
letter_of Nu = 0x6C
letter_of Nul = 0x6C
letter_of Backslash = 0x4E

-- what has been read of the word after that letter; its last letter completes the cell (§3.4 §4.3)
abbrev pub after_letter : Word → Cell
after_letter T = InWord Tr
after_letter Tr = InWord Tru
after_letter Tru = Complete
after_letter F = InWord Fa
after_letter Fa = InWord Fal
after_letter Fal = InWord Fals
after_letter Fals = Complete
after_letter N = InWord Nu
after_letter Nu = InWord Nul
after_letter Nul = Complete
after_letter Backslash = Complete

-- ---- cells

-- the first byte of a cell. CSVJ: of a string, a number or a word. TDIF: of a quoted cell or of null. CSV+: of a quoted cell or an
-- unquoted one, which is empty if the byte is a delimiter, CR or LF; only an unquoted cell's first byte can be fault 2 (§3.4 §4.3
-- §5.3 §5.5 §6.22)
unfoldable pub first_byte : Dialect → ℕ → CellStep
first_byte Csvj b =
    choose b is QUOTE then More (Quoted Whole)
    else choose b is 0x2D then More (InNumber Minus)
    else choose b is 0x30 then More (InNumber Zero)
    else choose is_digit b then More (InNumber Integer)
    else choose b is 0x74 then More (InWord T)
    else choose b is 0x66 then More (InWord F)
    else choose b is 0x6E then More (InWord N)
    else Refuse Syntax
first_byte Tdif b =
    choose b is QUOTE then More (Quoted Whole)
    else choose b is BACKSLASH then More (InWord Backslash)
    else Refuse Syntax
first_byte (CsvPlus s) b =
    choose b is quote_of (CsvPlus s) then More (Quoted Whole)
    else choose b is delimiter_of (CsvPlus s) || b is CR || b is LF then Stop
    else text_byte Plain (char_step Whole b)

-- a byte between the quotes, at a character's start. CSVJ has escapes and refuses bytes below 20; in TDIF and CSV+ a quote
-- may be the first of two, and every other byte is text (§3.6 §3.7 §4.4 §5.4 §6.22)
unfoldable pub quoted_byte : Dialect → ℕ → CellStep
quoted_byte Csvj b =
    choose b is QUOTE then More Complete
    else choose b is BACKSLASH then More Escape
    else choose ltb b 0x20 then Refuse Syntax
    else text_byte Quoted (char_step Whole b)
quoted_byte Tdif b = choose b is QUOTE then More Closed else text_byte Quoted (char_step Whole b)
quoted_byte (CsvPlus s) b = choose b is quote_of (CsvPlus s) then More Closed else text_byte Quoted (char_step Whole b)

-- a byte of an unquoted CSV+ cell, at a character's start after the first: a quote has no place in it, also not after a space (§5.5
-- §5.8)
unfoldable pub plain_byte : Dialect → ℕ → CellStep
plain_byte d b =
    choose b is quote_of d then Refuse Syntax
    else choose b is delimiter_of d || b is CR || b is LF then Stop
    else text_byte Plain (char_step Whole b)

-- the next byte of a cell: it belongs to the cell, or the cell has ended before it, or it is fault 2 or 3. Inside a character a byte
-- that breaks the table is 2, inside an escape every wrong byte is 3 (§6.2 §6.3 §6.21 §6.23)
unfoldable pub cell_step : Dialect → Cell → ℕ → CellStep
cell_step d Fresh b = first_byte d b
cell_step d (Quoted Whole) b = quoted_byte d b
cell_step d (Quoted (Within i)) b = text_byte Quoted (char_step (Within i) b)
cell_step d Closed b = choose b is quote_of d then More (Quoted Whole) else Stop
cell_step d Escape b =
    choose is_short b then More (Quoted Whole) else choose b is 0x75 then More (Hex Four) else Refuse Syntax
cell_step d (Hex n) b = choose is_hex b then More (after_hex n) else Refuse Syntax
cell_step d (InNumber n) b = numeral_step n b
cell_step d (InWord w) b = choose b is letter_of w then More (after_letter w) else Refuse Syntax
cell_step d (Plain Whole) b = plain_byte d b
cell_step d (Plain (Within i)) b = text_byte Plain (char_step (Within i) b)
cell_step d Complete b = Stop

-- ---- what has been read is a whole cell

-- no character is unfinished; inside one, the end is fault 4 (§6.4 §11.4)
abbrev pub between_characters : Char → Bool
between_characters Whole = true
between_characters (Within i) = false

-- a cell may have no bytes: in CSV+ alone (§5.5 §11.5)
abbrev pub may_be_empty : Dialect → Bool
may_be_empty Csvj = false
may_be_empty Tdif = false
may_be_empty (CsvPlus s) = true

-- a number may end here (§3.5 §11.4)
abbrev pub is_numeral : Numeral → Bool
is_numeral Minus = false
is_numeral Zero = true
is_numeral Integer = true
is_numeral Point = false
is_numeral Fraction = true
is_numeral E = false
is_numeral ESign = false
is_numeral Exponent = true

-- a cell may end here: not inside quotes, a character, a number, a word, an escape or TDIF's null, and not before its first
-- byte unless it may be empty (§5.11 §11.4 §11.5)
unfoldable pub is_whole : Dialect → Cell → Bool
is_whole d Fresh = may_be_empty d
is_whole d (Quoted c) = false
is_whole d Closed = true
is_whole d Escape = false
is_whole d (Hex n) = false
is_whole d (InNumber n) = is_numeral n
is_whole d (InWord w) = false
is_whole d (Plain c) = between_characters c
is_whole d Complete = true

-- ---- runs over the bytes of a cell

-- the bytes bs take the cell from c to c' (§6.2 §6.3)
pub data Runs (d : Dialect) : Cell → Bytes → Cell → Type 0 where
  here : {c : Cell} → Runs d c [] c
  there : {c c' c'' : Cell} {b : ℕ} {bs : Bytes} → cell_step d c b ≡ More c' → Runs d c' bs c'' → Runs d c (b ∷ bs) c''

-- ---- inside quotes

-- the next byte is inside quotes, where CR and LF are counted in a record (§7.4)
abbrev pub in_quotes : Cell → Bool
in_quotes Fresh = false
in_quotes (Quoted c) = true
in_quotes Closed = false
in_quotes Escape = true
in_quotes (Hex n) = true
in_quotes (InNumber n) = false
in_quotes (InWord w) = false
in_quotes (Plain c) = false
in_quotes Complete = false

-- helper: `unfolding cell_computes` opens every definition of this module
unfoldable pub cell_computes : Type 0
unfolding numeral_step first_byte quoted_byte plain_byte cell_step is_whole
cell_computes = Unit {0}
