-- The kind and the content of a raw cell, and whether raw bytes are a single cell.
use Rattle.std.specs.Prelude.{ℕ, suc, ◌+◌, ◌-◌, ◌*◌, Bool, true, false, ◌&&◌, ◌||◌, List, [], ◌∷◌, ◌++◌, leb}
use Rattle.model.specs.rules.Types.{Kind, Text, Number, True, False, Null, Dialect, Csvj, Tdif, CsvPlus, HexLeft, Four, Three, Two, One}
use Rattle.model.specs.rules.Types.{Cell, Fresh, More, Stop, Refuse, Syntax, Byte, CutShort, CellCheck, Ok, Err}
use Rattle.model.specs.rules.Base.{choose◌then◌else◌, ◌is◌, Bytes, QUOTE, BACKSLASH, begins}
use Rattle.model.specs.rules.Dialect.{quote_of}
use Rattle.model.specs.rules.Utf8.{pack, is_high, is_low, joined}
use Rattle.model.specs.rules.Cell.{cell_step, is_whole, is_digit}
use Rattle.model.specs.rules.Types.{cell_fault}

-- ---- kinds

-- the number of a kind (§2.3)
abbrev pub kind_number : Kind → ℕ
kind_number Text = 1
kind_number Number = 2
kind_number True = 3
kind_number False = 4
kind_number Null = 5

-- the kind of a whole cell, by its first byte (§2.5 §3.4 §4.3)
unfoldable pub kind_of : Dialect → Bytes → Kind
kind_of Csvj bs =
    choose begins QUOTE bs then Text
    else choose begins 0x74 bs then True
    else choose begins 0x66 bs then False
    else choose begins 0x6E bs then Null
    else Number
kind_of Tdif bs = choose begins QUOTE bs then Text else Null
kind_of (CsvPlus s) bs = Text

-- ---- text with quotes doubled

-- the bytes after the opening quote, up to the closing one, with each doubled quote once. `seen`: the byte before was a quote, which
-- ends the cell unless another follows (§4.4 §5.4)
unfoldable pub undouble : (q : ℕ) (seen : Bool) → Bytes → Bytes
undouble q seen [] = []
undouble q false (b ∷ bs) = choose b is q then undouble q true bs else b ∷ undouble q false bs
undouble q true (b ∷ bs) = choose b is q then b ∷ undouble q false bs else []

-- ---- strings of CSVJ

-- the units of a string: bytes, as they are or as an escape of one letter gives them, and code units that \u escapes name (§2.7 §3.6)
pub data Unit16 : Type 0 where
  byte : ℕ → Unit16
  unit : ℕ → Unit16

-- the value of a hexadecimal digit (§3.6)
abbrev pub hex_of : ℕ → ℕ
hex_of b = choose leb b 0x39 then b - 0x30 else choose leb b 0x46 then b - 0x37 else b - 0x57

-- the byte that an escape of one letter denotes (§3.6)
abbrev pub short_of : ℕ → ℕ
short_of b =
    choose b is 0x62 then 0x08
    else choose b is 0x66 then 0x0C
    else choose b is 0x6E then 0x0A
    else choose b is 0x72 then 0x0D
    else choose b is 0x74 then 0x09
    else b

-- the state inside a string: between escapes, after a backslash, or in a \u escape with the value of its digits so far (§3.6)
pub data InString : Type 0 where
  between : InString
  escape : InString
  digits : HexLeft → (sofar : ℕ) → InString

-- the units between the quotes of a string, up to the closing one (§3.6)
unfoldable pub units : InString → Bytes → List Unit16
units e [] = []
units between (b ∷ bs) =
    choose b is QUOTE then []
    else choose b is BACKSLASH then units escape bs
    else byte b ∷ units between bs
units escape (b ∷ bs) = choose b is 0x75 then units (digits Four 0) bs else byte (short_of b) ∷ units between bs
units (digits Four u) (b ∷ bs) = units (digits Three (u * 0x10 + hex_of b)) bs
units (digits Three u) (b ∷ bs) = units (digits Two (u * 0x10 + hex_of b)) bs
units (digits Two u) (b ∷ bs) = units (digits One (u * 0x10 + hex_of b)) bs
units (digits One u) (b ∷ bs) = unit (u * 0x10 + hex_of b) ∷ units between bs

-- the content of a string: a high surrogate and directly after it a low one are one code point, any other surrogate is a
-- lone one (§2.6 §2.7 §2.8)
unfoldable pub text_of : List Unit16 → Bytes
text_of [] = []
text_of (byte b ∷ us) = b ∷ text_of us
text_of (unit h ∷ []) = pack h
text_of (unit h ∷ byte b ∷ us) = pack h ++ (b ∷ text_of us)
text_of (unit h ∷ unit l ∷ us) =
    choose is_high h && is_low l then pack (joined h l) ++ text_of us else pack h ++ text_of (unit l ∷ us)

-- ---- content

-- the content of a whole cell: decoded text, a number's spelling, and nothing for other kinds (§2.4)
unfoldable pub content_of : Dialect → Bytes → Bytes
content_of Csvj [] = []
content_of Csvj (b ∷ bs) =
    choose b is QUOTE then text_of (units between bs)
    else choose b is 0x2D || is_digit b then b ∷ bs
    else []
content_of Tdif [] = []
content_of Tdif (b ∷ bs) = choose b is QUOTE then undouble QUOTE false bs else []
content_of (CsvPlus s) [] = []
content_of (CsvPlus s) (b ∷ bs) =
    choose b is quote_of (CsvPlus s) then undouble (quote_of (CsvPlus s)) false bs else b ∷ bs

-- ---- whether raw bytes are a single cell

-- whether raw bytes, from here on, end a single cell: fault 2 or 3 at a byte, 3 also where the cell has ended before the
-- byte, or 4 where the bytes end too early (§11.2 §11.3 §11.4 §11.5)
unfoldable pub validate_from : Dialect → Cell → (offset : ℕ) → Bytes → CellCheck
validate_from d c i [] = choose is_whole d c then Ok tt else Err (cell_fault CutShort i)
validate_from d c i (b ∷ bs) =
    elim (cell_step d c b) [
      | More c' ↦ validate_from d c' (suc i) bs
      | Stop ↦ Err (cell_fault (Byte Syntax) i)
      | Refuse e ↦ Err (cell_fault (Byte e) i)
    ]

-- whether raw bytes are a single cell, whatever their length and whatever they begin with (§11.1 §11.7)
unfoldable pub validate_cell : Dialect → Bytes → CellCheck
validate_cell d bs = validate_from d Fresh 0 bs

-- helper: `unfolding decode_computes` opens every definition of this module
unfoldable pub decode_computes : Type 0
unfolding kind_of undouble units text_of content_of validate_from validate_cell
decode_computes = Unit {0}
