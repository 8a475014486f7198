-- Lexer states as numbers. Every state has a number of its own, and every number decodes to some state.
use Rattle.std.specs.Prelude.{ℕ, ◌+◌, ◌-◌, ◌≡◌, ltb}
use Rattle.model.specs.declared.Lead.{Lead}
use Rattle.model.specs.declared.Lead.TheVariants.{C2ToDf, E0, E1ToEc, Ed, EeToEf, F0, F1ToF3, F4}
use Rattle.model.specs.declared.Inner.{Inner}
use Rattle.model.specs.declared.Inner.TheVariants.{Second, LastTwo, Last}
use Rattle.model.specs.declared.Char.{Char}
use Rattle.model.specs.declared.Char.TheVariants.{Whole, Within}
use Rattle.model.specs.declared.HexLeft.{HexLeft}
use Rattle.model.specs.declared.HexLeft.TheVariants.{Four, Three, Two, One}
use Rattle.model.specs.declared.Numeral.{Numeral}
use Rattle.model.specs.declared.Numeral.TheVariants.{Minus, Zero, Integer, Point, Fraction, E, ESign, Exponent}
use Rattle.model.specs.declared.Word.{Word}
use Rattle.model.specs.declared.Word.TheVariants.{T, Tr, Tru, F, Fa, Fal, Fals, N, Nu, Nul, Backslash}
use Rattle.model.specs.declared.Cell.{Cell}
use Rattle.model.specs.declared.Cell.TheVariants.{Fresh, Quoted, Closed, Escape, Hex, InNumber, InWord, Plain, Complete}
use Rattle.model.specs.declared.FileState.{FileState}
use Rattle.model.specs.declared.FileState.TheVariants.{Top, Begin, Ended, Bom1, Bom2, PlainBom1, PlainBom2, Comment, Blanks, ExpectCell, Inside, After, Cr}
use Rattle.model.specs.rules.Base.{choose◌then◌else◌, ◌is◌}

-- ---- characters

abbrev pub lead_number : Lead → ℕ
lead_number C2ToDf = 0
lead_number E0 = 1
lead_number E1ToEc = 2
lead_number Ed = 3
lead_number EeToEf = 4
lead_number F0 = 5
lead_number F1ToF3 = 6
lead_number F4 = 7

unfoldable pub lead_from : ℕ → Lead
lead_from n =
    choose n is 0 then C2ToDf
    else choose n is 1 then E0
    else choose n is 2 then E1ToEc
    else choose n is 3 then Ed
    else choose n is 4 then EeToEf
    else choose n is 5 then F0
    else choose n is 6 then F1ToF3
    else F4

abbrev pub inner_number : Inner → ℕ
inner_number Last = 0
inner_number LastTwo = 1
inner_number (Second l) = 2 + lead_number l

unfoldable pub inner_from : ℕ → Inner
inner_from n =
    choose n is 0 then Last
    else choose n is 1 then LastTwo
    else Second (lead_from (n - 2))

abbrev pub char_number : Char → ℕ
char_number Whole = 0
char_number (Within i) = 1 + inner_number i

unfoldable pub char_from : ℕ → Char
char_from n = choose n is 0 then Whole else Within (inner_from (n - 1))

-- ---- cells

abbrev pub hex_number : HexLeft → ℕ
hex_number Four = 0
hex_number Three = 1
hex_number Two = 2
hex_number One = 3

unfoldable pub hex_from : ℕ → HexLeft
hex_from n =
    choose n is 0 then Four
    else choose n is 1 then Three
    else choose n is 2 then Two
    else One

abbrev pub numeral_number : Numeral → ℕ
numeral_number Minus = 0
numeral_number Zero = 1
numeral_number Integer = 2
numeral_number Point = 3
numeral_number Fraction = 4
numeral_number E = 5
numeral_number ESign = 6
numeral_number Exponent = 7

unfoldable pub numeral_from : ℕ → Numeral
numeral_from n =
    choose n is 0 then Minus
    else choose n is 1 then Zero
    else choose n is 2 then Integer
    else choose n is 3 then Point
    else choose n is 4 then Fraction
    else choose n is 5 then E
    else choose n is 6 then ESign
    else Exponent

abbrev pub word_number : Word → ℕ
word_number T = 0
word_number Tr = 1
word_number Tru = 2
word_number F = 3
word_number Fa = 4
word_number Fal = 5
word_number Fals = 6
word_number N = 7
word_number Nu = 8
word_number Nul = 9
word_number Backslash = 10

unfoldable pub word_from : ℕ → Word
word_from n =
    choose n is 0 then T
    else choose n is 1 then Tr
    else choose n is 2 then Tru
    else choose n is 3 then F
    else choose n is 4 then Fa
    else choose n is 5 then Fal
    else choose n is 6 then Fals
    else choose n is 7 then N
    else choose n is 8 then Nu
    else choose n is 9 then Nul
    else Backslash

-- a state with an argument has a row of sixteen numbers
abbrev pub cell_number : Cell → ℕ
cell_number Fresh = 0
cell_number Closed = 1
cell_number Escape = 2
cell_number Complete = 3
cell_number (Quoted t) = 16 + char_number t
cell_number (Plain t) = 32 + char_number t
cell_number (Hex h) = 48 + hex_number h
cell_number (InNumber m) = 64 + numeral_number m
cell_number (InWord w) = 80 + word_number w

unfoldable pub fixed_cell : ℕ → Cell
fixed_cell n =
    choose n is 0 then Fresh
    else choose n is 1 then Closed
    else choose n is 2 then Escape
    else Complete

unfoldable pub cell_from : ℕ → Cell
cell_from n =
    choose ltb n 16 then fixed_cell n
    else choose ltb n 32 then Quoted (char_from (n - 16))
    else choose ltb n 48 then Plain (char_from (n - 32))
    else choose ltb n 64 then Hex (hex_from (n - 48))
    else choose ltb n 80 then InNumber (numeral_from (n - 64))
    else InWord (word_from (n - 80))

-- ---- files

abbrev pub state_number : FileState → ℕ
state_number Top = 0
state_number Begin = 1
state_number Ended = 2
state_number Bom1 = 3
state_number Bom2 = 4
state_number PlainBom1 = 5
state_number PlainBom2 = 6
state_number Blanks = 7
state_number ExpectCell = 8
state_number After = 9
state_number Cr = 10
state_number (Comment t) = 16 + char_number t
state_number (Inside c) = 32 + cell_number c

unfoldable pub fixed_state : ℕ → FileState
fixed_state n =
    choose n is 0 then Top
    else choose n is 1 then Begin
    else choose n is 2 then Ended
    else choose n is 3 then Bom1
    else choose n is 4 then Bom2
    else choose n is 5 then PlainBom1
    else choose n is 6 then PlainBom2
    else choose n is 7 then Blanks
    else choose n is 8 then ExpectCell
    else choose n is 9 then After
    else Cr

unfoldable pub state_from : ℕ → FileState
state_from n =
    choose ltb n 16 then fixed_state n
    else choose ltb n 32 then Comment (char_from (n - 16))
    else Inside (cell_from (n - 32))

-- the number of a state decodes to that state
abbrev pub StateBack : Type 0
StateBack = (f : FileState) → state_from (state_number f) ≡ f
