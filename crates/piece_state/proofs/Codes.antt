-- The number of a state decodes to that state: by computation where it has no argument, and otherwise since its row has room for the
-- argument's number.
use Prim.Native.Nat.{ℕ, ◌+◌, ◌-◌, ◌≤◌, ◌<◌}
use native.Mathlib.Omega.{arith}
use mathlib.Core.Path.{◌≡◌, refl, ap, ◌∙◌}
use borrow.Author.Tests.{lt-ltb, le-ltb}
use Rattle.model.specs.declared.Lead.{Lead}
use Rattle.model.specs.declared.Lead.TheVariants.{C2ToDf, E0, E1ToEc, Ed, EeToEf, F0, F1ToF3, F4}
use Rattle.model.specs.declared.Inner.{Inner}
use Rattle.model.specs.declared.Inner.TheVariants.{Second, LastTwo, Last}
use Rattle.model.specs.declared.Char.{Char}
use Rattle.model.specs.declared.Char.TheVariants.{Whole, Within}
use Rattle.model.specs.declared.HexLeft.{HexLeft}
use Rattle.model.specs.declared.HexLeft.TheVariants.{Four, Three, Two, One}
use Rattle.model.specs.declared.Numeral.{Numeral}
use Rattle.model.specs.declared.Numeral.TheVariants.{Minus, Zero, Integer, Point, Fraction, E, ESign, Exponent}
use Rattle.model.specs.declared.Word.{Word}
use Rattle.model.specs.declared.Word.TheVariants.{T, Tr, Tru, F, Fa, Fal, Fals, N, Nu, Nul, Backslash}
use Rattle.model.specs.declared.Cell.{Cell}
use Rattle.model.specs.declared.Cell.TheVariants.{Fresh, Quoted, Closed, Escape, Hex, InNumber, InWord, Plain, Complete}
use Rattle.model.specs.declared.FileState.TheVariants.{Top, Begin, Ended, Bom1, Bom2, PlainBom1, PlainBom2, Comment, Blanks, ExpectCell, Inside, After, Cr}
use Rattle.model.specs.rules.Base.{choose◌then◌else◌}
use Rattle.piece_state.specs.Codes.{lead_number, lead_from, inner_number, inner_from, char_number, char_from, hex_number, hex_from, numeral_number, numeral_from}
use Rattle.piece_state.specs.Codes.{word_number, word_from, cell_number, fixed_cell, cell_from, fixed_state, state_from, StateBack}

-- ---- how large the numbers are

pub lead_small : (l : Lead) → lead_number l ≤ 7
lead_small C2ToDf = omega arith
lead_small E0 = omega arith
lead_small E1ToEc = omega arith
lead_small Ed = omega arith
lead_small EeToEf = omega arith
lead_small F0 = omega arith
lead_small F1ToF3 = omega arith
lead_small F4 = omega arith

pub inner_small : (i : Inner) → inner_number i ≤ 9
inner_small Last = omega arith
inner_small LastTwo = omega arith
inner_small (Second l) = omega (arith, lead_small l)

pub char_small : (t : Char) → char_number t ≤ 10
char_small Whole = omega arith
char_small (Within i) = omega (arith, inner_small i)

pub hex_small : (h : HexLeft) → hex_number h ≤ 3
hex_small Four = omega arith
hex_small Three = omega arith
hex_small Two = omega arith
hex_small One = omega arith

pub numeral_small : (m : Numeral) → numeral_number m ≤ 7
numeral_small Minus = omega arith
numeral_small Zero = omega arith
numeral_small Integer = omega arith
numeral_small Point = omega arith
numeral_small Fraction = omega arith
numeral_small E = omega arith
numeral_small ESign = omega arith
numeral_small Exponent = omega arith

pub word_small : (w : Word) → word_number w ≤ 10
word_small T = omega arith
word_small Tr = omega arith
word_small Tru = omega arith
word_small F = omega arith
word_small Fa = omega arith
word_small Fal = omega arith
word_small Fals = omega arith
word_small N = omega arith
word_small Nu = omega arith
word_small Nul = omega arith
word_small Backslash = omega arith

pub cell_small : (c : Cell) → cell_number c ≤ 90
cell_small Fresh = omega arith
cell_small Closed = omega arith
cell_small Escape = omega arith
cell_small Complete = omega arith
cell_small (Quoted t) = omega (arith, char_small t)
cell_small (Plain t) = omega (arith, char_small t)
cell_small (Hex h) = omega (arith, hex_small h)
cell_small (InNumber m) = omega (arith, numeral_small m)
cell_small (InWord w) = omega (arith, word_small w)

-- ---- decoding

char_back : (t : Char) → char_from (char_number t) ≡ t
unfolding char_from inner_from lead_from choose◌then◌else◌
char_back Whole = refl
char_back (Within Last) = refl
char_back (Within LastTwo) = refl
char_back (Within (Second C2ToDf)) = refl
char_back (Within (Second E0)) = refl
char_back (Within (Second E1ToEc)) = refl
char_back (Within (Second Ed)) = refl
char_back (Within (Second EeToEf)) = refl
char_back (Within (Second F0)) = refl
char_back (Within (Second F1ToF3)) = refl
char_back (Within (Second F4)) = refl

-- a number of each row
module _ (k : ℕ) (h : k < 16) where
  quoted_row : cell_from (16 + k) ≡ Quoted (char_from k)
  unfolding cell_from choose◌then◌else◌
  quoted_row =
      let n : 16 + k - 16 ≡ k = omega arith in
      rw (le-ltb (16 + k) 16 (omega arith), lt-ltb (16 + k) 32 (omega arith), n)

  plain_row : cell_from (32 + k) ≡ Plain (char_from k)
  unfolding cell_from choose◌then◌else◌
  plain_row =
      let n : 32 + k - 32 ≡ k = omega arith in
      rw (le-ltb (32 + k) 16 (omega arith), le-ltb (32 + k) 32 (omega arith), lt-ltb (32 + k) 48 (omega arith), n)

  comment_row : state_from (16 + k) ≡ Comment (char_from k)
  unfolding state_from choose◌then◌else◌
  comment_row =
      let n : 16 + k - 16 ≡ k = omega arith in
      rw (le-ltb (16 + k) 16 (omega arith), lt-ltb (16 + k) 32 (omega arith), n)

inside_row : (k : ℕ) → state_from (32 + k) ≡ Inside (cell_from k)
unfolding state_from choose◌then◌else◌
inside_row k =
    let n : 32 + k - 32 ≡ k = omega arith in
    rw (le-ltb (32 + k) 16 (omega arith), le-ltb (32 + k) 32 (omega arith), n)

hex_cell_back : (h : HexLeft) → cell_from (48 + hex_number h) ≡ Hex h
unfolding cell_from hex_from choose◌then◌else◌
hex_cell_back Four = refl
hex_cell_back Three = refl
hex_cell_back Two = refl
hex_cell_back One = refl

number_back : (m : Numeral) → cell_from (64 + numeral_number m) ≡ InNumber m
unfolding cell_from numeral_from choose◌then◌else◌
number_back Minus = refl
number_back Zero = refl
number_back Integer = refl
number_back Point = refl
number_back Fraction = refl
number_back E = refl
number_back ESign = refl
number_back Exponent = refl

word_cell_back : (w : Word) → cell_from (80 + word_number w) ≡ InWord w
unfolding cell_from word_from choose◌then◌else◌
word_cell_back T = refl
word_cell_back Tr = refl
word_cell_back Tru = refl
word_cell_back F = refl
word_cell_back Fa = refl
word_cell_back Fal = refl
word_cell_back Fals = refl
word_cell_back N = refl
word_cell_back Nu = refl
word_cell_back Nul = refl
word_cell_back Backslash = refl

cell_back : (c : Cell) → cell_from (cell_number c) ≡ c
unfolding cell_from fixed_cell choose◌then◌else◌
cell_back Fresh = refl
cell_back Closed = refl
cell_back Escape = refl
cell_back Complete = refl
cell_back (Quoted t) = quoted_row (char_number t) (omega (arith, char_small t)) ∙ ap Quoted (char_back t)
cell_back (Plain t) = plain_row (char_number t) (omega (arith, char_small t)) ∙ ap Plain (char_back t)
cell_back (Hex h) = hex_cell_back h
cell_back (InNumber m) = number_back m
cell_back (InWord w) = word_cell_back w

pub state_back : StateBack
unfolding state_from fixed_state choose◌then◌else◌
state_back Top = refl
state_back Begin = refl
state_back Ended = refl
state_back Bom1 = refl
state_back Bom2 = refl
state_back PlainBom1 = refl
state_back PlainBom2 = refl
state_back Blanks = refl
state_back ExpectCell = refl
state_back After = refl
state_back Cr = refl
state_back (Comment t) = comment_row (char_number t) (omega (arith, char_small t)) ∙ ap Comment (char_back t)
state_back (Inside c) = inside_row (cell_number c) ∙ ap Inside (cell_back c)
