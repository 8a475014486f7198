-- Every step of a cell by its kind, in one case analysis of `cell_step`. A cell stops only where it is whole, and a byte is refused as
-- fault 2 exactly where it breaks the UTF-8 table of a text it belongs to. A quote, a delimiter, CR and LF never break it: they are
-- ASCII.
use Prim.Native.Nat.{ℕ, ◌≤◌, ◌<◌}
use native.Mathlib.Omega.{arith}
use mathlib.Core.Path.{◌≡◌, refl, ap}
use mathlib.Core.Bool.{Bool, true, false, ◌||◌}
use lib.Dec.{ltb}
use borrow.Author.Tests.{ltb-true}
use Rattle.model.specs.rules.Types.{Dialect, Csvj, Tdif, CsvPlus, Char, Whole, Within, Option, Some, None}
use Rattle.model.specs.rules.Types.{Numeral, Minus, Zero, Integer, Point, Fraction, E, ESign, Exponent, Cell, Fresh, Quoted, Closed, Escape}
use Rattle.model.specs.rules.Types.{Hex, InNumber, InWord, Plain, Complete, CellStep, More, Stop, Refuse, Encoding, Syntax}
use Rattle.model.specs.rules.Base.{LF, CR, QUOTE, BACKSLASH, ◌is◌}
use Rattle.model.specs.rules.Dialect.{quote_of, delimiter_of}
use Rattle.model.specs.rules.Utf8.{char_step}
use Rattle.model.specs.rules.Cell.{text_byte, numeral_step, first_byte, quoted_byte, plain_byte, cell_step, is_whole}
use Rattle.model.specs.laws.Viable.{fresh_text, cell_text_at, is_broken, breaks}
use Rattle.model.proofs.Tests.{split}
use Rattle.model.proofs.cell_laws.Utf8.{ascii_whole, quote_ascii, is_ascii, separator_ascii}

pub broken_not : (b : ℕ) → b ≤ 0x7F → is_broken (char_step Whole b) ≡ false
broken_not b h = ap is_broken (ascii_whole b h)

-- what a byte does to the cell c, and whether it breaks the text there
pub data CellTransition (d : Dialect) (c : Cell) : (breaks : Bool) → CellStep → Type 0 where
  takes_more : {c' : Cell} → CellTransition d c false (More c')
  takes_stop : is_whole d c ≡ true → CellTransition d c false Stop
  takes_two : CellTransition d c true (Refuse Encoding)
  takes_three : CellTransition d c false (Refuse Syntax)

text_takes : {d : Dialect} {c : Cell} (f : Char → Cell) (o : Option Char) → CellTransition d c (is_broken o) (text_byte f o)
text_takes f (Some c) = takes_more
text_takes f None = takes_two

-- the same of a byte that the table allows
ascii_takes : {d : Dialect} {c : Cell} (b : ℕ) {a : CellStep} → b ≤ 0x7F → CellTransition d c false a → CellTransition d c (is_broken (char_step Whole b)) a
ascii_takes b h k = rw (broken_not b h) k

first_takes : (d : Dialect) (b : ℕ) → CellTransition d Fresh (breaks (fresh_text d) b) (first_byte d b)
unfolding first_byte is_whole
first_takes Csvj b =
    let P : CellStep → Type 0 = CellTransition Csvj Fresh false in
    split P _ (λ _. takes_more) λ _. split P _ (λ _. takes_more) λ _. split P _ (λ _. takes_more) λ _. split P _ (λ _. takes_more) λ _.
    split P _ (λ _. takes_more) λ _. split P _ (λ _. takes_more) λ _. split P _ (λ _. takes_more) λ _. takes_three
first_takes Tdif b =
    split (CellTransition Tdif Fresh false) _ (λ _. takes_more) λ _. split (CellTransition Tdif Fresh false) _ (λ _. takes_more) λ _.
    takes_three
first_takes (CsvPlus s) b =
    let P : CellStep → Type 0 = CellTransition (CsvPlus s) Fresh (is_broken (char_step Whole b)) in
    let d : Dialect = CsvPlus s in
    split P (b is quote_of d) (λ e. ascii_takes b (is_ascii b (quote_of d) (quote_ascii d) e) takes_more) λ _.
    split P (b is delimiter_of d || b is CR || b is LF) (λ e. ascii_takes b (separator_ascii d b e) (takes_stop refl)) λ _. text_takes Plain (char_step Whole b)

quoted_takes : (d : Dialect) (b : ℕ) → CellTransition d (Quoted Whole) (is_broken (char_step Whole b)) (quoted_byte d b)
unfolding quoted_byte
quoted_takes Csvj b =
    let P : CellStep → Type 0 = CellTransition Csvj (Quoted Whole) (is_broken (char_step Whole b)) in
    split P (b is QUOTE) (λ e. ascii_takes b (is_ascii b QUOTE (omega arith) e) takes_more) λ _.
    split P (b is BACKSLASH) (λ e. ascii_takes b (is_ascii b BACKSLASH (omega arith) e) takes_more) λ _.
    split P (ltb b 0x20) (λ e. let h : b < 0x20 = ltb-true b 0x20 e in ascii_takes b (omega arith) takes_three) λ _. text_takes Quoted (char_step Whole b)
quoted_takes Tdif b =
    split (CellTransition Tdif (Quoted Whole) (is_broken (char_step Whole b))) (b is QUOTE)
    (λ e. ascii_takes b (is_ascii b QUOTE (omega arith) e) takes_more) λ _.
    text_takes Quoted (char_step Whole b)
quoted_takes (CsvPlus s) b =
    let d : Dialect = CsvPlus s in
    split (CellTransition d (Quoted Whole) (is_broken (char_step Whole b))) (b is quote_of d)
    (λ e. ascii_takes b (is_ascii b (quote_of d) (quote_ascii d) e) takes_more) λ _.
    text_takes Quoted (char_step Whole b)

plain_takes : (d : Dialect) (b : ℕ) → CellTransition d (Plain Whole) (is_broken (char_step Whole b)) (plain_byte d b)
unfolding plain_byte is_whole
plain_takes d b =
    let P : CellStep → Type 0 = CellTransition d (Plain Whole) (is_broken (char_step Whole b)) in
    split P (b is quote_of d) (λ e. ascii_takes b (is_ascii b (quote_of d) (quote_ascii d) e) takes_three) λ _.
    split P (b is delimiter_of d || b is CR || b is LF) (λ e. ascii_takes b (separator_ascii d b e) (takes_stop refl)) λ _. text_takes Plain (char_step Whole b)

numeral_takes : (d : Dialect) (n : Numeral) (b : ℕ) → CellTransition d (InNumber n) false (numeral_step n b)
unfolding numeral_step is_whole
numeral_takes d Minus b = let P = CellTransition d (InNumber Minus) false in split P _ (λ _. takes_more) λ _. split P _ (λ _. takes_more) λ _. takes_three
numeral_takes d Zero b = let P = CellTransition d (InNumber Zero) false in split P _ (λ _. takes_more) λ _. split P _ (λ _. takes_more) λ _. takes_stop refl
numeral_takes d Integer b =
    let P = CellTransition d (InNumber Integer) false in
    split P _ (λ _. takes_more) λ _. split P _ (λ _. takes_more) λ _. split P _ (λ _. takes_more) λ _. takes_stop refl
numeral_takes d Point b = split (CellTransition d (InNumber Point) false) _ (λ _. takes_more) λ _. takes_three
numeral_takes d Fraction b =
    let P = CellTransition d (InNumber Fraction) false in split P _ (λ _. takes_more) λ _. split P _ (λ _. takes_more) λ _. takes_stop refl
numeral_takes d E b = let P = CellTransition d (InNumber E) false in split P _ (λ _. takes_more) λ _. split P _ (λ _. takes_more) λ _. takes_three
numeral_takes d ESign b = split (CellTransition d (InNumber ESign) false) _ (λ _. takes_more) λ _. takes_three
numeral_takes d Exponent b = split (CellTransition d (InNumber Exponent) false) _ (λ _. takes_more) λ _. takes_stop refl

pub cell_transition : (d : Dialect) (c : Cell) (b : ℕ) → CellTransition d c (breaks (cell_text_at d c) b) (cell_step d c b)
unfolding cell_step is_whole
cell_transition d Fresh b = first_takes d b
cell_transition d (Quoted Whole) b = quoted_takes d b
cell_transition d (Quoted (Within i)) b = text_takes Quoted (char_step (Within i) b)
cell_transition d Closed b = split (CellTransition d Closed false) _ (λ _. takes_more) λ _. takes_stop refl
cell_transition d Escape b =
    split (CellTransition d Escape false) _ (λ _. takes_more) λ _. split (CellTransition d Escape false) _ (λ _. takes_more) λ _.
    takes_three
cell_transition d (Hex n) b = split (CellTransition d (Hex n) false) _ (λ _. takes_more) λ _. takes_three
cell_transition d (InNumber n) b = numeral_takes d n b
cell_transition d (InWord w) b = split (CellTransition d (InWord w) false) _ (λ _. takes_more) λ _. takes_three
cell_transition d (Plain Whole) b = plain_takes d b
cell_transition d (Plain (Within i)) b = text_takes Plain (char_step (Within i) b)
cell_transition d Complete b = takes_stop refl
