-- Which bytes a record's limit counts: every byte of a cell, a delimiter and a blank; a CR or LF outside quotes is of no cell.
use Prim.Native.Nat.{ℕ, ◌≤◌}
use native.Mathlib.Omega.{arith}
use mathlib.Core.Path.{◌≡◌, refl, sym, ◌∙◌}
use mathlib.Core.Logic.{◌≢◌}
use mathlib.Core.Bool.{Bool, true, false, not, ◌||◌}
use borrow.Author.Tests.{ne_eqb}
use Rattle.model.specs.rules.Types.{Delimiter, Comma, Semicolon, Tab, Bar, Quote, Double, Single, Dialect, Csvj, Tdif, CsvPlus, Whole, Within}
use Rattle.model.specs.rules.Types.{Numeral, Minus, Zero, Integer, Point, Fraction, E, ESign, Exponent, Word, T, Tr, Tru, F, Fa, Fal, Fals, N}
use Rattle.model.specs.rules.Types.{Nu, Nul, Backslash}
use Rattle.model.specs.rules.Types.{Cell, Fresh, Quoted, Closed, Escape, Hex, InNumber, InWord, Plain, Complete, More, FileState}
use Rattle.model.specs.rules.Base.{LF, CR, ◌is◌, choose◌then◌else◌}
use Rattle.model.specs.rules.Dialect.{quote_of, delimiter_of, delimiter_byte, quote_byte}
use Rattle.model.specs.rules.Cell.{letter_of, numeral_step, first_byte, plain_byte, cell_step, in_quotes}
use Rattle.model.specs.rules.File.{is_blank, quotes_open, counts}
use Rattle.model.proofs.Tests.{split_on, impossible, is→eq}
use Rattle.model.proofs.cell_laws.Utf8.{inner_high}
use Rattle.model.proofs.cell_laws.CellContent.{no_more, no_stop, char_on}

-- ---- a CR or LF among quotes and delimiters

no_break : (b : ℕ) (q : Quote) → (b is 0x22) ≡ false → (b is 0x27) ≡ false → (b is quote_byte q) ≡ false
no_break b Double h k = h
no_break b Single h k = k

pub break_quote : (d : Dialect) (b : ℕ) → (b is 0x22) ≡ false → (b is 0x27) ≡ false → (b is quote_of d) ≡ false
break_quote Csvj b h k = h
break_quote Tdif b h k = h
break_quote (CsvPlus s) b h k = no_break b s.quote h k

or_true : (t : Bool) → (t || true) ≡ true
or_true true = refl
or_true false = refl

pub cr_separates : (d : Dialect) → (CR is delimiter_of d || CR is CR || CR is LF) ≡ true
cr_separates d = rw (or_true (CR is delimiter_of d))

pub lf_separates : (d : Dialect) → (LF is delimiter_of d || LF is CR || LF is LF) ≡ true
lf_separates d = or_true (LF is delimiter_of d || LF is CR)

-- ---- a CR or LF outside quotes is not of a cell

data IsBreak : ℕ → Type 0 where
  is_lf : IsBreak LF
  is_cr : IsBreak CR

numeral_break : {A : Type 0} {b : ℕ} {e : Cell} (n : Numeral) → IsBreak b → numeral_step n b ≡ More e → A
unfolding numeral_step choose◌then◌else◌
numeral_break Minus is_lf k = no_more k
numeral_break Minus is_cr k = no_more k
numeral_break Zero is_lf k = no_stop k
numeral_break Zero is_cr k = no_stop k
numeral_break Integer is_lf k = no_stop k
numeral_break Integer is_cr k = no_stop k
numeral_break Point is_lf k = no_more k
numeral_break Point is_cr k = no_more k
numeral_break Fraction is_lf k = no_stop k
numeral_break Fraction is_cr k = no_stop k
numeral_break E is_lf k = no_more k
numeral_break E is_cr k = no_more k
numeral_break ESign is_lf k = no_more k
numeral_break ESign is_cr k = no_more k
numeral_break Exponent is_lf k = no_stop k
numeral_break Exponent is_cr k = no_stop k

letter_high : (w : Word) → 0x41 ≤ letter_of w
letter_high T = omega arith
letter_high Tr = omega arith
letter_high Tru = omega arith
letter_high F = omega arith
letter_high Fa = omega arith
letter_high Fal = omega arith
letter_high Fals = omega arith
letter_high N = omega arith
letter_high Nu = omega arith
letter_high Nul = omega arith
letter_high Backslash = omega arith

break_low : {b : ℕ} → IsBreak b → b ≤ 0x0D
break_low is_lf = omega arith
break_low is_cr = omega arith

break_letter : {b : ℕ} (w : Word) → IsBreak b → (b is letter_of w) ≡ false
break_letter {b} w x = let h : b ≤ 0x0D = break_low x in let k : 0x41 ≤ letter_of w = letter_high w in ne_eqb b (letter_of w) (λ e. omega arith)

break_no_quote : {b : ℕ} (d : Dialect) → IsBreak b → (b is quote_of d) ≡ false
break_no_quote d is_lf = break_quote d LF refl refl
break_no_quote d is_cr = break_quote d CR refl refl

break_separates : {b : ℕ} (d : Dialect) → IsBreak b → (b is delimiter_of d || b is CR || b is LF) ≡ true
break_separates d is_lf = lf_separates d
break_separates d is_cr = cr_separates d

fresh_break : {A : Type 0} {b : ℕ} {e : Cell} (d : Dialect) → IsBreak b → first_byte d b ≡ More e → A
unfolding first_byte choose◌then◌else◌
fresh_break Csvj is_lf k = no_more k
fresh_break Csvj is_cr k = no_more k
fresh_break Tdif is_lf k = no_more k
fresh_break Tdif is_cr k = no_more k
fresh_break (CsvPlus s) x k = no_stop (rw (break_no_quote (CsvPlus s) x, break_separates (CsvPlus s) x) at k)

plain_break : {A : Type 0} {b : ℕ} {e : Cell} (d : Dialect) → IsBreak b → plain_byte d b ≡ More e → A
unfolding plain_byte choose◌then◌else◌
plain_break d x k = no_stop (rw (break_no_quote d x, break_separates d x) at k)

closed_break : {A : Type 0} {b : ℕ} {e : Cell} (d : Dialect) → IsBreak b → cell_step d Closed b ≡ More e → A
unfolding cell_step choose◌then◌else◌
closed_break d x k = no_stop (rw (break_no_quote d x) at k)

word_break : {A : Type 0} {b : ℕ} {e : Cell} (d : Dialect) (w : Word) → IsBreak b → cell_step d (InWord w) b ≡ More e → A
unfolding cell_step choose◌then◌else◌
word_break d w x k = no_more (rw (break_letter w x) at k)

cell_break : {A : Type 0} {b : ℕ} {e : Cell} (d : Dialect) (c : Cell) → in_quotes c ≡ false → IsBreak b → cell_step d c b ≡ More e → A
unfolding cell_step
cell_break d Fresh q x k = fresh_break d x k
cell_break d (Quoted c) q x k = impossible (sym q)
cell_break d Closed q x k = closed_break d x k
cell_break d Escape q x k = impossible (sym q)
cell_break d (Hex n) q x k = impossible (sym q)
cell_break d (InNumber n) q x k = numeral_break n x k
cell_break d (InWord w) q x k = word_break d w x k
cell_break d (Plain Whole) q x k = plain_break d x k
cell_break {b} {e} d (Plain (Within i)) q x k =
    let y = char_on Plain (Within i) b e k in
    let h : 0x80 ≤ b = inner_high i b y.char y.step in
    let l : b ≤ 0x0D = break_low x in
    absurd (omega arith)
cell_break d Complete q x k = no_stop k

-- ---- the bytes counted

pub counted : (f : FileState) (b : ℕ) → b ≢ LF → b ≢ CR → counts f b ≡ true
unfolding counts
counted f b n m = go (quotes_open f)
  where
    go : (t : Bool) → (t || not (b is LF || b is CR)) ≡ true
    go true = refl
    go false = rw (ne_eqb b LF n, ne_eqb b CR m)

pub open_counted : (f : FileState) (b : ℕ) → quotes_open f ≡ true → counts f b ≡ true
unfolding counts
open_counted f b q = rw q

pub lf_uncounted : (f : FileState) → quotes_open f ≡ false → counts f LF ≡ false
unfolding counts
lf_uncounted f q = rw q

pub cr_uncounted : (f : FileState) → quotes_open f ≡ false → counts f CR ≡ false
unfolding counts
cr_uncounted f q = rw q

pub more_counted : (d : Dialect) (f : FileState) (c e : Cell) (b : ℕ) → quotes_open f ≡ in_quotes c → cell_step d c b ≡ More e → counts f b ≡ true
more_counted d f c e b q s = go (in_quotes c) refl
  where
    other : in_quotes c ≡ false → (n : ℕ) → IsBreak n → b ≢ n
    other p n x z = cell_break d c p x (rw z at s)

    go : (t : Bool) → in_quotes c ≡ t → counts f b ≡ true
    go true p = open_counted f b (q ∙ p)
    go false p = counted f b (other p LF is_lf) (other p CR is_cr)

delimiter_break : (d : Dialect) → (delimiter_of d ≢ LF) × (delimiter_of d ≢ CR)
delimiter_break Csvj = omega arith
delimiter_break Tdif = omega arith
delimiter_break (CsvPlus s) = go s.delimiter
  where
    go : (x : Delimiter) → (delimiter_byte x ≢ LF) × (delimiter_byte x ≢ CR)
    go Comma = omega arith
    go Semicolon = omega arith
    go Tab = omega arith
    go Bar = omega arith

blank_break : (b : ℕ) → is_blank b ≡ true → (b ≢ LF) × (b ≢ CR)
blank_break b p =
    split_on (b is 0x20) (λ q. let e : b ≡ 0x20 = is→eq b 0x20 q in omega arith) λ q.
    let e : b ≡ 0x09 = is→eq b 0x09 (rw q at p) in omega arith

pub blank_counted : (f : FileState) (b : ℕ) → is_blank b ≡ true → counts f b ≡ true
blank_counted f b p = let n = blank_break b p in counted f b n.0 n.1

pub delimiter_counted : (d : Dialect) (f : FileState) (b : ℕ) → (b is delimiter_of d) ≡ true → counts f b ≡ true
delimiter_counted d f b p =
    let e = is→eq b (delimiter_of d) p in let n = delimiter_break d in counted f b (λ z. n.0 (sym e ∙ z)) (λ z. n.1 (sym e ∙ z))
