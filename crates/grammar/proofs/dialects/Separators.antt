-- A whole cell stops at every byte that may follow a cell: a delimiter, CR and LF, and in CSVJ a space or a tab, since no cell of
-- CSVJ is unquoted text (`Reached`).
use Prim.Native.Nat.{ℕ}
use mathlib.Core.Path.{◌≡◌, refl}
use mathlib.Core.Bool.{true, false, ◌||◌}
use Rattle.grammar.specs.rfc.Types.{Delimiter, Comma, Semicolon, Tab, Bar, Quote, Double, Single, Dialect, Csvj, Tdif, CsvPlus, Whole, Within}
use Rattle.grammar.specs.rfc.Types.{Char, Option, Some, None, HexLeft, Four, Three, Two, One}
use Rattle.grammar.specs.rfc.Types.{Numeral, Minus, Zero, Integer, Point, Fraction, E, ESign, Exponent, Word, T, Tr, Tru, F, Fa, Fal, Fals, N}
use Rattle.grammar.specs.rfc.Types.{Nu, Nul, Backslash}
use Rattle.grammar.specs.rfc.Types.{Cell, Fresh, Quoted, Closed, Escape, Hex, InNumber, InWord, Plain, Complete, CellStep, More, Stop, Refuse, ByteFault}
use Rattle.model.specs.rules.Base.{CR, LF, ◌is◌, choose◌then◌else◌}
use Rattle.model.specs.rules.Dialect.{quote_of, delimiter_of, delimiter_byte}
use Rattle.model.specs.rules.Utf8.{char_step}
use Rattle.model.specs.rules.Cell.{text_byte, is_digit, after_hex, after_letter, numeral_step, first_byte, quoted_byte, plain_byte, cell_step, is_numeral, is_whole}
use Rattle.model.proofs.Tests.{split, impossible, same_byte}
use Rattle.model.proofs.cell_laws.CellContent.{no_more, no_stop, same_more}
use Rattle.model.proofs.file_laws.Counted.{break_quote, cr_separates, lf_separates}

-- the bytes that may follow a cell
pub data Separates : Dialect → ℕ → Type 0 where
  by_delimiter : {d : Dialect} → Separates d (delimiter_of d)
  by_cr : {d : Dialect} → Separates d CR
  by_lf : {d : Dialect} → Separates d LF
  by_space : Separates Csvj 0x20
  by_tab : Separates Csvj 0x09

-- ---- the tests that such a byte fails

record NotInCell (d : Dialect) (b : ℕ) : Type 0 where
  quote : (b is quote_of d) ≡ false
  digit : is_digit b ≡ false
  point : (b is 0x2E) ≡ false
  e : (b is 0x65 || b is 0x45) ≡ false

plus_delimiter : (x : Delimiter) (q : Quote) → NotInCell (CsvPlus (record { delimiter = x; quote = q })) (delimiter_byte x)
plus_delimiter Comma Double = record { quote = refl; digit = refl; point = refl; e = refl }
plus_delimiter Comma Single = record { quote = refl; digit = refl; point = refl; e = refl }
plus_delimiter Semicolon Double = record { quote = refl; digit = refl; point = refl; e = refl }
plus_delimiter Semicolon Single = record { quote = refl; digit = refl; point = refl; e = refl }
plus_delimiter Tab Double = record { quote = refl; digit = refl; point = refl; e = refl }
plus_delimiter Tab Single = record { quote = refl; digit = refl; point = refl; e = refl }
plus_delimiter Bar Double = record { quote = refl; digit = refl; point = refl; e = refl }
plus_delimiter Bar Single = record { quote = refl; digit = refl; point = refl; e = refl }

not_in_cell : {d : Dialect} {b : ℕ} → Separates d b → NotInCell d b
not_in_cell (by_delimiter {d = Csvj}) = record { quote = refl; digit = refl; point = refl; e = refl }
not_in_cell (by_delimiter {d = Tdif}) = record { quote = refl; digit = refl; point = refl; e = refl }
not_in_cell (by_delimiter {d = CsvPlus s}) = plus_delimiter s.delimiter s.quote
not_in_cell (by_cr {d}) = record { quote = break_quote d CR refl refl; digit = refl; point = refl; e = refl }
not_in_cell (by_lf {d}) = record { quote = break_quote d LF refl refl; digit = refl; point = refl; e = refl }
not_in_cell by_space = record { quote = refl; digit = refl; point = refl; e = refl }
not_in_cell by_tab = record { quote = refl; digit = refl; point = refl; e = refl }

-- ---- states that are reached

-- in CSVJ no cell is unquoted text
abbrev pub Reached : Dialect → Cell → Type 0
Reached Csvj Fresh = Unit {0}
Reached Csvj (Quoted c) = Unit {0}
Reached Csvj Closed = Unit {0}
Reached Csvj Escape = Unit {0}
Reached Csvj (Hex n) = Unit {0}
Reached Csvj (InNumber n) = Unit {0}
Reached Csvj (InWord w) = Unit {0}
Reached Csvj (Plain c) = ⊥
Reached Csvj Complete = Unit {0}
Reached Tdif c = Unit {0}
Reached (CsvPlus s) c = Unit {0}

data Reaches : CellStep → Type 0 where
  proceeds_on : {c : Cell} → Reached Csvj c → Reaches (More c)
  stops_there : Reaches Stop
  refuses : {e : ByteFault} → Reaches (Refuse e)

text_reaches : (o : Option Char) → Reaches (text_byte Quoted o)
text_reaches None = refuses
text_reaches (Some c) = proceeds_on tt

numeral_reaches : (n : Numeral) (b : ℕ) → Reaches (numeral_step n b)
unfolding numeral_step
numeral_reaches Minus b = split Reaches _ (λ _. proceeds_on tt) λ _. split Reaches _ (λ _. proceeds_on tt) λ _. refuses
numeral_reaches Zero b = split Reaches _ (λ _. proceeds_on tt) λ _. split Reaches _ (λ _. proceeds_on tt) λ _. stops_there
numeral_reaches Integer b =
    split Reaches _ (λ _. proceeds_on tt) λ _. split Reaches _ (λ _. proceeds_on tt) λ _. split Reaches _ (λ _. proceeds_on tt) λ _.
    stops_there
numeral_reaches Point b = split Reaches _ (λ _. proceeds_on tt) λ _. refuses
numeral_reaches Fraction b = split Reaches _ (λ _. proceeds_on tt) λ _. split Reaches _ (λ _. proceeds_on tt) λ _. stops_there
numeral_reaches E b = split Reaches _ (λ _. proceeds_on tt) λ _. split Reaches _ (λ _. proceeds_on tt) λ _. refuses
numeral_reaches ESign b = split Reaches _ (λ _. proceeds_on tt) λ _. refuses
numeral_reaches Exponent b = split Reaches _ (λ _. proceeds_on tt) λ _. stops_there

word_reaches : (w : Word) → Reached Csvj (after_letter w)
word_reaches T = tt
word_reaches Tr = tt
word_reaches Tru = tt
word_reaches F = tt
word_reaches Fa = tt
word_reaches Fal = tt
word_reaches Fals = tt
word_reaches N = tt
word_reaches Nu = tt
word_reaches Nul = tt
word_reaches Backslash = tt

hex_reaches : (n : HexLeft) → Reached Csvj (after_hex n)
hex_reaches Four = tt
hex_reaches Three = tt
hex_reaches Two = tt
hex_reaches One = tt

step_reaches : (c : Cell) (b : ℕ) → Reached Csvj c → Reaches (cell_step Csvj c b)
unfolding cell_step first_byte quoted_byte
step_reaches Fresh b r =
    split Reaches _ (λ _. proceeds_on tt) λ _. split Reaches _ (λ _. proceeds_on tt) λ _. split Reaches _ (λ _. proceeds_on tt) λ _.
    split Reaches _ (λ _. proceeds_on tt) λ _. split Reaches _ (λ _. proceeds_on tt) λ _. split Reaches _ (λ _. proceeds_on tt) λ _.
    split Reaches _ (λ _. proceeds_on tt) λ _. refuses
step_reaches (Quoted Whole) b r =
    split Reaches _ (λ _. proceeds_on tt) λ _. split Reaches _ (λ _. proceeds_on tt) λ _. split Reaches _ (λ _. refuses) λ _. text_reaches (char_step Whole b)
step_reaches (Quoted (Within i)) b r = text_reaches (char_step (Within i) b)
step_reaches Closed b r = split Reaches _ (λ _. proceeds_on tt) λ _. stops_there
step_reaches Escape b r = split Reaches _ (λ _. proceeds_on tt) λ _. split Reaches _ (λ _. proceeds_on tt) λ _. refuses
step_reaches (Hex n) b r = split Reaches _ (λ _. proceeds_on (hex_reaches n)) λ _. refuses
step_reaches (InNumber n) b r = numeral_reaches n b
step_reaches (InWord w) b r = split Reaches _ (λ _. proceeds_on (word_reaches w)) λ _. refuses
step_reaches (Plain c) b r = absurd r
step_reaches Complete b r = stops_there

reaches_on : {a : CellStep} {c : Cell} → Reaches a → a ≡ More c → Reached Csvj c
reaches_on (proceeds_on {c} r) e = rw (same_more e) at r
reaches_on stops_there e = no_stop e
reaches_on refuses e = no_more e

pub reached_step : (d : Dialect) (c e : Cell) (b : ℕ) → Reached d c → cell_step d c b ≡ More e → Reached d e
reached_step Csvj c e b r s = reaches_on (step_reaches c b r) s
reached_step Tdif c e b r s = tt
reached_step (CsvPlus x) c e b r s = tt

-- ---- whole cells stop

numeral_stops : (d : Dialect) (n : Numeral) (b : ℕ) → is_numeral n ≡ true → NotInCell d b → numeral_step n b ≡ Stop
unfolding numeral_step choose◌then◌else◌
numeral_stops d Minus b w k = impossible w
numeral_stops d Zero b w k = rw (k.point, k.e)
numeral_stops d Integer b w k = rw (k.digit, k.point, k.e)
numeral_stops d Point b w k = impossible w
numeral_stops d Fraction b w k = rw (k.digit, k.e)
numeral_stops d E b w k = impossible w
numeral_stops d ESign b w k = impossible w
numeral_stops d Exponent b w k = rw k.digit

-- where a cell may be unquoted text, blanks separate nothing
separator_test : {d : Dialect} {b : ℕ} → Reached d (Plain Whole) → Separates d b → (b is delimiter_of d || b is CR || b is LF) ≡ true
separator_test r (by_delimiter {d}) = rw (same_byte (delimiter_of d))
separator_test r (by_cr {d}) = cr_separates d
separator_test r (by_lf {d}) = lf_separates d
separator_test r by_space = absurd r
separator_test r by_tab = absurd r

fresh_stops : (d : Dialect) (b : ℕ) → is_whole d Fresh ≡ true → Separates d b → cell_step d Fresh b ≡ Stop
unfolding cell_step first_byte is_whole choose◌then◌else◌
fresh_stops Csvj b w x = impossible w
fresh_stops Tdif b w x = impossible w
fresh_stops (CsvPlus s) b w x = rw ((not_in_cell x).quote, separator_test tt x)

pub stops : (d : Dialect) (c : Cell) (b : ℕ) → Reached d c → is_whole d c ≡ true → Separates d b → cell_step d c b ≡ Stop
unfolding cell_step plain_byte is_whole choose◌then◌else◌
stops d Fresh b r w x = fresh_stops d b w x
stops d (Quoted c) b r w x = impossible w
stops d Closed b r w x = rw (not_in_cell x).quote
stops d Escape b r w x = impossible w
stops d (Hex n) b r w x = impossible w
stops d (InNumber n) b r w x = numeral_stops d n b w (not_in_cell x)
stops d (InWord n) b r w x = impossible w
stops d (Plain Whole) b r w x = rw ((not_in_cell x).quote, separator_test r x)
stops d (Plain (Within i)) b r w x = impossible w
stops d Complete b r w x = refl
