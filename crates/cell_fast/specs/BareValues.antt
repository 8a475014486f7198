-- Unquoted values of CSVJ, by their parts.
use Rattle.std.specs.Prelude.{ℕ, ◌+◌, ◌<◌, ◌≡◌, Bool, true, false, ◌||◌, get_or}
use Rattle.model.specs.declared.Dialect.TheVariants.{Csvj}
use Rattle.model.specs.declared.Numeral.{Numeral}
use Rattle.model.specs.declared.Numeral.TheVariants.{Minus, Point, E}
use Rattle.model.specs.declared.Cell.{Cell}
use Rattle.model.specs.declared.Cell.TheVariants.{Fresh, InNumber}
use Rattle.model.specs.declared.CellStep.{CellStep}
use Rattle.model.specs.declared.CellStep.TheVariants.{More, Stop}
use Rattle.model.specs.rules.Base.{Bytes, choose◌then◌else◌, ◌is◌}
use Rattle.model.specs.rules.Cell.{is_digit, numeral_step}
use Rattle.model.specs.rules.Api.{slice}
use Rattle.swar.specs.Words.{all_pass}
use Rattle.cell_fast.specs.TextRuns.{PassRun}
use Rattle.cell_fast.specs.CellOutcome.{Results}

-- digits from here to r, at most `stop`, before which only a byte that is no digit ends them
pub record DigitsTo (s : Bytes) (at stop r : ℕ) : Type 0 where
  pub run : PassRun is_digit s at stop r
  pub ends : r < stop → is_digit (get_or s r 0) ≡ false

-- digits from here to r, one at least, before a byte that is no digit
pub record Digits (s : Bytes) (at stop r : ℕ) : Type 0 where
  pub some : at < r
  pub before : r < stop
  pub each : all_pass is_digit (slice s at r) ≡ true
  pub ends : is_digit (get_or s r 0) ≡ false

-- the letter of an exponent
abbrev pub is_letter_e : ℕ → Bool
is_letter_e b = b is 0x65 || b is 0x45

-- a cell of which the digits of a number come next
pub data BeginsNumber : Cell → Type 0 where
  unsigned : BeginsNumber Fresh
  negative : BeginsNumber (InNumber Minus)

-- the step of the byte after an integer
unfoldable pub after_integer : ℕ → CellStep
after_integer b = choose b is 0x2E then More (InNumber Point) else choose is_letter_e b then More (InNumber E) else Stop

-- an integer lies from here to r, before `stop`
pub record IntegerEnd (s : Bytes) (stop at r : ℕ) : Type 0 where
  pub some : at < r
  pub before : r < stop
  pub numeral : Numeral
  pub comes : (c : Cell) → BeginsNumber c → Results Csvj s stop c at (InNumber numeral) r
  pub next : numeral_step numeral (get_or s r 0) ≡ after_integer (get_or s r 0)

-- three letters follow the byte at `at`, and a byte before `stop` follows them
pub record Letters (s : Bytes) (at stop second third fourth : ℕ) : Type 0 where
  pub before : at + 4 < stop
  pub letter_second : get_or s (at + 1) 0 ≡ second
  pub letter_third : get_or s (at + 2) 0 ≡ third
  pub letter_fourth : get_or s (at + 3) 0 ≡ fourth
