-- Runs of ordinary ASCII bytes, digits of a number, and the rest of a cell.
use Rattle.std.specs.Prelude.{ℕ, suc, ◌≤◌, ◌≡◌, true, [], ◌∷◌, Option, Some, None}
use Rattle.model.specs.declared.Dialect.{Dialect}
use Rattle.model.specs.declared.Char.{Char}
use Rattle.model.specs.declared.Char.TheVariants.{Whole, Within}
use Rattle.model.specs.declared.Cell.{Cell}
use Rattle.model.specs.declared.Cell.TheVariants.{Fresh, Quoted, Closed, Escape, Hex, InNumber, InWord, Plain, Complete}
use Rattle.model.specs.declared.CellStep.TheVariants.{More, Stop, Refuse}
use Rattle.model.specs.rules.Base.{Bytes}
use Rattle.model.specs.rules.Dialect.{delimiter_of, quote_of}
use Rattle.model.specs.rules.Api.{slice}
use Rattle.model.specs.rules.Cell.{is_digit, cell_step}
unfoldable pub use Rattle.swar.specs.Words.{ordinary}
use Rattle.swar.specs.Words.{passing}
use Rattle.cell_scanner.specs.declared.CellEnd.{CellEnd}
use Rattle.cell_scanner.specs.declared.CellEnd.TheVariants.{Stopped, Refused, Open}

-- the length of the longest prefix of ordinary bytes
unfoldable pub leading : (p q : ℕ) → Bytes → ℕ
unfolding passing
leading p q bs = passing (ordinary p q) bs

-- the same in a comment, which has no stops of its own: 0 is not ordinary
abbrev pub comment_run : Bytes → ℕ
comment_run bs = leading 0 0 bs

-- the rest of a cell: where it stops or is refused, or the state in which it is still open
unfoldable pub cell_run : Dialect → Cell → (i : ℕ) → Bytes → CellEnd
cell_run d c i [] = Open c
cell_run d c i (b ∷ bs) =
    elim (cell_step d c b) [ More c' ↦ cell_run d c' (suc i) bs | Stop ↦ Stopped c i | Refuse e ↦ Refused e i ]

-- the byte beside the quote at which a run ends
abbrev pub text_stop : Char → ℕ → Option ℕ
text_stop Whole q = Some q
text_stop (Within i) q = None

-- in which cells ordinary bytes run: inside quotes, and in an unquoted cell, between characters
abbrev pub run_stop : Dialect → Cell → Option ℕ
run_stop d Fresh = None
run_stop d (Quoted t) = text_stop t 0x5C
run_stop d Closed = None
run_stop d Escape = None
run_stop d (Hex n) = None
run_stop d (InNumber n) = None
run_stop d (InWord w) = None
run_stop d (Plain t) = text_stop t (delimiter_of d)
run_stop d Complete = None

-- the length of the run at the beginning
abbrev pub run_length : Dialect → Option ℕ → Bytes → ℕ
run_length d (Some q) bs = leading (quote_of d) q bs
run_length d None bs = 0

-- ---- bytes that need no step

-- digits leave the state unchanged (§3.5)
abbrev pub KeepsDigits : Cell → Type 0
KeepsDigits c = (d : Dialect) (b : ℕ) → is_digit b ≡ true → cell_step d c b ≡ More c

-- from `at` on, the rest of the cell is the same as from r on
pub record RestFrom (d : Dialect) (c : Cell) (s : Bytes) (stop at r : ℕ) : Type 0 where
  pub from : at ≤ r
  pub upto : r ≤ stop
  pub same : cell_run d c at (slice s at stop) ≡ cell_run d c r (slice s r stop)
