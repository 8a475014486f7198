-- The result of reading a cell from an offset in it on.
use Rattle.std.specs.Prelude.{ℕ, ◌+◌, ◌≤◌, ◌<◌, ◌≡◌, Bool, true, ◌||◌, get_or}
use Rattle.model.specs.declared.Dialect.{Dialect}
use Rattle.model.specs.declared.Char.TheVariants.{Whole}
use Rattle.model.specs.declared.Cell.{Cell}
use Rattle.model.specs.declared.Cell.TheVariants.{Quoted}
use Rattle.model.specs.rules.Base.{Bytes, ◌is◌, LF, CR}
use Rattle.model.specs.rules.Dialect.{quote_of}
use Rattle.model.specs.rules.Api.{slice}
use Rattle.swar.specs.Words.{is_clean, all_pass}
use Rattle.cell_scanner.specs.Run.{cell_run}
use Rattle.cell_fast.specs.Ends.{EndsFrom}

-- the cell c at `at` has become the cell t at r, the bytes between having been read
pub record Results (d : Dialect) (s : Bytes) (stop : ℕ) (c : Cell) (at : ℕ) (t : Cell) (r : ℕ) : Type 0 where
  pub from : at ≤ r
  pub upto : r ≤ stop
  pub rest : cell_run d c at (slice s at stop) ≡ cell_run d t r (slice s r stop)

-- inside quotes at both offsets
abbrev pub InQuotes : (d : Dialect) (s : Bytes) (stop at r : ℕ) → Type 0
InQuotes d s stop at r = Results d s stop (Quoted Whole) at (Quoted Whole) r

-- what stops a run inside quotes is part of the text up to r; non-ASCII characters are clean
pub record Passed (d : Dialect) (s : Bytes) (stop at r : ℕ) : Type 0 where
  pub on : at < r
  pub comes : InQuotes d s stop at r
  pub clean : 0x80 ≤ get_or s at 0 → all_pass (is_clean (quote_of d)) (slice s at r) ≡ true

-- the text inside quotes from `at` to r, and whether it is verbatim
pub record QuotedText (d : Dialect) (s : Bytes) (stop at r : ℕ) (clean : Bool) : Type 0 where
  pub comes : InQuotes d s stop at r
  pub content : clean ≡ true → all_pass (is_clean (quote_of d)) (slice s at r) ≡ true

-- the byte at this offset is the quote that closes the cell, and a byte before `stop` follows it
pub record Closes (d : Dialect) (s : Bytes) (stop at : ℕ) : Type 0 where
  pub followed : at + 1 < stop
  pub quote : get_or s at 0 ≡ quote_of d
  pub ends : EndsFrom d s stop (Quoted Whole) at (at + 1)

-- an unquoted cell of CSV+ ends before this byte
abbrev pub is_end : (delimiter b : ℕ) → Bool
is_end delimiter b = b is delimiter || b is LF || b is CR
