-- Where a cell ends, for the cells that the fast path finds; and verbatim cells, whose content is their bytes and has no byte that a
-- dialect encodes.
use Rattle.std.specs.Prelude.{ℕ, ◌<◌, ◌≡◌, true, Option, IfSome, List, [], ◌∷◌, ◌++◌, length, get_or}
use Rattle.model.specs.declared.Dialect.{Dialect}
use Rattle.model.specs.declared.Cell.{Cell}
use Rattle.model.specs.declared.Cell.TheVariants.{Fresh}
use Rattle.model.specs.rules.Base.{Bytes, QUOTE}
use Rattle.model.specs.rules.Dialect.{quote_of}
use Rattle.model.specs.rules.Cell.{may_be_empty}
use Rattle.model.specs.rules.Api.{slice}
use Rattle.swar.specs.Words.{is_clean, all_pass}
use Rattle.cell_scanner.specs.declared.CellEnd.TheVariants.{Stopped}
use Rattle.cell_scanner.specs.Run.{cell_run}
use Rattle.cell_fast.specs.declared.FoundEnd.{FoundEnd}

-- the raw bytes of a text whose content is its bytes: unquoted, which CSV+ alone has, or inside quotes
pub data CleanCell (d : Dialect) : Bytes → Type 0 where
  bare : {raw : Bytes} → may_be_empty d ≡ true → all_pass (is_clean (quote_of d)) raw ≡ true → CleanCell d raw
  quoted : (inside : Bytes) → all_pass (is_clean (quote_of d)) inside ≡ true → CleanCell d (quote_of d ∷ (inside ++ (quote_of d ∷ [])))

-- the same of all cells in these spans of s, where the quote is the quotation mark
pub record CleanIn (d : Dialect) (s : Bytes) (starts ends : List ℕ) : Type 0 where
  pub quotes : quote_of d ≡ QUOTE
  pub each : (k : ℕ) → k < length starts → CleanCell d (slice s (get_or starts k 0) (get_or ends k 0))

-- the cell c at `at` ends before the byte at `end`
pub record EndsFrom (d : Dialect) (s : Bytes) (stop : ℕ) (c : Cell) (at end : ℕ) : Type 0 where
  pub cell : Cell
  pub ran : cell_run d c at (slice s at stop) ≡ Stopped cell end

-- and that byte is before `stop`
pub record EndsBefore (d : Dialect) (s : Bytes) (stop : ℕ) (c : Cell) (at end : ℕ) : Type 0 where
  pub before : end < stop
  pub ends : EndsFrom d s stop c at end

-- the cell at `at` ends there, and it is verbatim if `clean`
pub record FoundSound (d : Dialect) (s : Bytes) (at stop : ℕ) (found : FoundEnd) : Type 0 where
  pub before : found.at < stop
  pub ends : EndsFrom d s stop Fresh at found.at
  pub content : found.clean ≡ true → CleanCell d (slice s at found.at)

-- soundness of the fast path to the end of the cell at `at`: an end that is found is the automaton's
abbrev pub CellEndSound : (d : Dialect) (s : Bytes) (at stop : ℕ) → Option FoundEnd → Type 0
CellEndSound d s at stop r = IfSome r (FoundSound d s at stop)
