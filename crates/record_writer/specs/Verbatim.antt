-- Cells whose content is copied from a source into a target byte for byte.
use Rattle.std.specs.Prelude.{ℕ, ◌+◌, ◌-◌, ◌≤◌, ◌≡◌, Bool, true, false, Option, Some, None, length, drop, get_or}
use Rattle.model.specs.declared.Dialect.{Dialect}
use Rattle.model.specs.declared.Dialect.TheVariants.{Csvj, Tdif, CsvPlus}
use Rattle.model.specs.declared.Kind.{Kind}
use Rattle.model.specs.rules.Base.{Bytes, QUOTE}
use Rattle.model.specs.rules.Dialect.{quote_of}
use Rattle.model.specs.rules.Text.{is_text}
use Rattle.cell_decoder.specs.declared.source.Source.{Source}
use Rattle.cell_decoder.specs.declared.source.Source.TheVariants.{File}
use Rattle.cell_writer.specs.PlainRuns.{plain_run}

-- every text is quoted (§14.3 §14.6)
abbrev pub quotes_all : (target : Dialect) → Bool
quotes_all Csvj = true
quotes_all Tdif = true
quotes_all (CsvPlus s) = false

-- the source is a file with the quotation mark for a quote, and the target quotes every text with it
pub data Direct : Source → Dialect → Type 0 where
  is_direct : {d t : Dialect} → quote_of d ≡ QUOTE → quotes_all t ≡ true → Direct (File d) t

-- the number of quotation marks before the content of a cell, and as many after it
pub data Quotes (raw : Bytes) : ℕ → Type 0 where
  no_quotes : Quotes raw 0
  a_quote : 2 ≤ length raw → get_or raw 0 0 ≡ QUOTE → get_or raw (length raw - 1) 0 ≡ QUOTE → Quotes raw 1

-- the bytes of a cell from i up to j, which are all or all but its two quotation marks, are ordinary: each stands for itself
pub data Inner (raw : Bytes) : (i j : ℕ) → Type 0 where
  unquoted : plain_run QUOTE QUOTE QUOTE raw ≡ length raw → Inner raw 0 (length raw)
  quoted : {j : ℕ} → get_or raw 0 0 ≡ QUOTE → j ≡ 1 + plain_run QUOTE QUOTE QUOTE (drop 1 raw) → get_or raw j 0 ≡ QUOTE → j + 1 ≡ length raw → Inner raw 1 j

-- the part of a cell that is copied, from the first place up to the second, if it is
pub data Looks (direct : Bool) (kind : Kind) (raw : Bytes) : Option (ℕ × ℕ) → Type 0 where
  looks_plain : {i j : ℕ} → direct ≡ true → is_text kind ≡ true → Inner raw i j → Looks direct kind raw (Some (i, j))
  looks_encoded : Looks direct kind raw None
