-- The cells of a record in lists: what a cell of a file is (its span is a whole cell, with the span's kind and content), and what lists of
-- starts, ends and kinds show of them. For whole files and for pieces alike.
use Rattle.std.specs.Prelude.{ℕ, ◌+◌, ◌≤◌, ◌≡◌, List, length, take, Ok}
use Rattle.model.specs.rules.Base.{Bytes}
use Rattle.model.specs.rules.Decode.{kind_of, content_of, validate_cell}
use Rattle.model.specs.rules.Text.{Value}
use Rattle.model.specs.rules.Report.{MAXRECORD, MAXCOLUMNS}
use Rattle.model.specs.rules.Api.{slice}
use Rattle.model.specs.declared.Dialect.{Dialect}
use Rattle.cell_decoder.specs.declared.source.Source.TheVariants.{File}
use Rattle.cell_decoder.specs.Sources.{cells_in}

-- a cell that lies in a file: its span is a whole cell, no longer than a record may be, and has its kind and content
pub record LiesIn (d : Dialect) (file : Bytes) (v : Value) : Type 0 where
  pub kind : v.kind ≡ kind_of d (slice file v.from v.upto)
  pub content : v.content ≡ content_of d (slice file v.from v.upto)
  pub forward : v.from ≤ v.upto
  pub within : v.upto ≤ length file
  pub short : v.upto ≤ v.from + MAXRECORD
  pub sound : validate_cell d (slice file v.from v.upto) ≡ Ok tt

-- lists with room for the cells of any record
pub record Long (starts ends kinds : List ℕ) : Type 0 where
  pub at_starts : MAXCOLUMNS ≤ length starts
  pub at_ends : MAXCOLUMNS ≤ length ends
  pub at_kinds : MAXCOLUMNS ≤ length kinds

-- lists as long as they were
pub record SameLengths (starts₀ ends₀ kinds₀ starts ends kinds : List ℕ) : Type 0 where
  pub at_starts : length starts ≡ length starts₀
  pub at_ends : length ends ≡ length ends₀
  pub at_kinds : length kinds ≡ length kinds₀

-- the number of cells, and the cells that the lists show if they are no more than a record may have
pub record Shows (d : Dialect) (file : Bytes) (vs : List Value) (cells : ℕ) (starts ends kinds : List ℕ) : Type 0 where
  pub count : length vs ≡ cells
  pub values : cells ≤ MAXCOLUMNS → cells_in (File d) file (take cells starts) (take cells ends) (take cells kinds) ≡ vs
