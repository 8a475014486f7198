-- The header of a file, and the place after it.
use Rattle.std.specs.Prelude.{ℕ, ◌≤◌, ◌≡◌, [], ◌∷◌, length, drop, None}
use Rattle.model.specs.declared.Dialect.{Dialect}
use Rattle.model.specs.declared.FileState.{FileState}
use Rattle.model.specs.declared.FileState.TheVariants.{Top}
use Rattle.model.specs.rules.Base.{Bytes}
use Rattle.model.specs.rules.Report.{MAXFILE, MAXCOLUMNS}
use Rattle.model.specs.rules.Records.{Rec, between_records, read_file}
use Rattle.file_cursor.specs.Next.{Next, next_record}
use Rattle.file_cursor.specs.FileOutcome.{rest_of}

-- the first record of a file
abbrev pub first_of : Dialect → Bytes → Next
first_of d file = next_record d (between_records [] Top 0) (drop 0 file)

-- the header of a file has this number of cells, and reading proceeds from this place
pub record HeaderRead (d : Dialect) (file : Bytes) (columns : ℕ) (f : FileState) (next : ℕ) : Type 0 where
  pub h : Rec
  pub first : h.cells ≡ (first_of d file).cells
  pub count : length h.cells ≡ columns
  pub rest : read_file d None file ≡ rest_of d None file (h ∷ []) f next
  pub few : columns ≤ MAXCOLUMNS
  pub inside : next ≤ length file
  pub under : next ≤ MAXFILE
