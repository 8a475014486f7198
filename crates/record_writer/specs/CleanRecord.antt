-- What the flag `clean` says of a record, whatever its source.
use Rattle.std.specs.Prelude.{ℕ, Bool, false, List}
use Rattle.model.specs.declared.Dialect.{Dialect}
use Rattle.model.specs.rules.Base.{Bytes}
use Rattle.cell_decoder.specs.declared.source.Source.{Source}
use Rattle.cell_decoder.specs.declared.source.Source.TheVariants.{File}
use Rattle.cell_fast.specs.Ends.{CleanIn}

-- it is a data record of a file, and each of its cells a text whose content is its raw bytes, without quotation marks or between two
pub data CleanRecord (s : Bytes) (starts ends : List ℕ) : Source → (header : Bool) → Type 0 where
  clean_data : {d : Dialect} → CleanIn d s starts ends → CleanRecord s starts ends (File d) false
