-- The three grammars over the dialect.
use Rattle.std.specs.Prelude.{List}
use Rattle.grammar.specs.rfc.Types.{Dialect, Csvj, Tdif, CsvPlus}
use Rattle.model.specs.rules.Base.{Bytes}
use Rattle.grammar.specs.rfc.Derived.{Derived, Line}
use Rattle.grammar.specs.dialects.Csvj as csvj
use Rattle.grammar.specs.dialects.Tdif as tdif
use Rattle.grammar.specs.dialects.CsvPlus as plus

-- the dialect's grammar derives a single cell
abbrev pub DerivesCell : Dialect → Derived → Type 0
DerivesCell Csvj c = csvj.Value c
DerivesCell Tdif c = tdif.Field c
DerivesCell (CsvPlus s) c = plus.Field s c

-- the dialect's grammar derives a file, with these records
abbrev pub Derives : Dialect → Bytes → List (Line Derived) → Type 0
Derives Csvj xs ls = csvj.File xs ls
Derives Tdif xs ls = tdif.File xs ls
Derives (CsvPlus s) xs ls = plus.File s xs ls
