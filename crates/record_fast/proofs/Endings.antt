-- Laws of the byte after a cell: the record continues after a delimiter, and an ending ends it.
use mathlib.Core.Path.{◌≡◌, refl}
use mathlib.Core.Bool.{true, false}
use borrow.Author.Tests.{eq-eqb}
use Rattle.model.specs.declared.Delimiter.{Delimiter}
use Rattle.model.specs.declared.Delimiter.TheVariants.{Comma, Semicolon, Tab, Bar}
use Rattle.model.specs.declared.Dialect.{Dialect}
use Rattle.model.specs.declared.Dialect.TheVariants.{Csvj, Tdif, CsvPlus}
use Rattle.model.specs.declared.Settings.{Settings}
use Rattle.model.specs.declared.Cell.TheVariants.{Fresh}
use Rattle.model.specs.declared.FileState.{FileState}
use Rattle.model.specs.declared.FileState.TheVariants.{Begin, Ended, ExpectCell, Inside, Cr}
use Rattle.model.specs.declared.ByteRole.TheVariants.{Between, Tail, Ends}
use Rattle.std.specs.Prelude.{Ok}
use Rattle.model.specs.rules.Base.{choose◌then◌else◌, ◌is◌, LF, CR}
use Rattle.model.specs.rules.Dialect.{delimiter_byte, delimiter_of}
use Rattle.model.specs.rules.File.{after_cell}

-- the file's state after a delimiter
abbrev pub next_cell : Dialect → FileState
next_cell Csvj = ExpectCell
next_cell Tdif = Inside Fresh
next_cell (CsvPlus s) = Inside Fresh

pub after_delimiter : (d : Dialect) → after_cell d true (delimiter_of d) ≡ Ok (next_cell d, Between true)
unfolding after_cell choose◌then◌else◌
after_delimiter Csvj = refl
after_delimiter Tdif = refl
after_delimiter (CsvPlus s) =
    let e : (delimiter_byte s.delimiter is delimiter_byte s.delimiter) ≡ true = eq-eqb (delimiter_byte s.delimiter) (delimiter_byte s.delimiter) refl in
    rw e

-- no delimiter is a line break
no_lf : (x : Delimiter) → (LF is delimiter_byte x) ≡ false
no_lf Comma = refl
no_lf Semicolon = refl
no_lf Tab = refl
no_lf Bar = refl

no_cr : (x : Delimiter) → (CR is delimiter_byte x) ≡ false
no_cr Comma = refl
no_cr Semicolon = refl
no_cr Tab = refl
no_cr Bar = refl

pub after_lf : (d : Dialect) → after_cell d true LF ≡ Ok (Begin, Ends true)
unfolding after_cell choose◌then◌else◌
after_lf Csvj = refl
after_lf Tdif = refl
after_lf (CsvPlus s) = rw (no_lf s.delimiter)

pub after_cr_csvj : after_cell Csvj true CR ≡ Ok (Cr, Tail true)
unfolding after_cell choose◌then◌else◌
after_cr_csvj = refl

pub after_cr_tdif : after_cell Tdif true CR ≡ Ok (Ended, Ends true)
unfolding after_cell choose◌then◌else◌
after_cr_tdif = refl

pub after_cr_plus : (s : Settings) → after_cell (CsvPlus s) true CR ≡ Ok (Cr, Tail true)
unfolding after_cell choose◌then◌else◌
after_cr_plus s = rw (no_cr s.delimiter)
