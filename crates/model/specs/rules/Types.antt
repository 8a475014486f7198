-- The types of src/ under short names, and the results of the rules' functions, which are std's.
use Rattle.std.specs.Prelude.{ℕ}
pub use Rattle.std.specs.Prelude.{Option, None, Some, Result, Ok, Err}
pub use Rattle.model.specs.declared.Report.{Report}
pub use Rattle.model.specs.declared.Kind.{Kind}
pub use Rattle.model.specs.declared.Kind.TheVariants.{Text, Number, True, False, Null}
pub use Rattle.model.specs.declared.Delimiter.{Delimiter}
pub use Rattle.model.specs.declared.Delimiter.TheVariants.{Comma, Semicolon, Tab, Bar}
pub use Rattle.model.specs.declared.Quote.{Quote}
pub use Rattle.model.specs.declared.Quote.TheVariants.{Double, Single}
pub use Rattle.model.specs.declared.Settings.{Settings}
pub use Rattle.model.specs.declared.Dialect.{Dialect}
pub use Rattle.model.specs.declared.Dialect.TheVariants.{Csvj, Tdif, CsvPlus}
pub use Rattle.model.specs.declared.Target.{Target}
pub use Rattle.model.specs.declared.Lead.{Lead}
pub use Rattle.model.specs.declared.Lead.TheVariants.{C2ToDf, E0, E1ToEc, Ed, EeToEf, F0, F1ToF3, F4}
pub use Rattle.model.specs.declared.Inner.{Inner}
pub use Rattle.model.specs.declared.Inner.TheVariants.{Second, LastTwo, Last}
pub use Rattle.model.specs.declared.Char.{Char}
pub use Rattle.model.specs.declared.Char.TheVariants.{Whole, Within}
pub use Rattle.model.specs.declared.HexLeft.{HexLeft}
pub use Rattle.model.specs.declared.HexLeft.TheVariants.{Four, Three, Two, One}
pub use Rattle.model.specs.declared.Numeral.{Numeral}
pub use Rattle.model.specs.declared.Numeral.TheVariants.{Minus, Zero, Integer, Point, Fraction, E, ESign, Exponent}
pub use Rattle.model.specs.declared.Word.{Word}
pub use Rattle.model.specs.declared.Word.TheVariants.{T, Tr, Tru, F, Fa, Fal, Fals, N, Nu, Nul, Backslash}
pub use Rattle.model.specs.declared.Cell.{Cell}
pub use Rattle.model.specs.declared.Cell.TheVariants.{Fresh, Quoted, Closed, Escape, Hex, InNumber, InWord, Plain, Complete}
pub use Rattle.model.specs.declared.ByteFault.{ByteFault}
pub use Rattle.model.specs.declared.ByteFault.TheVariants.{Encoding, Syntax}
pub use Rattle.model.specs.declared.CellStep.{CellStep}
pub use Rattle.model.specs.declared.CellStep.TheVariants.{More, Stop, Refuse}
pub use Rattle.model.specs.declared.FileState.{FileState}
pub use Rattle.model.specs.declared.FileState.TheVariants.{Top, Begin, Ended, Bom1, Bom2, PlainBom1, PlainBom2, Comment, Blanks, ExpectCell}
pub use Rattle.model.specs.declared.FileState.TheVariants.{Inside, After, Cr}
pub use Rattle.model.specs.declared.ByteRole.{ByteRole}
pub use Rattle.model.specs.declared.ByteRole.TheVariants.{Outside, Passed, OfCell, Between, Tail, Ends}
pub use Rattle.model.specs.declared.Ending.{Ending}
pub use Rattle.model.specs.declared.Ending.TheVariants.{Clean, Final, Cut}
pub use Rattle.model.specs.declared.Fault.{Fault}
pub use Rattle.model.specs.declared.Fault.TheVariants.{NoRecord, Byte, CutShort, CellCount, RepeatedName, HeaderKind, FileTooLong}
pub use Rattle.model.specs.declared.Fault.TheVariants.{RecordTooLong, TooManyColumns, NoCells, LacksKind, LoneSurrogate, Clash, TextTooLong}
pub use Rattle.model.specs.declared.Fault.TheVariants.{OutputTooLong}
pub use Rattle.model.specs.declared.CellFault.{CellFault}

-- what a byte does to a file: the state after it and what the byte is to its record, or the fault of form that it has (§6.2 §6.3)
abbrev pub Step : Type 0
Step = Result (FileState × ByteRole) ByteFault

-- the result of the checks of a record: nothing, or the first fault (§7.8)
abbrev pub CheckResult : Type 0
CheckResult = Result (Unit {0}) Fault

-- what the decoder finds of the form of a raw cell: nothing, or why it is no single cell (§11.2 §11.3 §11.4)
abbrev pub CellCheck : Type 0
CellCheck = Result (Unit {0}) CellFault

-- a fault at this byte of a raw cell (§11.2 §11.4)
abbrev pub cell_fault : Fault → ℕ → CellFault
cell_fault e i = record { fault = e; offset = i }
