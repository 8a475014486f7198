-- The types of model, under short names.
pub use Rattle.model.specs.declared.Kind.{Kind}
pub use Rattle.model.specs.declared.Kind.TheVariants.{Text, Number, True, False, Null}
pub use Rattle.model.specs.declared.Delimiter.{Delimiter}
pub use Rattle.model.specs.declared.Delimiter.TheVariants.{Comma, Semicolon, Tab, Bar}
pub use Rattle.model.specs.declared.Quote.{Quote}
pub use Rattle.model.specs.declared.Quote.TheVariants.{Double, Single}
pub use Rattle.model.specs.declared.Settings.{Settings}
pub use Rattle.model.specs.declared.Dialect.{Dialect}
pub use Rattle.model.specs.declared.Dialect.TheVariants.{Csvj, Tdif, CsvPlus}
pub use Rattle.model.specs.declared.Target.{Target}
pub use Rattle.model.specs.declared.Lead.{Lead}
pub use Rattle.model.specs.declared.Lead.TheVariants.{C2ToDf, E0, E1ToEc, Ed, EeToEf, F0, F1ToF3, F4}
pub use Rattle.model.specs.declared.Inner.{Inner}
pub use Rattle.model.specs.declared.Inner.TheVariants.{Second, LastTwo, Last}
pub use Rattle.model.specs.declared.Char.{Char}
pub use Rattle.model.specs.declared.Char.TheVariants.{Whole, Within}
pub use Rattle.model.specs.declared.HexLeft.{HexLeft}
pub use Rattle.model.specs.declared.HexLeft.TheVariants.{Four, Three, Two, One}
pub use Rattle.model.specs.declared.Numeral.{Numeral}
pub use Rattle.model.specs.declared.Numeral.TheVariants.{Minus, Zero, Integer, Point, Fraction, E, ESign, Exponent}
pub use Rattle.model.specs.declared.Word.{Word}
pub use Rattle.model.specs.declared.Word.TheVariants.{T, Tr, Tru, F, Fa, Fal, Fals, N, Nu, Nul, Backslash}
pub use Rattle.model.specs.declared.Cell.{Cell}
pub use Rattle.model.specs.declared.Cell.TheVariants.{Fresh, Quoted, Closed, Escape, Hex, InNumber, InWord, Plain, Complete}
pub use Rattle.model.specs.declared.ByteFault.{ByteFault}
pub use Rattle.model.specs.declared.ByteFault.TheVariants.{Encoding, Syntax}
pub use Rattle.model.specs.declared.CellStep.{CellStep}
pub use Rattle.model.specs.declared.CellStep.TheVariants.{More, Stop, Refuse}
pub use Rattle.model.specs.declared.FileState.{FileState}
pub use Rattle.model.specs.declared.FileState.TheVariants.{Top, Begin, Ended, Bom1, Bom2, PlainBom1, PlainBom2, Comment, Blanks, ExpectCell, Inside, After, Cr}
pub use Rattle.model.specs.declared.ByteRole.TheVariants.{Outside, Passed, OfCell, Between, Tail, Ends}
pub use Rattle.model.specs.declared.Ending.{Ending}
pub use Rattle.model.specs.declared.Ending.TheVariants.{Clean, Final, Cut}
pub use Rattle.model.specs.declared.Fault.{Fault}
pub use Rattle.model.specs.declared.Fault.TheVariants.{NoRecord, Byte, CutShort, CellCount, RepeatedName, HeaderKind, FileTooLong, RecordTooLong}
pub use Rattle.model.specs.declared.Fault.TheVariants.{TooManyColumns, NoCells, LacksKind, LoneSurrogate, Clash, TextTooLong, OutputTooLong}
pub use Rattle.std.specs.Prelude.{Option, None, Some, Ok, Err}
pub use Rattle.model.specs.rules.Types.{Step, CheckResult}
