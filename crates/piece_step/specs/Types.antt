-- The types of model that conversion in pieces uses, under short names.
pub use Rattle.model.specs.declared.Report.{Report}
pub use Rattle.model.specs.declared.Dialect.{Dialect}
pub use Rattle.model.specs.declared.Target.{Target}
pub use Rattle.model.specs.declared.Cell.TheVariants.{Fresh}
pub use Rattle.model.specs.declared.FileState.{FileState}
pub use Rattle.model.specs.declared.FileState.TheVariants.{Top, Begin, Ended, Bom1, Bom2, PlainBom1, PlainBom2, Comment, Blanks, ExpectCell, Inside, After, Cr}
pub use Rattle.model.specs.declared.ByteRole.TheVariants.{Outside, Passed, OfCell, Between, Tail, Ends}
pub use Rattle.model.specs.rules.Types.{Step}
pub use Rattle.std.specs.Prelude.{Ok, Err}
pub use Rattle.model.specs.declared.Ending.{Ending}
pub use Rattle.model.specs.declared.Ending.TheVariants.{Clean, Final, Cut}
pub use Rattle.model.specs.declared.ByteFault.{ByteFault}
pub use Rattle.model.specs.declared.Fault.{Fault}
pub use Rattle.model.specs.declared.Fault.TheVariants.{NoRecord, CutShort, CellCount, RepeatedName, HeaderKind, TooManyColumns, NoCells, LacksKind}
pub use Rattle.model.specs.declared.Fault.TheVariants.{LoneSurrogate, Clash, TextTooLong, OutputTooLong}
pub use Rattle.model.specs.rules.Types.{CheckResult}
