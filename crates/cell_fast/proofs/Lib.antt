pub mod PassRuns
pub mod CellOutcomes
pub mod TextRuns
pub mod QuotedCells
pub mod BareValues
pub mod PlainCells
