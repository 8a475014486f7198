pub mod Ends
pub mod TextRuns
pub mod CellOutcome
pub mod BareValues
