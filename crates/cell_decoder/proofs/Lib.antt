pub mod Units
pub mod Strings
pub mod DoubledQuotes
pub mod FirstByte
pub mod CellValidation
pub mod DecoderAnswers
pub mod Followed
pub mod CellsIn
