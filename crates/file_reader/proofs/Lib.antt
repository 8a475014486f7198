pub mod NextData
pub mod PassInvariant
pub mod ReaderAnswers
