pub mod rfc
pub mod RfcMistakes
pub mod dialects
pub mod FileMistakes
pub mod Accepted
pub mod NextByte
pub mod Exact
pub mod Mistakes
