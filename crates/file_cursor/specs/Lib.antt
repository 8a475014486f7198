pub mod Types
pub mod Next
pub mod Ends
pub mod FileOutcome
pub mod NextRecord
pub mod FastNext
