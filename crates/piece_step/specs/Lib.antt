pub mod Types
pub mod Invariant
pub mod Steps
pub mod Calls
pub mod FastSteps
pub mod InCell
