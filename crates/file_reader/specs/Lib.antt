pub mod Passes
pub mod Answers
pub mod Headers
