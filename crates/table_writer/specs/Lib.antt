pub mod Content
pub mod TableParts
pub mod Rows
pub mod Answered
