pub mod Columns
pub mod Verbatim
pub mod Joined
pub mod CleanCellText
pub mod CleanRecord
