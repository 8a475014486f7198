pub mod BlockProgress
pub mod Overlaps
pub mod ShortTexts
pub mod WriteProgress
