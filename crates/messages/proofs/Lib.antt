pub mod SentenceLaws
pub mod Examples
pub mod Spelling
