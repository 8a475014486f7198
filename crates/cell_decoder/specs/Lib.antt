pub mod Units
pub mod Strings
pub mod DoubledQuotes
pub mod FirstByte
pub mod Answer
pub mod Followed
pub mod Sources
