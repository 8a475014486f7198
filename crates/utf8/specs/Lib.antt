pub mod Codes
pub mod Multibyte
pub mod Table
