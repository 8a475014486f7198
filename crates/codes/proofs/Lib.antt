pub mod FirstByte
pub mod Least
