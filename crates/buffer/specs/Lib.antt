pub mod Written
pub mod Writes
pub mod Padded
