pub mod Types
pub mod CurrentRecord
pub mod Parts
pub mod Tokens
pub mod Stored
