pub mod Codes
pub mod CurrentRecord
pub mod Checks
pub mod Sound
