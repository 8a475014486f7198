pub mod Codes
pub mod BufferedLists
pub mod CurrentRecord
pub mod CallChecks
pub mod Soundness
