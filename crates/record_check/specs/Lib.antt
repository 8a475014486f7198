pub mod Keys
pub mod Kinds
pub mod SourceFault
