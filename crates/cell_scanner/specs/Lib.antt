pub mod Run
pub mod RunLaw
