pub mod States
pub mod Representation
pub mod Contract
