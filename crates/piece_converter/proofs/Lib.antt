mod Offsets
pub mod Representation
pub mod Contract
