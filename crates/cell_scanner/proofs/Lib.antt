pub mod Runs
pub mod RunLaw
pub mod WordSteps
