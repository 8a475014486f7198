pub mod PlainSteps
pub mod PlainRuns
pub mod Units
pub mod Contents
pub mod Bodies
pub mod QuoteDecision
pub mod Cells
