pub mod StoreLaws
pub mod FilledLists
pub mod TokenOutcomes
pub mod OuterStates
pub mod ScanInvariant
