pub mod PlainRuns
pub mod Units
pub mod Contents
pub mod Bodies
pub mod Cells
