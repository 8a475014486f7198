pub mod Endings
pub mod FastScanInvariant
pub mod CellLists
