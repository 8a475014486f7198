pub mod FastScan
pub mod CellLists
