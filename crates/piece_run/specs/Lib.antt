pub mod Runs
pub mod PieceRun
