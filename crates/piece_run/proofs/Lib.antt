pub mod EndLaws
pub mod EndCases
pub mod Runs
pub mod PieceRun
