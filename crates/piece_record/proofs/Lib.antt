pub mod BufferedCells
pub mod Checked
