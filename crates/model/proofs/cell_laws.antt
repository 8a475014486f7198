-- Laws of one cell: its steps, its runs and the form of its content.
pub mod Utf8
pub mod CellSteps
pub mod CellRuns
pub mod CellContent
pub mod Cells
pub mod Encoding
pub mod JsonContent
pub mod ContentForm
