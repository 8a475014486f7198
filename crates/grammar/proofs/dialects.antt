-- The automaton reads exactly the cells and files that the grammars of the three dialects derive.
pub mod TdifCells
pub mod PlusCells
pub mod CsvjCells
pub mod CellGrammar
pub mod FormSteps
pub mod Separators
pub mod ReadsWithSpans
pub mod CellReads
pub mod Delimited
pub mod Continuations
pub mod TdifFiles
pub mod PlusFiles
pub mod CsvjFiles
pub mod FileGrammar
