-- The grammars of the three dialects, and reading by form.
pub mod Csvj
pub mod Tdif
pub mod CsvPlus
pub mod Derives
pub mod FormReads
pub mod Spans
