-- The automaton reads exactly the texts, numbers and strings of the RFCs.
pub mod Ranges
pub mod Chars
pub mod Texts
pub mod WholeCells
pub mod Doubled
pub mod Numbers
pub mod Strings
pub mod StringContent
