pub mod Letters
pub mod FoldedNames
