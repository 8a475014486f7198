-- Laws of names: how they fold, and the code points that they consist of.
pub mod Folding
pub mod Points
pub mod SameBytes
