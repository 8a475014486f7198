-- Laws of reading a file: steps, faults, limits, lengths, and what can be completed.
pub mod ReadAppend
pub mod Counted
pub mod FileSteps
pub mod Viable
pub mod RecordFaults
pub mod ViableFile
pub mod Lengths
pub mod Bound
pub mod CheckResults
pub mod RecordInduction
