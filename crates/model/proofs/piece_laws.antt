-- Laws of files in pieces: the ledger, its state machine, and scans of a part of a file.
pub mod CallsMade
pub mod Histories
pub mod MachineLaws
pub mod Room
pub mod Pieces
pub mod ScanLaws
pub mod View
pub mod ScanBound
pub mod ScanSize
pub mod PlaceLaws
