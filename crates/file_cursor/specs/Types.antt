-- The events of reading, under short names.
pub use Rattle.file_cursor.specs.declared.scan.FileScan.{FileScan}
pub use Rattle.file_cursor.specs.declared.scan.FileScan.TheVariants.{Completed, LastRecord, Failed, End}
