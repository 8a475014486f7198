-- What was written is read back: cells, records, tables and conversions.
pub mod TableText
pub mod JsonBack
pub mod TextBack
pub mod JsonRuns
pub mod CellBack
pub mod CellRead
pub mod Meanings
pub mod RecordRead
pub mod TableRead
pub mod WriterBack
pub mod TableRows
pub mod RoundTrip
pub mod ReadValid
pub mod ConvertBack
pub mod AllTrips
