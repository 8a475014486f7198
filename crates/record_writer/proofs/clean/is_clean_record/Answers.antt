-- A header is never clean, and a data record is by its cells.
use Rattle.record_writer.proofs.CleanRecords.{clean_record}
use Rattle.record_writer.proofs.clean.is_clean_record.Goals as goal

pub returns : goal.returns
returns c clean = clean_record c.if-header.false (c.is_clean.ensures clean)
