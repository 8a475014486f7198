-- `write_record` meets its contract: the record's text, and its ending after it.
use Rattle.record_writer.proofs.TextWithEnding.{room_second, put_both}
use Rattle.file_converter.proofs.write_record.Goals as goal

pub write_ending-requires : goal.write_ending-requires
write_ending-requires c = room_second _ _ c.requires.room c.write_record-text.ensures.written_at

pub returns : goal.returns
returns c = put_both _ _ c.requires.room c.write_record-text.ensures.written_at c.write_ending.ensures
