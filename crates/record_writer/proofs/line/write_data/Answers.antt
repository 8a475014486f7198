-- A data record of a file.
use Rattle.record_writer.specs.CleanRecord.{clean_data}
use Rattle.record_writer.proofs.line.write_data.Goals as goal

pub write_line-requires : goal.write_line-requires
write_line-requires c = record { cells = c.requires.cells; clean_record = λ e. clean_data (c.requires.clean_in e); room = c.requires.room }
