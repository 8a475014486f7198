-- `cell_writer::body::stop_text` meets its contract: a content that has to be decoded is legible.
use Rattle.cell_writer.proofs.Contents.{legible_decoded}
use Rattle.cell_writer.proofs.body.stop_text.Goals as goal

pub unit_stop-requires-clause-decoded : goal.unit_stop-requires-clause-decoded
unit_stop-requires-clause-decoded c = legible_decoded c.args.e.legible c.in-Doubled.is
