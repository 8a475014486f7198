-- `cell_writer::special::begins_with_bom` meets its contract: a content that has to be decoded is legible.
use Rattle.cell_writer.proofs.Contents.{legible_decoded}
use Rattle.cell_writer.proofs.special.begins_with_bom.Goals as goal

pub decodes_to_bom-requires : goal.decodes_to_bom-requires
decodes_to_bom-requires c = legible_decoded c.args.e.legible c.in-Doubled.is
