-- `cell_writer::escape::byte_text` meets its contract: a string's byte or a text's, by the target.
use Rattle.model.specs.rules.Text.{json_body}
use Rattle.cell_writer.proofs.escape.byte_text.Goals as goal

pub returns-in-Csvj : goal.returns-in-Csvj
unfolding json_body
returns-in-Csvj c = rw c.in-Csvj.is c.escape.ensures
