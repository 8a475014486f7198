-- The byte is a step of UTF-8.
use mathlib.Core.Path.{ap, ◌∙◌}
use Rattle.model.specs.rules.Utf8.{settle, wide_step}
use Rattle.table_writer.proofs.content.in_character.Goals as goal

pub returns : goal.returns
unfolding wide_step
returns c = c.after_advance.ensures ∙ ap settle c.char_step.ensures
