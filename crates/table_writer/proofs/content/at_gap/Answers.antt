-- ED has a state of its own, and every other byte is a step of UTF-8.
use mathlib.Core.Path.{ap, ◌∙◌}
use borrow.Author.Tests.{eq-eqb, ne_eqb}
use Rattle.model.specs.rules.Base.{choose◌then◌else◌}
use Rattle.model.specs.rules.Utf8.{settle, wide_step}
use Rattle.table_writer.proofs.content.at_gap.Goals as goal

pub returns-then-b-eq237 : goal.returns-then-b-eq237
unfolding wide_step choose◌then◌else◌
returns-then-b-eq237 c = rw (eq-eqb _ 0xED c.if-b-eq237.true)

pub returns : goal.returns
unfolding wide_step choose◌then◌else◌
returns c = rw (ne_eqb _ 0xED c.if-b-eq237.false) (c.after_advance.ensures ∙ ap settle c.char_step.ensures)
