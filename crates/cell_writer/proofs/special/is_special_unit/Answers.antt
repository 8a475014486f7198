-- `cell_writer::special::is_special_unit` meets its contract: a unit of more than one byte has no ASCII byte.
use mathlib.Core.Path.{sym, ◌∙◌}
use lib.ListN.{length}
use borrow.Author.Tests.{ne_eqb}
use Rattle.cell_writer.proofs.QuoteDecision.{unit_byte, unit_more}
use Rattle.cell_writer.proofs.special.is_special_unit.Goals as goal

pub returns-then-unit-eq1 : goal.returns-then-unit-eq1
returns-then-unit-eq1 c = let a = c.args in c.is_special.ensures ∙ sym (unit_byte a.s a.unit.now c.if-unit-eq1.true)

pub returns-else-unit-eq1 : goal.returns-else-unit-eq1
returns-else-unit-eq1 c =
    let a = c.args in
    ne_eqb (length a.unit.now) 1 c.if-unit-eq1.false ∙ sym (unit_more a.s a.unit.now c.requires c.if-unit-eq1.false)
