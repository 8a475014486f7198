-- `cell_writer::escape::unit_text` meets its contract: a byte, a lone surrogate of a string, or any other unit verbatim.
use mathlib.Core.Bool.{true, false}
use mathlib.Core.Path.{◌≡◌, sym, ◌∙◌}
use Rattle.model.specs.rules.Dialect.{is_csvj}
use Rattle.model.proofs.Tests.{impossible}
use Rattle.cell_writer.specs.Units.{is_lone}
use Rattle.cell_writer.proofs.Units.{lone_text, stands}
use Rattle.cell_writer.proofs.escape.unit_text.Goals.{else-is_csvj-via-then-is_csvj+else-is_lone, else-is_csvj-via-else-is_csvj}
use Rattle.cell_writer.proofs.escape.unit_text.Goals as goal

pub returns-then-is_lone : goal.returns-then-is_lone
returns-then-is_lone c =
    let a = c.args in
    c.lone.ensures ∙ sym (lone_text a.t a.unit.now (sym c.is_csvj.ensures ∙ c.if-is_csvj.true) (sym c.is_lone.ensures ∙ c.if-is_lone.true))

pub returns : goal.returns
returns c =
    let a = c.args in
    let none : is_csvj a.t ≡ true → is_lone a.unit.now ≡ false =
    elim c.else-is_csvj.branch [
      | else-is_csvj-via-then-is_csvj+else-is_lone w ↦ λ j. sym w.is_lone.ensures ∙ w.if-is_lone.false
      | else-is_csvj-via-else-is_csvj w ↦ λ j. impossible (sym w.if-is_csvj.false ∙ c.is_csvj.ensures ∙ j)
    ] in
    c.verbatim.ensures ∙ sym (stands a.t a.unit.now c.requires c.if-unit-eq1.false none)
