-- `cell_writer::body::content_stop` meets its contract: a lone surrogate of a string, or a byte.
use mathlib.Core.Bool.{true, false}
use mathlib.Core.Path.{◌≡◌, sym, ◌∙◌}
use lib.ListN.{drop}
use Rattle.model.specs.rules.Dialect.{is_csvj}
use Rattle.model.proofs.Tests.{impossible}
use Rattle.cell_writer.specs.Units.{begins_lone}
use Rattle.cell_writer.proofs.Bodies.{rest_is, stops_lone, stops_byte}
use Rattle.cell_writer.proofs.body.content_stop.Goals as goal
use Rattle.cell_writer.proofs.body.content_stop.Goals.{else-is_csvj-via-then-is_csvj+else-begins_lone, else-is_csvj-via-else-is_csvj}

pub returns-then-begins_lone : goal.returns-then-begins_lone
returns-then-begins_lone c =
    let a = c.args in
    let rest = rest_is a.content.now a.i in
    stops_lone a.content.now a.i a.t (sym (rw rest at c.begins_lone.ensures) ∙ c.if-begins_lone.true) (sym c.is_csvj.ensures ∙ c.if-is_csvj.true)
    (rw rest at c.lone.ensures)

pub returns : goal.returns
returns c =
    let a = c.args in
    let rest = rest_is a.content.now a.i in
    let none : is_csvj a.t ≡ true → begins_lone (drop a.i a.content.now) ≡ false =
    elim c.else-is_csvj.branch [
      | else-is_csvj-via-then-is_csvj+else-begins_lone w ↦ λ e. sym (rw rest at w.begins_lone.ensures) ∙ w.if-begins_lone.false
      | else-is_csvj-via-else-is_csvj w ↦ λ e. impossible (sym w.if-is_csvj.false ∙ c.is_csvj.ensures ∙ e)
    ] in
    stops_byte a.content.now a.i a.t c.requires none (rw rest at c.byte_text.ensures) (rw rest at c.is_paired.ensures)
