-- `cell_writer::body::unit_stop` meets its contract: the text of the unit there.
use mathlib.Core.Path.{sym, ap, ◌∙◌}
use Rattle.cell_writer.specs.Units.{body_text, is_lone}
use Rattle.cell_writer.proofs.Bodies.{stops_unit}
use Rattle.cell_writer.proofs.body.unit_stop.Goals as goal

pub returns : goal.returns
returns c =
    stops_unit c.unit_at-u.ensures c.args.t c.requires.decoded (sym c.is_empty.ensures ∙ c.if-is_empty.false)
    (c.unit_text.ensures ∙ ap (body_text c.args.t) c.as_slice.ensures.text) (c.is_lone.ensures ∙ ap is_lone c.as_slice-2.ensures.text)
