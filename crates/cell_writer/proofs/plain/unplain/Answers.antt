-- `cell_writer::plain::unplain` meets its contract: the conjunction of five exact tests, inverted.
use Rattle.cell_writer.proofs.PlainSteps.{plain_flags}
use Rattle.cell_writer.proofs.plain.unplain.Goals as goal

pub returns : goal.returns
returns c =
    let a = c.args in
    plain_flags a.p a.q c.from_20.ensures c.other_than.ensures c.other_than-2.ensures
    c.other_than-3.ensures c.other_than-4.ensures
