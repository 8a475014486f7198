use mathlib.Core.Path.{ap, ◌∙◌}
use Rattle.model.specs.rules.Decode.{kind_number}
use Rattle.piece_state.proofs.BufferedLists.{sorting, sorted, sorted_all}
use Rattle.piece_state.proofs.cells.kinds_of.Goals as goal

pub loop-k-init : goal.loop-k-init
loop-k-init c = sorting c.requires.spans_in c.requires.n_in_bounds

pub loop-k-preserved : goal.loop-k-preserved
loop-k-preserved c = sorted c.loop-k.invariant c.loop-k-test.true (c.from.ensures ∙ ap kind_number c.kind_of.ensures)

pub returns : goal.returns
returns c = sorted_all c.loop-k.invariant c.loop-k-test.false
