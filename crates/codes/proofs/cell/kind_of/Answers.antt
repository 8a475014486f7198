-- `codes::cell::kind_of` meets its contract: the first byte decides the kind.
use mathlib.Core.Path.{ap, ◌∙◌}
use Rattle.codes.specs.FirstByte.{kind_by}
use Rattle.codes.proofs.FirstByte.{kind_first}
use Rattle.codes.proofs.cell.kind_of.Goals as goal

pub returns : goal.returns
returns c =
    let a = c.args in
    c.kind_by.ensures ∙ ap (kind_by a.d) c.first_of.ensures ∙ kind_first a.d a.raw.now
