-- `swar::fours` meets its contract: the two groups have no bits in common.
use mathlib.Core.Path.{ap₂, ◌∙◌}
use mathlib.Core.List.{◌++◌}
use Rattle.swar.proofs.WordReads.{fours_joined}
use Rattle.swar.proofs.fours.Goals as goal

pub returns : goal.returns
returns c =
    let first = c.four.ensures in
    let second = c.four-2.ensures in
    fours_joined c.four.result c.four-2.result first.1 second.1 ∙ ap₂ ◌++◌ first.0 second.0
