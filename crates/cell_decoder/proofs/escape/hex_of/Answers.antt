-- `cell_decoder::escape::hex_of` meets its contract, by its tests; a byte that is no digit has a value too, at most 168.
use native.Mathlib.Omega.{arith}
use Rattle.model.specs.rules.Base.{choose◌then◌else◌}
use Rattle.model.proofs.Tests.{tests}
use Rattle.cell_decoder.proofs.escape.hex_of.Goals as goal

pub returns-in-0-to-57 : goal.returns-in-0-to-57
unfolding choose◌then◌else◌
returns-in-0-to-57 c = (grind (arith, tests), omega arith)

pub returns-in-0-to-70 : goal.returns-in-0-to-70
unfolding choose◌then◌else◌
returns-in-0-to-70 c = (grind (arith, tests), omega arith)

pub returns-in_default : goal.returns-in_default
unfolding choose◌then◌else◌
returns-in_default c = (grind (arith, tests), omega arith)
