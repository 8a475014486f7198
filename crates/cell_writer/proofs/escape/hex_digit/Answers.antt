-- `cell_writer::escape::hex_digit` meets its contract, by its test.
use Rattle.model.specs.rules.Base.{choose◌then◌else◌}
use Rattle.model.proofs.Tests.{tests}
use Rattle.cell_writer.proofs.escape.hex_digit.Goals as goal

pub returns-then-n-le9 : goal.returns-then-n-le9
unfolding choose◌then◌else◌
returns-then-n-le9 c = search tests

pub returns-else-n-le9 : goal.returns-else-n-le9
unfolding choose◌then◌else◌
returns-else-n-le9 c = search tests
