-- `record_writer::quotes::quotes_around` meets its contract, test by test.
use native.Mathlib.Omega.{arith}
use Rattle.std.proofs.Common.{rules}
use Rattle.record_writer.specs.Verbatim.{no_quotes, a_quote}
use Rattle.record_writer.proofs.quotes.quotes_around.Goals as goal

pub returns-then-raw-eq34-2 : goal.returns-then-raw-eq34-2
returns-then-raw-eq34-2 c = a_quote (omega arith) (search rules) (search rules)

pub returns-else-raw-ge2 : goal.returns-else-raw-ge2
returns-else-raw-ge2 c = no_quotes
