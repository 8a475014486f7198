-- `record_writer::clean::quoted::cell_length` meets its contract.
use mathlib.Core.Path.{sym, ◌∙◌}
use Rattle.record_writer.proofs.Lengths.{length_own, length_two}
use Rattle.record_writer.proofs.clean.quoted.cell_length.Goals as goal

pub returns-then-has_quotes : goal.returns-then-has_quotes
returns-then-has_quotes c = sym (length_own c.args.raw.now (sym c.has_quotes.ensures ∙ c.if-has_quotes.true))

pub returns : goal.returns
returns c = sym (length_two c.args.raw.now (sym c.has_quotes.ensures ∙ c.if-has_quotes.false))
