-- `cell_decoder::first_byte::spelling_by` meets its contract: each arm returns the definition's result for its dialect.
use mathlib.Core.Path.{sym, ◌∙◌}
use borrow.Author.Rules.{rules}
use Rattle.cell_decoder.proofs.FirstByte.{quoted_first, other_tdif, other_plus}
use Rattle.cell_decoder.proofs.first_byte.spelling_by.Goals as goal

pub returns-in_default : goal.returns-in_default
returns-in_default c =
    rw c.quote_of-q.ensures (sym (quoted_first c.args.d c.args.b c.in_default.not-Csvj (c.if-b-q.true ∙ c.quote_of-q.ensures)))

pub returns-in-Tdif : goal.returns-in-Tdif
returns-in-Tdif c = search (rules, other_tdif)

pub returns-in-CsvPlus : goal.returns-in-CsvPlus
returns-in-CsvPlus c = search (rules, other_plus)
