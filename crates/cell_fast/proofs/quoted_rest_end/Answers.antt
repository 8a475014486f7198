-- `cell_fast::quoted_rest_end` meets its contract: the text inside the quotes, and the quote that closes it.
use mathlib.Core.Path.{◌∙◌}
use Rattle.cell_fast.proofs.TextRuns.{quoted_run, quoted_join}
use Rattle.cell_fast.proofs.QuotedCells.{quoted_found}
use Rattle.cell_fast.proofs.quoted_rest_end.Goals as goal

pub returns-then-closes : goal.returns-then-closes
returns-then-closes c = λ at h e run.
    quoted_found h c.requires.1 (e ∙ c.requires.2) (quoted_join (quoted_run c.args.d c.args.q c.requires.2 c.requires.1 run)
    c.quoted_text-text.ensures) (c.closes.ensures c.if-closes.true)
