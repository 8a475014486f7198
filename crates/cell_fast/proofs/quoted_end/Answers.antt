-- `cell_fast::quoted_end` meets its contract: the guess is tested, and otherwise `quoted_rest_end` finds the end.
use mathlib.Core.Path.{◌∙◌}
use Rattle.cell_fast.proofs.TextRuns.{quoted_run}
use Rattle.cell_fast.proofs.QuotedCells.{quoted_found}
use Rattle.cell_fast.proofs.quoted_end.Goals as goal

pub returns-in-Some : goal.returns-in-Some
returns-in-Some c =
    let flagged = rw c.in-Some.is at c.clean_words-words.ensures.flags in
    let same = c.if-n-before_flag.true ∙ c.before_flag.ensures in
    let passed = rw (← same) at flagged.run in
    quoted_found c.requires.0 c.requires.1 (c.requires.3 ∙ c.requires.2) (quoted_run c.args.d c.args.q c.requires.2 c.requires.1 passed)
    (c.closes.ensures c.if-closes.true)

pub returns : goal.returns
returns c = c.quoted_rest_end.ensures c.args.at c.requires.0 c.requires.3 c.clean_words-words.ensures.words
