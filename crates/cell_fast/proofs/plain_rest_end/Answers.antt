-- `cell_fast::plain_rest_end` meets its contract: the text of the cell, and the byte after it.
use mathlib.Core.Path.{◌≡◌, sym, ◌∙◌}
use mathlib.Core.Bool.{true}
use lib.ListN.{get_or}
use Rattle.model.specs.rules.Dialect.{delimiter_of, quote_of}
use Rattle.cell_fast.specs.TextRuns.{TextRun, is_open}
use Rattle.cell_fast.specs.CellOutcome.{is_end}
use Rattle.cell_fast.proofs.PlainCells.{plain_found}
use Rattle.cell_fast.proofs.plain_rest_end.Goals as goal

pub returns-then-is_end : goal.returns-then-is_end
returns-then-is_end c = λ d m ep eq.
    let a = c.args in
    let i = c.plain_text-i.result in
    let run : TextRun (is_open (delimiter_of d) (quote_of d)) a.s.now a.at a.stop i =
    rw (ep, eq) at c.plain_text-i.ensures in
    let end : is_end (delimiter_of d) (get_or a.s.now i 0) ≡ true = rw ep at (sym c.is_end.ensures ∙ c.if-is_end.true) in
    plain_found d m c.requires.0 c.requires.1 (λ e. c.requires.4 (e ∙ sym eq)) run c.if-i-stop.true end
