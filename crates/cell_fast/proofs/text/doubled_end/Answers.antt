-- `cell_fast::text::doubled_end` meets its contract: a byte that is no quote is text, and so are two quotes.
use mathlib.Core.Path.{sym, ◌∙◌}
use native.Mathlib.Omega.{arith}
use Rattle.cell_fast.proofs.QuotedCells.{two_quotes, other_ascii}
use Rattle.cell_fast.proofs.TextRuns.{ascii_passed}
use Rattle.cell_fast.proofs.text.doubled_end.Goals as goal

pub returns-then-s-i : goal.returns-then-s-i
returns-then-s-i c = λ d n e.
    ascii_passed c.requires.2 (omega arith)
    (other_ascii c.args.s.now c.args.stop c.args.i c.requires.1 d n c.requires.0 (λ f. c.if-s-i.true (f ∙ sym e)) c.requires.2)

pub returns : goal.returns
returns c = λ d n e.
    ascii_passed c.requires.2 (omega arith)
    (two_quotes c.args.s.now c.args.stop c.args.i c.requires.1 d n (omega arith) (c.if-s-i.false ∙ e) (c.if-s-i-2.false ∙ e))
