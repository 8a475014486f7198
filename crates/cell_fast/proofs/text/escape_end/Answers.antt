-- `cell_fast::text::escape_end` meets its contract: a short escape, or one with four digits.
use mathlib.Core.Path.{sym, ◌∙◌}
use native.Mathlib.Omega.{arith}
use Rattle.cell_fast.proofs.QuotedCells.{short_escape}
use Rattle.cell_fast.proofs.TextRuns.{ascii_passed}
use Rattle.cell_fast.proofs.text.escape_end.Goals as goal

pub returns-then-is_short : goal.returns-then-is_short
returns-then-is_short c = ascii_passed (omega (arith, c.requires.2)) (omega arith) (short_escape c.args.s.now c.args.stop c.args.i c.requires.1 (omega arith) c.requires.2 (sym c.is_short.ensures ∙ c.if-is_short.true))
