-- `cell_fast::text::long_escape_end` meets its contract: the automaton's states after each of the six bytes.
use mathlib.Core.Path.{sym, ◌∙◌}
use native.Mathlib.Omega.{arith}
use Rattle.cell_fast.proofs.QuotedCells.{long_escape}
use Rattle.cell_fast.proofs.TextRuns.{ascii_passed}
use Rattle.cell_fast.proofs.text.long_escape_end.Goals as goal

pub returns : goal.returns
returns c =
    ascii_passed (omega (arith, c.requires.2)) (omega arith) (long_escape c.args.s.now c.args.stop c.args.i c.requires.1 (omega arith) c.requires.2 c.if-s-i-ne117.false
    (sym c.is_hex.ensures ∙ c.if-not-is_hex.false)
    (sym c.is_hex-else-not-is_hex.ensures ∙ c.if-not-is_hex-2.false)
    (sym c.is_hex-else-not-is_hex-2.ensures ∙ c.if-not-is_hex-3.false)
    (sym c.is_hex-else-not-is_hex-3.ensures ∙ c.if-not-is_hex-4.false))
