-- `cell_fast::text::pass` meets its contract: non-ASCII characters, an escape of CSVJ, or two quotes.
use Rattle.cell_fast.proofs.TextRuns.{wide_passed}
use Rattle.cell_fast.proofs.text.pass.Goals as goal

pub returns-then-s-i-ge128 : goal.returns-then-s-i-ge128
returns-then-s-i-ge128 c = wide_passed c.args.d c.requires.1 c.multibyte_run-next.ensures c.if-next-i.false
