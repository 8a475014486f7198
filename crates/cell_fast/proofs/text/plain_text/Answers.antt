use Rattle.cell_fast.proofs.TextRuns.{text_none, text_join, ascii_text, wide_text}
use Rattle.cell_fast.proofs.text.plain_text.Goals as goal

pub loop-i-init : goal.loop-i-init
loop-i-init c = text_none c.args.s.now c.args.at c.args.stop c.requires.0

pub returns-then-stop-i : goal.returns-then-stop-i
returns-then-stop-i c = text_join c.loop-i.invariant (ascii_text c.args.p c.args.q c.clean_run-i.ensures)

pub returns-then-s-i-lt128 : goal.returns-then-s-i-lt128
returns-then-s-i-lt128 c = text_join c.loop-i.invariant (ascii_text c.args.p c.args.q c.clean_run-i.ensures)

pub returns-then-next-i : goal.returns-then-next-i
returns-then-next-i c = text_join c.loop-i.invariant (ascii_text c.args.p c.args.q c.clean_run-i.ensures)

pub loop-i-preserved : goal.loop-i-preserved
loop-i-preserved c =
    text_join (text_join c.loop-i.invariant (ascii_text c.args.p c.args.q c.clean_run-i.ensures))
    (wide_text c.args.p c.args.q c.requires.2 c.requires.3 c.multibyte_run-next.ensures)
