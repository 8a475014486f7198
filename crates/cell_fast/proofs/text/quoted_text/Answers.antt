use mathlib.Core.Bool.{true}
use Rattle.cell_fast.proofs.TextRuns.{quoted_none, quoted_run_on, quoted_clean_on, quoted_other_on}
use Rattle.cell_fast.proofs.text.quoted_text.Goals as goal

pub loop-i-init : goal.loop-i-init
loop-i-init c = quoted_none c.args.d c.args.s.now c.args.stop c.args.at true c.requires.0

pub returns-then-stop-i : goal.returns-then-stop-i
returns-then-stop-i c = quoted_run_on c.loop-i.invariant c.args.q c.requires.2 c.requires.1 c.clean_run-i.ensures

pub returns-in_default : goal.returns-in_default
returns-in_default c = quoted_run_on c.loop-i.invariant c.args.q c.requires.2 c.requires.1 c.clean_run-i.ensures

pub loop-i-preserved-then-s-i-lt128 : goal.loop-i-preserved-then-s-i-lt128
loop-i-preserved-then-s-i-lt128 c =
    quoted_other_on (quoted_run_on c.loop-i.invariant c.args.q c.requires.2 c.requires.1 c.clean_run-i.ensures) c.in-Some.ensures

pub loop-i-preserved : goal.loop-i-preserved
loop-i-preserved c =
    quoted_clean_on (quoted_run_on c.loop-i.invariant c.args.q c.requires.2 c.requires.1 c.clean_run-i.ensures) c.if-s-i-lt128.false c.in-Some.ensures
