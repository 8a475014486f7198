use native.Mathlib.Omega.{arith}
use Rattle.swar.proofs.Flags.{flags_other}
use Rattle.swar.proofs.FlaggedPrefix.{rest_passes, rest_stops}
use Rattle.cell_decoder.proofs.DoubledQuotes.{run_none, run_more}
use Rattle.cell_decoder.proofs.content.before_quote.Goals as goal

pub loop-i-init : goal.loop-i-init
loop-i-init c = run_none c.args.q c.args.raw.now c.args.at

pub overflow_add-result : goal.overflow_add-result
overflow_add-result c =
    let stops = rest_stops c.args.raw.now c.loop-i.i c.word.ensures (flags_other c.other_than-quotes.ensures) c.if-quotes-ne0.true in
    omega (arith, stops.0, stops.1, c.before_flag.ensures)

pub returns-then-quotes-ne0 : goal.returns-then-quotes-ne0
returns-then-quotes-ne0 c =
    let stops = rest_stops c.args.raw.now c.loop-i.i c.word.ensures (flags_other c.other_than-quotes.ensures) c.if-quotes-ne0.true in
    run_more _ c.loop-i.invariant (omega arith) (omega (arith, stops.0, c.before_flag.ensures))

pub loop-i-preserved : goal.loop-i-preserved
loop-i-preserved c =
    let passes = rest_passes c.args.raw.now c.loop-i.i c.word.ensures (flags_other c.other_than-quotes.ensures) c.if-quotes-ne0.false in
    run_more 8 c.loop-i.invariant (omega arith) (omega (arith, passes))

pub returns-else-raw-i-ge8 : goal.returns-else-raw-i-ge8
returns-else-raw-i-ge8 c = c.loop-i.invariant

pub returns-after-loop-i : goal.returns-after-loop-i
returns-after-loop-i c = c.loop-i.invariant
