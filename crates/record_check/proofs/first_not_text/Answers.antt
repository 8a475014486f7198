use mathlib.Core.Path.{◌≡◌, sym, ap, ◌∙◌}
use native.Mathlib.Omega.{arith}
use lib.ListN.{get_or}
use Rattle.model.specs.rules.Text.{is_text}
use Rattle.cell_decoder.specs.Sources.{kind_from}
use Rattle.record_check.proofs.Records.{not_text_end, not_text_here, not_text_next}
use Rattle.record_check.proofs.first_not_text.Goals as goal

pub returns-then-not-is_text : goal.returns-then-not-is_text
returns-then-not-is_text c =
    let at_n : c.is_text.result ≡ is_text (kind_from (get_or c.args.kinds.now c.loop-n.n 0)) =
    c.is_text.ensures ∙ ap is_text c.kind_of_number.ensures in
    sym (c.loop-n.invariant ∙ not_text_here c.args.kinds.now c.loop-n.n (omega arith) (sym at_n ∙ c.if-not-is_text.true))

pub loop-n-preserved : goal.loop-n-preserved
loop-n-preserved c =
    let at_n : c.is_text.result ≡ is_text (kind_from (get_or c.args.kinds.now c.loop-n.n 0)) =
    c.is_text.ensures ∙ ap is_text c.kind_of_number.ensures in
    c.loop-n.invariant ∙ not_text_next c.args.kinds.now c.loop-n.n (omega arith) (sym at_n ∙ c.if-not-is_text.false)

pub returns : goal.returns
returns c = sym (c.loop-n.invariant ∙ not_text_end c.args.kinds.now c.loop-n.n (omega arith))
