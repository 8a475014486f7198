use mathlib.Core.Path.{sym, ◌∙◌}
use native.Mathlib.Omega.{arith}
use Rattle.record_writer.proofs.CleanCells.{clean_next, clean_all}
use Rattle.record_writer.proofs.clean.is_clean.Goals as goal

pub loop-n-preserved : goal.loop-n-preserved
loop-n-preserved c =
    clean_next c.loop-n.invariant λ d q b. c.is_clean.ensures d q b
    c.if-not-is_clean.false

pub returns : goal.returns
returns c e = clean_all (sym c.quote_of.ensures ∙ c.if-quote_of-ne34.false) c.may_be_bare-bare.ensures (omega arith) c.loop-n.invariant
