-- `record_fast::after_cr` meets its contract: an LF belongs to the ending before it.
use mathlib.Core.Path.{refl, sym, ◌∙◌}
use borrow.Author.Tests.{ne_eqb}
use Rattle.record_fast.specs.FastScan.{after_cr, after_pair, unknown}
use Rattle.record_fast.proofs.after_cr.Goals as goal

pub returns-in_err-get : goal.returns-in_err-get
returns-in_err-get c = rw c.from_residual.ensures unknown

pub returns-then-branch-eq10 : goal.returns-then-branch-eq10
returns-then-branch-eq10 c = let read = c.in_ok-get.ensures.lookup.3 in after_pair refl read.0 (sym (read.1 0) ∙ c.if-branch-eq10.true)

pub returns : goal.returns
returns c = let read = c.in_ok-get.ensures.lookup.3 in after_cr refl (ne_eqb _ _ λ e. c.if-branch-eq10.false (read.1 0 ∙ e))
