use mathlib.Core.Path.{sym, ◌∙◌}
use native.Mathlib.Omega.{arith}
use Rattle.record_writer.proofs.ByteMembership.{held_here, held_on, held_end}
use Rattle.record_writer.proofs.clean.plus.holds_from.Goals as goal

pub returns-then-bs-i : goal.returns-then-bs-i
returns-then-bs-i c = sym (c.loop-i.invariant ∙ held_here c.args.p c.args.bs.now c.loop-i.i (omega arith) c.if-bs-i.true)

pub loop-i-preserved : goal.loop-i-preserved
loop-i-preserved c = c.loop-i.invariant ∙ held_on c.args.p c.args.bs.now c.loop-i.i (omega arith) c.if-bs-i.false

pub returns : goal.returns
returns c = sym (c.loop-i.invariant ∙ held_end c.args.p c.args.bs.now c.loop-i.i (omega arith))
