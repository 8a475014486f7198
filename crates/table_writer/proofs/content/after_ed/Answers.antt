-- The byte's range decides the next state.
use mathlib.Core.Path.{sym, ◌∙◌}
use native.Mathlib.Omega.{arith}
use Rattle.model.specs.rules.Base.{choose◌then◌else◌}
use Rattle.table_writer.proofs.Contents.{ed_high, ed_low}
use Rattle.table_writer.proofs.content.after_ed.Goals as goal

pub returns-in-160-to-175 : goal.returns-in-160-to-175
returns-in-160-to-175 c = let a = c.args in sym (ed_high a.high a.b (omega arith) (omega arith))

pub returns-in-176-to-191 : goal.returns-in-176-to-191
unfolding choose◌then◌else◌
returns-in-176-to-191 c =
    let a = c.args in
    sym (ed_low a.high a.b (omega arith) (omega arith) ∙ rw c.if-not-high.true)

pub returns-in_default-2 : goal.returns-in_default-2
unfolding choose◌then◌else◌
returns-in_default-2 c =
    let a = c.args in
    sym (ed_low a.high a.b (omega arith) (omega arith) ∙ rw c.if-not-high.false)
