-- `utf8::char_step` meets its contract: each arm returns its definition's step, and a non-ASCII byte is looked up in the table.
use mathlib.Core.Path.{sym, ◌∙◌}
use Prim.Native.Nat.{zero-le}
use native.Mathlib.Omega.{arith}
use borrow.Author.Tests.{le-leb, lt-leb}
use Rattle.model.specs.rules.Base.{choose◌then◌else◌}
use Rattle.model.specs.rules.Utf8.{inner_step, char_step}
use Rattle.model.proofs.cell_laws.Utf8.{ascii_whole}
use Rattle.utf8.proofs.char_step.Goals as goal

pub returns-then-b-lt128 : goal.returns-then-b-lt128
unfolding char_step
returns-then-b-lt128 c = sym (rw c.in-Whole.is (ascii_whole c.args.b (omega arith)))

pub returns-else-b-lt128 : goal.returns-else-b-lt128
unfolding char_step choose◌then◌else◌
returns-else-b-lt128 c = c.lead_byte.ensures ∙ rw (c.in-Whole.is, le-leb 0 _ zero-le, lt-leb _ 0x7F c.if-b-lt128.false)

pub returns-in-Second : goal.returns-in-Second
unfolding char_step
returns-in-Second c = c.second_byte.ensures ∙ rw (c.in-Within.is, c.in-Second.is)

pub returns-in-LastTwo : goal.returns-in-LastTwo
unfolding char_step inner_step
returns-in-LastTwo c = c.later_byte.ensures ∙ rw (c.in-Within.is, c.in-LastTwo.is)

pub returns-in-Last : goal.returns-in-Last
unfolding char_step inner_step
returns-in-Last c = c.later_byte-in-Last.ensures ∙ rw (c.in-Within.is, c.in-Last.is)
