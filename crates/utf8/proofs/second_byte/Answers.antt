-- `utf8::second_byte` meets its contract, by the entries of its row.
use mathlib.Core.Path.{sym, ◌∙◌}
use native.Mathlib.Omega.{arith}
use borrow.Author.Tests.{ne_eqb}
use Rattle.model.specs.rules.Base.{choose◌then◌else◌}
use Rattle.utf8.proofs.Table.{second_at}
use Rattle.utf8.proofs.second_byte.Goals as goal

pub returns-then-not-has_second : goal.returns-then-not-has_second
unfolding choose◌then◌else◌
returns-then-not-has_second c = sym (second_at c.args.l _ c.args.b c.row_of-row.ensures ∙ rw (← c.if-not-has_second.ensures))

pub returns-in-2 : goal.returns-in-2
unfolding choose◌then◌else◌
returns-in-2 c = sym (second_at c.args.l _ c.args.b c.row_of-row.ensures ∙ rw (← c.if-not-has_second.ensures, c.in-2.is))

pub returns-in-3 : goal.returns-in-3
unfolding choose◌then◌else◌
returns-in-3 c = sym (second_at c.args.l _ c.args.b c.row_of-row.ensures ∙ rw (← c.if-not-has_second.ensures, c.in-3.is))

pub returns-in_default : goal.returns-in_default
unfolding choose◌then◌else◌
returns-in_default c =
    let size = c.row_of-row.result.length in
    sym (second_at c.args.l _ c.args.b c.row_of-row.ensures ∙ rw (← c.if-not-has_second.ensures, ne_eqb size 2 (omega arith), ne_eqb size 3 (omega arith)))
