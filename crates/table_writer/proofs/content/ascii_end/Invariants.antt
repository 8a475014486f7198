-- The invariant: the bytes up to i leave the state unchanged.
use mathlib.Core.Bool.{false}
use Rattle.std.specs.Prelude.{Some}
use Rattle.model.specs.rules.Utf8.{gap}
use Rattle.table_writer.specs.Content.{SameContentState}
use Rattle.table_writer.proofs.content.ascii_end.Given as goal

abbrev pub invariant-loop-i : goal.invariant-loop-i
invariant-loop-i l = SameContentState (Some (gap false)) l.s l.at l.i
