-- The invariant: the bytes are content exactly when the rest is, from the current state.
use mathlib.Core.Path.{◌≡◌}
use Prim.Native.Nat.{◌-◌, ◌≤◌}
use lib.ListN.{length, drop}
use Rattle.model.specs.rules.Utf8.{is_content, wide_from}
use Rattle.table_writer.specs.Content.{wide_in}
use Rattle.table_writer.proofs.content.is_content.Given as goal

abbrev pub invariant-loop-i : goal.invariant-loop-i
invariant-loop-i l = (l.i ≤ length l.s) × (is_content l.s ≡ wide_from (wide_in l.p) (drop l.i l.s))

abbrev pub decreases-loop-i : goal.decreases-loop-i
decreases-loop-i l = length l.s - l.i
