-- `cell_writer::plain::word_steps` meets its contract. The invariant: the end of the run from `at` is the end of the run from here.
use mathlib.Core.Path.{◌≡◌}
use Prim.Native.Nat.{◌+◌, ◌-◌, ◌≤◌}
use lib.ListN.{length, drop}
use Rattle.cell_writer.specs.PlainRuns.{plain_run}
use Rattle.cell_writer.proofs.plain.word_steps.Given as goal

abbrev pub invariant-loop-i : goal.invariant-loop-i
invariant-loop-i l = (l.i ≤ length l.s) × (l.at + plain_run l.p l.q l.q (drop l.at l.s) ≡ l.i + plain_run l.p l.q l.q (drop l.i l.s))

abbrev pub decreases-loop-i : goal.decreases-loop-i
decreases-loop-i l = length l.s - l.i
