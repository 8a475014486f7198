-- `utf8::multibyte::multibyte_run` meets its contract. The invariant: whole characters lie from `at` to here.
use Prim.Native.Nat.{◌-◌}
use Rattle.utf8.specs.Multibyte.{WideRun}
use Rattle.utf8.proofs.multibyte.multibyte_run.Given as goal

abbrev pub invariant-loop-next : goal.invariant-loop-next
invariant-loop-next l = WideRun l.s l.at l.stop l.i

abbrev pub decreases-loop-next : goal.decreases-loop-next
decreases-loop-next l = l.stop - l.i
