-- `utf8::multibyte::two_byte_words` meets its contract. The invariant: whole characters lie from `at` to here.
use Prim.Native.Nat.{◌-◌}
use Rattle.utf8.specs.Multibyte.{WideRun}
use Rattle.utf8.proofs.multibyte.two_byte_words.Given as goal

abbrev pub invariant-loop-i : goal.invariant-loop-i
invariant-loop-i l = WideRun l.s l.at l.stop l.i

abbrev pub decreases-loop-i : goal.decreases-loop-i
decreases-loop-i l = l.stop - l.i
