-- `cell_scanner::single_steps` meets its contract. The invariant: the end of the run from `at` is the end of the run from here.
use Prim.Native.Nat.{◌+◌}
use mathlib.Core.Path.{◌≡◌}
use Rattle.model.specs.rules.Api.{slice}
use Rattle.cell_scanner.specs.Run.{leading}
use Rattle.cell_scanner.proofs.single_steps.Given as goal

abbrev pub invariant-loop-i : goal.invariant-loop-i
invariant-loop-i l = l.at + leading l.p l.q (slice l.s l.at l.stop) ≡ l.i + leading l.p l.q (slice l.s l.i l.stop)
