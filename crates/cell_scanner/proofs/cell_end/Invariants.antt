-- `cell_scanner::cell_end` meets its contract. The invariant: `cell_run` from `from` equals `cell_run` from here, in the current state.
use Prim.Native.Nat.{◌-◌, ◌≤◌}
use mathlib.Core.Path.{◌≡◌}
use lib.ListN.{length}
use Rattle.model.specs.rules.Api.{slice}
use Rattle.cell_scanner.specs.Run.{cell_run}
use Rattle.cell_scanner.proofs.cell_end.Given as goal

abbrev pub invariant-loop-i : goal.invariant-loop-i
invariant-loop-i l = (l.i ≤ l.stop) × (l.stop ≤ length l.s) × (cell_run l.d l.initial.c l.from (slice l.s l.from l.stop) ≡ cell_run l.d l.c l.i (slice l.s l.i l.stop))

abbrev pub decreases-loop-i : goal.decreases-loop-i
decreases-loop-i l = l.stop - l.i
