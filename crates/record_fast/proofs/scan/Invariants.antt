-- `record_fast::scan` meets its contract. The invariant: scanning from `from` has the result of scanning from the cell at `at`, with the
-- cells before it in the lists.
use Prim.Native.Nat.{◌-◌}
use Rattle.record_fast.proofs.FastScanInvariant.{Row}
use Rattle.record_fast.proofs.scan.Given as goal

abbrev pub invariant-loop-at : goal.invariant-loop-at
invariant-loop-at l = Row l.d l.part l.limit l.from l.room l.base l.initial.starts l.initial.ends l.initial.kinds l.start l.stop l.clean l.at l.n l.starts l.ends l.kinds

abbrev pub decreases-loop-at : goal.decreases-loop-at
decreases-loop-at l = l.stop - l.at
