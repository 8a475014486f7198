-- `record_scanner::scan` meets its contract. The invariant: scanning from `from` has the result of scanning from here with the cells
-- found so far, which the lists hold.
use Prim.Native.Nat.{◌-◌}
use lib.ListN.{length}
use Rattle.record_scanner.proofs.ScanInvariant.{Scanning}
use Rattle.record_scanner.proofs.scan.Given as goal

abbrev pub invariant-loop-i : goal.invariant-loop-i
invariant-loop-i l = Scanning (record {
  d = l.d;
  part = l.part;
  first = l.initial.state;
  size = l.size;
  limit = l.limit;
  from = l.from;
  room = l.room;
  base = l.base;
  starts₀ = l.initial.starts;
  ends₀ = l.initial.ends;
  kinds₀ = l.initial.kinds;
}) l.state l.i l.h l.starts l.ends l.kinds

abbrev pub decreases-loop-i : goal.decreases-loop-i
decreases-loop-i l = length l.part - l.i
