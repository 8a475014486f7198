-- The invariant: after the header and this number of data records, with the cells that the lists hold, reading is at i.
use Prim.Native.Nat.{◌-◌}
use lib.ListN.{length}
use Rattle.file_reader.proofs.PassInvariant.{Going}
use Rattle.file_reader.proofs.pass.data_records.Given as goal

abbrev pub invariant-loop-start : goal.invariant-loop-start
invariant-loop-start l = Going
    (record { d = l.d; file = l.file; from = l.from; first = l.initial.state; columns = l.columns; room = l.room; s₀ = l.initial.starts; e₀ = l.initial.ends; k₀ = l.initial.kinds })
    l.state l.i l.cells l.records l.starts l.ends l.kinds

abbrev pub decreases-loop-start : goal.decreases-loop-start
decreases-loop-start l = length l.file - l.i
