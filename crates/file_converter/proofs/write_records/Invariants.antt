-- The invariant: the file is what is left from the cursor on, after the records that it counts, and their text is in the room.
use Prim.Native.Nat.{◌-◌}
use lib.ListN.{length}
use Rattle.file_cursor.proofs.Traversal.{Full}
use Rattle.file_converter.proofs.Passes.{Filling}
use Rattle.file_converter.proofs.write_records.Given as goal

abbrev pub invariant-loop-v : goal.invariant-loop-v
invariant-loop-v l = Filling l.d l.t l.file l.initial.room l.room l.cursor l.at × Full l.starts l.ends l.kinds

abbrev pub decreases-loop-v : goal.decreases-loop-v
decreases-loop-v l = length l.file - l.cursor.offset
