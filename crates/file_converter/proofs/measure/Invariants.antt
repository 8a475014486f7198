-- The invariant: the file is what is left from the cursor on, after the records that it counts, whose text has the length that it says.
use Prim.Native.Nat.{◌-◌}
use lib.ListN as lists
use Rattle.std.specs.Prelude.{Some}
use Rattle.file_cursor.proofs.Traversal.{Walking, Full}
use Rattle.file_converter.proofs.measure.Given as goal

abbrev pub invariant-loop-v : goal.invariant-loop-v
invariant-loop-v l = Walking l.d (Some l.t) l.file l.cursor × Full l.starts l.ends l.kinds

abbrev pub decreases-loop-v : goal.decreases-loop-v
decreases-loop-v l = lists.length l.file - l.cursor.offset
