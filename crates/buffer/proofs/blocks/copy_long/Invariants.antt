-- `buffer::blocks::copy_long` meets its contract. The invariant: what remains to be written is the rest of `src`.
use Prim.Native.Nat.{◌+◌, ◌≤◌}
use lib.ListN.{length, drop}
use Rattle.buffer.proofs.BlockProgress.{Writing}
use Rattle.buffer.proofs.blocks.copy_long.Given as goal

abbrev pub invariant-loop-i : goal.invariant-loop-i
invariant-loop-i l = (l.i ≤ length l.src) × Writing l.initial.out l.at l.src l.out (l.at + l.i) (drop l.i l.src)
