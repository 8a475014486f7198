-- `cell_decoder::content::write_string` meets its contract. The invariant: what remains to be written is the string's content from here
-- on.
use Prim.Native.Nat.{◌-◌}
use lib.ListN.{length}
use Rattle.cell_decoder.specs.Strings.{string_from}
use Rattle.buffer.proofs.WriteProgress.{Writing}
use Rattle.cell_decoder.proofs.content.write_string.Given as goal

abbrev pub invariant-loop-i : goal.invariant-loop-i
invariant-loop-i l = Writing l.initial.out 0 (string_from l.raw 1) l.out l.o (string_from l.raw l.i)

abbrev pub decreases-loop-i : goal.decreases-loop-i
decreases-loop-i l = length l.raw - l.i
