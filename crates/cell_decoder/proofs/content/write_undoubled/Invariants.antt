-- `cell_decoder::content::write_undoubled` meets its contract. The invariant: what remains to be written is the text from here on.
use mathlib.Core.Bool.{false}
use Prim.Native.Nat.{◌-◌}
use lib.ListN.{length, drop}
use Rattle.model.specs.rules.Decode.{undouble}
use Rattle.buffer.proofs.WriteProgress.{Writing}
use Rattle.cell_decoder.proofs.content.write_undoubled.Given as goal

abbrev pub invariant-loop-b : goal.invariant-loop-b
invariant-loop-b l = Writing l.initial.out 0 (undouble l.q false (drop 1 l.raw)) l.out l.o (undouble l.q false (drop l.i l.raw))

abbrev pub decreases-loop-b : goal.decreases-loop-b
decreases-loop-b l = length l.raw - l.i
