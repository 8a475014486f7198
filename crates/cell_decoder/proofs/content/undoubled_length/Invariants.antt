-- `cell_decoder::content::undoubled_length` meets its contract. The invariant: the count plus the length of the rest is the length of the
-- whole.
use mathlib.Core.Bool.{false}
use mathlib.Core.Path.{◌≡◌}
use Prim.Native.Nat.{◌+◌, ◌-◌, ◌<◌}
use lib.ListN.{length, drop}
use Rattle.model.specs.rules.Decode.{undouble}
use Rattle.cell_decoder.proofs.content.undoubled_length.Given as goal

abbrev pub invariant-loop-next : goal.invariant-loop-next
invariant-loop-next l = (l.n < l.i) × (l.n + length (undouble l.q false (drop l.i l.raw)) ≡ length (undouble l.q false (drop 1 l.raw)))

abbrev pub decreases-loop-next : goal.decreases-loop-next
decreases-loop-next l = length l.raw - l.i
