-- `cell_decoder::content::string_length` meets its contract. The invariant: the count plus the length of the rest is the length of the
-- whole.
use mathlib.Core.Path.{◌≡◌}
use Prim.Native.Nat.{◌+◌, ◌-◌, ◌<◌}
use lib.ListN.{length}
use Rattle.cell_decoder.specs.Strings.{string_from}
use Rattle.cell_decoder.proofs.content.string_length.Given as goal

abbrev pub invariant-loop-i : goal.invariant-loop-i
invariant-loop-i l = (l.n < l.i) × (l.n + length (string_from l.raw l.i) ≡ length (string_from l.raw 1))

abbrev pub decreases-loop-i : goal.decreases-loop-i
decreases-loop-i l = length l.raw - l.i
