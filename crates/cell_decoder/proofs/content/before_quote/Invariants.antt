-- `cell_decoder::content::before_quote` meets its contract. The invariant: no quote lies from `at` to here.
use Prim.Native.Nat.{◌-◌}
use lib.ListN.{length}
use Rattle.cell_decoder.specs.DoubledQuotes.{RunBefore}
use Rattle.cell_decoder.proofs.content.before_quote.Given as goal

abbrev pub invariant-loop-i : goal.invariant-loop-i
invariant-loop-i l = RunBefore l.q l.raw l.at l.i

abbrev pub decreases-loop-i : goal.decreases-loop-i
decreases-loop-i l = length l.raw - l.i
