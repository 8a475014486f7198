-- `cell_fast::text::quoted_text` meets its contract. The invariant: the text inside the quotes lies from `at` to here, verbatim if
-- `clean`.
use Prim.Native.Nat.{◌-◌}
use Rattle.cell_fast.specs.CellOutcome.{QuotedText}
use Rattle.cell_fast.proofs.text.quoted_text.Given as goal

abbrev pub invariant-loop-i : goal.invariant-loop-i
invariant-loop-i l = QuotedText l.d l.s l.stop l.at l.i l.clean

abbrev pub decreases-loop-i : goal.decreases-loop-i
decreases-loop-i l = l.stop - l.i
