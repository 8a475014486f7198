-- `cell_writer::special::holds_special` meets its contract. The invariant: the content needs quotes exactly if the rest of it does.
use mathlib.Core.Path.{◌≡◌}
use Prim.Native.Nat.{◌-◌}
use lib.ListN.{length}
use Rattle.model.specs.rules.Base.{holds}
use Rattle.model.specs.rules.Text.{special}
use Rattle.cell_decoder.specs.FirstByte.{content_in}
use Rattle.cell_writer.specs.Contents.{content_from}
use Rattle.cell_writer.proofs.special.holds_special.Given as goal

abbrev pub invariant-loop-i : goal.invariant-loop-i
invariant-loop-i l = holds (special l.s) (content_in l.c l.raw) ≡ holds (special l.s) (content_from l.c l.raw l.i)

abbrev pub decreases-loop-i : goal.decreases-loop-i
decreases-loop-i l = length l.raw - l.i
