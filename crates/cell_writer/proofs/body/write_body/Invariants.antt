-- `cell_writer::body::write_body` meets its contract. The invariant: what remains to be written is the text of the rest of the content,
-- and the content holds a lone surrogate exactly if one was found or the rest holds one.
use mathlib.Core.Path.{◌≡◌}
use mathlib.Core.Bool.{◌||◌}
use Prim.Native.Nat.{◌-◌}
use lib.ListN.{length}
use Rattle.model.specs.rules.Utf8.{holds_lone}
use Rattle.buffer.proofs.WriteProgress.{Emitting}
use Rattle.cell_decoder.specs.FirstByte.{content_in}
use Rattle.cell_writer.specs.Units.{body_text}
use Rattle.cell_writer.specs.Contents.{content_from}
use Rattle.cell_writer.proofs.body.write_body.Given as goal

abbrev pub invariant-loop-i : goal.invariant-loop-i
invariant-loop-i l = Emitting l.write l.initial.out l.at (body_text l.t (content_in l.fn.e.spelling l.raw)) l.out l.o
    (body_text l.t (content_from l.fn.e.spelling l.raw l.i)) × (holds_lone (content_in l.fn.e.spelling l.raw) ≡ (l.lone || holds_lone (content_from l.fn.e.spelling l.raw l.i)))

abbrev pub decreases-loop-i : goal.decreases-loop-i
decreases-loop-i l = length l.raw - l.i
