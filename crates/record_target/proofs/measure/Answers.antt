-- From place 0 on, the end of the text is its length.
use mathlib.Core.Path.{◌≡◌, ap, ◌∙◌}
use Prim.Native.Nat.{◌+◌}
use native.Mathlib.Omega.{arith}
use lib.ListN.{length}
use Rattle.model.specs.rules.Dialect.{into}
use Rattle.model.specs.rules.Text.{record_text}
use Rattle.model.specs.rules.Base.{Bytes}
use Rattle.buffer.specs.Writes.{measure}
use Rattle.cell_decoder.specs.Sources.{cells_in}
use Rattle.record_target.proofs.Reasons.{place_measured, room_measured}
use Rattle.record_target.proofs.measure.Goals as goal

pub write_text-requires : goal.write_text-requires
write_text-requires c = record { cells = c.requires.cells; clean_record = c.requires.clean_record; room = room_measured _ _ _ (omega arith) }

pub returns : goal.returns
returns c =
    let text : Bytes = record_text (into c.args.t) c.args.header (cells_in c.args.src c.args.s.now c.args.starts.now c.args.ends.now c.args.kinds.now) in
    let w = text in
    let from_zero : 0 + length w ≡ length w = omega arith in
    let p = c.write_text.ensures in
    record { end_value = place_measured p.written_at ∙ ap measure from_zero; carries_value = p.carries_value }
