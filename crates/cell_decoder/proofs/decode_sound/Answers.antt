-- `cell_decoder::decode_sound` meets its contract: content that fits is written, and other content is refused.
use native.Mathlib.Omega.{arith}
use Rattle.model.proofs.file_laws.Lengths as lengths
use Rattle.cell_decoder.proofs.DecoderAnswers.{too_long, fits}
use Rattle.cell_decoder.proofs.decode_sound.Goals as goal

pub write_content-size-requires : goal.write_content-size-requires
write_content-size-requires c = omega (arith, lengths.content_length c.args.d c.args.raw.now, c.if-raw-room.true)

pub returns-then-raw-room : goal.returns-then-raw-room
returns-then-raw-room c =
    let a = c.args in
    let p = fits a.d a.raw.now a.room.now _ _ _ (omega (arith, lengths.content_length a.d a.raw.now, c.if-raw-room.true))
    c.write_content-size.ensures.size c.kind_of-kind.ensures c.write_content-size.ensures.text in
    record { result_value = p.0; room_after = p.1 }

pub returns-then-room-size : goal.returns-then-room-size
returns-then-room-size c =
    let a = c.args in
    let p = too_long a.d a.raw.now a.room.now _ (omega (arith, c.content_length-size.ensures, c.if-room-size.true)) c.call_report.ensures in
    record { result_value = p.0; room_after = p.1 }

pub returns : goal.returns
returns c =
    let a = c.args in
    let p = fits a.d a.raw.now a.room.now _ _ _ (omega (arith, c.content_length-size.ensures, c.if-room-size.false))
    c.content_length-size.ensures c.kind_of-kind.ensures c.write_content.ensures.text in
    record { result_value = p.0; room_after = p.1 }
