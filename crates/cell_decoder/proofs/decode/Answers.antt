-- `cell_decoder::decode` meets its contract, by the dialect that the number names.
use Rattle.cell_decoder.proofs.DecoderAnswers.{known, unknown}
use Rattle.cell_decoder.proofs.decode.Goals as goal

pub returns-in_default : goal.returns-in_default
returns-in_default c =
    let a = c.args in
    let p = unknown a.dialect a.raw.now a.room.now _ c.in_default.ensures c.call_report.ensures in
    record { answer = p.0; leaves = p.1 }

pub returns : goal.returns
returns c =
    let called = c.decode_cell in
    let a = c.args in
    let p = known a.dialect a.raw.now a.room.now _ called.result called.new.room c.in-Ok.ensures (called.ensures.result_value, called.ensures.room_after) in
    record { answer = p.0; leaves = p.1 }
