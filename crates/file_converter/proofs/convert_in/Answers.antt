-- `file_converter::convert_in` meets its contract, by the result of the first pass and the length of the room.
use Rattle.file_converter.proofs.ConverterAnswers.{conversion_refused, conversion_crowded, conversion_accepts, conversion_roomy}
use Rattle.file_converter.proofs.convert_in.Goals as goal

pub returns-then-room-length : goal.returns-then-room-length
returns-then-room-length c =
    let a = c.args in
    let o = conversion_crowded a.d a.t a.file.now a.room.now c.measure.ensures _
    c.in-Ok.is c.if-room-length.true _ c.call_report.ensures _
    c.refusal-then-room-length.ensures in
    record { value = o.answer; room_after = o.left }

pub write_records-requires : goal.write_records-requires
write_records-requires c =
    let a = c.args in
    conversion_accepts a.d a.t a.file.now a.room.now c.measure.ensures _
    c.in-Ok.is c.if-room-length.false

pub returns-in-Err : goal.returns-in-Err
returns-in-Err c =
    let a = c.args in
    let o = conversion_refused a.d a.t a.file.now a.room.now c.measure.ensures _
    c.in-Err.is _ c.refusal.ensures in
    record { value = o.answer; room_after = o.left }

pub returns-else-room-length : goal.returns-else-room-length
returns-else-room-length c =
    let a = c.args in
    record {
      value =
          conversion_roomy a.d a.t a.file.now a.room.now c.measure.ensures _
          c.in-Ok.is c.if-room-length.false _ c.call_report-in-Ok.ensures;
      room_after = c.write_records.ensures;
    }
