-- Error 10 where the text is longer than the room, and otherwise the text.
use native.Mathlib.Omega.{arith}
use lib.ListN.{length}
use Rattle.model.specs.rules.Base.{Bytes}
use Rattle.model.specs.rules.Dialect.{into}
use Rattle.model.specs.rules.Text.{table_text}
use Rattle.model.specs.rules.Api.{rows_of}
use Rattle.cell_decoder.specs.declared.source.Source.TheVariants.{Contents}
use Rattle.cell_decoder.specs.Sources.{cells_in}
use Rattle.table_writer.proofs.Answers.{refuses, writes, too_short, long_enough}
use Rattle.table_writer.proofs.write_if_fits.Goals as goal

pub returns-then-room-size : goal.returns-then-room-size
returns-then-room-size c =
    let text : Bytes = table_text (into c.args.t) (rows_of c.args.records c.args.columns (cells_in Contents c.args.content.now c.args.starts.now c.args.ends.now c.args.kinds.now)) in
    let told =
    refuses {room = c.args.room.now} c.refusal.ensures c.call_report.ensures
    (too_short (length c.args.room.now) text (omega (arith, c.if-room-size.true, c.requires.size_value))) in
    record { value = told.0; room_after = told.1 }

pub returns : goal.returns
returns c =
    let text : Bytes = table_text (into c.args.t) (rows_of c.args.records c.args.columns (cells_in Contents c.args.content.now c.args.starts.now c.args.ends.now c.args.kinds.now)) in
    let told =
    writes c.args.room.now (long_enough (length c.args.room.now) text (omega (arith, c.if-room-size.false, c.requires.size_value)))
    c.call_report-2.ensures c.requires.size_value c.write_records.ensures in
    record { value = told.0; room_after = told.1 }
