-- The text and the ending are written one after the other.
use Rattle.model.specs.rules.Base.{Bytes}
use Rattle.model.specs.rules.Dialect.{into}
use Rattle.model.specs.rules.Text.{record_text, ending}
use Rattle.cell_decoder.specs.Sources.{cells_in}
use Rattle.record_writer.proofs.TextWithEnding.{room_first, room_second, put_both, long_both}
use Rattle.record_writer.proofs.line.write_line.Goals as goal

pub write_text-text-requires : goal.write_text-text-requires
write_text-text-requires c =
    let text : Bytes = record_text (into c.args.t) c.args.header (cells_in c.args.src c.args.s.now c.args.starts.now c.args.ends.now c.args.kinds.now) in
    record { cells = c.requires.cells; clean_record = c.requires.clean_record; room = room_first text (ending c.args.t) c.requires.room }

pub write_ending-requires : goal.write_ending-requires
write_ending-requires c =
    let text : Bytes = record_text (into c.args.t) c.args.header (cells_in c.args.src c.args.s.now c.args.starts.now c.args.ends.now c.args.kinds.now) in
    room_second text (ending c.args.t) c.requires.room c.write_text-text.ensures.written_at

pub shape_of-out : goal.shape_of-out
shape_of-out c =
    let text : Bytes = record_text (into c.args.t) c.args.header (cells_in c.args.src c.args.s.now c.args.starts.now c.args.ends.now c.args.kinds.now) in
    long_both text (ending c.args.t) c.requires.room c.write_text-text.ensures.written_at c.write_ending.ensures

pub returns : goal.returns
returns c =
    let text : Bytes = record_text (into c.args.t) c.args.header (cells_in c.args.src c.args.s.now c.args.starts.now c.args.ends.now c.args.kinds.now) in
    put_both text (ending c.args.t) c.requires.room c.write_text-text.ensures.written_at c.write_ending.ensures
