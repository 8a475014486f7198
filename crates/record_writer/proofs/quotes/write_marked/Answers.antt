-- A quotation mark or none is written, then the bytes, then the same again.
use mathlib.Core.List.{◌++◌}
use Rattle.model.specs.rules.Base.{Bytes}
use Rattle.buffer.proofs.WriteProgress.{Emitting, emitting, room_next, room_rest, put_next}
use Rattle.record_writer.proofs.Columns.{written_last}
use Rattle.record_writer.specs.CleanCellText.{quote_if, marked}
use Rattle.record_writer.proofs.quotes.write_marked.Goals as goal

pub write_quote-from-requires : goal.write_quote-from-requires
write_quote-from-requires c = let mark : Bytes = quote_if c.args.quoted in room_next mark (c.args.bs.now ++ mark) (emitting c.args.write c.requires)

pub emit-end-requires : goal.emit-end-requires
emit-end-requires c =
    let mark : Bytes = quote_if c.args.quoted in
    let second : (let a = c.args in Emitting a.write a.out.now a.o (marked a.quoted a.bs.now) c.write_quote-from.new.out c.write_quote-from.result (a.bs.now ++ mark)) =
    put_next mark (emitting c.args.write c.requires) c.write_quote-from.ensures in
    room_next c.args.bs.now mark second

pub write_quote-requires : goal.write_quote-requires
write_quote-requires c =
    let mark : Bytes = quote_if c.args.quoted in
    let second : (let a = c.args in Emitting a.write a.out.now a.o (marked a.quoted a.bs.now) c.write_quote-from.new.out c.write_quote-from.result (a.bs.now ++ mark)) =
    put_next mark (emitting c.args.write c.requires) c.write_quote-from.ensures in
    let third : (let a = c.args in Emitting a.write a.out.now a.o (marked a.quoted a.bs.now) c.emit-end.new.out c.emit-end.result mark) =
    put_next c.args.bs.now second c.emit-end.ensures in
    room_rest third

pub returns : goal.returns
returns c =
    let mark : Bytes = quote_if c.args.quoted in
    let second : (let a = c.args in Emitting a.write a.out.now a.o (marked a.quoted a.bs.now) c.write_quote-from.new.out c.write_quote-from.result (a.bs.now ++ mark)) =
    put_next mark (emitting c.args.write c.requires) c.write_quote-from.ensures in
    let third : (let a = c.args in Emitting a.write a.out.now a.o (marked a.quoted a.bs.now) c.emit-end.new.out c.emit-end.result mark) =
    put_next c.args.bs.now second c.emit-end.ensures in
    written_last third c.write_quote.ensures
