-- A quotation mark or none is written, then the bytes, then the same again.
use mathlib.Core.Path.{◌≡◌, refl, sym, ap}
use mathlib.Core.Bool.{Bool, true, not}
use mathlib.Core.List.{◌++◌}
use Rattle.model.specs.rules.Base.{Bytes, begins, QUOTE}
use Rattle.buffer.proofs.WriteProgress.{Emitting, emitting, put_written, room_as, emitted_as, room_next, room_rest, put_next}
use Rattle.record_writer.proofs.Columns.{written_last}
use Rattle.record_writer.specs.CleanCellText.{quote_if, quoted_cell}
use Rattle.record_writer.proofs.clean.quoted.write_cell.Goals as goal

pub write_quote-from-requires : goal.write_quote-from-requires
unfolding quoted_cell
write_quote-from-requires c =
    let mark : Bytes = quote_if (not (begins QUOTE c.args.raw.now)) in
    let same : quote_if (not c.has_quotes-bare.result) ≡ mark =
    ap (λ (b : Bool). quote_if (not b)) c.has_quotes-bare.ensures in
    let first : (let a = c.args in Emitting true a.out.now a.o (quoted_cell a.raw.now) a.out.now a.o (mark ++ (a.raw.now ++ mark))) =
    emitting true c.requires in
    room_as (same) (room_next mark (c.args.raw.now ++ mark) (first))

pub copy-end-requires : goal.copy-end-requires
unfolding quoted_cell
copy-end-requires c =
    let mark : Bytes = quote_if (not (begins QUOTE c.args.raw.now)) in
    let same : quote_if (not c.has_quotes-bare.result) ≡ mark =
    ap (λ (b : Bool). quote_if (not b)) c.has_quotes-bare.ensures in
    let first : (let a = c.args in Emitting true a.out.now a.o (quoted_cell a.raw.now) a.out.now a.o (mark ++ (a.raw.now ++ mark))) =
    emitting true c.requires in
    let second : (let a = c.args in Emitting true a.out.now a.o (quoted_cell a.raw.now) c.write_quote-from.new.out c.write_quote-from.result (a.raw.now ++ mark)) =
    put_next mark (first) (emitted_as (sym (same)) c.write_quote-from.ensures) in
    (room_next c.args.raw.now mark (second)).inside refl

pub write_quote-requires : goal.write_quote-requires
unfolding quoted_cell
write_quote-requires c =
    let mark : Bytes = quote_if (not (begins QUOTE c.args.raw.now)) in
    let same : quote_if (not c.has_quotes-bare.result) ≡ mark =
    ap (λ (b : Bool). quote_if (not b)) c.has_quotes-bare.ensures in
    let first : (let a = c.args in Emitting true a.out.now a.o (quoted_cell a.raw.now) a.out.now a.o (mark ++ (a.raw.now ++ mark))) =
    emitting true c.requires in
    let second : (let a = c.args in Emitting true a.out.now a.o (quoted_cell a.raw.now) c.write_quote-from.new.out c.write_quote-from.result (a.raw.now ++ mark)) =
    put_next mark (first) (emitted_as (sym (same)) c.write_quote-from.ensures) in
    let third : (let a = c.args in Emitting true a.out.now a.o (quoted_cell a.raw.now) c.copy-end.new.out c.copy-end.result mark) =
    put_next c.args.raw.now (second) (put_written refl c.copy-end.ensures) in
    room_as (same) (room_rest (third))

pub returns : goal.returns
unfolding quoted_cell
returns c =
    let mark : Bytes = quote_if (not (begins QUOTE c.args.raw.now)) in
    let same : quote_if (not c.has_quotes-bare.result) ≡ mark =
    ap (λ (b : Bool). quote_if (not b)) c.has_quotes-bare.ensures in
    let first : (let a = c.args in Emitting true a.out.now a.o (quoted_cell a.raw.now) a.out.now a.o (mark ++ (a.raw.now ++ mark))) =
    emitting true c.requires in
    let second : (let a = c.args in Emitting true a.out.now a.o (quoted_cell a.raw.now) c.write_quote-from.new.out c.write_quote-from.result (a.raw.now ++ mark)) =
    put_next mark (first) (emitted_as (sym (same)) c.write_quote-from.ensures) in
    let third : (let a = c.args in Emitting true a.out.now a.o (quoted_cell a.raw.now) c.copy-end.new.out c.copy-end.result mark) =
    put_next c.args.raw.now (second) (put_written refl c.copy-end.ensures) in
    written_last (third) (emitted_as (sym (same)) c.write_quote.ensures)
