-- `cell_writer::cell::write_text` meets its contract: a quote, the content between the quotes, and a quote.
use mathlib.Core.Path.{◌≡◌, sym, ap, ◌∙◌}
use mathlib.Core.Bool.{Bool}
use mathlib.Core.List.{[], ◌++◌, append-nil}
use Rattle.buffer.proofs.WriteProgress.{Emitting, emitting, room_as, emitted_as, room_next, room_rest, put_next, put_whole}
use Rattle.cell_decoder.specs.FirstByte.{content_in}
use Rattle.cell_writer.specs.Units.{body_text}
use Rattle.cell_writer.specs.Cells.{quote_by, text_cell}
use Rattle.cell_writer.proofs.Cells.{text_parts}
use Rattle.cell_writer.proofs.cell.write_text.Goals as goal

pub write_quote-from-requires : goal.write_quote-from-requires
write_quote-from-requires c =
    let a = c.args in
    let body = body_text a.t (content_in a.e.spelling a.e.raw.now) in
    let quote = quote_by a.t c.is_quoted-quoted.result in
    let parts : text_cell a.t a.only a.first (content_in a.e.spelling a.e.raw.now) ≡ quote ++ (body ++ quote) =
    text_parts a.t a.only a.first (content_in a.e.spelling a.e.raw.now) ∙ ap (λ (q : Bool). quote_by a.t q ++ (body ++ quote_by a.t q)) (sym c.is_quoted-quoted.ensures) in
    let first : Emitting a.write a.out.now a.o (quote ++ (body ++ quote)) a.out.now a.o (quote ++ (body ++ quote)) =
    emitting a.write (room_as (sym parts) c.requires) in
    room_next quote (body ++ quote) first

pub write_body-b-requires : goal.write_body-b-requires
write_body-b-requires c =
    let a = c.args in
    let body = body_text a.t (content_in a.e.spelling a.e.raw.now) in
    let quote = quote_by a.t c.is_quoted-quoted.result in
    let parts : text_cell a.t a.only a.first (content_in a.e.spelling a.e.raw.now) ≡ quote ++ (body ++ quote) =
    text_parts a.t a.only a.first (content_in a.e.spelling a.e.raw.now) ∙ ap (λ (q : Bool). quote_by a.t q ++ (body ++ quote_by a.t q)) (sym c.is_quoted-quoted.ensures) in
    let first : Emitting a.write a.out.now a.o (quote ++ (body ++ quote)) a.out.now a.o (quote ++ (body ++ quote)) =
    emitting a.write (room_as (sym parts) c.requires) in
    let second : Emitting a.write a.out.now a.o (quote ++ (body ++ quote)) c.write_quote-from.new.out c.write_quote-from.result (body ++ quote) =
    put_next quote first c.write_quote-from.ensures in
    room_next body quote second

pub write_quote-end-requires : goal.write_quote-end-requires
write_quote-end-requires c =
    let a = c.args in
    let body = body_text a.t (content_in a.e.spelling a.e.raw.now) in
    let quote = quote_by a.t c.is_quoted-quoted.result in
    let parts : text_cell a.t a.only a.first (content_in a.e.spelling a.e.raw.now) ≡ quote ++ (body ++ quote) =
    text_parts a.t a.only a.first (content_in a.e.spelling a.e.raw.now) ∙ ap (λ (q : Bool). quote_by a.t q ++ (body ++ quote_by a.t q)) (sym c.is_quoted-quoted.ensures) in
    let first : Emitting a.write a.out.now a.o (quote ++ (body ++ quote)) a.out.now a.o (quote ++ (body ++ quote)) =
    emitting a.write (room_as (sym parts) c.requires) in
    let second : Emitting a.write a.out.now a.o (quote ++ (body ++ quote)) c.write_quote-from.new.out c.write_quote-from.result (body ++ quote) =
    put_next quote first c.write_quote-from.ensures in
    let third : Emitting a.write a.out.now a.o (quote ++ (body ++ quote)) c.write_body-b.new.out c.write_body-b.result.end quote =
    put_next body second c.write_body-b.ensures.written_at in
    room_rest third

pub returns : goal.returns
returns c =
    let a = c.args in
    let body = body_text a.t (content_in a.e.spelling a.e.raw.now) in
    let quote = quote_by a.t c.is_quoted-quoted.result in
    let parts : text_cell a.t a.only a.first (content_in a.e.spelling a.e.raw.now) ≡ quote ++ (body ++ quote) =
    text_parts a.t a.only a.first (content_in a.e.spelling a.e.raw.now) ∙ ap (λ (q : Bool). quote_by a.t q ++ (body ++ quote_by a.t q)) (sym c.is_quoted-quoted.ensures) in
    let first : Emitting a.write a.out.now a.o (quote ++ (body ++ quote)) a.out.now a.o (quote ++ (body ++ quote)) =
    emitting a.write (room_as (sym parts) c.requires) in
    let second : Emitting a.write a.out.now a.o (quote ++ (body ++ quote)) c.write_quote-from.new.out c.write_quote-from.result (body ++ quote) =
    put_next quote first c.write_quote-from.ensures in
    let third : Emitting a.write a.out.now a.o (quote ++ (body ++ quote)) c.write_body-b.new.out c.write_body-b.result.end quote =
    put_next body second c.write_body-b.ensures.written_at in
    let fourth : Emitting a.write a.out.now a.o (quote ++ (body ++ quote)) c.write_quote-end.new.out c.write_quote-end.result [] =
    put_next quote (rw (append-nil quote) third) c.write_quote-end.ensures in
    record { written_at = emitted_as parts (put_whole fourth); lone_value = c.write_body-b.ensures.lone_value }
