-- The delimiter is written, and then the cell.
use mathlib.Core.Path.{◌≡◌, sym, ap}
use mathlib.Core.List.{◌++◌}
use Prim.Native.Nat.{◌-◌, ◌≤◌}
use lib.ListN.{length}
use Rattle.model.specs.rules.Api.{slice}
use Rattle.model.specs.rules.Base.{Bytes}
use Rattle.buffer.proofs.WriteProgress.{Emitting, emitting, room_as, emitted_as, room_next, room_rest, put_next}
use Rattle.record_writer.proofs.Columns.{written_last}
use Rattle.record_writer.specs.Joined.{before}
use Rattle.record_writer.specs.CleanCellText.{marked, needs_quotes, plus_cell}
use Rattle.record_writer.proofs.Lengths.{inside_by, marks_inside}
use Rattle.record_writer.proofs.clean.plus.write_column.Goals as goal

pub write_delimiter-at-requires : goal.write_delimiter-at-requires
write_delimiter-at-requires c =
    let cell : Bytes = plus_cell c.args.p c.args.only c.args.raw.now in
    room_next (before c.args.p c.args.n) cell (emitting c.args.write c.requires.room)

pub overflow_sub-upto : goal.overflow_sub-upto
overflow_sub-upto c =
    let fits : (let raw = c.args.raw.now in (c.quotes_before-from.result ≤ length raw) × (c.quotes_before-from.result ≤ length raw - c.quotes_before-from.result)) =
    marks_inside c.args.raw.now c.quotes_before-from.result c.quotes_before-from.ensures c.requires.in_bounds in
    (fits).0

pub slice_bounds-write_text-count : goal.slice_bounds-write_text-count
slice_bounds-write_text-count c =
    let fits : (let raw = c.args.raw.now in (c.quotes_before-from.result ≤ length raw) × (c.quotes_before-from.result ≤ length raw - c.quotes_before-from.result)) =
    marks_inside c.args.raw.now c.quotes_before-from.result c.quotes_before-from.ensures c.requires.in_bounds in
    (fits).1

pub slice_bounds-write_text-start : goal.slice_bounds-write_text-start
slice_bounds-write_text-start c =
    let fits : (let raw = c.args.raw.now in (c.quotes_before-from.result ≤ length raw) × (c.quotes_before-from.result ≤ length raw - c.quotes_before-from.result)) =
    marks_inside c.args.raw.now c.quotes_before-from.result c.quotes_before-from.ensures c.requires.in_bounds in
    (fits).1

pub write_text-requires : goal.write_text-requires
unfolding plus_cell
write_text-requires c =
    let cell : Bytes = plus_cell c.args.p c.args.only c.args.raw.now in
    let cell_next : (let a = c.args in Emitting a.write a.out.now a.o (before a.p a.n ++ cell) c.write_delimiter-at.new.out c.write_delimiter-at.result cell) =
    put_next (before c.args.p c.args.n) (emitting c.args.write c.requires.room) c.write_delimiter-at.ensures in
    let inside : (let a = c.args in let w = slice a.raw.now c.quotes_before-from.result (length a.raw.now - c.quotes_before-from.result) in marked (needs_quotes a.p a.only w) w ≡ cell) =
    let a = c.args in
    ap (λ (w : Bytes). marked (needs_quotes a.p a.only w) w) (inside_by a.raw.now c.quotes_before-from.result c.quotes_before-from.ensures) in
    room_as (inside) (room_rest (cell_next))

pub returns : goal.returns
unfolding plus_cell
returns c =
    let cell : Bytes = plus_cell c.args.p c.args.only c.args.raw.now in
    let cell_next : (let a = c.args in Emitting a.write a.out.now a.o (before a.p a.n ++ cell) c.write_delimiter-at.new.out c.write_delimiter-at.result cell) =
    put_next (before c.args.p c.args.n) (emitting c.args.write c.requires.room) c.write_delimiter-at.ensures in
    let inside : (let a = c.args in let w = slice a.raw.now c.quotes_before-from.result (length a.raw.now - c.quotes_before-from.result) in marked (needs_quotes a.p a.only w) w ≡ cell) =
    let a = c.args in
    ap (λ (w : Bytes). marked (needs_quotes a.p a.only w) w) (inside_by a.raw.now c.quotes_before-from.result c.quotes_before-from.ensures) in
    written_last (cell_next) (emitted_as (sym (inside)) c.write_text.ensures)
