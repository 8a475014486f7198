-- The delimiter is written, and then the cell.
use mathlib.Core.Path.{◌≡◌, sym, ap, ◌∙◌}
use Prim.Native.Nat.{ℕ}
use mathlib.Core.Bool.{Bool}
use Rattle.model.specs.rules.Base.{Bytes}
use Rattle.model.specs.rules.Text.{cell_text}
use Rattle.buffer.proofs.WriteProgress.{Emitting, emitting, room_as, emitted_as, room_next, room_rest, put_next}
use Rattle.cell_decoder.specs.Sources.{kind_from}
use Rattle.cell_writer.specs.Cells.{value_of}
use Rattle.record_writer.specs.Columns.{before_cell, is_first, column_text}
use Rattle.cell_writer.proofs.Cells.{written_long}
use Rattle.record_writer.specs.Joined.{before}
use Rattle.record_writer.proofs.Columns.{before_by, written_last}
use Rattle.record_writer.proofs.record.write_column.Goals as goal

pub write_delimiter-from-requires : goal.write_delimiter-from-requires
write_delimiter-from-requires c =
    let cell : Bytes = cell_text c.args.t c.args.only (is_first c.args.n c.args.header) (value_of c.args.src (kind_from c.args.number) c.args.raw.now) in
    let same : before c.delimiter_of.result c.args.n ≡ before_cell c.args.t c.args.n =
    ap (λ (p : ℕ). before p c.args.n) c.delimiter_of.ensures ∙ before_by c.args.t c.args.n in
    room_as same (room_next (before_cell c.args.t c.args.n) cell (emitting c.args.write c.requires.room))

pub write_verbatim-requires : goal.write_verbatim-requires
write_verbatim-requires c =
    let cell : Bytes = cell_text c.args.t c.args.only (is_first c.args.n c.args.header) (value_of c.args.src (kind_from c.args.number) c.args.raw.now) in
    let cell_next : (let a = c.args in Emitting a.write a.out.now a.at (column_text a.t a.n a.only a.header (value_of a.src (kind_from a.number) a.raw.now)) c.write_delimiter-from.new.out c.write_delimiter-from.result cell) =
    put_next (before_cell c.args.t c.args.n) (emitting c.args.write c.requires.room)
    (emitted_as (sym (ap (λ (p : ℕ). before p c.args.n) c.delimiter_of.ensures ∙ before_by c.args.t c.args.n)) c.write_delimiter-from.ensures) in
    let first : (let a = c.args in let v = value_of a.src (kind_from a.number) a.raw.now in cell_text a.t a.only c.is_first.result v ≡ cell_text a.t a.only (is_first a.n a.header) v) =
    let a = c.args in
    ap (λ (b : Bool). cell_text a.t a.only b (value_of a.src (kind_from a.number) a.raw.now)) c.is_first.ensures in
    record { encoded = c.requires.encoded; direct = c.requires.direct; room = room_as (first) (room_rest (cell_next)) }

pub returns : goal.returns
returns c =
    let cell : Bytes = cell_text c.args.t c.args.only (is_first c.args.n c.args.header) (value_of c.args.src (kind_from c.args.number) c.args.raw.now) in
    let cell_next : (let a = c.args in Emitting a.write a.out.now a.at (column_text a.t a.n a.only a.header (value_of a.src (kind_from a.number) a.raw.now)) c.write_delimiter-from.new.out c.write_delimiter-from.result cell) =
    put_next (before_cell c.args.t c.args.n) (emitting c.args.write c.requires.room)
    (emitted_as (sym (ap (λ (p : ℕ). before p c.args.n) c.delimiter_of.ensures ∙ before_by c.args.t c.args.n)) c.write_delimiter-from.ensures) in
    let first : (let a = c.args in let v = value_of a.src (kind_from a.number) a.raw.now in cell_text a.t a.only c.is_first.result v ≡ cell_text a.t a.only (is_first a.n a.header) v) =
    let a = c.args in
    ap (λ (b : Bool). cell_text a.t a.only b (value_of a.src (kind_from a.number) a.raw.now)) c.is_first.ensures in
    let x = c.write_verbatim in
    record { written_at = written_last (cell_next) (emitted_as (sym (first)) x.ensures.written_at); lone_value = x.ensures.lone_value }

pub shape_of-out : goal.shape_of-out
shape_of-out c = written_long c.args.write c.requires.room (returns c).written_at
