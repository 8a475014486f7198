-- The delimiter is written, and then the cell.
use mathlib.Core.Bool.{true}
use mathlib.Core.List.{◌++◌}
use Rattle.model.specs.rules.Base.{COMMA}
use Rattle.buffer.proofs.WriteProgress.{Emitting, emitting, room_next, room_rest, put_next}
use Rattle.record_writer.proofs.Columns.{written_last}
use Rattle.record_writer.specs.Joined.{before}
use Rattle.record_writer.specs.CleanCellText.{quoted_cell}
use Rattle.record_writer.proofs.clean.quoted.write_column.Goals as goal

pub write_delimiter-from-requires : goal.write_delimiter-from-requires
write_delimiter-from-requires c = room_next (before COMMA c.args.n) (quoted_cell c.args.raw.now) (emitting true c.requires)

pub write_cell-requires : goal.write_cell-requires
write_cell-requires c =
    let cell_next : (let a = c.args in Emitting true a.out.now a.o (before COMMA a.n ++ quoted_cell a.raw.now) c.write_delimiter-from.new.out c.write_delimiter-from.result (quoted_cell a.raw.now)) =
    put_next (before COMMA c.args.n) (emitting true c.requires) c.write_delimiter-from.ensures in
    room_rest (cell_next)

pub returns : goal.returns
returns c =
    let cell_next : (let a = c.args in Emitting true a.out.now a.o (before COMMA a.n ++ quoted_cell a.raw.now) c.write_delimiter-from.new.out c.write_delimiter-from.result (quoted_cell a.raw.now)) =
    put_next (before COMMA c.args.n) (emitting true c.requires) c.write_delimiter-from.ensures in
    written_last (cell_next) c.write_cell.ensures
