use mathlib.Core.Path.{sym, ◌∙◌}
use native.Mathlib.Omega.{arith}
use lib.Dec.{eqb}
use Rattle.model.proofs.Tests.{impossible}
use Rattle.buffer.proofs.WriteProgress.{room_as, emitted_as}
use Rattle.cell_decoder.specs.declared.source.Source.TheVariants.{Contents}
use Rattle.cell_decoder.proofs.CellsIn.{cells_length}
use Rattle.table_writer.proofs.Parts.{part_cells, part_stands}
use Rattle.table_writer.proofs.Rows.{in_starts, in_ends, in_kinds, part_text, writing_rows, row_room, row_written, rows_written}
use Rattle.table_writer.proofs.records.write_records.Goals as goal

pub loop-n-init : goal.loop-n-init
loop-n-init c =
    let a = c.args in
    writing_rows (cells_length Contents a.content.now a.starts.now a.ends.now a.kinds.now c.requires.cells.with_ends c.requires.cells.with_kinds ∙ c.requires.starts_len) c.requires.records_in_bounds

pub overflow_add-next : goal.overflow_add-next
overflow_add-next c = omega (arith, in_starts c.requires.cells c.loop-n.invariant.stands_at (omega arith))

pub offset_bounds-starts-at : goal.offset_bounds-starts-at
offset_bounds-starts-at c = omega (arith, in_starts c.requires.cells c.loop-n.invariant.stands_at (omega arith))

pub slice_bounds-write_line-end : goal.slice_bounds-write_line-end
slice_bounds-write_line-end c = in_starts c.requires.cells c.loop-n.invariant.stands_at (omega arith)

pub offset_bounds-ends-at : goal.offset_bounds-ends-at
offset_bounds-ends-at c = omega (arith, in_ends c.requires.cells c.loop-n.invariant.stands_at (omega arith))

pub slice_bounds-write_line-end-in-loop-n : goal.slice_bounds-write_line-end-in-loop-n
slice_bounds-write_line-end-in-loop-n c = in_ends c.requires.cells c.loop-n.invariant.stands_at (omega arith)

pub slice_bounds-write_line-end-in-loop-n-2 : goal.slice_bounds-write_line-end-in-loop-n-2
slice_bounds-write_line-end-in-loop-n-2 c = in_kinds c.requires.cells c.loop-n.invariant.stands_at (omega arith)

pub write_line-o-requires : goal.write_line-o-requires
write_line-o-requires c =
    let a = c.args in
    let l = c.loop-n in
    let cells = part_stands Contents a.content.now a.starts.now a.ends.now a.kinds.now l.at a.columns c.requires.cells (in_starts c.requires.cells l.invariant.stands_at (omega arith)) in
    let text = part_text a.t (eqb l.n 0) (part_cells Contents a.content.now a.starts.now a.ends.now a.kinds.now l.at a.columns) in
    record { cells = cells; clean_record = λ e. impossible e; room = room_as text (row_room l.invariant (omega arith)) }

pub loop-n-preserved : goal.loop-n-preserved
loop-n-preserved c =
    let a = c.args in
    let l = c.loop-n in
    let text = part_text a.t (eqb l.n 0) (part_cells Contents a.content.now a.starts.now a.ends.now a.kinds.now l.at a.columns) in
    row_written l.invariant (omega arith) (emitted_as (sym text) c.write_line-o.ensures)

pub returns : goal.returns
returns c = rows_written c.loop-n.invariant (omega arith)
