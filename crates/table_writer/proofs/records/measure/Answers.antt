use mathlib.Core.Path.{sym, ap, ◌∙◌}
use native.Mathlib.Omega.{arith}
use lib.Dec.{eqb}
use Rattle.cell_decoder.specs.declared.source.Source.TheVariants.{Contents}
use Rattle.cell_decoder.proofs.CellsIn.{cells_length}
use Rattle.table_writer.proofs.Parts.{part_cells, part_stands}
use Rattle.table_writer.proofs.Rows.{in_starts, in_ends, in_kinds, measuring, measured_fault, measured_all, passed, part_check, fault_by, as_refused}
use Rattle.table_writer.proofs.records.measure.Goals as goal

pub loop-n-init : goal.loop-n-init
loop-n-init c =
    let a = c.args in
    measuring (cells_length Contents a.content.now a.starts.now a.ends.now a.kinds.now c.requires.cells.with_ends c.requires.cells.with_kinds ∙ c.requires.starts_len)

pub overflow_add-next : goal.overflow_add-next
overflow_add-next c = omega (arith, in_starts c.requires.cells c.loop-n.invariant.stands_at (omega arith))

pub offset_bounds-starts-at : goal.offset_bounds-starts-at
offset_bounds-starts-at c = omega (arith, in_starts c.requires.cells c.loop-n.invariant.stands_at (omega arith))

pub slice_bounds-check_record-end : goal.slice_bounds-check_record-end
slice_bounds-check_record-end c = in_starts c.requires.cells c.loop-n.invariant.stands_at (omega arith)

pub offset_bounds-ends-at : goal.offset_bounds-ends-at
offset_bounds-ends-at c = omega (arith, in_ends c.requires.cells c.loop-n.invariant.stands_at (omega arith))

pub slice_bounds-check_record-end-in-loop-n : goal.slice_bounds-check_record-end-in-loop-n
slice_bounds-check_record-end-in-loop-n c = in_ends c.requires.cells c.loop-n.invariant.stands_at (omega arith)

pub slice_bounds-check_record-end-in-loop-n-2 : goal.slice_bounds-check_record-end-in-loop-n-2
slice_bounds-check_record-end-in-loop-n-2 c = in_kinds c.requires.cells c.loop-n.invariant.stands_at (omega arith)

pub check_record-requires : goal.check_record-requires
check_record-requires c =
    let a = c.args in
    let l = c.loop-n in
    record {
      cells = part_stands Contents a.content.now a.starts.now a.ends.now a.kinds.now l.at a.columns c.requires.cells (in_starts c.requires.cells l.invariant.stands_at (omega arith));
      written_bound = l.invariant.within;
    }

pub returns-in-Err : goal.returns-in-Err
returns-in-Err c =
    let a = c.args in
    let l = c.loop-n in
    let e = sym (part_check a.t (eqb l.n 0) l.size (part_cells Contents a.content.now a.starts.now a.ends.now a.kinds.now l.at a.columns)) ∙ sym c.check_record.ensures ∙ c.in-Err.is in
    ap as_refused c.record_report.ensures ∙ sym (measured_fault l.invariant (omega arith) c.in-Err.e (fault_by _ _ e))

pub overflow_add-size : goal.overflow_add-size
overflow_add-size c =
    let a = c.args in
    let l = c.loop-n in
    let e = sym (part_check a.t (eqb l.n 0) l.size (part_cells Contents a.content.now a.starts.now a.ends.now a.kinds.now l.at a.columns)) ∙ sym c.check_record.ensures ∙ c.in-Ok.is in
    omega (arith, (passed l.invariant (omega arith) c.in-Ok.length e).within)

pub loop-n-preserved : goal.loop-n-preserved
loop-n-preserved c =
    let a = c.args in
    let l = c.loop-n in
    let e = sym (part_check a.t (eqb l.n 0) l.size (part_cells Contents a.content.now a.starts.now a.ends.now a.kinds.now l.at a.columns)) ∙ sym c.check_record.ensures ∙ c.in-Ok.is in
    passed l.invariant (omega arith) c.in-Ok.length e

pub returns : goal.returns
returns c = sym (measured_all c.loop-n.invariant (omega arith))
