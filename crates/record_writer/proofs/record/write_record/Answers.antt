use mathlib.Core.Path.{refl, sym, ap, ◌∙◌}
use mathlib.Core.List.{◌++◌}
use Prim.Native.Nat.{◌+◌}
use native.Mathlib.Omega.{arith}
use lib.ListN.{length, get_or}
use lib.Dec.{eqb}
use Rattle.model.specs.rules.Dialect.{into}
use Rattle.model.specs.rules.Base.{Bytes}
use Rattle.model.specs.rules.Text.{record_text}
use Rattle.model.specs.declared.Kind.{Kind}
use Rattle.model.specs.rules.Types.{CheckResult}
use Rattle.model.specs.rules.Records.{◌or_else◌}
use Rattle.model.specs.rules.Api.{slice}
use Rattle.buffer.proofs.WriteProgress.{Emitting, same_long, room_next, put_next, put_whole}
use Rattle.cell_decoder.specs.Sources.{kind_from, content_by, cells_in, CellSpan}
use Rattle.cell_writer.specs.Cells.{value_of}
use Rattle.record_writer.specs.Columns.{column_text, uncarried_cell}
use Rattle.record_writer.proofs.Columns.{text_at, written_none, text_at_lem, text_end, says_next, uncarried_end, or_else_sound}
use Rattle.record_writer.proofs.record.write_record.Goals as goal

pub loop-n-init : goal.loop-n-init
loop-n-init c = written_none _ _ _ _ _ _ _ _ _ _ c.requires.room

pub write_column-x-requires : goal.write_column-x-requires
write_column-x-requires c =
    let at_n : (let a = c.args in let n = c.loop-n.n in CellSpan a.src a.s.now (get_or a.starts.now n 0) (get_or a.ends.now n 0) (get_or a.kinds.now n 0)) =
    c.requires.cells.each c.loop-n.n (omega arith) in
    let cell_next : (let l = c.loop-n in let a = c.args in let v = value_of a.src (kind_from (get_or a.kinds.now l.n 0)) (slice a.s.now (get_or a.starts.now l.n 0) (get_or a.ends.now l.n 0)) in Emitting a.write a.out.now a.at (record_text (into a.t) a.header (cells_in a.src a.s.now a.starts.now a.ends.now a.kinds.now)) l.out l.o (column_text a.t l.n (eqb (length a.starts.now) 1) a.header v ++ text_at a.src a.t a.s.now a.starts.now a.ends.now a.kinds.now a.header (l.n + 1))) =
    let l = c.loop-n in
    let a = c.args in
    let v = value_of a.src (kind_from (get_or a.kinds.now l.n 0)) (slice a.s.now (get_or a.starts.now l.n 0) (get_or a.ends.now l.n 0)) in
    rw
    (text_at_lem a.src a.t a.s.now a.starts.now a.ends.now a.kinds.now a.header c.requires.cells.with_ends
    c.requires.cells.with_kinds l.n (omega arith)
    (eqb (length a.starts.now) 1) v refl refl refl)
    at l.invariant.going in
    record { encoded = (at_n).spelt; direct = c.is_direct-direct.ensures; room = room_next _ _ (cell_next) }

pub loop-n-preserved : goal.loop-n-preserved
loop-n-preserved c =
    let cell_next : (let l = c.loop-n in let a = c.args in let v = value_of a.src (kind_from (get_or a.kinds.now l.n 0)) (slice a.s.now (get_or a.starts.now l.n 0) (get_or a.ends.now l.n 0)) in Emitting a.write a.out.now a.at (record_text (into a.t) a.header (cells_in a.src a.s.now a.starts.now a.ends.now a.kinds.now)) l.out l.o (column_text a.t l.n (eqb (length a.starts.now) 1) a.header v ++ text_at a.src a.t a.s.now a.starts.now a.ends.now a.kinds.now a.header (l.n + 1))) =
    let l = c.loop-n in
    let a = c.args in
    let v = value_of a.src (kind_from (get_or a.kinds.now l.n 0)) (slice a.s.now (get_or a.starts.now l.n 0) (get_or a.ends.now l.n 0)) in
    rw
    (text_at_lem a.src a.t a.s.now a.starts.now a.ends.now a.kinds.now a.header c.requires.cells.with_ends
    c.requires.cells.with_kinds l.n (omega arith)
    (eqb (length a.starts.now) 1) v refl refl refl)
    at l.invariant.going in
    let x = c.write_column-x in
    let l = c.loop-n in
    let a = c.args in
    let kind : Kind = kind_from (get_or a.kinds.now l.n 0) in
    let content : Bytes = content_by a.src (slice a.s.now (get_or a.starts.now l.n 0) (get_or a.ends.now l.n 0)) in
    record {
      going = put_next _ (cell_next) x.ensures.written_at;
      says =
          says_next a.src a.t a.s.now a.starts.now a.ends.now a.kinds.now a.header c.requires.cells.with_ends
          c.requires.cells.with_kinds l.n (omega arith)
          _ l.carries (uncarried_cell a.t (l.n + 1) kind content)
          c.with_cell-carries.result kind refl refl
          (c.with_cell-carries.ensures content x.ensures.lone_value) l.invariant.says;
      within = omega arith;
    }

pub shape_of-out : goal.shape_of-out
shape_of-out c = same_long c.loop-n.invariant.going

pub returns : goal.returns
returns c =
    let l = c.loop-n in
    let a = c.args in record {
      written_at = put_whole
          (rw
          (text_end a.src a.t a.s.now a.starts.now a.ends.now a.kinds.now a.header c.requires.cells.with_ends
          c.requires.cells.with_kinds l.n (omega arith)) at l.invariant.going);
      carries_value = sym
          (l.invariant.says
          ∙ ap (λ (v : CheckResult). l.carries or_else v)
          (uncarried_end a.src a.t a.s.now a.starts.now a.ends.now a.kinds.now a.header
          c.requires.cells.with_ends c.requires.cells.with_kinds l.n (omega arith)) ∙ or_else_sound l.carries);
    }
