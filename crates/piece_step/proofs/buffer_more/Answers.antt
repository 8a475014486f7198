-- `piece_step::buffer_more` meets its contract: the slice of `ends` after the buffered ones is lent.
use Prim.Native.Nat.{◌+◌, ◌-◌, ◌≤◌}
use native.Mathlib.Omega.{arith}
use lib.ListN.{length, drop, length-take, length-drop}
use Rattle.model.specs.laws.Places.{buffered_ends}
use Rattle.piece_state.specs.CurrentRecord.{raw_cells_at}
use Rattle.piece_step.proofs.BufferedParts.{written_behind}
use Rattle.piece_step.proofs.buffer_more.Goals as goal

pub buffer_cells-requires : goal.buffer_cells-requires
buffer_cells-requires c =
    let a = c.args in
    let room : a.kept + a.cells ≤ length a.ends.now = c.requires.cells_in_bounds in
    record {
      spans_in = c.requires.spans_in;
      from_le_n = (
        omega arith,
        omega (arith, length-take (length a.ends.now - a.kept) (drop a.kept a.ends.now), length-drop a.kept a.ends.now),
      );
      n_in_bounds = c.requires.cells_in_bounds_2;
    }

pub returns : goal.returns
returns c =
    let a = c.args in
    let k = c.buffer_cells.ensures in
    let room : a.kept + a.cells ≤ length a.ends.now = c.requires.cells_in_bounds in
    let shown = raw_cells_at a.piece.now a.starts.now a.stops.now 0 a.cells in
    record {
      value = k.value;
      bytes_after = k.bytes_after;
      ends_after = written_behind a.ends.now a.kept (buffered_ends a.fill shown) _ (omega arith) k.ends_after;
    }
