-- `piece_step::complete_record` meets its contract: the cells are appended, the ends still ascend, and the record is checked from the
-- buffer.
use mathlib.Core.Path.{◌≡◌, ap, ◌∙◌}
use Prim.Native.Nat.{◌+◌, ◌≤◌}
use native.Mathlib.Omega.{arith}
use lib.ListN.{length}
use Rattle.model.specs.laws.Places.{buffered_bytes}
use Rattle.buffer.proofs.WriteProgress.{length_written}
use Rattle.piece_state.specs.CurrentRecord.{raw_cells_at}
use Rattle.piece_step.specs.Steps.{from_buffered}
use Rattle.piece_step.proofs.BufferedParts.{order_then, order_more, ends_long, listed}
use Rattle.piece_step.proofs.complete_record.Goals as goal

pub buffer_more-requires : goal.buffer_more-requires
buffer_more-requires c =
    let a = c.args in
    let l = c.requires.lists in
    let shown = raw_cells_at a.piece.now a.starts.now a.stops.now 0 a.cells in
    let few : a.p.cells + a.cells ≤ 64 = c.if-total-gt-MAX_COLUMNS.false in
    let long : length a.ends.now ≡ 64 = l.long_ends in
    record { spans_in = l.stand few; cells_in_bounds = omega arith; cells_in_bounds_2 = l.room few }

pub complete-requires : goal.complete-requires
complete-requires c =
    let a = c.args in
    let l = c.requires.lists in
    let shown = raw_cells_at a.piece.now a.starts.now a.stops.now 0 a.cells in
    let few : a.p.cells + a.cells ≤ 64 = c.if-total-gt-MAX_COLUMNS.false in
    let long : length a.ends.now ≡ 64 = l.long_ends in
    let size : length a.bytes.now ≡ 4096 = l.long_bytes in
    let room = l.room few in
    let count : length shown ≡ a.cells = listed (l.stand few) in
    let k = c.buffer_more.ensures in
    let same = ap length k.bytes_after ∙ length_written a.bytes.now a.p.fill (buffered_bytes shown) room in
    let ordered =
    order_then a.ends.now _ a.p.fill a.p.cells shown (a.p.cells + a.cells) (omega arith) (omega arith) k.ends_after
    (l.ordered (omega arith)) in
    let ends = ends_long a.ends.now _ a.p.fill a.p.cells shown (a.p.cells + a.cells) (omega arith) (omega arith) k.ends_after in
    record {
      in_order = order_more ordered (omega (arith, same));
      ends_len_bound = (omega (arith, ends), omega (arith, same), c.requires.written_bound.0, c.requires.written_bound.1);
      starts_len = (c.requires.scratch.long_starts, c.requires.scratch.long_kinds);
    }

pub returns : goal.returns
returns c =
    let k = c.buffer_more.ensures in
    from_buffered c.if-total-gt-MAX_COLUMNS.false k.bytes_after k.ends_after c.complete.ensures
