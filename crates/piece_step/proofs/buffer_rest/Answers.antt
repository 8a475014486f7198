-- `piece_step::buffer_rest` meets its contract: the cells and then the bytes of the open one are appended.
use mathlib.Core.Path.{◌≡◌, ap, ◌∙◌}
use Prim.Native.Nat.{◌+◌, ◌-◌, ◌≤◌}
use native.Mathlib.Omega.{arith}
use lib.ListN.{length, drop, length-take, length-drop}
use Rattle.model.specs.laws.Places.{buffered_bytes}
use Rattle.buffer.proofs.WriteProgress.{length_written}
use Rattle.piece_state.specs.CurrentRecord.{raw_cells_at}
use Rattle.piece_step.specs.Steps.{too_many_yet, buffered_on}
use Rattle.piece_step.proofs.BufferedParts.{tail_part}
use Rattle.piece_step.proofs.buffer_rest.Goals as goal

pub returns-then-kept-cells-gt-MAX_COLUMNS : goal.returns-then-kept-cells-gt-MAX_COLUMNS
returns-then-kept-cells-gt-MAX_COLUMNS c = too_many_yet c.if-kept-cells-gt-MAX_COLUMNS.true c.need_input.ensures

pub buffer_more-fill-requires : goal.buffer_more-fill-requires
buffer_more-fill-requires c =
    let a = c.args in
    let few : a.p.cells + a.h.cells ≤ 64 = c.if-kept-cells-gt-MAX_COLUMNS.false in
    let long : length a.ends.now ≡ 64 = c.requires.lists.long_ends in
    record { spans_in = c.requires.lists.stand few; cells_in_bounds = omega arith; cells_in_bounds_2 = c.requires.lists.room few }

pub buffer_open-all-requires : goal.buffer_open-all-requires
buffer_open-all-requires c =
    let a = c.args in
    let few : a.p.cells + a.h.cells ≤ 64 = c.if-kept-cells-gt-MAX_COLUMNS.false in
    let k = c.buffer_more-fill.ensures in
    let shown = raw_cells_at a.piece.now a.starts.now a.stops.now 0 a.h.cells in
    let room = c.requires.lists.room few in
    let same = ap length k.bytes_after ∙ length_written a.bytes.now a.p.fill (buffered_bytes shown) room in
    let all = c.requires.piece_in_bounds few in
    let opened : a.h.opened ≤ length a.piece.now = c.requires.piece_bound.2 in
    omega (
      arith,
      same,
      all,
      k.value,
      length-take (length a.piece.now - a.h.opened) (drop a.h.opened a.piece.now),
      length-drop a.h.opened a.piece.now,
    )

pub returns : goal.returns
returns c =
    let a = c.args in
    let k = c.buffer_more-fill.ensures in
    let o = c.buffer_open-all.ensures in
    let part = tail_part a.piece.now a.h.opened in
    buffered_on c.if-kept-cells-gt-MAX_COLUMNS.false (rw (k.bytes_after, k.value, part) at o.1) k.ends_after (rw (o.0, k.value, part) at c.need_input-2.ensures)
