-- Each cell's end is the next one's start.
use native.Mathlib.Omega.{arith}
use mathlib.Core.Path.{sym, ap, ◌∙◌}
use lib.ListN.{length}
use Rattle.piece_record.proofs.BufferedCells.{starts_made, starts_count}
use Rattle.piece_record.proofs.complete.Goals as goal

pub starts_of-requires : goal.starts_of-requires
starts_of-requires c =
    let few = c.requires.ends_len_bound.0 in
    let long = c.requires.starts_len in
    (omega arith, omega arith)

pub slice_bounds-complete_spans-end : goal.slice_bounds-complete_spans-end
slice_bounds-complete_spans-end c =
    let few = c.requires.ends_len_bound.0 in
    let long = c.requires.starts_len in
    omega arith

pub slice_bounds-complete_spans-end-2 : goal.slice_bounds-complete_spans-end-2
slice_bounds-complete_spans-end-2 c =
    let a = c.args in
    sym (ap length (starts_made a.ends.now _ _ c.starts_of.ensures) ∙ starts_count 0 a.ends.now)

pub complete_spans-requires : goal.complete_spans-requires
complete_spans-requires c =
    let made = starts_made c.args.ends.now _ _ c.starts_of.ensures in
    record {
      starts_value = made;
      in_order = c.requires.in_order;
      ends_len_bound = c.requires.ends_len_bound;
      kinds_len = c.requires.starts_len.1;
    }
