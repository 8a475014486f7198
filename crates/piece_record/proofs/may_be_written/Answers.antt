-- The bytes up to the last end hold no ED, or each ED is checked.
use native.Mathlib.Omega.{arith}
use lib.ListN.{length-take}
use Rattle.piece_record.proofs.BufferedCells.{end_inside}
use Rattle.piece_record.proofs.may_be_written.Goals as goal

pub slice_bounds-holds_ed-end : goal.slice_bounds-holds_ed-end
slice_bounds-holds_ed-end c =
    let to = c.last_end-to in
    omega (arith, to.ensures, end_inside c.requires, length-take to.result c.args.bytes.now)

pub slice_bounds-is_ed_followed-end : goal.slice_bounds-is_ed_followed-end
slice_bounds-is_ed_followed-end c =
    let to = c.last_end-to in
    omega (arith, to.ensures, end_inside c.requires, length-take to.result c.args.bytes.now)
