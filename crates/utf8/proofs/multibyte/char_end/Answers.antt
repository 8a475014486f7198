-- `utf8::multibyte::char_end` meets its contract: the row gives the length and the range of the second byte, and each later byte is tested.
use native.Mathlib.Omega.{arith}
use mathlib.Core.Path.{sym}
use Rattle.utf8.proofs.MultibyteRuns.{run_two, run_three_bytes, run_four_bytes}
use Rattle.utf8.proofs.multibyte.char_end.Goals as goal

pub returns-then-has_second : goal.returns-then-has_second
returns-then-has_second c =
    let is = c.in_ok-row.ensures in (
      omega arith,
      run_two c.args.s.now c.args.i c.args.stop c.requires.1 c.in_ok-row.row is.0 is.1 is.2 (sym c.if-has_second.ensures) c.if-row-eq2.true (omega arith),
    )

pub returns-then-is_later : goal.returns-then-is_later
returns-then-is_later c =
    let is = c.in_ok-row.ensures in (
      omega arith,
      run_three_bytes c.args.s.now c.args.i c.args.stop c.requires.1 c.in_ok-row.row is.0 is.1 is.2 (sym c.if-has_second-2.ensures) c.if-row-eq3.true (omega arith)
          (sym c.if-is_later.ensures),
    )

-- the row has at least two bytes, and the tests excluded two and three
pub returns-then-is_later-3 : goal.returns-then-is_later-3
returns-then-is_later-3 c =
    let is = c.in_ok-row.ensures in (
      omega arith,
      run_four_bytes c.args.s.now c.args.i c.args.stop c.requires.1 c.in_ok-row.row is.0 is.1 is.2 (sym c.if-has_second-3.ensures)
          (omega (arith, is.3, c.if-row-eq2.false, c.if-row-eq3.false)) (omega arith) (sym c.if-is_later-2.ensures) (sym c.if-is_later-3.ensures),
    )
