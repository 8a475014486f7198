use native.Mathlib.Omega.{arith}
use mathlib.Core.Path.{sym}
use Rattle.utf8.proofs.MultibyteRuns.{run_two}
use Rattle.utf8.proofs.multibyte.two_byte_end.Goals as goal

pub returns : goal.returns
returns c =
    let is = c.in_ok-row.ensures in (
      omega arith,
      run_two c.args.s.now c.args.i c.args.stop c.requires.1 c.in_ok-row.row is.0 is.1 is.2 (sym c.if-not-has_second.ensures) c.if-row-ne2.false (omega arith),
    )
