-- `cell_fast::value::digits_end` meets its contract: the digits up to `known`, and those from there on.
use native.Mathlib.Omega.{arith}
use Rattle.cell_fast.proofs.PassRuns.{pass_join}
use Rattle.cell_fast.proofs.value.digits_end.Goals as goal

pub returns : goal.returns
returns c =
    let rest = c.digit_bytes-end.ensures in
    let all = pass_join c.requires.digits rest.run in
    let from = all.from in
    let upto = all.upto in
    record { some = omega arith; before = omega arith; each = all.each; ends = rest.ends (omega arith) }
