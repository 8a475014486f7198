-- `cell_fast::value::number_end` meets its contract: an integer, or an integer and a fraction, before a byte that is not part of a
-- number.
use mathlib.Core.Path.{sym, ◌∙◌}
use Prim.Native.Nat.{◌+◌}
use native.Mathlib.Omega.{arith}
use Rattle.cell_fast.proofs.PassRuns.{pass_none}
use Rattle.cell_fast.proofs.BareValues.{number_integer, number_fraction}
use Rattle.cell_fast.proofs.value.number_end.Goals as goal

pub returns-then-s-end-eq46 : goal.returns-then-s-end-eq46
returns-then-s-end-eq46 c =
    number_fraction c.args.s.now c.args.stop c.args.at c.requires.bounds.1 c.in_ok-end.ensures c.if-s-end-eq46.true c.in_ok-last.ensures
    (sym c.is_letter_e.ensures ∙ c.if-is_letter_e.false)

pub returns : goal.returns
returns c =
    number_integer c.args.s.now c.args.stop c.args.at c.requires.bounds.1 c.in_ok-end.ensures c.if-s-end-eq46.false
    (sym c.is_letter_e-2.ensures ∙ c.if-is_letter_e-2.false)

pub digits_end-requires-clause-digits : goal.digits_end-requires-clause-digits
digits_end-requires-clause-digits c = let end = c.in_ok-end.ensures.before in pass_none c.args.s.now (c.in_ok-end.end + 1) c.args.stop (omega arith)
