-- `cell_fast::value::stepwise_end` meets its contract: the first byte decides between a number and the words.
use Prim.Native.Nat.{◌+◌}
use native.Mathlib.Omega.{arith}
use mathlib.Core.Path.{refl}
use Rattle.std.proofs.lemmas.Option.{IfSome_then}
use Rattle.model.specs.declared.Numeral.TheVariants.{Minus}
use Rattle.model.specs.declared.Cell.TheVariants.{Fresh, InNumber}
use Rattle.cell_fast.specs.BareValues.{unsigned, negative}
use Rattle.cell_fast.proofs.PassRuns.{pass_none}
use Rattle.cell_fast.proofs.BareValues.{minus_ends, true_ends, null_ends, false_ends}
use Rattle.cell_fast.proofs.value.stepwise_end.Goals as goal

pub returns-in-45 : goal.returns-in-45
returns-in-45 c =
    IfSome_then c.number_end.result c.number_end.ensures
    (λ r x. minus_ends c.args.s.now c.args.stop c.args.at c.requires.1 c.requires.0 c.in-45.is (x (InNumber Minus) negative))

pub returns-in-48-to-57 : goal.returns-in-48-to-57
returns-in-48-to-57 c = IfSome_then c.number_end-in-48-to-57.result c.number_end-in-48-to-57.ensures (λ r x. x Fresh unsigned)

pub returns-in-116 : goal.returns-in-116
returns-in-116 c = true_ends c.requires.1 c.in-116.is (c.if-letters_follow.ensures refl)

pub returns-in-110 : goal.returns-in-110
returns-in-110 c = null_ends c.requires.1 c.in-110.is (c.if-letters_follow-2.ensures refl)

pub returns-in-102 : goal.returns-in-102
returns-in-102 c =
    false_ends c.requires.1 c.in-102.is (c.if-letters_follow-3.ensures refl) c.if-s-at-eq101.true (omega arith)

pub number_end-requires-clause-digits : goal.number_end-requires-clause-digits
number_end-requires-clause-digits c = pass_none c.args.s.now (c.args.at + 1) c.args.stop (omega arith)

pub number_end-requires-in-48-to-57-clause-digits : goal.number_end-requires-in-48-to-57-clause-digits
number_end-requires-in-48-to-57-clause-digits c = pass_none c.args.s.now c.args.at c.args.stop (omega arith)
