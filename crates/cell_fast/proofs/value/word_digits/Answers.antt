-- `cell_fast::value::word_digits` meets its contract: the bytes before the first flag are digits.
use Prim.Native.Nat.{◌≤◌, ◌+◌}
use native.Mathlib.Omega.{arith}
use Rattle.model.specs.rules.Cell.{is_digit}
use Rattle.cell_fast.specs.TextRuns.{PassRun}
use Rattle.cell_fast.proofs.PassRuns.{pass_none, pass_zeros}
use Rattle.cell_fast.proofs.value.word_digits.Goals as goal

pub returns-then-stop-at-lt8 : goal.returns-then-stop-at-lt8
returns-then-stop-at-lt8 c = pass_none c.args.s.now c.args.at c.args.stop c.requires.0

pub overflow_add-result : goal.overflow_add-result
overflow_add-result c =
    let passed : (let a = c.args in (c.before_flag.result ≤ 8) × PassRun is_digit a.s.now a.at a.stop (a.at + c.before_flag.result)) =
    pass_zeros (pass_none c.args.s.now c.args.at c.args.stop c.requires.0) (omega arith) c.word.ensures
    c.no_digit.ensures c.before_flag.result c.before_flag.ensures in
    let x = (passed).0 in omega arith

pub returns : goal.returns
returns c =
    let passed : (let a = c.args in (c.before_flag.result ≤ 8) × PassRun is_digit a.s.now a.at a.stop (a.at + c.before_flag.result)) =
    pass_zeros (pass_none c.args.s.now c.args.at c.args.stop c.requires.0) (omega arith) c.word.ensures
    c.no_digit.ensures c.before_flag.result c.before_flag.ensures in
    (passed).1
