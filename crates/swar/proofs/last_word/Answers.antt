-- `swar::last_word` meets its contract: for each length of the span the bytes that are read cover it.
use native.Mathlib.Omega.{arith}
use Rattle.swar.proofs.Spans.{last_eight, last_fours, last_three}
use Rattle.swar.proofs.last_word.Goals as goal

pub returns-then-n-ge8 : goal.returns-then-n-ge8
returns-then-n-ge8 c =
    let a = c.args in
    last_eight a.s.now a.from a.upto c.word.result c.requires.0 c.requires.1 (omega arith) c.word.ensures

pub returns-then-n-ge4 : goal.returns-then-n-ge4
returns-then-n-ge4 c =
    let a = c.args in
    last_fours a.s.now a.from a.upto c.fours.result c.requires.0 c.requires.1 (omega arith) (omega arith) c.fours.ensures

pub returns : goal.returns
returns c =
    let a = c.args in
    last_three a.s.now a.from a.upto c.three.result c.requires.0 c.requires.1 (omega arith) c.if-n-eq0.false c.three.ensures
