-- `swar::joined` meets its contract: each byte is shifted above those before it, so that the disjunction adds.
use native.Mathlib.Omega.{arith}
use Rattle.swar.proofs.WordReads.{joined_word}
use Rattle.swar.proofs.joined.Goals as goal

pub returns : goal.returns
returns c =
    let a = c.args in
    joined_word a.b0 a.b1 a.b2 a.b3 a.b4 a.b5 a.b6 a.b7 (omega arith) (omega arith) (omega arith) (omega arith)
    (omega arith) (omega arith) (omega arith)
