-- `case_fold::Folding::pair` meets its contract.
-- Assumes nothing.
use native.Mathlib.Omega.{arith}
use Rattle.model.specs.rules.Names.{pair_point}
use Rattle.model.proofs.name_laws.Folding.{a_pair, pair_low, pair_high, folded_pair}
use Rattle.case_fold.proofs.Folding.pair.Goals as goal

pub returns : goal.returns
returns c =
    let a = c.args.a in
    let b = c.args.b in
    let p = a_pair c.args.a c.args.b c.requires in
    let f = folded_pair (pair_point c.args.a c.args.b) (pair_low _ _ p) (pair_high _ _ p) in
    (c.point.ensures, omega (arith, c.point.ensures, f.low), omega (arith, c.point.ensures, f.high))
