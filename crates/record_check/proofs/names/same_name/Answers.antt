-- `record_check::names::same_name` meets its contract: names of one length are compared pair by pair.
use mathlib.Core.Path.{sym, ◌∙◌}
use Prim.Native.Nat.{ℕ}
use lib.Dec.{eqb}
use borrow.Author.Tests.{ne_eqb}
use Rattle.std.proofs.Common.{rules, tests}
use Rattle.std.proofs.lemmas.Iterator.{YieldsList-from_slice, YieldsList-from_zip}
use Rattle.std.proofs.lemmas.Iterator.Search.{all_from_yields_List}
use Rattle.record_check.specs.Keys.{folded}
use Rattle.record_check.proofs.Keys.{different_lengths, same_pairs}
use Rattle.record_check.proofs.names.same_name.Goals as goal

pub returns-then-a-b : goal.returns-then-a-b
returns-then-a-b c =
    let s = c.args in
    all_from_yields_List (λ (p : ℕ × ℕ). eqb (folded s.rule p.0) (folded s.rule p.1)) c.all.new.self _ c.all.result c.all.ensures.ran
    (YieldsList-from_zip (YieldsList-from_slice s.a.now cc) (YieldsList-from_slice s.b.now cc)) (λ x b q k. search (rules, tests))
    ∙ same_pairs s.rule s.a.now s.b.now c.if-a-b.true

pub returns-else-a-b : goal.returns-else-a-b
returns-else-a-b c = let s = c.args in ne_eqb _ _ c.if-a-b.false ∙ sym (different_lengths s.rule s.a.now s.b.now c.if-a-b.false)
