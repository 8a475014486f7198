use mathlib.Core.Path.{◌≡◌, sym, ◌∙◌}
use native.Mathlib.Omega.{arith}
use Rattle.model.specs.rules.Records.{name_key}
use Rattle.record_check.proofs.Keys.{among_none, among_last, among_before}
use Rattle.record_check.proofs.names.is_among.Goals as goal

pub returns-then-is_name : goal.returns-then-is_name
returns-then-is_name c =
    let a = c.args in
    let l = c.loop-j in
    sym
    (l.invariant.1
    ∙ among_last a.src a.rule a.s.now a.starts.now a.ends.now (name_key a.rule a.name.now) l.j
    (omega arith) (sym c.is_name.ensures ∙ c.if-is_name.true))

pub loop-j-preserved : goal.loop-j-preserved
loop-j-preserved c =
    let a = c.args in
    let l = c.loop-j in (
      c.is_name.auto.room ∙ l.invariant.0,
      l.invariant.1
          ∙ among_before a.src a.rule a.s.now a.starts.now a.ends.now (name_key a.rule a.name.now) l.j
          (omega arith) (sym c.is_name.ensures ∙ c.if-is_name.false),
    )

pub returns : goal.returns
returns c =
    let a = c.args in
    let none : c.loop-j.j ≡ 0 = omega arith in
    sym (c.loop-j.invariant.1 ∙ rw none (among_none a.src a.rule a.s.now a.starts.now a.ends.now (name_key a.rule a.name.now)))
