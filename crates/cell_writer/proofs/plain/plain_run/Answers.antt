-- `cell_writer::plain::plain_run` meets its contract: by words if the quotes are equal, and otherwise by bytes.
use Prim.Native.Nat.{ℕ, ◌+◌}
use mathlib.Core.Path.{sym, ap, ◌∙◌}
use lib.ListN.{drop}
use Rattle.cell_writer.specs.PlainRuns.{plain_run}
use Rattle.cell_writer.proofs.PlainSteps.{same_run}
use Rattle.cell_writer.proofs.plain.plain_run.Goals as goal

pub returns-then-p-q : goal.returns-then-p-q
returns-then-p-q c =
    let a = c.args in
    let bs = drop a.at a.s.now in
    c.word_steps.ensures
    ∙ ap (λ (n : ℕ). a.at + n) (sym (same_run a.p a.r bs) ∙ ap (λ (q : ℕ). plain_run a.p q a.r bs) c.if-p-q.true)
