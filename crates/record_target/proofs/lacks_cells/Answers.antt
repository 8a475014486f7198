-- `record_target::lacks_cells` meets its contract: its tests are the definition's.
use mathlib.Core.Path.{sym, ap, ◌∙◌}
use mathlib.Core.Bool.{not}
use mathlib.Core.Logic.{inl, inr}
use borrow.Author.Tests.{ne_eqb}
use Rattle.model.specs.rules.Dialect.{is_csvj}
use Rattle.model.proofs.Tests.{impossible}
use Rattle.record_target.proofs.Reasons.{no_header, has_cells_lem, empty_header, not_csvj}
use Rattle.record_target.proofs.lacks_cells.Goals as goal
use Rattle.record_target.proofs.lacks_cells.Goals.{then-header, else-header, in-Csvj, in_default}

pub returns-after-matches : goal.returns-after-matches
returns-after-matches c vs n =
    let a = c.args in
    let h = c.if-cells-eq0.true in
    elim c.match-matches.branch [
      | in-Csvj w ↦ ap not (w.matches-is ∙ ap is_csvj (sym w.in-Csvj.is)) ∙ empty_header a.header (is_csvj a.t) vs h.0 (n ∙ h.1)
      | in_default w ↦ ap not (w.matches-is ∙ sym (not_csvj a.t w.in_default.not-Csvj)) ∙ empty_header a.header (is_csvj a.t) vs h.0 (n ∙ h.1)
    ]

pub returns-else-cells-eq0 : goal.returns-else-cells-eq0
returns-else-cells-eq0 c vs n =
    let a = c.args in
    elim c.if-header.branch [
      | then-header w ↦ elim c.if-cells-eq0.either [
        | inl p ↦ w.t-5-is ∙ ne_eqb a.cells 0 p.1 ∙ has_cells_lem a.header (is_csvj a.t) vs (λ e. p.1 (sym n ∙ e))
        | inr e ↦ impossible (sym e ∙ w.if-header.true)
      ]
      | else-header w ↦ w.t-5-is ∙ w.if-header.false ∙ no_header a.header (is_csvj a.t) vs w.if-header.false
    ]
