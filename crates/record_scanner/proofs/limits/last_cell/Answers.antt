-- `record_scanner::limits::last_cell` meets its contract, by its test.
use mathlib.Core.Path.{sym, ◌∙◌}
use Rattle.model.specs.rules.Base.{choose◌then◌else◌}
use Rattle.record_scanner.proofs.limits.last_cell.Goals as goal

pub returns-then-is_whole : goal.returns-then-is_whole
unfolding choose◌then◌else◌
returns-then-is_whole c =
    let e = c.in-CsvPlus.is in
    let w = rw e at (sym c.is_whole.ensures ∙ c.if-is_whole.true) in
    rw (e, w)

pub returns-else-is_whole : goal.returns-else-is_whole
unfolding choose◌then◌else◌
returns-else-is_whole c =
    let e = c.in-CsvPlus.is in
    let w = rw e at (sym c.is_whole.ensures ∙ c.if-is_whole.false) in
    rw (e, w)
