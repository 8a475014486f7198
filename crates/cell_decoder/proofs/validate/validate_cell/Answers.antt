-- `cell_decoder::validate::validate_cell` meets its contract: the check result of the run's end is the definition's.
use mathlib.Core.Path.{sym, ap, ◌∙◌}
use lib.ListN.{length}
use Rattle.model.specs.rules.Base.{choose◌then◌else◌}
use Rattle.cell_decoder.proofs.CellValidation.{validated_by, validated}
use Rattle.cell_decoder.proofs.validate.validate_cell.Goals as goal

pub returns-in-Stopped : goal.returns-in-Stopped
returns-in-Stopped c =
    let a = c.args in
    sym (validated a.d a.raw.now c.cell_end.result c.cell_end.ensures ∙
    ap (validated_by a.d (length a.raw.now)) c.in-Stopped.is)

pub returns-in-Refused : goal.returns-in-Refused
returns-in-Refused c =
    let a = c.args in
    sym (validated a.d a.raw.now c.cell_end.result c.cell_end.ensures ∙
    ap (validated_by a.d (length a.raw.now)) c.in-Refused.is)

pub returns-in-Open : goal.returns-in-Open
unfolding choose◌then◌else◌
returns-in-Open c =
    let a = c.args in
    sym (validated a.d a.raw.now c.cell_end.result c.cell_end.ensures ∙
    ap (validated_by a.d (length a.raw.now)) c.in-Open.is ∙ rw (← c.is_whole.ensures, c.if-is_whole.true))

pub returns-in-Open-2 : goal.returns-in-Open-2
unfolding choose◌then◌else◌
returns-in-Open-2 c =
    let a = c.args in
    sym (validated a.d a.raw.now c.cell_end.result c.cell_end.ensures ∙
    ap (validated_by a.d (length a.raw.now)) c.in-Open.is ∙ rw (← c.is_whole.ensures, c.if-is_whole.false))
