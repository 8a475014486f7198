-- The target's checks come after the source's, and only where those find no fault.
use mathlib.Core.Path.{sym, ◌∙◌}
use Rattle.std.proofs.lemmas.Result.{err_from_is_err_and}
use Rattle.record_target.proofs.Reasons.{or_fault, or_sound}
use Rattle.record_target.proofs.check_record.Goals as goal

pub returns-in_err-check : goal.returns-in_err-check
returns-in_err-check c =
    let p = err_from_is_err_and c.from_residual.result c.from_residual.ensures.1 in
    rw (p.1, p.2, or_fault _ (sym c.check.ensures ∙ c.in_err-check.was))

pub returns : goal.returns
returns c = rw (or_sound _ (sym c.check.ensures ∙ c.in_ok-check.was)) c.check_target.ensures
