-- `piece_state::checks::check_call` meets its contract: the dialects by their numbers, and then the checks between them.
use mathlib.Core.Path.{sym, ap, ◌∙◌}
use Rattle.std.specs.Result.{result_ok}
use Rattle.std.specs.Prelude.{Err}
use Rattle.piece_state.proofs.CallChecks.{unknown_source, unknown_target, both_known}
use Rattle.piece_state.proofs.checks.check_call.Goals as goal

pub returns-in_default : goal.returns-in_default
returns-in_default c =
    let a = c.args in
    let none_named = sym c.try_from.ensures ∙ ap result_ok c.in_default.is in
    ap Err c.call_report.ensures ∙ sym (unknown_source a.source a.target a.fault a.ended a.piece a.room none_named)

pub returns-in_default-try_from : goal.returns-in_default-try_from
returns-in_default-try_from c =
    let a = c.args in
    let none_named = sym c.try_from-2.ensures ∙ ap result_ok c.in_default-try_from.is in
    ap Err c.call_report-in_default-try_from.ensures ∙ sym (unknown_target a.source a.target a.fault a.ended a.piece a.room none_named)

pub returns : goal.returns
returns c =
    let a = c.args in
    let source = sym c.try_from.ensures ∙ ap result_ok c.in-Ok.is in
    let target = sym c.try_from-2.ensures ∙ ap result_ok c.in-Ok-try_from.is in
    c.check_between.ensures
    ∙ sym (both_known a.source a.target a.fault a.ended a.piece a.room c.in-Ok.d
    c.in-Ok-try_from.t source target)
