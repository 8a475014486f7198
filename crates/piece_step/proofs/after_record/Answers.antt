-- `piece_step::after_record` meets its contract: each result on the record is one of the step.
use native.Mathlib.Omega.{arith}
use mathlib.Core.Path.{◌≡◌, sym, ap, subst, ◌∙◌}
use Rattle.std.specs.Prelude.{Err}
use Rattle.piece_record.specs.declared.RecordError.{RecordError}
use Rattle.piece_record.specs.declared.RecordError.TheVariants.{Refused, Invalid}
use Rattle.piece_record.specs.Completion.{RecordResult}
use Rattle.piece_step.specs.declared.PieceStep.{PieceStep}
use Rattle.piece_step.specs.Steps.{step_after, Fitting}
use Rattle.piece_step.proofs.after_record.Goals as goal

pub overflow_sub-end : goal.overflow_sub-end
overflow_sub-end c =
    let f = subst (Fitting c.args.p c.args.o) c.in-Ok.is c.requires.fitting in
    let l = f.0 in omega arith

pub after_record-requires : goal.after_record-requires
after_record-requires c =
    let f = subst (Fitting c.args.p c.args.o) c.in-Ok.is c.requires.fitting in
    let l = f.1 in (omega arith, omega arith)

pub returns-in-Ok : goal.returns-in-Ok
returns-in-Ok c =
    let a = c.args in
    rw c.after_record.ensures
    (sym (ap (step_after a.p a.n a.i a.start a.total a.state a.next a.o) c.in-Ok.is))

pub returns-in-Err-Refused : goal.returns-in-Err-Refused
returns-in-Err-Refused c =
    let a = c.args in
    let what : c.in-Err-Refused.field-0 ≡ Refused c.in-Err-Refused.e = rw c.in-Err-Refused.is at c.in-Err-Refused.field-0-is in
    let after : RecordResult → PieceStep = step_after a.p a.n a.i a.start a.total a.state a.next a.o in
    rw (c.record_report.ensures, c.record_start.ensures)
    (sym (ap after c.in-Err-Refused.is ∙ ap (λ (x : RecordError). after (Err x)) what))

pub returns-in-Err-Invalid : goal.returns-in-Err-Invalid
returns-in-Err-Invalid c =
    let a = c.args in
    let what : c.in-Err-Invalid.field-0 ≡ Invalid = rw c.in-Err-Invalid.is at c.in-Err-Invalid.field-0-is in
    let after : RecordResult → PieceStep = step_after a.p a.n a.i a.start a.total a.state a.next a.o in
    sym (ap after c.in-Err-Invalid.is ∙ ap (λ (x : RecordError). after (Err x)) what)
