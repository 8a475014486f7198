-- `messages::refusal::form_of` meets its contract: each arm is the definition's form for its number, the same bytes.
use mathlib.Core.Path.{sym}
use native.Mathlib.Omega.{arith}
use borrow.Author.Tests.{eq-eqb, ne_eqb}
use Rattle.model.specs.rules.Base.{choose◌then◌else◌}
use Rattle.model.specs.laws.Ascii.{ascii}
use Rattle.messages.specs.Sentences.{uncarried_form, form_of}
use Rattle.messages.proofs.SentenceLaws.{other_form}
use Rattle.messages.proofs.refusal.form_of.Goals as goal

pub returns-in-1-clause-form : goal.returns-in-1-clause-form
unfolding form_of ascii choose◌then◌else◌
returns-in-1-clause-form c = rw c.in-1.is

pub returns-in-2-clause-form : goal.returns-in-2-clause-form
unfolding form_of ascii choose◌then◌else◌
returns-in-2-clause-form c = rw c.in-2.is

pub returns-in-3-clause-form : goal.returns-in-3-clause-form
unfolding form_of ascii choose◌then◌else◌
returns-in-3-clause-form c = rw c.in-3.is

pub returns-in-4-clause-form : goal.returns-in-4-clause-form
unfolding form_of ascii choose◌then◌else◌
returns-in-4-clause-form c = rw c.in-4.is

pub returns-in-5-clause-form : goal.returns-in-5-clause-form
unfolding form_of ascii choose◌then◌else◌
returns-in-5-clause-form c = rw c.in-5.is

pub returns-in-6-clause-form : goal.returns-in-6-clause-form
unfolding form_of ascii choose◌then◌else◌
returns-in-6-clause-form c = rw c.in-6.is

pub returns-in-7-clause-form : goal.returns-in-7-clause-form
unfolding form_of ascii choose◌then◌else◌
returns-in-7-clause-form c = rw c.in-7.is

pub returns-in-8-clause-form : goal.returns-in-8-clause-form
unfolding form_of ascii choose◌then◌else◌
returns-in-8-clause-form c = rw c.in-8.is

pub returns-in-9-clause-form : goal.returns-in-9-clause-form
unfolding form_of uncarried_form ascii choose◌then◌else◌
returns-in-9-clause-form c = rw (c.in-9.is, eq-eqb _ 0 c.if-column-eq0.true)

pub returns-in-9-2-clause-form : goal.returns-in-9-2-clause-form
unfolding form_of uncarried_form ascii choose◌then◌else◌
returns-in-9-2-clause-form c = rw (c.in-9.is, ne_eqb _ 0 c.if-column-eq0.false)

pub returns-in_default-clause-form : goal.returns-in_default-clause-form
unfolding form_of ascii choose◌then◌else◌
returns-in_default-clause-form c =
    sym (other_form c.args.number c.args.column (λ h. omega arith) (λ h. omega arith) (λ h. omega arith) (λ h. omega arith) (λ h. omega arith)
    (λ h. omega arith) (λ h. omega arith) (λ h. omega arith) (λ h. omega arith))
