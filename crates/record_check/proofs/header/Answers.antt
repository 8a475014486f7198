-- `record_check::header` meets its contract: its checks are the definition's, in the same order.
use mathlib.Core.Path.{sym, ap, ◌∙◌}
use native.Mathlib.Omega.{arith}
use Rattle.std.proofs.lemmas.Result.{err_from_is_err_and}
use Rattle.model.specs.declared.Fault.TheVariants.{RepeatedName}
use Rattle.record_check.specs.Keys.{repeated_as}
use Rattle.record_check.proofs.Keys.{cells_named}
use Rattle.record_check.proofs.Records.{header_too_many, header_not_text, header_names}
use Rattle.record_check.proofs.header.Goals as goal

pub returns-then-starts-gt-MAX_COLUMNS : goal.returns-then-starts-gt-MAX_COLUMNS
returns-then-starts-gt-MAX_COLUMNS c = header_too_many c.args.rule c.requires (omega arith)

pub returns-in_err-first_not_text : goal.returns-in_err-first_not_text
returns-in_err-first_not_text c =
    let p = err_from_is_err_and c.from_residual.result c.from_residual.ensures.1 in
    rw (p.1, p.2) (header_not_text c.args.rule c.requires (omega arith) _ (sym c.first_not_text.ensures ∙ c.in_err-first_not_text.was))

pub first_repeat-requires : goal.first_repeat-requires
first_repeat-requires c = cells_named c.requires

pub returns-in-None : goal.returns-in-None
returns-in-None c =
    sym (ap (repeated_as RepeatedName) c.in-None.is) ∙ c.first_repeat.ensures RepeatedName c.args.kinds.now (sym c.requires.with_kinds)
    ∙ header_names c.args.rule c.requires (omega arith) (sym c.first_not_text.ensures ∙ c.in_ok-first_not_text.was)

pub returns-in-Some : goal.returns-in-Some
returns-in-Some c =
    sym (ap (repeated_as RepeatedName) c.in-Some.is) ∙ c.first_repeat.ensures RepeatedName c.args.kinds.now (sym c.requires.with_kinds)
    ∙ header_names c.args.rule c.requires (omega arith) (sym c.first_not_text.ensures ∙ c.in_ok-first_not_text.was)
