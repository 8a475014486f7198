-- `messages::dialects::dialect_named` meets its contract: its tests are the definition's.
use mathlib.Core.Path.{sym, ◌∙◌}
use Rattle.model.specs.rules.Base.{choose◌then◌else◌}
use Rattle.model.specs.laws.Ascii.{ascii}
use Rattle.messages.specs.Words.{dialect_named}
use Rattle.messages.proofs.dialects.dialect_named.Goals as goal

pub returns-then-names : goal.returns-then-names
unfolding dialect_named ascii choose◌then◌else◌
returns-then-names c = rw (sym c.names.ensures ∙ c.if-names.true)

pub returns-then-names-2 : goal.returns-then-names-2
unfolding dialect_named ascii choose◌then◌else◌
returns-then-names-2 c = rw (sym c.names.ensures ∙ c.if-names.false, sym c.names-2.ensures ∙ c.if-names-2.true)

pub returns-then-names-3 : goal.returns-then-names-3
unfolding dialect_named ascii choose◌then◌else◌
returns-then-names-3 c =
    rw (
      sym c.names.ensures ∙ c.if-names.false,
      sym c.names-2.ensures ∙ c.if-names-2.false,
      sym c.names-3.ensures ∙ c.if-names-3.true,
    )

pub returns : goal.returns
unfolding dialect_named ascii choose◌then◌else◌
returns c =
    rw (
      sym c.names.ensures ∙ c.if-names.false,
      sym c.names-2.ensures ∙ c.if-names-2.false,
      sym c.names-3.ensures ∙ c.if-names-3.false,
    )
