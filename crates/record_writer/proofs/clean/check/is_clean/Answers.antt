-- `record_writer::clean::check::is_clean` meets its contract, test by test.
use mathlib.Core.Path.{sym, ◌∙◌}
use mathlib.Core.Logic.{inl, inr}
use native.Mathlib.Omega.{arith}
use Rattle.std.proofs.Common.{rules, tests}
use Rattle.model.proofs.Tests.{impossible}
use Rattle.model.specs.rules.Base.{QUOTE}
use Rattle.swar.specs.Words.{is_clean}
use Rattle.record_writer.proofs.VerbatimLaws.{quotes_inside}
use Rattle.record_writer.proofs.CleanCells.{quotes_clean}
use Rattle.record_writer.proofs.clean.check.is_clean.Goals as goal

pub returns-then-not-bare : goal.returns-then-not-bare
returns-then-not-bare c d q b e = impossible e

pub overflow_sub-raw : goal.overflow_sub-raw
overflow_sub-raw c = (quotes_inside c.quotes_around-around.ensures).0

pub all_words-requires-clause-span : goal.all_words-requires-clause-span
all_words-requires-clause-span c = ((quotes_inside c.quotes_around-around.ensures).1, omega arith)

pub returns : goal.returns
returns c d q b e =
    quotes_clean d q c.quotes_around-around.ensures
    (λ none. sym b ∙ elim c.else-around-eq0.either [ inl p ↦ p.1 | inr some ↦ absurd (some none) ])
    (c.all_words.ensures (is_clean QUOTE) (λ w flags h p. search (rules, tests)) e)
