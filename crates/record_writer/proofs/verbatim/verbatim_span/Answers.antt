-- `record_writer::verbatim::verbatim_span` meets its contract, test by test.
use mathlib.Core.Path.{◌≡◌, ap, ◌∙◌}
use mathlib.Core.Bool.{true}
use Prim.Native.Nat.{ℕ}
use native.Mathlib.Omega.{arith}
use Rattle.std.proofs.Common.{rules, tests}
use Rattle.model.specs.rules.Text.{is_text}
use Rattle.swar.specs.Words.{plain_text}
use Rattle.cell_decoder.specs.Sources.{kind_from}
use Rattle.record_writer.specs.Verbatim.{looks_plain, looks_encoded}
use Rattle.record_writer.proofs.VerbatimLaws.{text_number, quotes_inside, quotes_inner}
use Rattle.record_writer.proofs.verbatim.verbatim_span.Goals as goal

pub returns-then-not-direct : goal.returns-then-not-direct
returns-then-not-direct c = looks_encoded

pub overflow_sub-upto : goal.overflow_sub-upto
overflow_sub-upto c = (quotes_inside c.quotes_around-from.ensures).0

pub all_words-requires-clause-span : goal.all_words-requires-clause-span
all_words-requires-clause-span c = ((quotes_inside c.quotes_around-from.ensures).1, omega arith)

pub returns-then-all_words : goal.returns-then-all_words
returns-then-all_words c =
    let direct : c.args.direct ≡ true =
    c.if-not-direct.false in
    let text : is_text (kind_from c.args.number) ≡ true =
    ap (λ (n : ℕ). is_text (kind_from n)) c.if-number-ne1.false ∙ text_number in
    looks_plain (direct) (text) (quotes_inner c.quotes_around-from.ensures (c.all_words.ensures plain_text (λ w flags h p. search (rules, tests)) c.if-all_words.true))

pub returns : goal.returns
returns c = looks_encoded
