-- `cell_fast::closes` meets its contract: a quote before a byte that is no second quote closes the cell; in CSVJ every quote does.
use mathlib.Core.Path.{◌≡◌, sym, ap, ◌∙◌}
use mathlib.Core.Bool.{false}
use native.Mathlib.Omega.{arith}
use lib.ListN.{get_or}
use borrow.Author.Tests.{not-true, eqb-false}
use Rattle.model.specs.rules.Base.{QUOTE}
use Rattle.model.specs.rules.Dialect.{quote_of, is_csvj}
use Rattle.cell_fast.proofs.QuotedCells.{string_closes, quote_closes}
use Rattle.cell_fast.proofs.closes.Goals as goal

pub returns-in-Csvj : goal.returns-in-Csvj
returns-in-Csvj c =
    let quote : get_or c.args.s.now c.args.i 0 ≡ QUOTE = c.if-s-i.false ∙ c.requires.2 ∙ ap quote_of c.in-Csvj.is in
    λ _. rw c.in-Csvj.is (string_closes c.args.s.now c.args.stop c.args.i c.requires.1 (omega arith) quote)

pub returns-in-Tdif : goal.returns-in-Tdif
returns-in-Tdif c = λ e.
    let doubles : is_csvj c.args.d ≡ false = rw c.in-Tdif.is in
    quote_closes c.args.s.now c.args.stop c.args.i c.requires.1 c.args.d doubles (omega arith)
    (c.if-s-i.false ∙ c.requires.2) (λ f. eqb-false _ _ (not-true _ e) (f ∙ sym c.requires.2))

pub returns-in-CsvPlus : goal.returns-in-CsvPlus
returns-in-CsvPlus c = λ e.
    let doubles : is_csvj c.args.d ≡ false = rw c.in-CsvPlus.is in
    quote_closes c.args.s.now c.args.stop c.args.i c.requires.1 c.args.d doubles (omega arith)
    (c.if-s-i.false ∙ c.requires.2) (λ f. eqb-false _ _ (not-true _ e) (f ∙ sym c.requires.2))
