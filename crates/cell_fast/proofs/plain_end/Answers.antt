-- `cell_fast::plain_end` meets its contract: the guess is tested, and otherwise `plain_rest_end` finds the end.
use Prim.Native.Nat.{◌+◌, ◌<◌}
use native.Mathlib.Omega.{arith}
use mathlib.Core.Path.{◌≡◌, refl, sym, ◌∙◌}
use mathlib.Core.Bool.{true}
use lib.ListN.{get_or}
use borrow.Author.Tests.{eq-eqb}
use Rattle.model.specs.rules.Dialect.{delimiter_of, quote_of}
use Rattle.cell_fast.specs.TextRuns.{TextRun, is_open}
use Rattle.cell_fast.specs.CellOutcome.{is_end}
use Rattle.cell_fast.proofs.PassRuns.{pass_none, pass_zeros}
use Rattle.cell_fast.proofs.TextRuns.{ascii_text}
use Rattle.cell_fast.proofs.PlainCells.{plain_found}
use Rattle.cell_fast.proofs.plain_end.Goals as goal

pub returns-then-stop-at-ge8 : goal.returns-then-stop-at-ge8
returns-then-stop-at-ge8 c = λ d m ep eq.
    let a = c.args in
    let n = c.in-Some.n in let below : n < 8 = c.in-Some.ensures in
    let passed =
    (pass_zeros (pass_none a.s.now a.at a.stop (omega arith)) (omega arith) c.word-w.ensures
    c.unclean.ensures n (c.if-n-before_flag.true ∙ c.before_flag.ensures)).1 in
    let run : TextRun (is_open (delimiter_of d) (quote_of d)) a.s.now a.at a.stop (a.at + n) = rw (ep, eq) at (ascii_text a.p a.q passed) in
    let end : is_end (delimiter_of d) (get_or a.s.now (a.at + n) 0) ≡ true =
    rw (c.if-s-at.true, ep, eq-eqb (delimiter_of d) (delimiter_of d) refl) in
    plain_found d m c.requires.0 c.requires.1 (λ e. c.requires.4 (e ∙ sym eq)) run (omega arith) end

pub returns : goal.returns
returns c = c.plain_rest_end.ensures
