-- `piece_state::checks::is_buffered_in_record` meets its contract, by its tests.
use native.Mathlib.Omega.{arith}
use mathlib.Core.Path.{◌≡◌, sym, ◌∙◌}
use mathlib.Core.Bool.{true, false}
use borrow.Author.Tests.{le-leb, lt-leb, ne_eqb}
use Rattle.model.specs.laws.Scans.{in_record}
use Rattle.piece_state.specs.Sound.{buffered_in_record}
use Rattle.piece_state.proofs.checks.is_buffered_in_record.Goals as goal

pub returns-then-in_record : goal.returns-then-in_record
unfolding buffered_in_record
returns-then-in_record c =
    let yes : in_record c.args.p.state ≡ true = sym c.in_record.ensures ∙ c.if-in_record.true in
    c.if-in_record.true ∙ rw yes

pub returns-then-p-eq0 : goal.returns-then-p-eq0
unfolding buffered_in_record
returns-then-p-eq0 c =
    let p = c.args.p in
    let no : in_record p.state ≡ false = sym c.in_record.ensures ∙ c.if-in_record.false in
    rw (no, le-leb p.fill 0 (omega arith))

pub returns-else-p-eq0 : goal.returns-else-p-eq0
unfolding buffered_in_record
returns-else-p-eq0 c =
    let p = c.args.p in
    let no : in_record p.state ≡ false = sym c.in_record.ensures ∙ c.if-in_record.false in
    rw (no, lt-leb p.fill 0 (omega arith), ne_eqb p.fill 0 c.if-p-eq0.false)
