-- `cell_fast::value::is_number` meets its contract: digits up to the comma, or digits, a point and digits.
use Prim.Native.Nat.{◌+◌, ◌≤◌}
use native.Mathlib.Omega.{arith}
use mathlib.Core.Path.{◌≡◌}
use lib.ListN.{get_or}
use borrow.Author.Tests.{eqb-true}
use Rattle.cell_fast.proofs.BareValues.{comma_integer, comma_fraction}
use Rattle.cell_fast.proofs.value.is_number.Goals as goal
use Rattle.cell_fast.proofs.value.is_number.Goals.{else-s-at-eq48-via-then-s-at-eq48+else-at-i, else-s-at-eq48-via-else-s-at-eq48}

pub returns-then-end-i : goal.returns-then-end-i
returns-then-end-i c = λ e.
    let zero-alone : (let a = c.args in get_or a.s.now a.at 0 ≡ 0x30 → c.word_digits-i.result ≤ a.at + 1) =
    λ z. elim c.else-s-at-eq48.branch [ else-s-at-eq48-via-then-s-at-eq48+else-at-i w ↦ w.if-at-i.false | else-s-at-eq48-via-else-s-at-eq48 w ↦ absurd (w.if-s-at-eq48.false z) ] in
    let i = c.word_digits-i in
    let same : i.result ≡ c.args.end = eqb-true i.result c.args.end e in
    rw (← same) (comma_integer c.args.s.now c.args.stop c.args.at c.requires.2 i.result (omega arith) i.ensures
    c.if-i-at.false (zero-alone) (rw same c.requires.3))

pub returns : goal.returns
returns c = λ e.
    let zero-alone : (let a = c.args in get_or a.s.now a.at 0 ≡ 0x30 → c.word_digits-i.result ≤ a.at + 1) =
    λ z. elim c.else-s-at-eq48.branch [ else-s-at-eq48-via-then-s-at-eq48+else-at-i w ↦ w.if-at-i.false | else-s-at-eq48-via-else-s-at-eq48 w ↦ absurd (w.if-s-at-eq48.false z) ] in
    let i = c.word_digits-i in
    let last = c.word_digits-last in
    let same : last.result ≡ c.args.end = eqb-true last.result c.args.end e in
    rw (← same)
    (comma_fraction c.args.s.now c.args.stop c.args.at c.requires.2 i.result (omega arith) i.ensures
    c.if-i-at.false (zero-alone) last.result c.if-s-i-ne46.false last.ensures c.if-last-i.false
    (omega arith) (rw same c.requires.3))
