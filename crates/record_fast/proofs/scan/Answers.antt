use native.Mathlib.Omega.{arith}
use mathlib.Core.Path.{refl, sym, ◌∙◌}
use mathlib.Core.List.{[]}
use borrow.Author.Tests.{eqb-true}
use Rattle.record_scanner.specs.Stored.{stored_from}
use Rattle.record_fast.specs.FastScan.{is_fallback}
use Rattle.record_fast.proofs.FastScanInvariant.{begins_on, row_begins, cell_lies_in, next_cell_lem, last_cell_lem, odd}
use Rattle.record_fast.proofs.scan.Goals as goal

pub returns-in_err-start : goal.returns-in_err-start
unfolding stored_from
returns-in_err-start c = rw c.from_residual.ensures (is_fallback [] _ refl (record { at_starts = refl; at_ends = refl; at_kinds = refl }))

pub returns-then-most-start : goal.returns-then-most-start
unfolding stored_from
returns-then-most-start c = is_fallback [] _ refl (record { at_starts = refl; at_ends = refl; at_kinds = refl })

pub loop-at-init : goal.loop-at-init
loop-at-init c =
    let pre = c.requires in
    row_begins _ _ _ _ _ _ _ _ _ _ _ pre.from_in_bounds.0 pre.from_in_bounds.1 pre.from_in_bounds.2 pre.from_in_bounds.3 pre.room_in_bounds
    (record { inside = omega arith; under = omega arith; short = omega arith }) (begins_on _ _ _ _ c.in_ok-start.ensures pre.from_in_bounds.0)
    (omega arith) (omega arith) (omega arith) λ z. sym c.quote_of-q.ensures ∙ eqb-true _ _ z

pub returns-in_err-found : goal.returns-in_err-found
returns-in_err-found c = rw c.from_residual-in_err-found.ensures (odd _ _ _ _ _ _ _ _ _ _ _ c.loop-at.invariant _ c.in_ok-start.ensures)

pub returns-in_err-state : goal.returns-in_err-state
returns-in_err-state c = rw c.from_residual-in_err-state.ensures (odd _ _ _ _ _ _ _ _ _ _ _ c.loop-at.invariant _ c.in_ok-start.ensures)

pub store_cell-requires-clause-opened_le_i : goal.store_cell-requires-clause-opened_le_i
store_cell-requires-clause-opened_le_i c =
    let found = cell_lies_in _ _ _ _ _ _ _ _ _ _ _ c.loop-at.invariant c.loop-at-test.true c.in_ok-found.ensures.ends _ c.in_ok-start.ensures in
    (found.0, omega arith)

pub returns-then-part-e : goal.returns-then-part-e
returns-then-part-e c =
    let found = cell_lies_in _ _ _ _ _ _ _ _ _ _ _ c.loop-at.invariant c.loop-at-test.true c.in_ok-found.ensures.ends _ c.in_ok-start.ensures in
    let stores = c.store_cell.ensures in
    last_cell_lem _ _ _ _ _ _ _ _ _ _ _ c.loop-at.invariant c.loop-at-test.true c.in_ok-found.ensures.ends found.0 c.in_ok-found.ensures.before c.in_ok-state.ensures
    c.in_ok-found.ensures.content (record { put = (stores.starts_after, (stores.ends_after, stores.kinds_after)) }) _ c.in_ok-start.ensures

pub store_cell-requires-in-loop-at-clause-opened_le_i : goal.store_cell-requires-in-loop-at-clause-opened_le_i
store_cell-requires-in-loop-at-clause-opened_le_i c =
    let found = cell_lies_in _ _ _ _ _ _ _ _ _ _ _ c.loop-at.invariant c.loop-at-test.true c.in_ok-found.ensures.ends _ c.in_ok-start.ensures in
    (found.0, omega arith)

pub loop-at-smaller : goal.loop-at-smaller
loop-at-smaller c =
    let found = cell_lies_in _ _ _ _ _ _ _ _ _ _ _ c.loop-at.invariant c.loop-at-test.true c.in_ok-found.ensures.ends _ c.in_ok-start.ensures in
    omega arith

pub loop-at-preserved : goal.loop-at-preserved
loop-at-preserved c =
    let found = cell_lies_in _ _ _ _ _ _ _ _ _ _ _ c.loop-at.invariant c.loop-at-test.true c.in_ok-found.ensures.ends _ c.in_ok-start.ensures in
    let stores = c.store_cell-in-loop-at.ensures in
    next_cell_lem _ _ _ _ _ _ _ _ _ _ _ c.loop-at.invariant c.loop-at-test.true c.in_ok-found.ensures.ends c.in_ok-found.ensures.before
    (c.if-part-e.false ∙ c.delimiter_of-p.ensures) c.in_ok-found.ensures.content
    (record { put = (stores.starts_after, (stores.ends_after, stores.kinds_after)) }) found.0

pub returns : goal.returns
returns c = odd _ _ _ _ _ _ _ _ _ _ _ c.loop-at.invariant _ c.in_ok-start.ensures
