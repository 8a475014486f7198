use Prim.Native.Nat.{◌+◌, ◌-◌, ◌≤◌, ◌<◌}
use native.Mathlib.Omega.{arith}
use mathlib.Core.Path.{sym, ◌∙◌}
use lib.ListN.{length}
use Rattle.model.specs.rules.Report.{MAXFILE, MAXRECORD}
use Rattle.record_scanner.proofs.ScanInvariant.{ask, begins, too_long_file, too_long_record, by_byte, by_cell, by_skip, by_open, by_refusal, lies_cell, lies_skip, lies_open, step_refused, step_on, step_over, pending, lengths, small_sum, small_step}
use Rattle.record_scanner.proofs.scan.Goals as goal

pub loop-i-init : goal.loop-i-init
loop-i-init c =
    let q = c.requires in
    begins _ q.from_in_bounds.0 q.from_in_bounds.1 q.from_in_bounds.2 q.size_bound.0 q.size_bound.1

pub returns-then-limit-i : goal.returns-then-limit-i
returns-then-limit-i c =
    let l = c.loop-i in
    let o = too_long_file _ l.invariant c.loop-i-test.true c.if-limit-i.true in
    record { value = o.answer; starts_after = o.at_starts; ends_after = o.at_ends; kinds_after = o.at_kinds; scan_in_bounds = o.bounds }

pub returns-then-is_full : goal.returns-then-is_full
returns-then-is_full c =
    let l = c.loop-i in
    let o = too_long_record _ l.invariant c.loop-i-test.true c.if-limit-i.false (sym c.is_full.ensures ∙ c.if-is_full.true) in
    record { value = o.answer; starts_after = o.at_starts; ends_after = o.at_ends; kinds_after = o.at_kinds; scan_in_bounds = o.bounds }

pub next_token-requires : goal.next_token-requires
next_token-requires c =
    let l = c.loop-i in
    (c.loop-i-test.true, c.if-limit-i.false, l.invariant.place.low)

pub returns-in-Err : goal.returns-in-Err
returns-in-Err c =
    let asked = ask _ c.loop-i.invariant c.loop-i-test.true c.if-limit-i.false (sym c.is_full.ensures ∙ c.if-is_full.false) c.next_token.ensures.lies c.next_token.ensures.token_correct in
    let o = step_refused _ (by_byte _ asked _ c.in-Is.is) _ c.in-Err.is in
    record { value = o.answer; starts_after = o.at_starts; ends_after = o.at_ends; kinds_after = o.at_kinds; scan_in_bounds = o.bounds }

pub overflow_add-base : goal.overflow_add-base
overflow_add-base c =
    let asked = ask _ c.loop-i.invariant c.loop-i-test.true c.if-limit-i.false (sym c.is_full.ensures ∙ c.if-is_full.false) c.next_token.ensures.lies c.next_token.ensures.token_correct in
    record { fits = small_sum _ (by_byte _ asked _ c.in-Is.is) }

pub store_cell-requires : goal.store_cell-requires
store_cell-requires c =
    let l = c.loop-i in
    let n = lengths _ l.invariant.lists in
    let q = c.requires.room_in_bounds in
    record { opened_le_i = (l.invariant.place.opened, l.invariant.place.inside); room_in_bounds = (rw n.0 q.0, rw n.1 q.1, rw n.2 q.2) }

pub after_byte-h-requires : goal.after_byte-h-requires
after_byte-h-requires c =
    let asked = ask _ c.loop-i.invariant c.loop-i-test.true c.if-limit-i.false (sym c.is_full.ensures ∙ c.if-is_full.false) c.next_token.ensures.lies c.next_token.ensures.token_correct in
    small_step _ (by_byte _ asked _ c.in-Is.is)

pub overflow_add-i : goal.overflow_add-i
overflow_add-i c =
    let asked = ask _ c.loop-i.invariant c.loop-i-test.true c.if-limit-i.false (sym c.is_full.ensures ∙ c.if-is_full.false) c.next_token.ensures.lies c.next_token.ensures.token_correct in
    record { fits = (small_step _ (by_byte _ asked _ c.in-Is.is)).0 }

pub returns-then-ends_record : goal.returns-then-ends_record
returns-then-ends_record c =
    let asked = ask _ c.loop-i.invariant c.loop-i-test.true c.if-limit-i.false (sym c.is_full.ensures ∙ c.if-is_full.false) c.next_token.ensures.lies c.next_token.ensures.token_correct in
    let o =
    step_over _ (by_byte _ asked _ c.in-Is.is) _ _ c.in-Ok.is _ c.closes_cell.ensures _ _ _
    (c.store_cell.ensures.starts_after, (c.store_cell.ensures.ends_after, c.store_cell.ensures.kinds_after)) _ c.after_byte-h.ensures _ c.ends_record.ensures c.if-ends_record.true in
    record { value = o.answer; starts_after = o.at_starts; ends_after = o.at_ends; kinds_after = o.at_kinds; scan_in_bounds = o.bounds }

pub loop-i-smaller-in-Ok : goal.loop-i-smaller-in-Ok
loop-i-smaller-in-Ok c =
    let a = c.args in
    let l = c.loop-i in
    let m : l.i < length a.part.now = c.loop-i-test.true in
    let x : length a.part.now - (l.i + 1) < length a.part.now - l.i = omega arith in x

pub loop-i-preserved-in-Ok : goal.loop-i-preserved-in-Ok
loop-i-preserved-in-Ok c =
    let asked = ask _ c.loop-i.invariant c.loop-i-test.true c.if-limit-i.false (sym c.is_full.ensures ∙ c.if-is_full.false) c.next_token.ensures.lies c.next_token.ensures.token_correct in
    step_on _ (by_byte _ asked _ c.in-Is.is) _ _ c.in-Ok.is _
    c.closes_cell.ensures _ _ _ (c.store_cell.ensures.starts_after, (c.store_cell.ensures.ends_after, c.store_cell.ensures.kinds_after)) _ c.after_byte-h.ensures _
    c.ends_record.ensures c.if-ends_record.false

pub overflow_sub-j : goal.overflow_sub-j
overflow_sub-j c =
    let asked = ask _ c.loop-i.invariant c.loop-i-test.true c.if-limit-i.false (sym c.is_full.ensures ∙ c.if-is_full.false) c.next_token.ensures.lies c.next_token.ensures.token_correct in
    let n = lies_skip _ asked _ c.in-Skipped.is in let j1 = n.0 in omega arith

pub after_byte-h-requires-in-Skipped : goal.after_byte-h-requires-in-Skipped
after_byte-h-requires-in-Skipped c =
    let asked = ask _ c.loop-i.invariant c.loop-i-test.true c.if-limit-i.false (sym c.is_full.ensures ∙ c.if-is_full.false) c.next_token.ensures.lies c.next_token.ensures.token_correct in
    let a = c.args in
    let l = c.loop-i in
    let n = lies_skip _ asked _ c.in-Skipped.is in
    let few : a.base + l.h.cells ≤ l.i = l.invariant.place.few in
    let sized : l.h.size ≤ MAXRECORD + l.i = l.invariant.place.sized in
    let low : a.limit ≤ MAXFILE = l.invariant.place.low in
    let j1 = n.0 in let j2 = n.2 in (omega arith, omega arith, omega arith)

pub loop-i-smaller-in-Skipped : goal.loop-i-smaller-in-Skipped
loop-i-smaller-in-Skipped c =
    let asked = ask _ c.loop-i.invariant c.loop-i-test.true c.if-limit-i.false (sym c.is_full.ensures ∙ c.if-is_full.false) c.next_token.ensures.lies c.next_token.ensures.token_correct in
    let n = lies_skip _ asked _ c.in-Skipped.is in let j1 = n.0 in let j2 = n.1 in omega arith

pub loop-i-preserved-in-Skipped : goal.loop-i-preserved-in-Skipped
loop-i-preserved-in-Skipped c =
    let asked = ask _ c.loop-i.invariant c.loop-i-test.true c.if-limit-i.false (sym c.is_full.ensures ∙ c.if-is_full.false) c.next_token.ensures.lies c.next_token.ensures.token_correct in
    by_skip _ asked _ c.in-Skipped.is _ c.after_byte-h-in-Skipped.ensures

pub overflow_sub-j-in-AfterCell : goal.overflow_sub-j-in-AfterCell
overflow_sub-j-in-AfterCell c =
    let asked = ask _ c.loop-i.invariant c.loop-i-test.true c.if-limit-i.false (sym c.is_full.ensures ∙ c.if-is_full.false) c.next_token.ensures.lies c.next_token.ensures.token_correct in
    (lies_cell _ asked _ _ c.in-AfterCell.is).0

pub after_bytes-h-requires : goal.after_bytes-h-requires
after_bytes-h-requires c =
    let asked = ask _ c.loop-i.invariant c.loop-i-test.true c.if-limit-i.false (sym c.is_full.ensures ∙ c.if-is_full.false) c.next_token.ensures.lies c.next_token.ensures.token_correct in
    let a = c.args in
    let l = c.loop-i in
    let few : a.base + l.h.cells ≤ l.i = l.invariant.place.few in
    let sized : l.h.size ≤ MAXRECORD + l.i = l.invariant.place.sized in
    let low : a.limit ≤ MAXFILE = l.invariant.place.low in
    let n = lies_cell _ asked _ _ c.in-AfterCell.is in let j1 = n.0 in let j2 = n.2 in omega arith

pub bounds-part-j : goal.bounds-part-j
bounds-part-j c =
    let asked = ask _ c.loop-i.invariant c.loop-i-test.true c.if-limit-i.false (sym c.is_full.ensures ∙ c.if-is_full.false) c.next_token.ensures.lies c.next_token.ensures.token_correct in
    (lies_cell _ asked _ _ c.in-AfterCell.is).1

pub returns-in-Err-after_cell : goal.returns-in-Err-after_cell
returns-in-Err-after_cell c =
    let asked = ask _ c.loop-i.invariant c.loop-i-test.true c.if-limit-i.false (sym c.is_full.ensures ∙ c.if-is_full.false) c.next_token.ensures.lies c.next_token.ensures.token_correct in
    let o =
    step_refused _ (by_cell _ asked _ _ c.in-AfterCell.is _
    c.after_bytes-h.ensures _ c.after_cell.ensures) _ c.in-Err-after_cell.is in
    record { value = o.answer; starts_after = o.at_starts; ends_after = o.at_ends; kinds_after = o.at_kinds; scan_in_bounds = o.bounds }

pub overflow_add-base-in-Ok-after_cell : goal.overflow_add-base-in-Ok-after_cell
overflow_add-base-in-Ok-after_cell c =
    let asked = ask _ c.loop-i.invariant c.loop-i-test.true c.if-limit-i.false (sym c.is_full.ensures ∙ c.if-is_full.false) c.next_token.ensures.lies c.next_token.ensures.token_correct in
    let g =
    by_cell _ asked _ _ c.in-AfterCell.is _
    c.after_bytes-h.ensures _ c.after_cell.ensures in
    let x = small_sum _ g in record { fits = x }

pub store_cell-requires-in-Ok-after_cell : goal.store_cell-requires-in-Ok-after_cell
store_cell-requires-in-Ok-after_cell c =
    let asked = ask _ c.loop-i.invariant c.loop-i-test.true c.if-limit-i.false (sym c.is_full.ensures ∙ c.if-is_full.false) c.next_token.ensures.lies c.next_token.ensures.token_correct in
    let l = c.loop-i in
    let g =
    by_cell _ asked _ _ c.in-AfterCell.is _
    c.after_bytes-h.ensures _ c.after_cell.ensures in
    let n = lengths _ l.invariant.lists in
    let q = c.requires.room_in_bounds in
    record { opened_le_i = (g.place.opened, g.place.inside); room_in_bounds = (rw n.0 q.0, rw n.1 q.1, rw n.2 q.2) }

pub after_byte-h-requires-in-Ok-after_cell : goal.after_byte-h-requires-in-Ok-after_cell
after_byte-h-requires-in-Ok-after_cell c =
    let asked = ask _ c.loop-i.invariant c.loop-i-test.true c.if-limit-i.false (sym c.is_full.ensures ∙ c.if-is_full.false) c.next_token.ensures.lies c.next_token.ensures.token_correct in
    let g =
    by_cell _ asked _ _ c.in-AfterCell.is _
    c.after_bytes-h.ensures _ c.after_cell.ensures in
    small_step _ g

pub overflow_add-i-in-Ok-after_cell : goal.overflow_add-i-in-Ok-after_cell
overflow_add-i-in-Ok-after_cell c =
    let asked = ask _ c.loop-i.invariant c.loop-i-test.true c.if-limit-i.false (sym c.is_full.ensures ∙ c.if-is_full.false) c.next_token.ensures.lies c.next_token.ensures.token_correct in
    let g =
    by_cell _ asked _ _ c.in-AfterCell.is _
    c.after_bytes-h.ensures _ c.after_cell.ensures in
    record { fits = (small_step _ g).0 }

pub returns-then-ends_record-2 : goal.returns-then-ends_record-2
returns-then-ends_record-2 c =
    let asked = ask _ c.loop-i.invariant c.loop-i-test.true c.if-limit-i.false (sym c.is_full.ensures ∙ c.if-is_full.false) c.next_token.ensures.lies c.next_token.ensures.token_correct in
    let o =
    step_over _ (by_cell _ asked _ _ c.in-AfterCell.is _ c.after_bytes-h.ensures _
    c.after_cell.ensures) _ _ c.in-Ok-after_cell.is _ c.closes_cell-in-Ok-after_cell.ensures _ _ _ (c.store_cell-in-Ok-after_cell.ensures.starts_after, (c.store_cell-in-Ok-after_cell.ensures.ends_after, c.store_cell-in-Ok-after_cell.ensures.kinds_after)) _ c.after_byte-h-in-Ok-after_cell.ensures _ c.ends_record-in-Ok-after_cell.ensures c.if-ends_record-2.true in
    record { value = o.answer; starts_after = o.at_starts; ends_after = o.at_ends; kinds_after = o.at_kinds; scan_in_bounds = o.bounds }

pub loop-i-smaller-in-Ok-after_cell : goal.loop-i-smaller-in-Ok-after_cell
loop-i-smaller-in-Ok-after_cell c =
    let asked = ask _ c.loop-i.invariant c.loop-i-test.true c.if-limit-i.false (sym c.is_full.ensures ∙ c.if-is_full.false) c.next_token.ensures.lies c.next_token.ensures.token_correct in
    let n = lies_cell _ asked _ _ c.in-AfterCell.is in let j1 = n.0 in let j2 = n.1 in omega arith

pub loop-i-preserved-in-Ok-after_cell : goal.loop-i-preserved-in-Ok-after_cell
loop-i-preserved-in-Ok-after_cell c =
    let asked = ask _ c.loop-i.invariant c.loop-i-test.true c.if-limit-i.false (sym c.is_full.ensures ∙ c.if-is_full.false) c.next_token.ensures.lies c.next_token.ensures.token_correct in
    step_on _ (by_cell _ asked _ _ c.in-AfterCell.is _
    c.after_bytes-h.ensures _
    c.after_cell.ensures) _ _ c.in-Ok-after_cell.is _ c.closes_cell-in-Ok-after_cell.ensures _ _ _ (c.store_cell-in-Ok-after_cell.ensures.starts_after, (c.store_cell-in-Ok-after_cell.ensures.ends_after, c.store_cell-in-Ok-after_cell.ensures.kinds_after)) _ c.after_byte-h-in-Ok-after_cell.ensures _ c.ends_record-in-Ok-after_cell.ensures c.if-ends_record-2.false

pub returns-in-Refused : goal.returns-in-Refused
returns-in-Refused c =
    let asked = ask _ c.loop-i.invariant c.loop-i-test.true c.if-limit-i.false (sym c.is_full.ensures ∙ c.if-is_full.false) c.next_token.ensures.lies c.next_token.ensures.token_correct in
    let o = by_refusal _ asked _ _ c.in-Refused.is in
    record { value = o.answer; starts_after = o.at_starts; ends_after = o.at_ends; kinds_after = o.at_kinds; scan_in_bounds = o.bounds }

pub overflow_sub-j-in-Open : goal.overflow_sub-j-in-Open
overflow_sub-j-in-Open c =
    let asked = ask _ c.loop-i.invariant c.loop-i-test.true c.if-limit-i.false (sym c.is_full.ensures ∙ c.if-is_full.false) c.next_token.ensures.lies c.next_token.ensures.token_correct in
    let n = lies_open _ asked _ _ c.in-Open.is in let j1 = n.0 in omega arith

pub after_bytes-h-requires-in-Open : goal.after_bytes-h-requires-in-Open
after_bytes-h-requires-in-Open c =
    let asked = ask _ c.loop-i.invariant c.loop-i-test.true c.if-limit-i.false (sym c.is_full.ensures ∙ c.if-is_full.false) c.next_token.ensures.lies c.next_token.ensures.token_correct in
    let a = c.args in
    let l = c.loop-i in
    let few : a.base + l.h.cells ≤ l.i = l.invariant.place.few in
    let sized : l.h.size ≤ MAXRECORD + l.i = l.invariant.place.sized in
    let low : a.limit ≤ MAXFILE = l.invariant.place.low in
    let n = lies_open _ asked _ _ c.in-Open.is in let j1 = n.0 in let j2 = n.2 in omega arith

pub loop-i-smaller : goal.loop-i-smaller
loop-i-smaller c =
    let asked = ask _ c.loop-i.invariant c.loop-i-test.true c.if-limit-i.false (sym c.is_full.ensures ∙ c.if-is_full.false) c.next_token.ensures.lies c.next_token.ensures.token_correct in
    let n = lies_open _ asked _ _ c.in-Open.is in let j1 = n.0 in let j2 = n.1 in omega arith

pub loop-i-preserved : goal.loop-i-preserved
loop-i-preserved c =
    let asked = ask _ c.loop-i.invariant c.loop-i-test.true c.if-limit-i.false (sym c.is_full.ensures ∙ c.if-is_full.false) c.next_token.ensures.lies c.next_token.ensures.token_correct in
    by_open _ asked _ _ c.in-Open.is _ c.after_bytes-h-in-Open.ensures

pub returns : goal.returns
returns c =
    let l = c.loop-i in
    let o = pending _ l.invariant c.loop-i-test.false c.requires.size_bound.0 in
    record { value = o.answer; starts_after = o.at_starts; ends_after = o.at_ends; kinds_after = o.at_kinds; scan_in_bounds = o.bounds }
