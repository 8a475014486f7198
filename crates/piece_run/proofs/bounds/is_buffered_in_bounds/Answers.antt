-- `piece_run::bounds::is_buffered_in_bounds` meets its contract: each test is one of the bounds.
use Prim.Native.Nat.{◌≤◌, ◌<◌}
use native.Mathlib.Omega.{arith}
use mathlib.Core.Path.{sym, ◌∙◌}
use lib.ListN.{take}
use Rattle.model.specs.rules.Report.{MAXCOLUMNS}
use Rattle.piece_state.proofs.Soundness.{ordered, is_ordered, buffered_outside, is_buffered}
use Rattle.piece_run.proofs.bounds.is_buffered_in_bounds.Goals as goal

pub returns-then-p-gt-MAX_COLUMNS-clause-in_bounds : goal.returns-then-p-gt-MAX_COLUMNS-clause-in_bounds
returns-then-p-gt-MAX_COLUMNS-clause-in_bounds c =
    let p = c.args.p in
    let more : MAXCOLUMNS < p.cells = c.if-p-gt-MAX_COLUMNS.true in λ _. record {
      size = c.if-p-gt-MAX_RECORD.false;
      fill = c.if-p.false;
      offset = c.if-p-gt-MAX_FILE.false;
      written = c.if-p-gt-MAX_FILE-2.false;
      records = c.if-p-2.false;
      cells = c.if-p-3.false;
      ordered = λ l. absurd (omega arith);
      between = buffered_outside p (sym c.is_buffered_in_record.ensures ∙ c.if-is_buffered_in_record.true);
    }

pub returns-else-p-gt-MAX_COLUMNS-clause-in_bounds : goal.returns-else-p-gt-MAX_COLUMNS-clause-in_bounds
returns-else-p-gt-MAX_COLUMNS-clause-in_bounds c =
    let p = c.args.p in λ z. record {
      size = c.if-p-gt-MAX_RECORD.false;
      fill = c.if-p.false;
      offset = c.if-p-gt-MAX_FILE.false;
      written = c.if-p-gt-MAX_FILE-2.false;
      records = c.if-p-2.false;
      cells = c.if-p-3.false;
      ordered = λ _. ordered 0 (take p.cells c.args.ends.now) p.fill (sym c.is_in_order.ensures ∙ z);
      between = buffered_outside p (sym c.is_buffered_in_record.ensures ∙ c.if-is_buffered_in_record.true);
    }

pub returns-else-p-gt-MAX_COLUMNS-clause-value : goal.returns-else-p-gt-MAX_COLUMNS-clause-value
returns-else-p-gt-MAX_COLUMNS-clause-value c =
    let p = c.args.p in
    let few : p.cells ≤ MAXCOLUMNS = c.if-p-gt-MAX_COLUMNS.false in
    λ b. c.is_in_order.ensures ∙ is_ordered 0 (take p.cells c.args.ends.now) p.fill (b.ordered few)

pub returns-else-is_buffered_in_record-clause-value : goal.returns-else-is_buffered_in_record-clause-value
returns-else-is_buffered_in_record-clause-value c =
    λ b. c.is_buffered_in_record.ensures ∙ is_buffered c.args.p b.between
