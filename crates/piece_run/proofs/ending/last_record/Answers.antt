-- `piece_run::ending::last_record` meets its contract: the end of the current cell is appended, and the record is checked from the
-- buffer.
use Prim.Native.Nat.{◌+◌, ◌<◌}
use native.Mathlib.Omega.{arith}
use mathlib.Core.Path.{◌≡◌, refl, ap, subst, ◌∙◌}
use lib.ListN.{length, take, set, length-set, length-take}
use borrow.Author.Rules.{rules}
use Rattle.model.specs.rules.Dialect.{into}
use Rattle.std.specs.Prelude.{Ok, Err}
use Rattle.piece_record.specs.declared.RecordError.{RecordError}
use Rattle.piece_record.specs.declared.RecordError.TheVariants.{Refused, Invalid}
use Rattle.piece_step.specs.declared.CallResult.{CallResult}
use Rattle.piece_record.specs.Completion.{RecordResult, CompleteSound}
use Rattle.piece_step.proofs.BufferedParts.{order_more}
use Rattle.piece_run.proofs.EndCases.{last_room, last_order, finish_many, finish_kept}
use Rattle.piece_run.proofs.ending.last_record.Goals as goal

abbrev in_error : RecordError → RecordResult
in_error e = Err e

pub returns-then-last-ge-MAX_COLUMNS : goal.returns-then-last-ge-MAX_COLUMNS
returns-then-last-ge-MAX_COLUMNS c =
    let a = c.args in
    let none = ap (λ (x : CallResult). x.length) c.fault_at.ensures in record {
      finished = λ done k b. finish_many a.d (into a.t) a.p a.bytes.now a.ends.now a.out.now done k b c.requires.state_value
          c.if-last-ge-MAX_COLUMNS.true _ (ap (λ (x : CallResult). x.place) c.fault_at.ensures) (ap (λ (x : CallResult). x.report) c.fault_at.ensures) none;
      length_in_bounds = omega arith;
    }

pub complete-requires : goal.complete-requires
complete-requires c =
    let a = c.args in
    let long : length a.ends.now ≡ 64 = c.requires.step_ready.long_ends in
    let size : length a.bytes.now ≡ 4096 = c.requires.step_ready.long_bytes in
    let few : a.p.cells < 64 = c.if-last-ge-MAX_COLUMNS.false in
    let fill = c.requires.step_ready.bounds.fill in
    let most = c.requires.step_ready.bounds.size in
    let n = length-set a.ends.now a.p.cells a.p.fill in
    let m = length-take (a.p.cells + 1) (set a.ends.now a.p.cells a.p.fill) in record {
      in_order = order_more (last_order a.ends.now a.p.cells a.p.fill (c.requires.step_ready.bounds.ordered (omega arith)) (omega arith)) (omega arith);
      ends_len_bound = (omega arith, omega arith, c.requires.step_ready.bounds.written, omega arith);
      starts_len = (search rules, search rules);
    }

pub returns-in-Ok : goal.returns-in-Ok
returns-in-Ok c =
    let a = c.args in
    let q = c.complete in
    let ruling =
    subst (CompleteSound a.d (into a.t) a.p a.bytes.now (take (a.p.cells + 1) (set a.ends.now a.p.cells a.p.fill)) 0
    a.out.now _) c.in-Ok.is q.ensures in record {
      finished = λ done k b. finish_kept a.d (into a.t) a.p a.bytes.now a.ends.now a.out.now done k b c.requires.state_value c.if-last-ge-MAX_COLUMNS.false
          c.requires.step_ready.long_ends (set a.ends.now a.p.cells a.p.fill) refl _ (Ok _) _ ruling (c.call_report.ensures, refl, refl);
      length_in_bounds = last_room ruling;
    }

pub returns-in-Err-Refused : goal.returns-in-Err-Refused
returns-in-Err-Refused c =
    let a = c.args in
    let q = c.complete in
    let none = ap (λ (x : CallResult). x.length) c.fault_at-in-Err-Refused.ensures in
    let ruling =
    subst (CompleteSound a.d (into a.t) a.p a.bytes.now (take (a.p.cells + 1) (set a.ends.now a.p.cells a.p.fill)) 0
    a.out.now _) (c.in-Err-Refused.is ∙ ap in_error c.in-Err-Refused.field-0-is) q.ensures in record {
      finished = λ done k b. finish_kept a.d (into a.t) a.p a.bytes.now a.ends.now a.out.now done k b c.requires.state_value c.if-last-ge-MAX_COLUMNS.false
          c.requires.step_ready.long_ends (set a.ends.now a.p.cells a.p.fill) refl _ (Err (Refused _)) _ ruling
          (ap (λ (x : CallResult). x.report) c.fault_at-in-Err-Refused.ensures, none, ap (λ (x : CallResult). x.place) c.fault_at-in-Err-Refused.ensures);
      length_in_bounds = omega arith;
    }

pub returns-in-Err-Invalid : goal.returns-in-Err-Invalid
returns-in-Err-Invalid c =
    let a = c.args in
    let q = c.complete in
    let ruling =
    subst (CompleteSound a.d (into a.t) a.p a.bytes.now (take (a.p.cells + 1) (set a.ends.now a.p.cells a.p.fill)) 0
    a.out.now _) (c.in-Err-Invalid.is ∙ ap in_error c.in-Err-Invalid.field-0-is) q.ensures in record {
      finished = λ done k b. finish_kept a.d (into a.t) a.p a.bytes.now a.ends.now a.out.now done k b c.requires.state_value c.if-last-ge-MAX_COLUMNS.false
          c.requires.step_ready.long_ends (set a.ends.now a.p.cells a.p.fill) refl _ (Err Invalid) _ ruling tt;
      length_in_bounds = omega arith;
    }
