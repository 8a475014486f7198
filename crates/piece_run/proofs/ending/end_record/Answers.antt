-- `piece_run::ending::end_record` meets its contract: the lexer state decides which case of the end it is.
use native.Mathlib.Omega.{arith}
use mathlib.Core.Path.{refl, sym, ap, ◌∙◌}
use Rattle.model.specs.rules.Dialect.{into}
use Rattle.piece_step.specs.Types.{NoRecord, CutShort}
use Rattle.piece_step.specs.declared.CallResult.{CallResult}
use Rattle.piece_run.proofs.EndLaws.{cut_reads, cut_reports, none_reads, none_reports, clean_reads}
use Rattle.piece_run.proofs.EndCases.{finish_fault, finish_clean}
use Rattle.piece_run.proofs.ending.end_record.Goals as goal

pub returns-then-p-eq0 : goal.returns-then-p-eq0
returns-then-p-eq0 c =
    let a = c.args in
    let f = sym c.file_end.ensures ∙ c.in-Clean.is in
    let none = ap (λ (x : CallResult). x.length) c.fault_at-then-p-eq0.ensures in record {
      finished = λ done k b. finish_fault a.d (into a.t) a.p done k a.out.now _ NoRecord
          (none_reads a.d (into a.t) a.p done k b.hold f c.if-p-eq0.true)
          (ap (λ (x : CallResult). x.place) c.fault_at-then-p-eq0.ensures)
          (ap (λ (x : CallResult). x.report) c.fault_at-then-p-eq0.ensures ∙ sym (none_reports a.d (into a.t) a.p done k b.hold))
          none;
      length_in_bounds = omega arith;
    }

pub returns-in-Cut : goal.returns-in-Cut
returns-in-Cut c =
    let a = c.args in
    let f = sym c.file_end.ensures ∙ c.in-Cut.is in
    let none = ap (λ (x : CallResult). x.length) c.fault_at.ensures in record {
      finished = λ done k b. finish_fault a.d (into a.t) a.p done k a.out.now _ CutShort (cut_reads a.d (into a.t) a.p done k b.hold f)
          (ap (λ (x : CallResult). x.place) c.fault_at.ensures)
          (ap (λ (x : CallResult). x.report) c.fault_at.ensures ∙ sym (cut_reports a.d (into a.t) a.p done k b.hold))
          none;
      length_in_bounds = omega arith;
    }

pub returns-else-p-eq0 : goal.returns-else-p-eq0
returns-else-p-eq0 c =
    let a = c.args in
    let f = sym c.file_end.ensures ∙ c.in-Clean.is in
    let no = c.if-p-eq0.false in record {
      finished = λ done k b. finish_clean a.d (into a.t) a.p done k a.out.now _
          (clean_reads a.d (into a.t) a.p done k b.hold f (omega arith)) refl c.call_report.ensures refl;
      length_in_bounds = omega arith;
    }
