-- `piece_run::ending::end_file` meets its contract: the current record is in the first arrays until the header is complete.
use mathlib.Core.Path.{sym, ◌∙◌}
use Rattle.piece_step.proofs.BufferedSpans.{named_none}
use Rattle.piece_step.proofs.CallStart.{begun_header, begun_later, ready_header, ready_later}
use Rattle.piece_run.proofs.ending.end_file.Goals as goal

pub end_record-requires : goal.end_record-requires
end_record-requires c = ready_header c.requires c.if-p-eq0.true

pub returns-then-p-eq0 : goal.returns-then-p-eq0
returns-then-p-eq0 c =
    let r = c.end_record.ensures in
    let none = c.if-p-eq0.true in record {
      finished = λ before done k b. (r.finished done k (begun_header b none), named_none before _ _ done (sym b.begins.hold.records ∙ none));
      length_in_bounds = r.length_in_bounds;
    }

pub end_record-requires-2 : goal.end_record-requires-2
end_record-requires-2 c = ready_later c.requires c.if-p-eq0.false

pub returns : goal.returns
returns c =
    let r = c.end_record-2.ensures in record {
      finished = λ before done k b. (r.finished done k (begun_later b c.if-p-eq0.false), b.heads.named);
      length_in_bounds = r.length_in_bounds;
    }
