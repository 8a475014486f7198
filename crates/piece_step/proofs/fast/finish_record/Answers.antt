-- `piece_step::fast::finish_record` meets its contract: the place after the record counts its text, which fits into the file.
use native.Mathlib.Omega.{arith}
use mathlib.Core.Path.{refl}
use Rattle.piece_step.specs.FastSteps.{not_found}
use Rattle.piece_step.proofs.FastText.{put_to, put_nowhere, written_fits, written_place}
use Rattle.piece_step.proofs.fast.finish_record.Goals as goal

pub returns-then-cells-gt-MAX_COLUMNS : goal.returns-then-cells-gt-MAX_COLUMNS
returns-then-cells-gt-MAX_COLUMNS c = not_found refl

pub write_record-requires : goal.write_record-requires
write_record-requires c =
    let m = c.if-cells-gt-MAX_COLUMNS.false in
    record { cells = c.requires.cells m; clean_in = c.requires.clean_in m; before_bound = (c.requires.written_bound.0, c.requires.written_bound.3) }

pub overflow_sub-end : goal.overflow_sub-end
overflow_sub-end c = (written_fits (put_to c.write_record.ensures c.in_ok-end.was)).0

pub after_record-requires : goal.after_record-requires
after_record-requires c =
    let fits = (written_fits (put_to c.write_record.ensures c.in_ok-end.was)).1 in
    let few = c.requires.written_bound.1 in
    (omega arith, omega arith)

pub returns-in_err-end : goal.returns-in_err-end
returns-in_err-end c = rw c.from_residual.ensures (not_found (put_nowhere c.write_record.ensures c.in_err-end.was))

pub returns : goal.returns
returns c =
    rw c.after_record.ensures
    (written_place c.args.n c.args.next c.args.state c.args.cells c.requires.fact c.if-cells-gt-MAX_COLUMNS.false
    (put_to c.write_record.ensures c.in_ok-end.was))
