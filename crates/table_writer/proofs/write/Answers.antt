-- Error 11 for a number that is no dialect's, and otherwise the answer in the dialect.
use mathlib.Core.Path.{sym, ap, ◌∙◌}
use lib.ListN.{length}
use Rattle.model.specs.rules.Api.{Table, writer_leaves}
use Rattle.std.specs.Result.{result_ok}
use Rattle.table_writer.specs.TableParts.{given}
use Rattle.table_writer.proofs.Answers.{refuses, answers_as, in_dialect, no_dialect}
use Rattle.table_writer.proofs.write.Goals as goal

pub returns-in-Ok : goal.returns-in-Ok
unfolding writer_leaves
returns-in-Ok c =
    let table : Table = given c.args.content.now c.args.starts.now c.args.ends.now c.args.kinds.now c.args.columns c.args.records in
    let told =
    answers_as c.args.room.now
    (in_dialect c.args.dialect c.in-Ok.t table (length c.args.room.now)
    (sym c.try_from.ensures ∙ ap result_ok c.in-Ok.is)) c.write_in.ensures.value c.write_in.ensures.room_after in
    record { answer = told.0; leaves = told.1 }

pub returns-in-Err : goal.returns-in-Err
unfolding writer_leaves
returns-in-Err c =
    let table : Table = given c.args.content.now c.args.starts.now c.args.ends.now c.args.kinds.now c.args.columns c.args.records in
    let told =
    refuses {room = c.args.room.now} c.refusal.ensures c.call_report.ensures
    (no_dialect c.args.dialect table (length c.args.room.now)
    (sym c.try_from.ensures ∙ ap result_ok c.in-Err.is)) in
    record { answer = told.0; leaves = told.1 }
