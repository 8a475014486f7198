-- Error 12 where the lists are no table, and otherwise the answer for its records.
use mathlib.Core.Path.{sym, ap, ◌∙◌}
use lib.ListN.{length}
use Rattle.model.specs.rules.Api.{Table}
use Rattle.table_writer.specs.TableParts.{given}
use Rattle.table_writer.proofs.Tables.{Tabled, tabled}
use Rattle.table_writer.specs.Answered.{written_in}
use Rattle.table_writer.proofs.Answers.{refuses, answers_as, no_table}
use Rattle.table_writer.proofs.write_in.Goals as goal

pub returns-then-not-is_table : goal.returns-then-not-is_table
returns-then-not-is_table c =
    let table : Table = given c.args.content.now c.args.starts.now c.args.ends.now c.args.kinds.now c.args.columns c.args.records in
    let told =
    refuses {room = c.args.room.now} c.refusal.ensures c.call_report.ensures
    (no_table c.args.t table (length c.args.room.now)
    (sym c.is_table.ensures ∙ c.if-not-is_table.true)) in
    record { value = told.0; room_after = told.1 }

pub write_table-requires : goal.write_table-requires
write_table-requires c =
    let is_one : (let a = c.args in Tabled a.content.now a.starts.now a.ends.now a.kinds.now a.columns a.records) =
    let a = c.args in
    tabled a.content.now a.starts.now a.ends.now a.kinds.now a.columns a.records
    (sym c.is_table.ensures ∙ c.if-not-is_table.false) in
    record { cells = (is_one).cells; starts_len = (is_one).count }

pub returns : goal.returns
returns c =
    let is_one : (let a = c.args in Tabled a.content.now a.starts.now a.ends.now a.kinds.now a.columns a.records) =
    let a = c.args in
    tabled a.content.now a.starts.now a.ends.now a.kinds.now a.columns a.records
    (sym c.is_table.ensures ∙ c.if-not-is_table.false) in
    let told =
    answers_as c.args.room.now (ap (written_in c.args.t (length c.args.room.now)) (is_one).rows) c.write_table.ensures.value c.write_table.ensures.room_after in
    record { value = told.0; room_after = told.1 }
