-- `table_writer::content::may_end` meets its contract: content ends between characters only.
use Rattle.model.specs.rules.Utf8.{wide_from}
use Rattle.table_writer.proofs.content.may_end.Goals as goal

pub returns-in-Gap : goal.returns-in-Gap
unfolding wide_from
returns-in-Gap c = rw c.in-Gap.is

pub returns-in-AfterEd : goal.returns-in-AfterEd
unfolding wide_from
returns-in-AfterEd c = rw c.in-AfterEd.is

pub returns-in-InLone : goal.returns-in-InLone
unfolding wide_from
returns-in-InLone c = rw c.in-InLone.is

pub returns-in-InCharacter : goal.returns-in-InCharacter
unfolding wide_from
returns-in-InCharacter c = rw c.in-InCharacter.is
