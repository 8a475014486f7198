-- `record_writer::record::is_first` meets its contract.
use mathlib.Core.Path.{sym, ◌∙◌}
use borrow.Author.Tests.{ne_eqb}
use Rattle.record_writer.proofs.Columns.{later_first}
use Rattle.record_writer.proofs.record.is_first.Goals as goal

pub returns-else-n-eq0 : goal.returns-else-n-eq0
returns-else-n-eq0 c = ne_eqb c.args.n 0 c.if-n-eq0.false ∙ sym (later_first c.args.n c.args.header c.if-n-eq0.false)
