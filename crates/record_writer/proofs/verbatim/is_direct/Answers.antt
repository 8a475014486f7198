-- `record_writer::verbatim::is_direct` meets its contract: its tests are the definition's.
use mathlib.Core.Path.{sym, ◌∙◌}
use borrow.Author.Tests.{ne_eqb}
use Rattle.model.proofs.Tests.{impossible}
use Rattle.record_writer.specs.Verbatim.{is_direct}
use Rattle.record_writer.proofs.verbatim.is_direct.Goals as goal

pub returns-then-quote_of-eq34 : goal.returns-then-quote_of-eq34
returns-then-quote_of-eq34 c e = rw c.in-File.is (is_direct (sym c.quote_of.ensures ∙ c.if-quote_of-eq34.true) (sym c.quotes_all.ensures ∙ e))

pub returns-else-quote_of-eq34 : goal.returns-else-quote_of-eq34
returns-else-quote_of-eq34 c e = impossible (sym (ne_eqb _ _ c.if-quote_of-eq34.false) ∙ e)

pub returns-in-Contents : goal.returns-in-Contents
returns-in-Contents c e = impossible e
