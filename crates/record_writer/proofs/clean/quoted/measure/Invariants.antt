-- The invariant: what is still to be measured is the text of the cells from n on.
use mathlib.Core.Bool.{false}
use mathlib.Core.List.{[]}
use Rattle.model.specs.rules.Base.{COMMA}
use Rattle.record_writer.specs.CleanCellText.{quoted_cell}
use Rattle.record_writer.proofs.Joined.{WrittenUpTo}
use Rattle.record_writer.proofs.clean.quoted.measure.Given as goal

-- nothing is written, so any buffer serves
abbrev pub invariant-loop-n : goal.invariant-loop-n
invariant-loop-n l = WrittenUpTo COMMA quoted_cell l.s l.starts l.ends false [] l.at [] l.n l.o
