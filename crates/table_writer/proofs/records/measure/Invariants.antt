-- The invariant: the first n records have no fault, and `size` is the length of their text.
use Rattle.cell_decoder.specs.declared.source.Source.TheVariants.{Contents}
use Rattle.cell_decoder.specs.Sources.{cells_in}
use Rattle.table_writer.proofs.Rows.{Measuring}
use Rattle.table_writer.proofs.records.measure.Given as goal

abbrev pub invariant-loop-n : goal.invariant-loop-n
invariant-loop-n l = Measuring l.t (cells_in Contents l.content l.starts l.ends l.kinds) l.columns l.records l.n l.at l.size
