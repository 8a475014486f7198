-- The invariant: the room holds the text of the first n records, and has place for that of the rest.
use Rattle.cell_decoder.specs.declared.source.Source.TheVariants.{Contents}
use Rattle.cell_decoder.specs.Sources.{cells_in}
use Rattle.table_writer.proofs.Rows.{WritingRows}
use Rattle.table_writer.proofs.records.write_records.Given as goal

abbrev pub invariant-loop-n : goal.invariant-loop-n
invariant-loop-n l = WritingRows l.t (cells_in Contents l.content l.starts l.ends l.kinds) l.columns l.records l.initial.room l.room l.n l.at l.o
