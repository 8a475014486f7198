-- C's struct as an answer of the decoder.
use Rattle.cell_decoder.specs.Answer.{CellAnswer}
use Rattle.c_cells.specs.declared.DecodeAnswer.{DecodeAnswer}

abbrev pub struct_answer : DecodeAnswer → CellAnswer
struct_answer r = record { report = r.report; kind = r.kind; size = r.length }
