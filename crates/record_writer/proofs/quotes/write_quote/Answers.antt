-- `record_writer::quotes::write_quote` meets its contract: one byte or none.
use mathlib.Core.Path.{sym}
use Rattle.buffer.proofs.WriteProgress.{room_as, emitted_as}
use Rattle.cell_writer.proofs.Cells.{written_nothing}
use Rattle.record_writer.proofs.Lengths.{quote_is, quote_none}
use Rattle.record_writer.proofs.quotes.write_quote.Goals as goal

pub emit_byte-requires : goal.emit_byte-requires
emit_byte-requires c = room_as (sym (quote_is c.if-quoted.true)) c.requires

pub returns-then-quoted : goal.returns-then-quoted
returns-then-quoted c = emitted_as (quote_is c.if-quoted.true) c.emit_byte.ensures

pub returns : goal.returns
returns c = let e = quote_none c.if-quoted.false in emitted_as e (written_nothing c.args.write (room_as (sym e) c.requires))
