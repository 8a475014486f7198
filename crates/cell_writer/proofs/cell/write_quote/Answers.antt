-- `cell_writer::cell::write_quote` meets its contract: the quote, or nothing.
use mathlib.Core.Path.{sym}
use Rattle.buffer.proofs.WriteProgress.{room_as, emitted_as}
use Rattle.cell_writer.proofs.Cells.{quote_none, written_nothing}
use Rattle.cell_writer.proofs.cell.write_quote.Goals as goal

pub returns : goal.returns
returns c =
    let e = quote_none c.args.t c.if-quoted.false in
    emitted_as e (written_nothing c.args.write (room_as (sym e) c.requires))
