-- `record_writer::clean::quotes::write_delimiter` meets its contract: one byte, or nothing before the first cell.
use mathlib.Core.Path.{◌≡◌, sym}
use mathlib.Core.List.{[]}
use Rattle.buffer.proofs.WriteProgress.{room_as, emitted_as}
use Rattle.cell_writer.proofs.Cells.{written_nothing}
use Rattle.record_writer.specs.Joined.{before}
use Rattle.record_writer.proofs.Joined.{before_first, before_later}
use Rattle.record_writer.proofs.clean.quotes.write_delimiter.Goals as goal

pub returns-then-n-eq0 : goal.returns-then-n-eq0
returns-then-n-eq0 c =
    let e : before c.args.p c.args.n ≡ [] = before_first c.args.p c.args.n c.if-n-eq0.true in
    emitted_as e (written_nothing c.args.write (room_as (sym e) c.requires))

pub emit_byte-requires : goal.emit_byte-requires
emit_byte-requires c = room_as (sym (before_later c.args.p c.args.n c.if-n-eq0.false)) c.requires

pub returns : goal.returns
returns c = emitted_as (before_later c.args.p c.args.n c.if-n-eq0.false) c.emit_byte.ensures
