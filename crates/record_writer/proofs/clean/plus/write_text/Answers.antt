-- The text is written in quotation marks if it needs them.
use mathlib.Core.Path.{sym, ap}
use mathlib.Core.Bool.{Bool}
use Rattle.buffer.proofs.WriteProgress.{room_as, emitted_as}
use Rattle.record_writer.specs.CleanCellText.{marked}
use Rattle.record_writer.proofs.clean.plus.write_text.Goals as goal

pub write_marked-requires : goal.write_marked-requires
write_marked-requires c = room_as (ap (λ (b : Bool). marked b c.args.bs.now) c.needs_quotes.ensures) c.requires

pub returns : goal.returns
returns c = emitted_as (sym (ap (λ (b : Bool). marked b c.args.bs.now) c.needs_quotes.ensures)) c.write_marked.ensures
