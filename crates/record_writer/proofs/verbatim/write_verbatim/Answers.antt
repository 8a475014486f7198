-- A run of ordinary bytes is written between quotes; any other cell is decoded.
use mathlib.Core.Path.{sym}
use Rattle.buffer.proofs.WriteProgress.{room_as, emitted_as}
use Rattle.record_writer.proofs.VerbatimLaws.{passed, looks_inside}
use Rattle.record_writer.proofs.verbatim.write_verbatim.Goals as goal

pub slice_bounds-write_marked-count : goal.slice_bounds-write_marked-count
slice_bounds-write_marked-count c = (looks_inside c.in-Some.ensures).0

pub slice_bounds-write_marked-start : goal.slice_bounds-write_marked-start
slice_bounds-write_marked-start c = (looks_inside c.in-Some.ensures).0

pub slice_bounds-write_marked-end : goal.slice_bounds-write_marked-end
slice_bounds-write_marked-end c = (looks_inside c.in-Some.ensures).1

pub write_marked-end-requires : goal.write_marked-end-requires
write_marked-end-requires c =
    room_as ((passed c.requires.encoded c.requires.direct c.in-Some.ensures).cell c.args.only c.args.first) c.requires.room

pub returns-in-Some : goal.returns-in-Some
returns-in-Some c =
    let p = passed c.requires.encoded c.requires.direct c.in-Some.ensures in
    record { written_at = emitted_as (sym (p.cell c.args.only c.args.first)) c.write_marked-end.ensures; lone_value = λ e f. p.lone }

pub returns-in-None : goal.returns-in-None
returns-in-None c = rw c.kind_of_number-kind.ensures at c.write_cell.ensures
