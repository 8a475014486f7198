-- A record without a fault is written if there is room for its measured length.
use Prim.Native.Nat.{◌≤◌}
use native.Mathlib.Omega.{arith}
use mathlib.Core.Path.{refl}
use lib.ListN.{length}
use Rattle.model.specs.rules.Base.{choose◌then◌else◌}
use Rattle.model.specs.rules.Dialect.{into}
use Rattle.cell_decoder.specs.declared.source.Source.TheVariants.{File}
use Rattle.cell_decoder.specs.Sources.{cells_in}
use Rattle.record_writer.proofs.CleanCells.{parts_of}
use Rattle.piece_record.proofs.BufferedCells.{whole_room}
use Rattle.piece_record.proofs.Checked.{length_of, fault_of}
use Rattle.piece_record.specs.Completion.{fault_at, text_at, is_written, is_refused, has_no_room}
use Rattle.piece_record.proofs.finish.Goals as goal

pub is_clean_record-clean-requires : goal.is_clean_record-clean-requires
is_clean_record-clean-requires c = parts_of c.requires.cells

pub returns-in-Err : goal.returns-in-Err
unfolding fault_at
returns-in-Err c = is_refused (fault_of _ _ c.check_record.ensures c.in-Err.is) refl

pub returns-then-out-o : goal.returns-then-out-o
unfolding fault_at
returns-then-out-o c =
    let a = c.args in
    let x = length_of _ _ c.check_record.ensures c.in-Ok.is in
    let long = x.1 in
    let o : a.o ≤ length a.out.now = c.requires.written_bound.1 in
    has_no_room x.0 (omega arith) refl

pub write_line-requires : goal.write_line-requires
write_line-requires c =
    let a = c.args in
    let text = text_at (into a.t) a.p (cells_in (File a.d) a.s.now a.starts.now a.ends.now a.kinds.now) in
    let x = length_of _ _ c.check_record.ensures c.in-Ok.is in
    let long = x.1 in
    let o : a.o ≤ length a.out.now = c.requires.written_bound.1 in
    record { cells = c.requires.cells; clean_record = c.is_clean_record-clean.ensures; room = whole_room text (omega arith) }

pub returns : goal.returns
unfolding choose◌then◌else◌ fault_at
returns c =
    let a = c.args in
    let x = length_of _ _ c.check_record.ensures c.in-Ok.is in
    let long = x.1 in
    let o : a.o ≤ length a.out.now = c.requires.written_bound.1 in
    let p = c.write_line.ensures in
    is_written x.0 (omega arith) p.text p.place
