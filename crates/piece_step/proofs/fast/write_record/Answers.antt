-- `piece_step::fast::write_record` meets its contract: the checks find no fault, and the text fits into the output.
use Prim.Native.Nat.{ℕ, ◌+◌, ◌≤◌}
use native.Mathlib.Omega.{arith}
use mathlib.Core.Path.{◌≡◌, refl, sym, ◌∙◌}
use mathlib.Core.Bool.{true}
use lib.ListN.{length}
use Rattle.model.specs.rules.Base.{choose◌then◌else◌, Bytes}
use Rattle.model.proofs.Tests.{impossible}
use Rattle.buffer.specs.Writes.{WrittenAt, written}
use Rattle.cell_decoder.specs.declared.source.Source.TheVariants.{File}
use Rattle.cell_decoder.specs.Sources.{cells_in}
use Rattle.cell_decoder.proofs.CellsIn.{cells_length}
use Rattle.record_writer.specs.CleanRecord.{clean_data}
use Rattle.piece_step.specs.FastSteps.{up_to, no_text}
use Rattle.piece_step.proofs.FastText.{sound_if, length_if}
use Rattle.piece_step.proofs.fast.write_record.Goals as goal

place_of : {old : Bytes} {o : ℕ} {w new : Bytes} {r : ℕ} → WrittenAt true old o w new r → (new ≡ written old o w) × (r ≡ o + length w)
unfolding choose◌then◌else◌
place_of p = (p.text, p.place)

pub returns-in_err-ok : goal.returns-in_err-ok
returns-in_err-ok c = rw c.from_residual.ensures (no_text refl)

pub returns-in_err-length : goal.returns-in_err-length
returns-in_err-length c = rw c.from_residual-in_err-length.ensures (no_text refl)

pub check_target-requires-clause-clean_record : goal.check_target-requires-clause-clean_record
check_target-requires-clause-clean_record c = λ e. clean_data (c.requires.clean_in e)

pub returns-then-out-o : goal.returns-then-out-o
returns-then-out-o c = no_text refl

pub write_line-requires : goal.write_line-requires
write_line-requires c =
    let a = c.args in
    let x = length_if _ _ c.check_target.ensures c.ok-2.ensures.value c.in_ok-length.was in
    let long = x.1 in
    let o : a.o ≤ length a.out.now = c.requires.before_bound.1 in
    record {
      cells = c.requires.cells;
      clean_record = λ e. clean_data (c.requires.clean_in e);
      room = record { measured = λ z. impossible (sym z); inside = λ z. omega arith };
    }

pub returns : goal.returns
returns c =
    let a = c.args in
    let cells = cells_in (File a.d) a.piece.now a.starts.now a.stops.now a.kinds.now in
    let x = length_if _ _ c.check_target.ensures c.ok-2.ensures.value c.in_ok-length.was in
    let long = x.1 in
    let o : a.o ≤ length a.out.now = c.requires.before_bound.1 in
    let y = place_of c.write_line.ensures in
    let count = cells_length (File a.d) a.piece.now a.starts.now a.stops.now a.kinds.now c.requires.cells.with_ends c.requires.cells.with_kinds in
    up_to (sym (c.«data».ensures cells count) ∙ sound_if c.«data».result c.ok.ensures.value c.in_ok-ok.was) x.0 (omega arith) y.0 y.1
