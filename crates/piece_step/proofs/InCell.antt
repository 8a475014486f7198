-- Ordinary bytes inside a cell leave the scan in that cell, with more of its bytes. So the place after them is the result of a step.
use Prim.Native.Nat.{ℕ, suc, ◌+◌, ◌-◌, ◌≤◌}
use native.Mathlib.Nat.{add-zero}
use native.Mathlib.Omega.{arith}
use mathlib.Core.Path.{◌≡◌, refl, sym, ◌∙◌}
use mathlib.Core.Bool.{true}
use mathlib.Core.List.{List, [], ◌∷◌, ◌++◌, append-nil, append_assoc}
use lib.ListN.{length, drop}
use borrow.Author.Tests.{lt-leb}
use Rattle.model.specs.declared.Dialect.{Dialect}
use Rattle.model.specs.declared.Cell.{Cell}
use Rattle.model.specs.declared.FileState.{FileState}
use Rattle.model.specs.declared.FileState.TheVariants.{Inside}
use Rattle.std.specs.Prelude.{Some, Ok}
use Rattle.model.specs.declared.ByteRole.TheVariants.{OfCell}
use Rattle.model.specs.rules.Base.{Bytes, choose◌then◌else◌}
use Rattle.model.specs.rules.Dialect.{quote_of}
use Rattle.model.specs.rules.File.{in_cell, file_step}
use Rattle.model.specs.rules.Report.{MAXFILE, MAXRECORD, MAXCOLUMNS}
use Rattle.model.specs.laws.Scans.{Scan, pends, scan_step, scan, fresh}
use Rattle.model.specs.laws.Places.{buffered_bytes, buffered_ends}
use Rattle.model.proofs.Tests.{and_true}
use Rattle.buffer.specs.Writes.{written}
use Rattle.buffer.proofs.WriteProgress.{written_nil}
use Rattle.swar.specs.Words.{ordinary, all_pass, AllIn}
use Rattle.swar.proofs.Spans.{in_whole}
use Rattle.cell_scanner.specs.Run.{run_stop}
use Rattle.cell_scanner.proofs.Runs.{run_step}
use Rattle.record_scanner.specs.declared.record_state.RecordState.{RecordState}
use Rattle.piece_state.specs.declared.place.Place.{Place}
use Rattle.piece_step.specs.declared.PieceStep.TheVariants.{NeedInput}
use Rattle.piece_step.specs.Steps.{InBounds, StepReady, StepInBounds, pending_bounds, RecordBuffered, buffered_on, place_at_piece_end}
use Rattle.piece_step.proofs.ScanAnswers.{PendingAs}
use Rattle.piece_step.proofs.Steps.{here, bounds_pended, turns_pended_on}
use Rattle.piece_step.specs.InCell.{Fits, InCellSound, all_buffered_lem}

-- ---- a scan over ordinary bytes

module _ (d : Dialect) (limit : ℕ) (c : Cell) (q : ℕ) (stops : run_stop d c ≡ Some q) where
  -- the scan after them
  abbrev behind : Scan → Bytes → Scan
  behind s xs =
      record {
        state = Inside c;
        offset = s.offset + length xs;
        start = s.start;
        size = s.size + length xs;
        opened = s.opened;
        raw = s.raw ++ xs;
        cells = s.cells;
      }

  steps : (f : FileState) (b : ℕ) → f ≡ Inside c → ordinary (quote_of d) q b ≡ true → file_step d f b ≡ Ok (Inside c, OfCell)
  unfolding file_step in_cell
  steps f b e h = rw (e, run_step d c q b stops h) refl

  scan_run :
      (xs : Bytes) (s : Scan) → s.state ≡ Inside c → all_pass (ordinary (quote_of d) q) xs ≡ true → s.offset + length xs ≤ limit →
      s.size + length xs ≤ MAXRECORD → scan d limit s xs ≡ pends (behind s xs)
  unfolding scan scan_step all_pass choose◌then◌else◌
  scan_run [] s e all l m = rw (sym e, add-zero s.offset, add-zero s.size, append-nil s.raw) refl
  scan_run (b ∷ xs) s e all l m =
      let x = and_true (ordinary (quote_of d) q b) (all_pass (ordinary (quote_of d) q) xs) all in
      let o : suc s.offset + length xs ≡ s.offset + suc (length xs) = omega arith in
      let z : suc s.size + length xs ≡ s.size + suc (length xs) = omega arith in
      rw (lt-leb limit s.offset (omega arith), lt-leb MAXRECORD s.size (omega arith), steps s.state b e x.0)
      (scan_run xs _ refl x.1 (omega arith) (omega arith) ∙ rw (o, z, append_assoc s.raw (b ∷ []) xs) refl)

-- ---- a piece

module _ (d : Dialect) (piece : Bytes) (p : Place) (bytes ends : List ℕ) (bounds : InBounds p ends) (long_bytes : length bytes ≡ MAXRECORD)
    (long_ends : length ends ≡ MAXCOLUMNS)
    (c : Cell) (q : ℕ) (state : p.state ≡ Inside c) (stops : run_stop d c ≡ Some q) (all : AllIn (ordinary (quote_of d) q) piece 0 (length piece))
    (fits : Fits p (length piece))
    (bytes' : List ℕ) (kept : bytes' ≡ written bytes p.fill piece) where
  ready : (out : List ℕ) → StepReady piece p.offset 0 p bytes ends out 0
  ready out =
      record { bounds = bounds; at = sym (add-zero p.offset); inside = omega arith; room = omega arith; long_bytes = long_bytes; long_ends = long_ends }

  abbrev hand : RecordState
  hand = record { start = 0; size = p.size + length piece; opened = 0; cells = 0 }

  -- the place after it
  abbrev place_behind : (fill : ℕ) → Place
  place_behind fill =
      record {
        state = p.state;
        offset = p.offset + length piece;
        start = p.start;
        size = p.size + length piece;
        fill = fill;
        cells = p.cells;
        columns = p.columns;
        records = p.records;
        written = p.written;
      }

  pended : (out : List ℕ) → PendingAs (here d piece p.offset 0 p bytes ends out 0 (ready out)) (Inside c) hand
  pended out =
      record {
        s = behind d (MAXFILE - p.offset) c q stops (fresh p.state p.size 0) piece;
        came =
            scan_run d (MAXFILE - p.offset) c q stops piece (fresh p.state p.size 0) state (in_whole (ordinary (quote_of d) q) all)
            (omega (arith, fits.in_file)) fits.in_record_lem;
        state = refl;
        hand = refl;
      }

  place_is :
      place_behind (p.fill + length piece) ≡ place_at_piece_end p p.offset 0 (length piece) (Inside c) hand
      (p.fill + length (buffered_bytes []) + length (drop 0 piece))
  unfolding buffered_bytes choose◌then◌else◌
  place_is = rw (state, add-zero p.cells, add-zero p.fill) refl

  keeps : RecordBuffered p p.offset 0 (Inside c) hand piece [] (p.cells + hand.cells) bytes ends bytes' ends (place_behind (p.fill + length piece))
  unfolding buffered_bytes buffered_ends
  keeps =
      buffered_on (omega (arith, fits.columns)) (rw (written_nil bytes p.fill, add-zero p.fill) kept) (sym (written_nil ends p.cells)) place_is

  told_kept : InCellSound d piece p bytes ends bytes' (Some (place_behind (p.fill + length piece)))
  unfolding pended
  told_kept = all_buffered_lem (within (bounds_pended d piece p.offset 0 p bytes ends [] 0 (ready []) _ _ (pended []) [] bytes' ends _ keeps (λ _. refl)))
      λ t done k out hold. turns_pended_on d piece p.offset 0 p bytes ends out 0 (ready out) _ _ (pended out) [] bytes' ends _ keeps
      (λ _. refl) t done k hold keeps
    where
      within : {q : Place} → StepInBounds piece p.offset 0 ends [] (NeedInput q) → InBounds q ends
      within (pending_bounds x) = x

  pub piece_kept : {fill : ℕ} → fill ≡ p.fill + length piece → InCellSound d piece p bytes ends bytes' (Some (place_behind fill))
  piece_kept e = rw e told_kept
