-- One step over a piece. Reading on from a place is the scan of the part from there, moved to its offset in the file and with the
-- buffered cells before it; so each result of the scanner says what reading results in, and at which place.
use Prim.Native.Nat.{ℕ, suc, ◌+◌, ◌-◌, ◌≤◌}
use native.Mathlib.Omega.{arith}
use mathlib.Core.Path.{◌≡◌, refl, sym, ap, subst, ◌∙◌}
use mathlib.Core.Bool.{true, false}
use Rattle.std.specs.Prelude.{Some}
use mathlib.Core.List.{List, [], ◌∷◌, ◌++◌, map, append-nil}
use lib.ListN.{length, drop, length-append, length-map}
use borrow.Author.Tests.{eq-eqb, ne_eqb, eqb-true, eqb-false}
use Rattle.model.specs.rules.Base.{choose◌then◌else◌, ◌is◌, Bytes, is_empty}
use Rattle.model.specs.rules.Text.{Value, record_text, table_text, ending}
use Rattle.model.specs.rules.Report.{report, number_of, column_of, is_at_byte, MAXFILE, MAXCOLUMNS}
use Rattle.model.specs.rules.Records.{Rec, rows, Progress, going, stopped, nothing_read, read_from, fault_report, record_fault}
use Rattle.model.specs.laws.Laws.{All, all_none}
use Rattle.model.specs.laws.Scans.{RawCell, Scan, ScanResult, pends, fails, completes, scan, value_of, read_of, resume, moved, moved_cell, moved_to, Buffered}
use Rattle.model.specs.laws.Scans.{joined_cell, joined_raw, joined_place, joined_cells, joined, joined_to, Holds, nothing_current, fresh, standing, bytes_in, Sized}
use Rattle.model.specs.laws.Scans.{SizedTo, sized_pends}
use Rattle.model.specs.laws.Places.{SpanIn, ScanIn, ScanResultIn, pends_in, completes_in, buffered_bytes, buffered_ends}
use Rattle.model.specs.laws.RoundTrips.{SameCells}
use Rattle.model.proofs.Tests.{split_on, same_byte}
use Rattle.model.proofs.cell_laws.CellRuns.{here}
use Rattle.model.proofs.piece_laws.ScanLaws.{shift, completing}
use Rattle.model.proofs.piece_laws.View.{view, part_reads}
use Rattle.model.proofs.piece_laws.ScanSize.{scan_size}
use Rattle.model.proofs.piece_laws.PlaceLaws.{stretches}
use Rattle.model.proofs.round_trip.TableText.{table_snoc}
use Rattle.model.proofs.round_trip.Meanings.{same_length}
use Rattle.model.specs.rules.Api.{slice}
use Rattle.model.proofs.cell_laws.Cells.{cell_at}
use Rattle.piece_state.specs.Sound.{at_start, columns_with, place_after}
use Rattle.piece_step.specs.Types.{Dialect, Target, Fresh, FileState, Fault, Ok, Err}
use Rattle.piece_state.specs.declared.place.Place.{Place}
use Rattle.piece_step.specs.Invariant.{no_bytes, IsWhole, scan_at, read_at, columns_of, Shown, StateInvariant, buffered_none}
use Rattle.piece_step.specs.Invariant.{start_from, place_pending}
use Rattle.piece_step.specs.Steps.{Follows}
use Rattle.piece_record.specs.Completion.{fault_at, text_at}
use Rattle.piece_step.proofs.Faults.{fault_start, report_start, report_byte, is_first_lem, fault_of, text_of}
use Rattle.piece_step.proofs.ScanLaws.{buffered_of, Preserves, PreservesTo, preserves_pends, preserves_completes, scan_preserves, FaultsAt, faults_fails}
use Rattle.piece_step.proofs.ScanLaws.{scan_faults}

-- ---- a part in its file

place_buffered : (kept began : ℕ) → joined_place kept began began ≡ kept
unfolding joined_place choose◌then◌else◌
place_buffered kept began = rw (same_byte began)

raw_buffered : (k : Buffered) (began : ℕ) → joined_raw k began began [] ≡ k.raw
unfolding joined_raw choose◌then◌else◌
raw_buffered k began = rw (same_byte began) (append-nil k.raw)

-- the scan of the whole file from the reader's position, by that of the part
pub part_scans :
    (d : Dialect) (n : ℕ) (k : Buffered) (f : FileState) (size began : ℕ) (bs : Bytes) → n ≤ MAXFILE → Holds f k →
    scan d MAXFILE (standing n k f size began) bs ≡ joined_to k (n + began) (moved_to n (scan d (MAXFILE - n) (fresh f size began) bs))
part_scans d n k f size began bs l h =
    let limit : n + (MAXFILE - n) ≡ MAXFILE = omega arith in
    let s : Scan = fresh f size began in
    let first : joined k (n + began) (moved n s) ≡ standing n k f size began =
    rw (place_buffered k.start (n + began), place_buffered k.opened (n + began), raw_buffered k (n + began), append-nil k.cells) in
    ap (λ x. scan d MAXFILE x bs) (sym first)
    ∙ view d MAXFILE k (n + began) (moved n s) bs h (omega arith)
    ∙ ap (λ x. joined_to k (n + began) (scan d x (moved n s) bs)) (sym limit)
    ∙ ap (joined_to k (n + began)) (shift d n (MAXFILE - n) s bs)

-- an offset of the part, in the file
same_place : (n a b : ℕ) → ((n + a) is (n + b)) ≡ (a is b)
same_place n a b = split_on (a is b) (λ h. rw h (go h)) λ h. rw h (no h)
  where
    go : (a is b) ≡ true → ((n + a) is (n + b)) ≡ true
    go h = let e : a ≡ b = eqb-true a b h in eq-eqb (n + a) (n + b) (rw e)

    no : (a is b) ≡ false → ((n + a) is (n + b)) ≡ false
    no h = ne_eqb (n + a) (n + b) (λ e. eqb-false a b h (omega arith))

pub start_from_lem : (p : Place) (k : Buffered) (n i start : ℕ) → p.start ≡ k.start → joined_place k.start (n + i) (n + start) ≡ start_from p n i start
unfolding joined_place
start_from_lem p k n i start e = rw (same_place n start i, e)

-- ---- what a scan preserves, case by case

pending : {d : Dialect} {s : Scan} → PreservesTo d (pends s) → Preserves d s
pending (preserves_pends z) = z

completed :
    {d : Dialect} {s : Scan} {cs : List RawCell} {f : FileState} {next : ℕ} {left : Bytes} → PreservesTo d (completes s cs f next left) →
    All (IsWhole d) cs × (cell_at f ≡ Fresh)
completed (preserves_completes w c) = (w, c)

pending_size : {s : Scan} → SizedTo (pends s) → Sized s
pending_size (sized_pends z) = z

failed_at : {e : Fault} {s : Scan} → FaultsAt (fails e s) → is_at_byte e ≡ true
failed_at (faults_fails h) = h

-- where a complete record ends in the part
pub record EndsIn (piece : Bytes) (s : Scan) (cs : List RawCell) (next : ℕ) (left : Bytes) : Type 0 where
  pub stand : All (SpanIn piece) cs
  pub place : next ≡ suc s.offset
  pub inside : next ≤ length piece
  pub rest : left ≡ drop next piece

pub ended_in :
    {piece : Bytes} {s : Scan} {cs : List RawCell} {f : FileState} {next : ℕ} {left : Bytes} → ScanResultIn piece (completes s cs f next left) →
    EndsIn piece s cs next left
ended_in (completes_in i c l r) = record { stand = c; place = refl; inside = l; rest = r }

-- where the part ends
pub record PendsIn (piece : Bytes) (s : Scan) : Type 0 where
  pub stand : ScanIn piece s
  pub place : s.offset ≡ length piece

pub pending_in : {piece : Bytes} {s : Scan} → ScanResultIn piece (pends s) → PendsIn piece s
pending_in (pends_in i l) = record { stand = i; place = l }

pub part_none : (piece : Bytes) (o : ℕ) → [] ≡ slice piece o o
part_none piece o = let z : o - o ≡ 0 = omega arith in rw z

-- ---- before the first byte

pub first_holds : (d : Dialect) (t : Target) (bytes ends : List ℕ) → StateInvariant d t at_start bytes ends [] (buffered_none 0)
unfolding buffered_bytes buffered_ends bytes_in cell_at rows table_text
first_holds d t bytes ends =
    record {
      starts = refl;
      opens = no_bytes refl;
      holds = nothing_current refl refl;
      sized = record { held = omega arith; limit = omega arith };
      runs = here;
      whole = all_none;
      cells = refl;
      shown = λ l. record { fill = refl; bytes_kept = refl; ends_kept = refl };
      records = refl;
      columns = refl;
      written = refl;
    }

pub first_reads : (d : Dialect) → read_at d at_start [] (buffered_none 0) ≡ nothing_read
unfolding nothing_read
first_reads d = refl

-- ---- a step

pub record Step : Type 0 where
  pub d : Dialect
  pub t : Target
  pub p : Place
  pub done : List Rec
  pub k : Buffered
  -- how many bytes were consumed before the piece, and where in it the step begins
  pub n : ℕ
  pub i : ℕ
  pub piece : Bytes

module _ (u : Step) where
  open u use {d, t, p, done, k, n, i, piece}

  -- what the scanner finds
  abbrev pub scanned : ScanResult
  scanned = scan d (MAXFILE - n) (fresh p.state p.size i) (drop i piece)

  -- the cells of the record, with the buffered ones
  abbrev pub all_cells : List RawCell → List RawCell
  all_cells cs = joined_cells k (n + i) (map (moved_cell n) cs)

  -- the current record, in the file
  abbrev pub in_file : Scan → Scan
  in_file s = joined k (n + i) (moved n s)

  -- what reading results in
  abbrev pub read_on : Progress
  read_on = read_from d (Some t) (going (read_at d p done k)) (drop i piece)

  module _ {bytes ends : List ℕ} (h : StateInvariant d t p bytes ends done k) (at : p.offset ≡ n + i) (under : n ≤ MAXFILE) (inside : i ≤ length piece) where
    reads_on : read_on ≡ resume d (Some t) done (joined_to k (n + i) (moved_to n scanned))
    reads_on = rw at (part_reads d (Some t) done n k p.state p.size i (drop i piece) under h.holds)

    scans_on : scan d MAXFILE (scan_at p k) (drop i piece) ≡ joined_to k (n + i) (moved_to n scanned)
    scans_on = rw at (part_scans d n k p.state p.size i (drop i piece) under h.holds)

    keeps_on : PreservesTo d (joined_to k (n + i) (moved_to n scanned))
    keeps_on =
        subst (PreservesTo d) scans_on
        (scan_preserves d MAXFILE (scan_at p k) (drop i piece) (record { runs = h.runs; whole = h.whole; opens = h.opens; holds = h.holds }))

    sized_on : SizedTo (joined_to k (n + i) (moved_to n scanned))
    sized_on = subst SizedTo scans_on (scan_size d MAXFILE (scan_at p k) (drop i piece) h.sized)

    stands_on : ScanResultIn piece scanned
    stands_on =
        stretches d (MAXFILE - n) piece (fresh p.state p.size i)
        (record { raw = part_none piece i; forward = omega arith; within = inside; cells = all_none })

    -- the scan of the whole file
    file_on : (file : Bytes) → Follows file piece i p k → ScanResultIn file (joined_to k (n + i) (moved_to n scanned))
    file_on file g =
        let z : ScanResultIn file (scan d MAXFILE (scan_at p k) (drop p.offset file)) = stretches d MAXFILE file (scan_at p k) g.kept in
        subst (ScanResultIn file) (ap (scan d MAXFILE (scan_at p k)) g.rest ∙ scans_on) z

    -- ---- the part ends

    module _ (s : Scan) (e : scanned ≡ pends s) where
      pub pend_keeps : Preserves d (in_file s)
      pend_keeps = pending (subst (λ x. PreservesTo d (joined_to k (n + i) (moved_to n x))) e keeps_on)

      pend_sized : Sized (in_file s)
      pend_sized = pending_size (subst (λ x. SizedTo (joined_to k (n + i) (moved_to n x))) e sized_on)

      pub pend_reads : (fill : ℕ) → read_on ≡ going (read_at d (place_pending p n i fill s) done (buffered_of (in_file s)))
      pend_reads fill = reads_on ∙ ap (λ x. resume d (Some t) done (joined_to k (n + i) (moved_to n x))) e

      -- the buffered cells are then encoded as in the file
      pub pend_stands : (file : Bytes) → Follows file piece i p k → ScanIn file (in_file s)
      pend_stands file g = (pending_in (subst (λ x. ScanResultIn file (joined_to k (n + i) (moved_to n x))) e (file_on file g))).stand

      pub pend_holds :
          (fill : ℕ) (bytes' ends' : List ℕ) →
          (length (all_cells s.cells) ≤ MAXCOLUMNS → Shown (place_pending p n i fill s) (buffered_of (in_file s)) bytes' ends') →
          StateInvariant d t (place_pending p n i fill s) bytes' ends' done (buffered_of (in_file s))
      pend_holds fill bytes' ends' shown =
          let a = length-append k.cells (map (joined_cell k (n + i)) (map (moved_cell n) s.cells)) in
          let b = length-map (map (moved_cell n) s.cells) (joined_cell k (n + i)) in
          let c = length-map s.cells (moved_cell n) in
          record {
            starts = sym (start_from_lem p k n i s.start h.starts);
            opens = pend_keeps.opens;
            holds = pend_keeps.holds;
            sized = pend_sized;
            runs = pend_keeps.runs;
            whole = pend_keeps.whole;
            cells = omega (arith, a, b, c, h.cells);
            shown = shown;
            records = h.records;
            columns = h.columns;
            written = h.written;
          }

    -- ---- a fault

    module _ (x : Fault) (s : Scan) (e : scanned ≡ fails x s) where
      pub fail_reads : read_on ≡ stopped x (read_of d done (in_file s))
      fail_reads = reads_on ∙ ap (λ y. resume d (Some t) done (joined_to k (n + i) (moved_to n y))) e

      pub fail_reports : fault_report x (read_of d done (in_file s)) ≡ report (number_of x) (p.records + 1) (column_of x) (n + s.offset)
      fail_reports =
          let at_byte : is_at_byte x ≡ true = failed_at (subst FaultsAt e (scan_faults d (MAXFILE - n) (drop i piece) (fresh p.state p.size i))) in
          report_byte x (read_of d done (in_file s)) p.records at_byte (sym h.records)

    -- ---- a record is complete

    module _ (s : Scan) (cs : List RawCell) (f : FileState) (next : ℕ) (left : Bytes) (e : scanned ≡ completes s cs f next left) where
      pub complete_in : EndsIn piece s cs next left
      complete_in = ended_in (subst (ScanResultIn piece) e stands_on)

      complete_keeps : All (IsWhole d) (all_cells cs) × (cell_at f ≡ Fresh)
      complete_keeps = completed (subst (λ x. PreservesTo d (joined_to k (n + i) (moved_to n x))) e keeps_on)

      pub complete_whole : All (IsWhole d) (all_cells cs)
      complete_whole = complete_keeps.0

      pub complete_stands : (file : Bytes) → Follows file piece i p k → All (SpanIn file) (all_cells cs)
      complete_stands file g = (ended_in (subst (λ x. ScanResultIn file (joined_to k (n + i) (moved_to n x))) e (file_on file g))).stand

      abbrev pub values_now : List Value
      values_now = map (value_of d) (all_cells cs)

      -- the record, and all with it
      abbrev pub done_then : List Rec
      done_then = done ++ (record { start = (in_file s).start; size = s.size; cells = values_now } ∷ [])

      completes_on : read_on ≡ resume d (Some t) done (completes (in_file s) (all_cells cs) f (n + next) left)
      completes_on = reads_on ∙ ap (λ x. resume d (Some t) done (joined_to k (n + i) (moved_to n x))) e

      module _ (ws : List Value) (same : SameCells ws values_now) where
        fault_here : fault_at d t p ws ≡ record_fault d (Some t) done values_now
        fault_here = fault_of d t p done h.records h.columns h.written ws values_now same

        -- it has a fault
        module _ (x : Fault) (q : fault_at d t p ws ≡ Err x) where
          pub faulty_reads : read_on ≡ stopped x (read_of d done (in_file s))
          faulty_reads = completes_on ∙ (completing d (Some t) done (in_file s) (all_cells cs) f (n + next) left).faulty x (sym fault_here ∙ q)

          pub faulty_reports : fault_report x (read_of d done (in_file s)) ≡ report (number_of x) (p.records + 1) (column_of x) (start_from p n i s.start)
          faulty_reports =
              report_start x (read_of d done (in_file s)) p.records (fault_start d t p ws x q) (sym h.records)
              ∙ ap (report (number_of x) (p.records + 1) (column_of x)) (start_from_lem p k n i s.start h.starts)

        -- it has no fault
        module _ (q : fault_at d t p ws ≡ Ok tt) where
          abbrev pub place_then : Place
          place_then = place_after p (length ws) (length (text_at t p ws)) f (n + next)

          pub sound_reads : read_on ≡ read_from d (Some t) (going (read_at d place_then done_then (buffered_none (n + next)))) (drop next piece)
          sound_reads =
              completes_on ∙ (completing d (Some t) done (in_file s) (all_cells cs) f (n + next) left).sound (sym fault_here ∙ q)
              ∙ ap (read_from d (Some t) (going (read_at d place_then done_then (buffered_none (n + next))))) complete_in.rest

          columns_then : columns_with p (length ws) ≡ columns_of done_then
          unfolding choose◌then◌else◌
          columns_then = rw (is_first_lem d t p done h.records, h.columns, same_length same) (columns_more done)
            where
              columns_more :
                  (xs : List Rec) →
                  (choose is_empty xs then length values_now else columns_of xs) ≡ columns_of
                  (xs ++ (record { start = (in_file s).start; size = s.size; cells = values_now } ∷ []))
              columns_more [] = refl
              columns_more (y ∷ xs) = refl

          pub text_here : text_at t p ws ≡ record_text t (is_empty done) values_now ++ ending t.dialect
          text_here = text_of d t p done h.records ws values_now same

          pub sound_holds : (bytes' ends' : List ℕ) → StateInvariant d t place_then bytes' ends' done_then (buffered_none (n + next))
          unfolding buffered_bytes buffered_ends bytes_in
          sound_holds bytes' ends' =
              let rec : Rec = record { start = (in_file s).start; size = s.size; cells = values_now } in
              let more = length-append done (rec ∷ []) in
              let grown =
              ap length (table_snoc t done rec) ∙ length-append (table_text t (rows done)) (record_text t (is_empty done) values_now ++ ending t.dialect) in
              let text : length (text_at t p ws) ≡ length (record_text t (is_empty done) values_now ++ ending t.dialect) = ap length text_here in
              record {
                starts = refl;
                opens = no_bytes refl;
                holds = nothing_current refl refl;
                sized = record { held = omega arith; limit = omega arith };
                runs = rw complete_keeps.1 here;
                whole = all_none;
                cells = refl;
                shown = λ l. record { fill = refl; bytes_kept = refl; ends_kept = refl };
                records = omega (arith, more, h.records);
                columns = columns_then;
                written = omega (arith, grown, text, h.written);
              }
