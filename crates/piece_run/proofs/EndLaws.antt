-- The end of the file, from a place: between records, in the middle of one, or completing a last one with the current cell.
use Prim.Native.Nat.{ℕ, ◌+◌, ◌≤◌}
use native.Mathlib.Omega.{arith}
use mathlib.Core.Path.{◌≡◌, refl, sym, ap, ◌∙◌}
use mathlib.Core.Bool.{true}
use Rattle.std.specs.Prelude.{Some}
use mathlib.Core.List.{List, [], ◌∷◌, ◌++◌, map}
use lib.ListN.{length}
use Rattle.model.specs.rules.Base.{is_empty}
use Rattle.model.specs.rules.Cell.{is_whole}
use Rattle.model.specs.rules.File.{file_end}
use Rattle.model.specs.rules.Decode.{validate_cell}
use Rattle.model.specs.rules.Text.{Value, record_text, ending}
use Rattle.model.specs.rules.Report.{report, number_of, column_of, is_at_byte}
use Rattle.model.specs.rules.Records.{Rec, Progress, going, stopped, between_records, complete, read_end, end_between, end_at, fault_report, record_fault}
use Rattle.model.specs.laws.Laws.{All}
use Rattle.model.specs.laws.Scans.{RawCell, closing_raw, value_of, Buffered}
use Rattle.model.specs.laws.RoundTrips.{SameCells}
use Rattle.model.proofs.cell_laws.Cells.{cell_at, EndsAfter, ends_clean, ends_final, ends_cut, file_ends}
use Rattle.model.proofs.cell_laws.CellRuns.{runs_sound, all_snoc}
use Rattle.model.proofs.piece_laws.ScanLaws.{values_closing}
use Rattle.piece_step.specs.Types.{Dialect, Target, Begin, Ending, Clean, Final, Cut, Fault, NoRecord, CutShort, Ok, Err}
use Rattle.piece_state.specs.declared.place.Place.{Place}
use Rattle.piece_step.specs.Invariant.{IsWhole, scan_at, read_at, StateInvariant}
use Rattle.piece_record.specs.Completion.{fault_at, text_at}
use Rattle.piece_step.proofs.Faults.{fault_start, report_start, report_byte, fault_of, text_of}

module _ (d : Dialect) (t : Target) (p : Place) (done : List Rec) (k : Buffered) where
  -- what the end of the file results in
  abbrev pub read_last : Progress
  read_last = read_end d (Some t) (going (read_at d p done k))

  -- the cells of the current record, with the open one
  abbrev pub last_cells : List RawCell
  last_cells = closing_raw true (scan_at p k)

  abbrev pub last_values : List Value
  last_values = map (value_of d) last_cells

  -- the last record, and all with it
  abbrev pub done_last : List Rec
  done_last = done ++ (record { start = k.start; size = p.size; cells = last_values } ∷ [])

  ends_as : (x : Ending) → file_end d p.state ≡ x → read_last ≡ end_at d (Some t) (read_at d p done k) x
  unfolding read_end
  ends_as x e = rw e

  whole_at : {x : Ending} → EndsAfter d (cell_at p.state) x → x ≡ Final → is_whole d (cell_at p.state) ≡ true
  whole_at (ends_final w) e = w
  whole_at ends_clean e = let z : ◌≡◌ {A = ℕ} 0 1 = cc in absurd (omega arith)
  whole_at ends_cut e = let z : ◌≡◌ {A = ℕ} 0 1 = cc in absurd (omega arith)

  module _ {bytes ends : List ℕ} (h : StateInvariant d t p bytes ends done k) where
    reported : (x : Fault) → is_at_byte x ≡ true → fault_report x (read_at d p done k) ≡ report (number_of x) (p.records + 1) (column_of x) p.offset
    reported x e = report_byte x (read_at d p done k) p.records e (sym h.records)

    -- in a record, or in a comment or the byte order mark
    pub cut_reads : file_end d p.state ≡ Cut → read_last ≡ stopped CutShort (read_at d p done k)
    cut_reads e = ends_as Cut e

    pub cut_reports : fault_report CutShort (read_at d p done k) ≡ report (number_of CutShort) (p.records + 1) (column_of CutShort) p.offset
    cut_reports = reported CutShort refl

    -- between records
    pub none_reads : file_end d p.state ≡ Clean → p.records ≡ 0 → read_last ≡ stopped NoRecord (read_at d p done k)
    none_reads e z = ends_as Clean e ∙ go done (sym h.records ∙ z)
      where
        go : (xs : List Rec) → length xs ≡ 0 → end_between (read_at d p done k) xs ≡ stopped NoRecord (read_at d p done k)
        go [] l = refl
        go (x ∷ xs) l = absurd (omega arith)

    pub none_reports : fault_report NoRecord (read_at d p done k) ≡ report (number_of NoRecord) (p.records + 1) (column_of NoRecord) p.offset
    none_reports = reported NoRecord refl

    pub clean_reads : file_end d p.state ≡ Clean → 1 ≤ p.records → read_last ≡ going (read_at d p done k)
    clean_reads e z = ends_as Clean e ∙ go done (omega (arith, h.records))
      where
        go : (xs : List Rec) → 1 ≤ length xs → end_between (read_at d p done k) xs ≡ going (read_at d p done k)
        go [] l = absurd (omega arith)
        go (x ∷ xs) l = refl

    -- a last record
    module _ (e : file_end d p.state ≡ Final) where
      pub last_whole : All (IsWhole d) last_cells
      unfolding validate_cell
      last_whole = all_snoc h.whole (runs_sound 0 h.runs (whole_at (file_ends d p.state) e))

      completes_last : read_last ≡ complete d (Some t) (read_at d p done k) last_values Begin p.offset
      completes_last =
          ends_as Final e ∙ ap (λ vs. complete d (Some t) (read_at d p done k) vs Begin p.offset) (values_closing d (Some t) done true (scan_at p k))

      module _ (ws : List Value) (same : SameCells ws last_values) where
        fault_last : fault_at d t p ws ≡ record_fault d (Some t) done last_values
        fault_last = fault_of d t p done h.records h.columns h.written ws last_values same

        pub last_faulty : (x : Fault) → fault_at d t p ws ≡ Err x → read_last ≡ stopped x (read_at d p done k)
        unfolding complete
        last_faulty x q = let f : record_fault d (Some t) done last_values ≡ Err x = sym fault_last ∙ q in completes_last ∙ rw f

        pub last_reports :
            (x : Fault) → fault_at d t p ws ≡ Err x → fault_report x (read_at d p done k) ≡ report (number_of x) (p.records + 1) (column_of x) p.start
        last_reports x q =
            report_start x (read_at d p done k) p.records (fault_start d t p ws x q) (sym h.records)
            ∙ ap (report (number_of x) (p.records + 1) (column_of x)) (sym h.starts)

        pub last_sound : fault_at d t p ws ≡ Ok tt → read_last ≡ going (between_records done_last Begin p.offset)
        unfolding complete
        last_sound q = let f : record_fault d (Some t) done last_values ≡ Ok tt = sym fault_last ∙ q in completes_last ∙ rw f

        pub last_text : text_at t p ws ≡ record_text t (is_empty done) last_values ++ ending t.dialect
        last_text = text_of d t p done h.records ws last_values same
