-- A step of the run, by the scanner's result: the record's cells and bytes are those of the reader, and the place after the step is in
-- bounds whatever state it began with.
use Prim.Native.Nat.{ℕ, suc, ◌+◌, ◌-◌, ◌≤◌, ◌<◌}
use native.Mathlib.Omega.{arith}
use mathlib.Core.Path.{◌≡◌, refl, sym, ap, ap₂, subst, ◌∙◌}
use mathlib.Core.Bool.{false}
use Rattle.std.specs.Prelude.{Some}
use mathlib.Core.List.{List, [], ◌∷◌, map}
use lib.ListN.{length, take, drop, length-append, length-map, length-drop}
use lib.Seq.{take_all}
use borrow.Author.Tests.{lt-ltb}
use Rattle.model.specs.rules.Base.{choose◌then◌else◌, ◌is◌, Bytes}
use Rattle.model.specs.rules.File.{file_step}
use Rattle.model.specs.rules.Text.{Value}
use Rattle.model.specs.rules.Report.{report, number_of, column_of, MAXFILE, MAXRECORD, MAXCOLUMNS}
use Rattle.model.specs.rules.Records.{Rec, going, read_from, ◌or_else◌, when, header_fault, data_fault, target_fault}
use Rattle.model.specs.laws.Laws.{all_none}
use Rattle.model.specs.laws.RoundTrips.{SameCells, no_cells, and_cell}
use Rattle.model.specs.laws.Scans.{RawCell, Scan, ScanResult, pends, fails, completes, scan_step, scan, value_of, read_of, in_record, Buffered, moved_cell}
use Rattle.model.specs.laws.Scans.{joined_cell, fresh}
use Rattle.model.specs.laws.Places.{ScanIn, ScanResultIn, buffered_bytes, buffered_ends}
use Rattle.model.proofs.Tests.{split}
use Rattle.model.proofs.file_laws.CheckResults.{else_sound, target_sound}
use Rattle.model.proofs.round_trip.Meanings.{same_length}
use Rattle.model.proofs.piece_laws.PlaceLaws.{stretches}
use Rattle.buffer.specs.Writes.{written}
use Rattle.piece_state.specs.Sound.{InOrder, order_end, place_after}
use Rattle.piece_state.specs.CurrentRecord.{Shows, CurrentRecord, raw_cells_at}
use Rattle.piece_state.proofs.CurrentRecord.{shown_are, shown_lie}
use Rattle.record_scanner.specs.Stored.{stored_from}
use Rattle.record_scanner.specs.Parts.{found_of, current_of, raw_starts, raw_ends}
use Rattle.piece_state.specs.declared.place.Place.{Place}
use Rattle.piece_step.specs.Types.{Dialect, Target, FileState, Outside, Passed, OfCell, Between, Tail, Ends, Step, Ok, Err, Fault, TooManyColumns}
use Rattle.piece_step.specs.Types.{CheckResult, Ok, Err}
use Rattle.piece_record.specs.declared.RecordError.TheVariants.{Refused, Invalid}
use Rattle.piece_step.specs.Invariant.{scan_at, read_at, Shown, StateInvariant, buffered_none, start_from, place_pending}
use Rattle.piece_record.specs.Completion.{fault_at, text_at, FinishSound, is_written, is_refused, has_no_room, CompleteSound, not_encoded, ruled, buffered_values, RecordResult}
use Rattle.piece_step.specs.declared.PieceStep.TheVariants.{Failed, NeedInput}
use Rattle.piece_step.specs.Steps.{InBounds, Lists, RecordCompleted, too_many, from_buffered, place_at_piece_end, RecordBuffered, too_many_yet, buffered_on}
use Rattle.piece_step.specs.Steps.{StepReady, step_after, Fitting, StepInBounds, next_bounds, pending_bounds, stopped_bounds, nowhere_bounds}
use Rattle.piece_step.specs.Steps.{EncodedInFile, Follows, StepSound, steps_next, steps_pending, steps_stopped, steps_nowhere}
use Rattle.record_scanner.specs.declared.record_state.RecordState.{RecordState}
use Rattle.piece_step.proofs.BufferedParts.{order_then, order_more}
use Rattle.piece_step.proofs.ScanLaws.{buffered_of, Within, WithinTo, within_pends, within_fails, within_completes, scan_within}
use Rattle.piece_step.proofs.StepOutcomes as turning
use Rattle.piece_step.proofs.StepOutcomes.{EndsIn, ended_in, PendsIn, pending_in, pend_reads, pend_stands, pend_holds, fail_reads, fail_reports}
use Rattle.piece_step.proofs.StepOutcomes.{part_none, all_cells, in_file, complete_whole, complete_stands, values_now, done_then, faulty_reads}
use Rattle.piece_step.proofs.StepOutcomes.{faulty_reports, place_then, sound_reads, text_here, sound_holds}
use Rattle.piece_step.proofs.BufferedSpans.{encoded_buffered}
use Rattle.piece_step.proofs.ScanAnswers.{CompletedAs, PendingAs, FailedAs, room_pended, none_pended, shown_of, hand_then, lists_show, room_done}
use Rattle.piece_step.proofs.ScanAnswers.{current_of_lem, joined_hand, proceeds_on, kept_same, kept_followed}

none_bytes : length (buffered_bytes []) ≡ 0
unfolding buffered_bytes
none_bytes = refl

place_same :
    (p : Place) (n i fill : ℕ) (s : Scan) (size : ℕ) (f : FileState) (h : RecordState) → s.offset ≡ size → s.state ≡ f → current_of s ≡ h →
    place_pending p n i fill s ≡ place_at_piece_end p n i size f h fill
place_same p n i fill s size f h e g k = rw (sym k, sym e, sym g)

-- ---- checks

pub same_self : (vs : List Value) → SameCells vs vs
same_self [] = no_cells
same_self (v ∷ vs) = and_cell (record { kind = refl; content = refl }) (same_self vs)

pub too_many_fault : (d : Dialect) (t : Target) (p : Place) (ws : List Value) → MAXCOLUMNS < length ws → fault_at d t p ws ≡ Err TooManyColumns
unfolding fault_at header_fault data_fault when ◌or_else◌
too_many_fault d t p ws h =
    split (λ (v : CheckResult). (v or_else target_fault t (p.records is 0) p.written ws) ≡ Err TooManyColumns) (p.records is 0)
    (λ _. rw (lt-ltb MAXCOLUMNS (length ws) h)) λ _. rw (lt-ltb MAXCOLUMNS (length ws) h)

pub sound_fits : (d : Dialect) (t : Target) (p : Place) (ws : List Value) → fault_at d t p ws ≡ Ok tt → p.written + length (text_at t p ws) ≤ MAXFILE
unfolding fault_at
sound_fits d t p ws e =
    let s = else_sound (choose p.records is 0 then header_fault d ws else data_fault p.columns ws) (target_fault t (p.records is 0) p.written ws) e in
    (target_sound t (p.records is 0) p.written ws s.1).fits

-- a text that was written fits into the file
finish_fits :
    (d : Dialect) (t : Target) (p : Place) (ws : List Value) (o : ℕ) (out out' : List ℕ) (r : RecordResult) →
    FinishSound (fault_at d t p ws) (text_at t p ws) o out out' r → Fitting p o r
finish_fits d t p ws o out out' (Ok end) (is_written v l w e) =
    let f : p.written + length (text_at t p ws) ≤ MAXFILE = sound_fits d t p ws v in (omega arith, omega arith)
finish_fits d t p ws o out out' (Err (Refused x)) (is_refused v w) = tt
finish_fits d t p ws o out out' (Err Invalid) (has_no_room v l w) = tt

finish_room : (v : CheckResult) (text : Bytes) (o : ℕ) (out out' : List ℕ) (end : ℕ) → FinishSound v text o out out' (Ok end) → end ≤ length out
finish_room v text o out out' end (is_written x l w e) = omega arith

-- ---- a scan continues

data Behind (i : ℕ) : ScanResult → Type 0 where
  behind_pends : {s : Scan} → i ≤ s.offset → Behind i (pends s)
  behind_fails : {e : Fault} {s : Scan} → i ≤ s.offset → Behind i (fails e s)
  behind_completes : {s : Scan} {cs : List RawCell} {f : FileState} {next : ℕ} {left : Bytes} → i ≤ s.offset → Behind i (completes s cs f next left)

scanned_behind : {i : ℕ} {s : Scan} {cs : List RawCell} {f : FileState} {next : ℕ} {left : Bytes} → Behind i (completes s cs f next left) → i ≤ s.offset
scanned_behind (behind_completes h) = h

module _ (d : Dialect) (limit i : ℕ) where
  step_behind :
      (s : Scan) (b : ℕ) (bs : Bytes) → ((s : Scan) → i ≤ s.offset → Behind i (scan d limit s bs)) → i ≤ s.offset → (x : Step) →
      Behind i (scan_step s b bs (λ s'. scan d limit s' bs) x)
  unfolding scan_step
  step_behind s b bs ih l (Err e) = behind_fails l
  step_behind s b bs ih l (Ok (f, Outside)) = ih _ (omega arith)
  step_behind s b bs ih l (Ok (f, Passed)) = ih _ (omega arith)
  step_behind s b bs ih l (Ok (f, OfCell)) = ih _ (omega arith)
  step_behind s b bs ih l (Ok (f, (Between k))) = ih _ (omega arith)
  step_behind s b bs ih l (Ok (f, (Tail k))) = ih _ (omega arith)
  step_behind s b bs ih l (Ok (f, (Ends k))) = behind_completes l

  scan_behind : (bs : Bytes) (s : Scan) → i ≤ s.offset → Behind i (scan d limit s bs)
  unfolding scan
  scan_behind [] s l = behind_pends l
  scan_behind (b ∷ bs) s l =
      split (Behind i) _ (λ _. behind_fails l) λ _. split (Behind i) _ (λ _. behind_fails l) λ _. step_behind s b bs (scan_behind bs) l
      (file_step d s.state b)

-- ---- a complete record

within_done :
    {i limit : ℕ} {s : Scan} {cs : List RawCell} {f : FileState} {next : ℕ} {left : Bytes} → WithinTo i limit (completes s cs f next left) →
    (suc s.offset ≤ limit) × (i + length cs ≤ suc s.offset) × (s.start ≤ s.offset)
within_done (within_completes z l c) = (l, c, z.started)

module _ (d : Dialect) (piece : Bytes) (n i : ℕ) (p : Place) (bytes ends out : List ℕ) (o : ℕ) (ready : StepReady piece n i p bytes ends out o) where
  pub under : n ≤ MAXFILE
  under = omega (arith, ready.at, ready.bounds.offset)

  abbrev pub here : ScanResult
  here = scan d (MAXFILE - n) (fresh p.state p.size i) (drop i piece)

  pub stands : ScanResultIn piece here
  stands =
      stretches d (MAXFILE - n) piece (fresh p.state p.size i)
      (record { raw = part_none piece i; forward = omega arith; within = ready.inside; cells = all_none })

  pub within : WithinTo i (MAXFILE - n) here
  within =
      let u : i ≤ MAXFILE - n = omega (arith, ready.at, ready.bounds.offset) in
      scan_within d i (MAXFILE - n) (fresh p.state p.size i) (drop i piece) (record { under = u; few = omega arith; started = omega arith })

  module _ (start cells : ℕ) (f : FileState) (next : ℕ) (a : CompletedAs here start cells f next) where
    pub in_piece : EndsIn piece a.s a.cs next a.left
    in_piece = ended_in (subst (ScanResultIn piece) a.came stands)

    bounded : (suc a.s.offset ≤ MAXFILE - n) × (i + length a.cs ≤ suc a.s.offset) × (a.s.start ≤ a.s.offset)
    bounded = within_done (subst (WithinTo i (MAXFILE - n)) a.came within)

    pub next_file : n + next ≤ MAXFILE
    next_file = omega (arith, bounded.0, in_piece.place, under)

    pub next_on : i < next
    next_on = omega (arith, bounded.1, in_piece.place, behind)
      where
        behind : i ≤ a.s.offset
        behind = scanned_behind (subst (Behind i) a.came (scan_behind d (MAXFILE - n) i (drop i piece) (fresh p.state p.size i) (omega arith)))

    pub cells_few : i + cells ≤ next
    cells_few = omega (arith, bounded.1, in_piece.place, a.count)

    pub start_in : start ≤ next
    start_in = omega (arith, bounded.2, in_piece.place, a.starts)

    module _ (starts stops starts' stops' : List ℕ) (es : starts' ≡ stored_from MAXCOLUMNS 0 (raw_starts (found_of here).cells) starts)
        (ee : stops' ≡ stored_from MAXCOLUMNS 0 (raw_ends (found_of here).cells) stops) (ls : MAXCOLUMNS ≤ length starts) (le : MAXCOLUMNS ≤ length stops) where
      shows : p.cells + cells ≤ MAXCOLUMNS → Shows piece starts' stops' 0 cells a.cs
      shows h =
          let e : (found_of here).cells ≡ a.cs = ap (λ (x : ScanResult). (found_of x).cells) a.came in
          lists_show cells starts stops starts' stops' (rw e at es) (rw e at ee) a.count (omega arith) ls le in_piece.stand

      pub cells_shown : p.cells + cells ≤ MAXCOLUMNS → raw_cells_at piece starts' stops' 0 cells ≡ a.cs
      cells_shown h = shown_are (shows h)

      pub lists_done : length starts' ≡ length starts → length stops' ≡ length stops → cells ≤ MAXFILE → Lists piece starts' stops' cells p bytes ends
      lists_done x y m =
          record {
            stand = λ h. shown_lie (shows h) (omega (arith, a.count)) (omega arith) (omega arith);
            room =
                λ h. rw (cells_shown h) (omega
                (arith, room_done d (MAXFILE - n) p ends ready.bounds i (drop i piece) a.s a.cs f next a.left a.came, ready.long_bytes));
            ordered = ready.bounds.ordered;
            long_bytes = ready.long_bytes;
            long_ends = ready.long_ends;
            few = (omega (arith, ready.bounds.cells, ready.bounds.offset), m);
          }

    -- the step
    module _ (t : Target) (cs : List RawCell) (bytes' ends' out' : List ℕ) (r : RecordResult)
        (c : RecordCompleted d t p cs (p.cells + cells) bytes ends o out bytes' ends' out' r) where
      pub fits_done : Fitting p o r
      fits_done = go c
        where
          by : {x : RecordResult} → r ≡ x → Fitting p o x → Fitting p o r
          by e h = subst (Fitting p o) (sym e) h

          ruling : CompleteSound d t p bytes' (take (p.cells + cells) ends') o out out' r → Fitting p o r
          ruling (not_encoded e w x) = by e tt
          ruling (ruled y) = finish_fits d t p (buffered_values d bytes' (take (p.cells + cells) ends')) o out out' r y

          go : RecordCompleted d t p cs (p.cells + cells) bytes ends o out bytes' ends' out' r → Fitting p o r
          go (too_many h e x) = by e tt
          go (from_buffered h x y z) = ruling z

      roomy : (end : ℕ) → r ≡ Ok end → end ≤ length out
      roomy end e = go c
        where
          not_refused : {A : Type 0} {x : Fault} → r ≡ Err (Refused x) → A
          not_refused z = let y : ◌≡◌ {A = ℕ} 0 1 = cc in absurd (omega arith)

          not_lost : {A : Type 0} → r ≡ Err Invalid → A
          not_lost z = let y : ◌≡◌ {A = ℕ} 0 1 = cc in absurd (omega arith)

          ruling : CompleteSound d t p bytes' (take (p.cells + cells) ends') o out out' r → end ≤ length out
          ruling (not_encoded z w x) = not_lost z
          ruling (ruled y) =
              finish_room (fault_at d t p (buffered_values d bytes' (take (p.cells + cells) ends')))
              (text_at t p (buffered_values d bytes' (take (p.cells + cells) ends'))) o out out' end (rw e at y)

          go : RecordCompleted d t p cs (p.cells + cells) bytes ends o out bytes' ends' out' r → end ≤ length out
          go (too_many h z x) = not_refused z
          go (from_buffered h x y z) = ruling z

      pub bounds_done : StepInBounds piece n i ends' out (step_after p n i start (p.cells + cells) f next o r)
      bounds_done = go r refl fits_done
        where
          go : (x : RecordResult) → r ≡ x → Fitting p o x → StepInBounds piece n i ends' out (step_after p n i start (p.cells + cells) f next o x)
          go (Ok end) e h =
              let z : 0 ≤ 0 = omega arith in
              let b : InBounds (place_after p (p.cells + cells) (end - o) f (n + next)) ends' =
              record {
                size = omega arith;
                fill = omega arith;
                offset = next_file;
                written = h.1;
                records = omega (arith, next_on, ready.bounds.records, ready.at);
                cells = omega arith;
                ordered = λ _. order_end z;
                between = λ _. (refl, refl);
              } in
              next_bounds b refl next_on in_piece.inside (roomy end e) (refl, refl)
          go (Err (Refused x)) e h = stopped_bounds
          go (Err Invalid) e h = nowhere_bounds

      -- the position of the reader there
      module _ (same_cs : p.cells + cells ≤ MAXCOLUMNS → cs ≡ a.cs) (done : List Rec) (k : Buffered) (hold : StateInvariant d t p bytes ends done k) where
        abbrev u : turning.Step
        u = record { d = d; t = t; p = p; done = done; k = k; n = n; i = i; piece = piece }

        counted : length (all_cells u a.cs) ≡ p.cells + cells
        counted =
            let x = length-append k.cells (map (joined_cell k (n + i)) (map (moved_cell n) a.cs)) in
            let y = length-map (map (moved_cell n) a.cs) (joined_cell k (n + i)) in
            let z = length-map a.cs (moved_cell n) in
            omega (arith, x, y, z, hold.cells, a.count)

        abbrev Then : RecordResult → Type 0
        Then x = StepSound d t piece i p done k o out bytes' ends' out' (step_after p n i start (p.cells + cells) f next o x)

        refused :
            (x : Fault) (ws : List Value) →
            SameCells ws (values_now u hold ready.at under ready.inside a.s a.cs f next a.left a.came) →
            fault_at d t p ws ≡ Err x → out' ≡ out → Then (Err (Refused x))
        refused x ws same q w =
            steps_stopped x (read_of d done (in_file u a.s))
            (faulty_reads u hold ready.at under ready.inside a.s a.cs f next a.left a.came ws same x q)
            refl
            (sym (faulty_reports u hold ready.at under ready.inside a.s a.cs f next a.left a.came ws same x q
            ∙ ap (λ (y : ℕ). report (number_of x) (p.records + 1) (column_of x) (start_from p n i y)) a.starts))
            w

        -- the record
        abbrev this : Rec
        this = record { start = (in_file u a.s).start; size = a.s.size; cells = map (value_of d) (all_cells u a.cs) }

        abbrev Spells : Type 0
        Spells = (file : Bytes) → Follows file piece i p k → EncodedInFile file bytes' 0 ends' this.cells

        written_on :
            (end : ℕ) (ws : List Value) → Spells →
            SameCells ws (values_now u hold ready.at under ready.inside a.s a.cs f next a.left a.came) → fault_at d t p ws ≡ Ok tt →
            length ws ≡ p.cells + cells →
            out' ≡ written out o (text_at t p ws) → end ≡ o + length (text_at t p ws) → Then (Ok end)
        written_on end ws spelt same q m w e =
            let text = text_here u hold ready.at under ready.inside a.s a.cs f next a.left a.came ws same q in
            let long : length (text_at t p ws) ≡ end - o = omega arith in
            let place : place_then u hold ready.at under ready.inside a.s a.cs f next a.left a.came ws same q ≡ place_after p
            (p.cells + cells) (end - o) f (n + next) =
            ap₂ (λ (x y : ℕ). place_after p x y f (n + next)) m long in
            steps_next this (buffered_none (n + next))
            (subst (λ (y : Place). read_from d (Some t) (going (read_at d p done k)) (drop i piece) ≡ read_from d (Some t)
            (going (read_at d y (done_then u hold ready.at under ready.inside a.s a.cs f next a.left a.came)
            (buffered_none (n + next)))) (drop next piece)) place
            (sound_reads u hold ready.at under ready.inside a.s a.cs f next a.left a.came ws same q))
            (subst (λ (y : Place). StateInvariant d t y bytes' ends'
            (done_then u hold ready.at under ready.inside a.s a.cs f next a.left a.came) (buffered_none (n + next))) place
            (sound_holds u hold ready.at under ready.inside a.s a.cs f next a.left a.came ws same q bytes' ends'))
            spelt
            (w ∙ ap (written out o) text)
            (e ∙ ap (λ (x : Bytes). o + length x) text)

        no_room :
            (ws : List Value) → SameCells ws (values_now u hold ready.at under ready.inside a.s a.cs f next a.left a.came) →
            fault_at d t p ws ≡ Ok tt → length out < o + length (text_at t p ws) → Then (Err Invalid)
        no_room ws same q l =
            let text = text_here u hold ready.at under ready.inside a.s a.cs f next a.left a.came ws same q in
            steps_nowhere this _ next
            (sound_reads u hold ready.at under ready.inside a.s a.cs f next a.left a.came ws same q)
            refl
            (rw text at l)

        finishing :
            (x : RecordResult) (ws : List Value) → Spells →
            SameCells ws (values_now u hold ready.at under ready.inside a.s a.cs f next a.left a.came) →
            length ws ≡ p.cells + cells → FinishSound (fault_at d t p ws) (text_at t p ws) o out out' x → Then x
        finishing (Ok end) ws spelt same m (is_written v l w e) = written_on end ws spelt same v m w e
        finishing (Err (Refused x)) ws spelt same m (is_refused v w) = refused x ws same v w
        finishing (Err Invalid) ws spelt same m (has_no_room v l w) = no_room ws same v l

        pub turns_done : StepSound d t piece i p done k o out bytes' ends' out' (step_after p n i start (p.cells + cells) f next o r)
        turns_done = go c
          where
            hand :
                p.cells + cells ≤ MAXCOLUMNS → bytes' ≡ written bytes p.fill (buffered_bytes cs) →
                ends' ≡ written ends p.cells (buffered_ends p.fill cs) →
                CurrentRecord bytes' (p.fill + length (buffered_bytes a.cs)) ends' (all_cells u a.cs) []
            hand h x y =
                let few : length k.cells ≤ MAXCOLUMNS = omega (arith, hold.cells) in
                let z =
                joined_hand k n i a.cs (current_of_lem (hold.shown few))
                (proceeds_on d (MAXFILE - n) p.state p.size n i (drop i piece) hold.opens a.s a.cs f next a.left a.came)
                (omega (arith, hold.cells, ready.long_ends)) in
                let x' : bytes' ≡ written bytes p.fill (buffered_bytes a.cs) =
                x ∙ ap (λ (l : List RawCell). written bytes p.fill (buffered_bytes l)) (same_cs h) in
                let y' : ends' ≡ written ends (length k.cells) (buffered_ends p.fill a.cs) =
                y ∙ ap₂ (λ (m : ℕ) (l : List RawCell). written ends m (buffered_ends p.fill l)) hold.cells (same_cs h) in
                rw (x', y') z

            ruling :
                p.cells + cells ≤ MAXCOLUMNS → CurrentRecord bytes' (p.fill + length (buffered_bytes a.cs)) ends' (all_cells u a.cs) [] →
                CompleteSound d t p bytes' (take (p.cells + cells) ends') o out out' r → Then r
            ruling h z (not_encoded e w x) =
                absurd (w (rw counted at (kept_followed z d
                (complete_whole u hold ready.at under ready.inside a.s a.cs f next a.left a.came))))
            ruling h z (ruled y) =
                let same : SameCells (buffered_values d bytes' (take (p.cells + cells) ends')) (map (value_of d) (all_cells u a.cs)) =
                rw counted at (kept_same z d) in
                let spelt : Spells =
                λ file g. encoded_buffered z d file
                (complete_stands u hold ready.at under ready.inside a.s a.cs f next a.left a.came file g) in
                finishing r (buffered_values d bytes' (take (p.cells + cells) ends')) spelt same
                (same_length same ∙ length-map (all_cells u a.cs) (value_of d) ∙ counted) y

            go : RecordCompleted d t p cs (p.cells + cells) bytes ends o out bytes' ends' out' r → Then r
            go (too_many h e x) =
                let ws : List Value = map (value_of d) (all_cells u a.cs) in
                let m : length ws ≡ p.cells + cells = length-map (all_cells u a.cs) (value_of d) ∙ counted in
                subst Then (sym e) (refused TooManyColumns ws (same_self ws) (too_many_fault d t p ws (omega arith)) x)
            go (from_buffered h x y z) = ruling h (hand h x y) z

  -- ---- a fault at a byte

  module _ (y : Fault) (q : ℕ) (a : FailedAs here y q) where
    pub failed_file : n + q ≤ MAXFILE
    failed_file = go (subst (WithinTo i (MAXFILE - n)) a.came within)
      where
        go : WithinTo i (MAXFILE - n) (fails y a.s) → n + q ≤ MAXFILE
        go (within_fails z) = omega (arith, z.under, a.place, under)

    pub turns_failed :
        (t : Target) (bytes' ends' : List ℕ) (done : List Rec) (k : Buffered) → StateInvariant d t p bytes ends done k →
        StepSound d t piece i p done k o out bytes' ends' out (Failed (report (number_of y) (p.records + 1) (column_of y) (n + q)))
    turns_failed t bytes' ends' done k hold =
        let u : turning.Step = record { d = d; t = t; p = p; done = done; k = k; n = n; i = i; piece = piece } in
        steps_stopped y (read_of d done (in_file u a.s)) (fail_reads u hold ready.at under ready.inside y a.s a.came) refl
        (sym (fail_reports u hold ready.at under ready.inside y a.s a.came
        ∙ ap (λ (x : ℕ). report (number_of y) (p.records + 1) (column_of y) (n + x)) a.place))
        refl

  -- ---- the piece ends

  module _ (f : FileState) (h : RecordState) (a : PendingAs here f h) where
    abbrev s : Scan
    s = a.s

    all_read : PendsIn piece s
    all_read = pending_in (subst (ScanResultIn piece) a.came stands)

    within_all : Within i (MAXFILE - n) s
    within_all = go (subst (WithinTo i (MAXFILE - n)) a.came within)
      where
        go : WithinTo i (MAXFILE - n) (pends s) → Within i (MAXFILE - n) s
        go (within_pends z) = z

    cells_are : h.cells ≡ length s.cells
    cells_are = sym (ap (λ (x : RecordState). x.cells) a.hand)

    opened_is : h.opened ≡ s.opened
    opened_is = sym (ap (λ (x : RecordState). x.opened) a.hand)

    size_is : h.size ≡ s.size
    size_is = sym (ap (λ (x : RecordState). x.size) a.hand)

    raw_is : s.raw ≡ drop h.opened piece
    raw_is =
        let e : s.raw ≡ take (s.offset - s.opened) (drop s.opened piece) = all_read.stand.raw in
        let l : length (drop s.opened piece) ≤ s.offset - s.opened = omega (arith, length-drop s.opened piece, all_read.place) in
        e ∙ take_all (s.offset - s.opened) (drop s.opened piece) l ∙ ap (λ (x : ℕ). drop x piece) (sym opened_is)

    room : (p.fill + (length (buffered_bytes s.cells) + length s.raw) ≤ s.size) × (s.size ≤ MAXRECORD)
    room = room_pended d (MAXFILE - n) p ends ready.bounds i (drop i piece) s a.came

    module _ (starts stops starts' stops' : List ℕ) (es : starts' ≡ stored_from MAXCOLUMNS 0 (raw_starts (found_of here).cells) starts)
        (ee : stops' ≡ stored_from MAXCOLUMNS 0 (raw_ends (found_of here).cells) stops) (ls : MAXCOLUMNS ≤ length starts) (le : MAXCOLUMNS ≤ length stops) where
      shows_yet : p.cells + h.cells ≤ MAXCOLUMNS → Shows piece starts' stops' 0 h.cells s.cells
      shows_yet m =
          let e : (found_of here).cells ≡ s.cells = ap (λ (x : ScanResult). (found_of x).cells) a.came in
          lists_show h.cells starts stops starts' stops' (rw e at es) (rw e at ee) (sym cells_are) (omega arith) ls le all_read.stand.cells

      pub cells_yet : p.cells + h.cells ≤ MAXCOLUMNS → raw_cells_at piece starts' stops' 0 h.cells ≡ s.cells
      cells_yet m = shown_are (shows_yet m)

      pub lists_pended : length starts' ≡ length starts → length stops' ≡ length stops → Lists piece starts' stops' h.cells p bytes ends
      lists_pended x y =
          record {
            stand = λ m. shown_lie (shows_yet m) (omega (arith, cells_are)) (omega arith) (omega arith);
            room = λ m. rw (cells_yet m) (omega (arith, room.0, room.1, ready.long_bytes));
            ordered = ready.bounds.ordered;
            long_bytes = ready.long_bytes;
            long_ends = ready.long_ends;
            few = (omega (arith, ready.bounds.cells, ready.bounds.offset), omega (arith, cells_are, within_all.few, within_all.under));
          }

      pub room_open :
          p.cells + h.cells ≤ MAXCOLUMNS →
          p.fill + length (buffered_bytes (raw_cells_at piece starts' stops' 0 h.cells)) + length piece ≤ length bytes + h.opened
      room_open m =
          rw (cells_yet m) (omega (arith, room.0, room.1, ready.long_bytes, ap length raw_is, length-drop h.opened piece))

    pub end_file : n + length piece ≤ MAXFILE
    end_file = omega (arith, within_all.under, all_read.place, under)

    pub start_yet : h.start ≤ length piece
    start_yet = omega (arith, within_all.started, all_read.place, ap (λ (x : RecordState). x.start) a.hand)

    pub opened_yet : h.opened ≤ length piece
    opened_yet = omega (arith, opened_is, all_read.stand.forward, all_read.place)

    place_is : (fill : ℕ) → place_pending p n i fill s ≡ place_at_piece_end p n i (length piece) f h fill
    place_is fill = place_same p n i fill s (length piece) f h all_read.place a.state a.hand

    module _ (cs : List RawCell) (bytes' ends' : List ℕ) (r : Place)
        (c : RecordBuffered p n i f h piece cs (p.cells + h.cells) bytes ends bytes' ends' r)
        (same_cs : p.cells + h.cells ≤ MAXCOLUMNS → cs ≡ s.cells) where
      -- outside records nothing is buffered
      none_kept : in_record f ≡ false → (in_record p.state ≡ false) × (s.cells ≡ []) × (s.raw ≡ [])
      none_kept out = none_pended d (MAXFILE - n) p ends ready.bounds i (drop i piece) s a.came (rw a.state out)

      bounds_of :
          (fill : ℕ) → fill ≤ s.size → (p.cells + h.cells ≤ MAXCOLUMNS → InOrder 0 (take (p.cells + h.cells) ends') fill) →
          (in_record f ≡ false → fill ≡ 0) → InBounds (place_at_piece_end p n i (length piece) f h fill) ends'
      bounds_of fill l ordered none =
          record {
            size = omega (arith, size_is, room.1);
            fill = omega (arith, size_is);
            offset = end_file;
            written = ready.bounds.written;
            records = omega (arith, ready.bounds.records, ready.at, ready.inside);
            cells = omega (arith, ready.bounds.cells, ready.at, cells_are, within_all.few, all_read.place);
            ordered = ordered;
            between = λ out.
                let z = none_kept out in
                (none out, omega (arith, (ready.bounds.between z.0).1, cells_are, ap length z.1));
          }

      pub bounds_pended : StepInBounds piece n i ends' out (NeedInput r)
      bounds_pended = go c
        where
          by : {x : Place} → r ≡ x → InBounds x ends' → StepInBounds piece n i ends' out (NeedInput r)
          by e z = pending_bounds (subst (λ (x : Place). InBounds x ends') (sym e) z)

          go : RecordBuffered p n i f h piece cs (p.cells + h.cells) bytes ends bytes' ends' r → StepInBounds piece n i ends' out (NeedInput r)
          go (too_many_yet m e) =
              by e (bounds_of p.fill (omega (arith, room.0)) (λ x. absurd (omega arith)) (λ out. (ready.bounds.between (none_kept out).0).0))
          go (buffered_on m x y e) =
              let cs_is : cs ≡ s.cells = same_cs m in
              let kept : length (buffered_bytes cs) ≡ length (buffered_bytes s.cells) = ap (λ (l : List RawCell). length (buffered_bytes l)) cs_is in
              let raw : length (drop h.opened piece) ≡ length s.raw = ap length (sym raw_is) in
              let count : p.cells + length cs ≡ p.cells + h.cells = omega (arith, ap length cs_is, cells_are) in
              let ordered =
              order_then ends ends' p.fill p.cells cs (p.cells + h.cells) count (omega (arith, ready.long_ends)) y
              (ready.bounds.ordered (omega arith)) in
              by e (bounds_of (p.fill + length (buffered_bytes cs) + length (drop h.opened piece)) (omega (arith, room.0))
              (λ _. order_more ordered (omega arith)) (none_fill kept raw))
            where
              none_fill :
                  length (buffered_bytes cs) ≡ length (buffered_bytes s.cells) → length (drop h.opened piece) ≡ length s.raw →
                  in_record f ≡ false → p.fill + length (buffered_bytes cs) + length (drop h.opened piece) ≡ 0
              none_fill kept raw out =
                  let z = none_kept out in
                  omega (arith, (ready.bounds.between z.0).0, ap (λ (l : List RawCell). length (buffered_bytes l)) z.1 ∙ none_bytes, ap length z.2)

      module _ (t : Target) (done : List Rec) (k : Buffered) (hold : StateInvariant d t p bytes ends done k) where
        abbrev v : turning.Step
        v = record { d = d; t = t; p = p; done = done; k = k; n = n; i = i; piece = piece }

        abbrev k' : Buffered
        k' = buffered_of (in_file v s)

        counted_yet : length (all_cells v s.cells) ≡ p.cells + h.cells
        counted_yet =
            let x = length-append k.cells (map (joined_cell k (n + i)) (map (moved_cell n) s.cells)) in
            let y = length-map (map (moved_cell n) s.cells) (joined_cell k (n + i)) in
            let z = length-map s.cells (moved_cell n) in
            omega (arith, x, y, z, hold.cells, cells_are)

        by :
            (fill : ℕ) → r ≡ place_at_piece_end p n i (length piece) f h fill →
            (length (all_cells v s.cells) ≤ MAXCOLUMNS → Shown (place_pending p n i fill s) k' bytes' ends') →
            StepSound d t piece i p done k o out bytes' ends' out (NeedInput r)
        by fill e shown =
            let same : place_pending p n i fill s ≡ r = place_is fill ∙ sym e in
            steps_pending k'
            (subst (λ (x : Place). read_from d (Some t) (going (read_at d p done k)) (drop i piece) ≡ going (read_at d x done k')) same
            (pend_reads v hold ready.at under ready.inside s a.came fill))
            (subst (λ (x : Place). StateInvariant d t x bytes' ends' done k') same
            (pend_holds v hold ready.at under ready.inside s a.came fill bytes' ends' shown))
            (subst (λ (x : Place). (file : Bytes) → Follows file piece i p k → ScanIn file (scan_at x k')) same
            (pend_stands v hold ready.at under ready.inside s a.came))
            refl

        pub turns_pended_on :
            RecordBuffered p n i f h piece cs (p.cells + h.cells) bytes ends bytes' ends' r →
            StepSound d t piece i p done k o out bytes' ends' out (NeedInput r)
        turns_pended_on (too_many_yet m e) = by p.fill e (λ x. absurd (omega (arith, counted_yet)))
        turns_pended_on (buffered_on m x y e) =
            let cs_is : cs ≡ s.cells = same_cs m in
            let few : length k.cells ≤ MAXCOLUMNS = omega (arith, hold.cells) in
            let z =
            hand_then k (current_of_lem (hold.shown few)) (omega (arith, hold.cells, ready.long_ends)) n i s d (MAXFILE - n) p.state p.size
            (drop i piece) hold.opens a.came in
            let x' : bytes' ≡ written (written bytes p.fill (buffered_bytes s.cells)) (p.fill + length (buffered_bytes s.cells)) s.raw =
            x ∙ ap₂ (λ (l : List RawCell) (w : Bytes). written (written bytes p.fill (buffered_bytes l)) (p.fill + length (buffered_bytes l)) w)
            cs_is (sym raw_is) in
            let y' : ends' ≡ written ends (length k.cells) (buffered_ends p.fill s.cells) =
            y ∙ ap₂ (λ (m : ℕ) (l : List RawCell). written ends m (buffered_ends p.fill l)) hold.cells cs_is in
            let fill : p.fill + length (buffered_bytes cs) + length (drop h.opened piece) ≡ p.fill + length (buffered_bytes s.cells) + length s.raw =
            ap₂ (λ (l : List RawCell) (w : Bytes). p.fill + length (buffered_bytes l) + length w) cs_is (sym raw_is) in
            let hand : CurrentRecord bytes' (p.fill + length (buffered_bytes s.cells) + length s.raw) ends' k'.cells k'.raw = rw (x', y') z in
            by (p.fill + length (buffered_bytes cs) + length (drop h.opened piece)) e
            (λ _. shown_of (place_pending p n i (p.fill + length (buffered_bytes cs) + length (drop h.opened piece)) s) k' hand fill)
