-- The next record of a whole file is the result of scanning its bytes, and then of the file's end.
use Prim.Native.Nat.{ℕ, suc, ◌+◌, ◌≤◌}
use native.Mathlib.Numerals.{add-one}
use native.Mathlib.Omega.{arith}
use mathlib.Core.Path.{◌≡◌, refl, sym, ap, subst, ◌∙◌}
use mathlib.Core.Bool.{Bool, true, false, ◌&&◌}
use Rattle.std.specs.Prelude.{None, Ok, Err}
use mathlib.Core.List.{List, [], ◌∷◌, map}
use lib.ListN.{length, drop, length-append, length-map}
use lib.Dec.{leb}
use Rattle.model.specs.rules.Base.{choose◌then◌else◌, Bytes}
use Rattle.model.specs.rules.Cell.{is_whole}
use Rattle.model.specs.rules.Decode.{kind_number, kind_of}
use Rattle.model.specs.rules.File.{file_step, file_end, last_cell, counts}
use Rattle.model.specs.rules.Text.{Value}
use Rattle.model.specs.rules.Report.{MAXFILE, MAXRECORD}
use Rattle.model.specs.rules.Records.{between_records, closing, file_full, record_full}
use Rattle.model.specs.rules.Api.{starts_of, ends_of, kinds_of, slice}
use Rattle.model.specs.laws.Laws.{all_none}
use Rattle.model.specs.laws.Scans.{RawCell, Scan, ScanResult, pends, fails, completes, closing_raw, scan_step, scan, value_of, read_of, in_record, fresh}
use Rattle.model.specs.laws.Places.{ScanIn, ScanResultIn, pends_in, fails_in, completes_in}
use Rattle.model.proofs.piece_laws.ScanLaws.{values_closing}
use Rattle.model.proofs.piece_laws.PlaceLaws.{stretches}
use Rattle.cell_scanner.proofs.Runs.{part_end}
use Rattle.model.specs.declared.Dialect.{Dialect}
use Rattle.model.specs.declared.Dialect.TheVariants.{Csvj, Tdif, CsvPlus}
use Rattle.model.specs.declared.Cell.{Cell}
use Rattle.model.specs.declared.FileState.{FileState}
use Rattle.model.specs.declared.FileState.TheVariants.{Top, Begin, Ended, Bom1, Bom2, PlainBom1, PlainBom2, Comment, Blanks, ExpectCell, Inside, After, Cr}
use Rattle.model.specs.declared.ByteRole.TheVariants.{Outside, Passed, OfCell, Between, Tail, Ends}
use Rattle.model.specs.rules.Types.{Step}
use Rattle.model.specs.declared.Ending.{Ending}
use Rattle.model.specs.declared.Ending.TheVariants.{Clean, Final, Cut}
use Rattle.model.specs.declared.Fault.{Fault}
use Rattle.model.specs.declared.Fault.TheVariants.{CutShort, FileTooLong, RecordTooLong}
use Rattle.record_scanner.specs.declared.record_state.RecordState.{RecordState}
use Rattle.record_scanner.specs.declared.token.ScanOutcome.{ScanOutcome}
use Rattle.file_cursor.specs.Types.{FileScan, Completed, LastRecord, Failed, End}
use Rattle.record_scanner.specs.declared.token.ScanOutcome.TheVariants as reached
use Rattle.file_cursor.specs.Next.{Next, failed, completed, ended, stepped, next_record, EventInBounds}
use Rattle.record_scanner.specs.Parts.{current_of, found_of, raw_starts, raw_ends, raw_kinds, CurrentInBounds, ScanInBounds}
use Rattle.file_cursor.specs.Ends.{is_final, end_event}
use Rattle.record_scanner.specs.Stored.{store_if, stored_from}
use Rattle.record_scanner.proofs.ScanInvariant.{cell_here, closing_written}

-- ---- by scanning

module _ (d : Dialect) where
  -- the result of scanning a file as its next record: where its bytes end, so does the file
  abbrev pub next_of : ScanResult → Next
  next_of (pends s) = ended d (read_of d [] s) (file_end d s.state)
  next_of (fails e s) = failed e (read_of d [] s)
  next_of (completes s cs f next left) = completed (read_of d [] s) (map (value_of d) cs) f next

  abbrev Comes : Bytes → Type 0
  Comes bs = (s : Scan) → next_record d (read_of d [] s) bs ≡ next_of (scan d MAXFILE s bs)

  step_comes :
      (s : Scan) (b : ℕ) (bs : Bytes) → Comes bs → (x : Step) →
      stepped d (read_of d [] s) b (λ r. next_record d r bs) x ≡ next_of (scan_step s b bs (λ s'. scan d MAXFILE s' bs) x)
  unfolding stepped scan_step choose◌then◌else◌
  step_comes s b bs ih (Err e) = refl
  step_comes s b bs ih (Ok (f, Outside)) = rw (add-one s.offset) (ih _)
  step_comes s b bs ih (Ok (f, Passed)) = rw (add-one s.offset) (ih _)
  step_comes s b bs ih (Ok (f, OfCell)) = rw (add-one s.offset, add-one s.size) (ih _)
  step_comes s b bs ih (Ok (f, Between k)) = rw (add-one s.offset, add-one s.size, values_closing d None [] k s) (ih _)
  step_comes s b bs ih (Ok (f, Tail k)) = rw (add-one s.offset, values_closing d None [] k s) (ih _)
  step_comes s b bs ih (Ok (f, Ends k)) = rw (add-one s.offset, values_closing d None [] k s)

  choose_comes :
      (s : Scan) (b : ℕ) (bs : Bytes) → Comes bs → (u v : Bool) (x : Step) →
      (choose u then failed FileTooLong (read_of d [] s)
      else choose v then failed RecordTooLong (read_of d [] s) else stepped d (read_of d [] s) b (λ r. next_record d r bs) x)
      ≡ next_of (choose u then fails FileTooLong s else choose v then fails RecordTooLong s else scan_step s b bs (λ s'. scan d MAXFILE s' bs) x)
  unfolding choose◌then◌else◌
  choose_comes s b bs ih true v x = refl
  choose_comes s b bs ih false true x = refl
  choose_comes s b bs ih false false x = step_comes s b bs ih x

  -- the next record of a file is found by scanning its bytes
  pub next_scans : (bs : Bytes) → Comes bs
  unfolding next_record file_full record_full scan
  next_scans [] s = refl
  next_scans (b ∷ bs) s =
      choose_comes s b bs (next_scans bs) (leb MAXFILE s.offset) (leb MAXRECORD s.size && counts s.state b)
      (file_step d s.state b)

-- ---- a file ends between records where there is no current record

last_unclean : {A : Type 0} (d : Dialect) (c : Cell) → last_cell d c ≡ Clean → A
last_unclean Csvj c e = let z : ◌≡◌ {A = ℕ} 0 1 = cc in absurd (omega arith)
last_unclean Tdif c e = let z : ◌≡◌ {A = ℕ} 0 1 = cc in absurd (omega arith)
last_unclean (CsvPlus s) c e = go (is_whole (CsvPlus s) c) e
  where
    go : {A : Type 0} (t : Bool) → (choose t then Final else Cut) ≡ Clean → A
    go true q = let k : Final ≡ Clean = unfold choose◌then◌else◌ in q in let z : ◌≡◌ {A = ℕ} 0 1 = cc in absurd (omega arith)
    go false q = let k : Cut ≡ Clean = unfold choose◌then◌else◌ in q in let z : ◌≡◌ {A = ℕ} 0 1 = cc in absurd (omega arith)

cut_unclean : {A : Type 0} → Cut ≡ Clean → A
cut_unclean e = let z : ◌≡◌ {A = ℕ} 0 1 = cc in absurd (omega arith)

pub clean_between : (d : Dialect) (f : FileState) → file_end d f ≡ Clean → in_record f ≡ false
unfolding file_end
clean_between d Top e = refl
clean_between d Begin e = refl
clean_between d Ended e = refl
clean_between d Bom1 e = refl
clean_between d Bom2 e = refl
clean_between d PlainBom1 e = cut_unclean e
clean_between d PlainBom2 e = cut_unclean e
clean_between d (Comment c) e = refl
clean_between d Blanks e = refl
clean_between d ExpectCell e = cut_unclean e
clean_between d (Inside c) e = last_unclean d c e
clean_between d After e = cut_unclean e
clean_between d Cr e = cut_unclean e

-- ---- the end of the file, over the numbers of the current record

module _ (d : Dialect) where
  -- the event of a file of n bytes, of which this was reached
  abbrev event_of : (n : ℕ) → ScanOutcome → FileScan
  event_of n (reached.Completed start cells f next) = Completed start cells f next
  event_of n (reached.NeedInput f h) = end_event (file_end d f) h n
  event_of n (reached.Failed e offset) = Failed e offset

  -- a list in which the last cell of a last record is stored, as this number
  abbrev last_put : (room base : ℕ) → (RecordState → ℕ) → ScanOutcome → List ℕ → List ℕ
  last_put room base number (reached.Completed start cells f next) xs = xs
  last_put room base number (reached.NeedInput f h) xs = store_if (is_final (file_end d f)) room (base + h.cells) (number h) xs
  last_put room base number (reached.Failed e offset) xs = xs

  values_long : (cs : List RawCell) → length (map (value_of d) cs) ≡ length cs
  values_long cs = length-map cs (value_of d)

  closing_long : (s : Scan) → length (closing d true (read_of d [] s)) ≡ length s.cells + 1
  closing_long s =
      ap length (values_closing d None [] true s) ∙ values_long (closing_raw true s)
      ∙ length-append s.cells (cell_here s ∷ [])

  end_event_lem : (s : Scan) (n : ℕ) (x : Ending) → s.offset ≡ n → (ended d (read_of d [] s) x).event ≡ end_event x (current_of s) n
  end_event_lem s n Clean e = ap End e
  end_event_lem s n Final e = ap (LastRecord s.start) (closing_long s)
  end_event_lem s n Cut e = ap (Failed CutShort) e

  same_event : {bytes : Bytes} {w : ScanResult} → ScanResultIn bytes w → (next_of d w).event ≡ event_of (length bytes) (found_of w).answer
  same_event {bytes = bytes} (pends_in {s = s} i e) = end_event_lem s (length bytes) (file_end d s.state) e
  same_event (fails_in i) = refl
  same_event (completes_in {s = s} {cs = cs} {f = f} i j l m) = ap (λ n. Completed s.start n f (suc s.offset)) (values_long cs)

  of_values : (φ : Value → ℕ) (cs : List RawCell) → map φ (map (value_of d) cs) ≡ map (λ c. φ (value_of d c)) cs
  of_values φ [] = refl
  of_values φ (c ∷ cs) = ap (λ xs. φ (value_of d c) ∷ xs) (of_values φ cs)

  module _ (φ : Value → ℕ) (room base : ℕ) (old : List ℕ) where
    abbrev At : List RawCell → List ℕ
    At cs = stored_from room base (map (λ c. φ (value_of d c)) cs) old

    none_left : (s : Scan) → length s.cells ≡ 0 → s.cells ≡ []
    none_left s e = go s.cells e
      where
        go : (cs : List RawCell) → length cs ≡ 0 → cs ≡ []
        go [] q = refl
        go (c ∷ cs) q = absurd (omega arith)

    end_stored :
        (s : Scan) (x : Ending) → (x ≡ Clean → length s.cells ≡ 0) →
        stored_from room base (map φ (ended d (read_of d [] s) x).cells) old
        ≡ store_if (is_final x) room (base + length s.cells) (φ (value_of d (cell_here s))) (At s.cells)
    unfolding store_if choose◌then◌else◌
    end_stored s Clean e = ap At (sym (none_left s (e refl)))
    end_stored s Final e =
        ap (λ vs. stored_from room base (map φ vs) old) (values_closing d None [] true s)
        ∙ ap (λ xs. stored_from room base xs old) (of_values φ (closing_raw true s))
        ∙ sym (closing_written (λ c. φ (value_of d c)) room base (length s.cells) old true s refl)
    end_stored s Cut e = ap (λ xs. stored_from room base xs old) (of_values φ s.cells)

    same_stored :
        (from limit : ℕ) {bytes : Bytes} {w : ScanResult} (number : RecordState → ℕ) →
        ((s : Scan) → ScanIn bytes s → s.offset ≡ length bytes → number (current_of s) ≡ φ (value_of d (cell_here s))) →
        ScanResultIn bytes w → ScanInBounds (length bytes) from limit base (found_of w).answer →
        stored_from room base (map φ (next_of d w).cells) old ≡ last_put room base number (found_of w).answer (At (found_of w).cells)
    same_stored from limit number same (pends_in {s = s} i e) b =
        end_stored s (file_end d s.state) (λ q. b.between (clean_between d s.state q))
        ∙ ap (λ x. store_if (is_final (file_end d s.state)) room (base + length s.cells) x (At s.cells)) (sym (same s i e))
    same_stored from limit number same (fails_in {s = s} i) b = ap (λ xs. stored_from room base xs old) (of_values φ s.cells)
    same_stored from limit number same (completes_in {cs = cs} i j l m) b = ap (λ xs. stored_from room base xs old) (of_values φ cs)

  event_bounds : (n from base : ℕ) (r : ScanOutcome) → ScanInBounds n from MAXFILE base r → EventInBounds n from base (event_of n r)
  event_bounds n from base (reached.Completed start cells f next) b = (b.1, b.2, b.3, b.4)
  event_bounds n from base (reached.Failed e offset) b = tt
  event_bounds n from base (reached.NeedInput f h) b = go (file_end d f)
    where
      go : (x : Ending) → EventInBounds n from base (end_event x h n)
      go Clean = tt
      go Final =
          let u : n ≤ MAXFILE = b.under in
          let m : base + h.cells ≤ n = b.few in
          (u, omega arith)
      go Cut = tt

-- ---- what the code finds

module _ (d : Dialect) (file : Bytes) (first : FileState) (from room base : ℕ) (starts₀ ends₀ kinds₀ : List ℕ) where
  abbrev Whole : Next
  Whole = next_record d (between_records [] first from) (drop from file)

  abbrev Scanned : ScanResult
  Scanned = scan d MAXFILE (fresh first 0 from) (drop from file)

  -- the event, how far it lies, and the lists with the cells that go with it
  pub record Out (e : FileScan) (starts ends kinds : List ℕ) : Type 0 where
    pub event : e ≡ Whole.event
    pub at_starts : starts ≡ stored_from room base (starts_of Whole.cells) starts₀
    pub at_ends : ends ≡ stored_from room base (ends_of Whole.cells) ends₀
    pub at_kinds : kinds ≡ stored_from room base (kinds_of Whole.cells) kinds₀
    pub bounds : EventInBounds (length file) from base e

  -- the lists with the last cell of a last record
  abbrev starts_put : ScanOutcome → List ℕ → List ℕ
  starts_put r xs = last_put d room base (λ h. h.opened) r xs

  abbrev ends_put : ScanOutcome → List ℕ → List ℕ
  ends_put r xs = last_put d room base (λ h. length file) r xs

  abbrev kinds_put : ScanOutcome → List ℕ → List ℕ
  kinds_put r xs = last_put d room base (λ h. kind_number (kind_of d (slice file h.opened (length file)))) r xs

  whole : Whole ≡ next_of d Scanned
  whole = next_scans d (drop from file) (fresh first 0 from)

  within : from ≤ length file → ScanResultIn file Scanned
  within l = stretches d MAXFILE file (fresh first 0 from) (record { raw = sym (part_end file from); forward = omega arith; within = l; cells = all_none })

  list_put :
      (φ : Value → ℕ) (number : RecordState → ℕ) →
      ((s : Scan) → ScanIn file s → s.offset ≡ length file → number (current_of s) ≡ φ (value_of d (cell_here s))) → from ≤ length file →
      ScanInBounds (length file) from MAXFILE base (found_of Scanned).answer → (old xs : List ℕ) →
      xs ≡ stored_from room base (map (λ c. φ (value_of d c)) (found_of Scanned).cells) old →
      last_put d room base number (found_of Scanned).answer xs ≡ stored_from room base (map φ Whole.cells) old
  list_put φ number same l b old xs e =
      ap (λ ys. last_put d room base number (found_of Scanned).answer ys) e
      ∙ sym (same_stored d φ room base old from MAXFILE number same (within l) b)
      ∙ ap (λ (x : Next). stored_from room base (map φ x.cells) old) (sym whole)

  kind_same :
      (s : Scan) → ScanIn file s → s.offset ≡ length file →
      kind_number (kind_of d (slice file s.opened (length file))) ≡ kind_number (kind_of d s.raw)
  kind_same s i e = ap (λ x. kind_number (kind_of d x)) (ap (λ n. slice file s.opened n) (sym e) ∙ sym i.raw)

  -- what going over the file says
  abbrev Went : (r : ScanOutcome) (starts ends kinds : List ℕ) → Type 0
  Went r starts ends kinds =
      (r ≡ (found_of Scanned).answer)
      × ((starts ≡ stored_from room base (raw_starts (found_of Scanned).cells) starts₀)
      × ((ends ≡ stored_from room base (raw_ends (found_of Scanned).cells) ends₀)
      × ((kinds ≡ stored_from room base (raw_kinds d (found_of Scanned).cells) kinds₀) × ScanInBounds (length file) from MAXFILE base r)))

  module _ (l : from ≤ length file) (r : ScanOutcome) (starts ends kinds : List ℕ) (q : Went r starts ends kinds) where
    abbrev Comes-to : ScanOutcome → Type 0
    Comes-to x = Out (event_of d (length file) x) (starts_put x starts) (ends_put x ends) (kinds_put x kinds)

    found : Comes-to r
    found =
        let b : ScanInBounds (length file) from MAXFILE base (found_of Scanned).answer
        = subst (λ x. ScanInBounds (length file) from MAXFILE base x) q.0 q.1.1.1.1 in
        subst Comes-to (sym q.0)
        (record {
          event = sym (ap (λ (x : Next). x.event) whole ∙ same_event d (within l));
          at_starts = list_put (λ v. v.from) (λ h. h.opened) (λ s i e. refl) l b starts₀ starts q.1.0;
          at_ends = list_put (λ v. v.upto) (λ h. length file) (λ s i e. sym e) l b ends₀ ends q.1.1.0;
          at_kinds =
              list_put (λ v. kind_number v.kind) (λ h. kind_number (kind_of d (slice file h.opened (length file)))) kind_same l b kinds₀
              kinds q.1.1.1.0;
          bounds = event_bounds d (length file) from base (found_of Scanned).answer b;
        })

    pub at_record :
        (start cells : ℕ) (f : FileState) (next : ℕ) → r ≡ reached.Completed start cells f next →
        Out (Completed start cells f next) starts ends kinds
    at_record start cells f next m = subst Comes-to m found

    pub at_fault : (e : Fault) (offset : ℕ) → r ≡ reached.Failed e offset → Out (Failed e offset) starts ends kinds
    at_fault e offset m = subst Comes-to m found

    module _ (f : FileState) (h : RecordState) (m : r ≡ reached.NeedInput f h) where
      pub in_hand : CurrentInBounds (length file) MAXFILE base f h
      in_hand = subst (λ x. ScanInBounds (length file) from MAXFILE base x) m q.1.1.1.1

      pub at_end :
          (e : FileScan) (starts' ends' kinds' : List ℕ) →
          (e ≡ end_event (file_end d f) h (length file))
          × ((starts' ≡ starts_put (reached.NeedInput f h) starts)
          × ((ends' ≡ ends_put (reached.NeedInput f h) ends) × (kinds' ≡ kinds_put (reached.NeedInput f h) kinds))) →
          Out e starts' ends' kinds'
      at_end e starts' ends' kinds' p =
          let o : Out (end_event (file_end d f) h (length file)) (starts_put (reached.NeedInput f h) starts)
          (ends_put (reached.NeedInput f h) ends) (kinds_put (reached.NeedInput f h) kinds)
          = subst Comes-to m found in
          record {
            event = p.0 ∙ o.event;
            at_starts = p.1.0 ∙ o.at_starts;
            at_ends = p.1.1.0 ∙ o.at_ends;
            at_kinds = p.1.1.1 ∙ o.at_kinds;
            bounds = subst (λ x. EventInBounds (length file) from base x) (sym p.0) o.bounds;
          }
