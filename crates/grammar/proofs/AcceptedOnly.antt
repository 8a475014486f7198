-- A file that the reader accepts is read by form, within the limits and with records that pass the checks, and its records are those.
-- From a state in a record there is a record to come, and from a state in a cell the rest of that cell (`reads_line`, `reads_cell`).
use Prim.Native.Nat.{ℕ, suc, ◌≤◌, ◌<◌}
use native.Mathlib.Omega.{arith}
use mathlib.Core.Path.{◌≡◌, refl, sym, ap, ◌∙◌}
use mathlib.Core.Bool.{Bool, true, false, ◌&&◌}
use Rattle.std.specs.Prelude.{None}
use mathlib.Core.List.{List, [], ◌∷◌, ◌++◌, map, append_assoc, append-nil}
use lib.ListN.{length}
use lib.Dec.{leb}
use borrow.Author.Tests.{leb-false}
use Rattle.grammar.specs.rfc.Types.{Dialect, Csvj, Tdif, CsvPlus, Cell, Fault, FileState, Top, Begin, Ended, Bom1, Bom2, PlainBom1, PlainBom2}
use Rattle.grammar.specs.rfc.Types.{Comment, Blanks, ExpectCell, Inside, After, Cr, OfCell, Outside, Passed, Between, Tail, Ends, Step, Ok}
use Rattle.grammar.specs.rfc.Types.{Err, Ending, Clean, Final, Cut, CheckResult}
use Rattle.model.specs.rules.Base.{Bytes, choose◌then◌else◌}
use Rattle.model.specs.rules.Cell.{is_whole}
use Rattle.model.specs.rules.File.{file_step, file_end, last_cell, counts}
use Rattle.model.specs.rules.Text.{Value}
use Rattle.model.specs.rules.Report.{MAXFILE, MAXRECORD}
use Rattle.model.specs.rules.Records.{Rec, Read, going, stopped, between_records, closing, validated, complete, move, file_full, record_full}
use Rattle.model.specs.rules.Records.{record_fault, read_byte, read_from, end_between, end_at, read_end}
use Rattle.model.proofs.Tests.{split}
use Rattle.model.proofs.file_laws.ReadAppend.{read_stopped}
use Rattle.model.proofs.file_laws.FileSteps.{cell_counts, between_counts, its_transition}
use Rattle.grammar.specs.rfc.Derived.{Derived, Line, line, every_none, Each, each_none, each_cons}
use Rattle.grammar.specs.dialects.FormReads.{Reads, decoded, decoded_line}
use Rattle.grammar.specs.dialects.FormReads as reading
use Rattle.grammar.specs.Accepted.{ShowsCell, ShowsRecord}
use Rattle.grammar.proofs.StepStages.{Stage, at_rest, in_cell_lem, stage_of, Recording, record_open, cell_open, NoCell, outside_rests, passed_rests}
use Rattle.grammar.proofs.StepStages.{cell_stage, between_stage, tail_stage, ends_stage, between_no_cell, tail_no_cell, ends_no_cell}
use Rattle.grammar.proofs.RecordChecks.{LineSound, ChecksFrom, checks_none, checks_next, record_checked}
use Rattle.grammar.proofs.DerivationState.{each_snoc, length_snoc, joined, joined_rest, joined_of_cell, joined_between, joined_between_closing}
use Rattle.grammar.proofs.DerivationState.{joined_tail_closing, joined_ends, joined_ends_closing, Fit, fit_none, fit_line, rest_fit, Lies}
use Rattle.grammar.proofs.DerivationState.{closes_now, stands_reset, stands_more, Rested, rested, Parted, parted, recording_tidy, rest_tidy}
use Rattle.grammar.proofs.DerivationState as standing
use Rattle.grammar.specs.rfc.Types as types
use Rattle.grammar.proofs.DerivationState.{moved_outside, moved_passed, moved_between, moved_tail, moved_ends}
use Rattle.grammar.proofs.AcceptedIf.{Some, some}

-- ---- what is to come of a record and of a cell

data HasLine : List (Line Bytes) → Type 0 where
  has_line : {t : Bytes} {cs : List Bytes} {ls : List (Line Bytes)} → HasLine (line t cs ∷ ls)

pub data HasCell : List (Line Bytes) → Type 0 where
  has_cell : {t c : Bytes} {cs : List Bytes} {ls : List (Line Bytes)} → HasCell (line t (c ∷ cs) ∷ ls)

-- the file does not end cleanly inside a record
data EndsIn : Stage → Ending → Type 0 where
  clean_at_rest : EndsIn at_rest Clean
  final_anywhere : {g : Stage} → EndsIn g Final
  cut_anywhere : {g : Stage} → EndsIn g Cut

last_ends : (d : Dialect) (c : Cell) → EndsIn in_cell_lem (last_cell d c)
last_ends Csvj c = cut_anywhere
last_ends Tdif c = cut_anywhere
last_ends (CsvPlus s) c = split (EndsIn in_cell_lem) (is_whole (CsvPlus s) c) (λ _. final_anywhere) λ _. cut_anywhere

file_ends : (d : Dialect) (f : FileState) → EndsIn (stage_of d f) (file_end d f)
unfolding file_end
file_ends d Top = clean_at_rest
file_ends d Begin = clean_at_rest
file_ends d Ended = clean_at_rest
file_ends d Bom1 = cut_anywhere
file_ends d Bom2 = cut_anywhere
file_ends d PlainBom1 = cut_anywhere
file_ends d PlainBom2 = cut_anywhere
file_ends d (Comment c) = cut_anywhere
file_ends d Blanks = cut_anywhere
file_ends d ExpectCell = cut_anywhere
file_ends d (Inside c) = last_ends d c
file_ends d After = cut_anywhere
file_ends d Cr = cut_anywhere

not_clean : {A : Type 0} {g : Stage} → Recording g → EndsIn g Clean → A
not_clean record_open = elim [ ]
not_clean cell_open = elim [ ]

not_at_rest : {A : Type 0} → Recording at_rest → A
not_at_rest = elim [ ]

cell_at_rest : {A : Type 0} {g : Stage} → g ≡ in_cell_lem → g ≡ at_rest → A
cell_at_rest c e = not_at_rest (rw (sym e ∙ c) cell_open)

-- a cell is left only by closing it
cell_left : {A : Type 0} → NoCell in_cell_lem → A
cell_left = elim [ ]

module _ (d : Dialect) where
  reads_line : {f : FileState} {xs : Bytes} {ls : List (Line Bytes)} → Reads d f xs ls → Recording (stage_of d f) → HasLine ls
  reads_line (reading.ends_clean {f} e) g = not_clean g (rw e at (file_ends d f))
  reads_line (reading.ends_final e) g = has_line
  reads_line (reading.outside e k) g = not_at_rest (rw (outside_rests (its_transition e)).0 at g)
  reads_line (reading.passed e k) g = not_at_rest (rw (passed_rests (its_transition e)).0 at g)
  reads_line (reading.of_cell e k) g = has_line
  reads_line (reading.between e k) g = has_line
  reads_line (reading.between_closing e k) g = has_line
  reads_line (reading.tail e k) g = has_line
  reads_line (reading.tail_closing e k) g = has_line
  reads_line (reading.ends e k) g = has_line
  reads_line (reading.ends_closing e k) g = has_line

  pub reads_cell : {f : FileState} {xs : Bytes} {ls : List (Line Bytes)} → Reads d f xs ls → stage_of d f ≡ in_cell_lem → HasCell ls
  reads_cell (reading.ends_clean {f} e) g = not_clean (rw g cell_open) (rw e at (file_ends d f))
  reads_cell (reading.ends_final e) g = has_cell
  reads_cell (reading.outside e k) g = cell_at_rest g (outside_rests (its_transition e)).0
  reads_cell (reading.passed e k) g = cell_at_rest g (passed_rests (its_transition e)).0
  reads_cell (reading.of_cell e k) g = has_cell
  reads_cell (reading.between e k) g = cell_left (rw g at (between_no_cell (its_transition e)))
  reads_cell (reading.between_closing e k) g = has_cell
  reads_cell (reading.tail e k) g = cell_left (rw g at (tail_no_cell (its_transition e)))
  reads_cell (reading.tail_closing e k) g = has_cell
  reads_cell (reading.ends e k) g = cell_left (rw g at (ends_no_cell (its_transition e)))
  reads_cell (reading.ends_closing e k) g = has_cell

some_last : (pre : List (Line Derived)) (l : Line Derived) → Some (pre ++ (l ∷ []))
some_last [] l = some
some_last (x ∷ pre) l = some

-- ---- reading does not continue after a fault

pub not_going : {A : Type 0} (d : Dialect) (e : Fault) (r : Read) (xs : Bytes) {end : Read} → read_end d None (read_from d None (stopped e r) xs) ≡ going end → A
unfolding read_end
not_going d e r xs {end} q =
    let z : stopped e r ≡ going end = rw (read_stopped d None e r xs) at q in
    let o : ◌≡◌ {A = ℕ} 0 1 = cc in absurd (omega arith)

pub same_going : {r end : Read} → going r ≡ going end → r ≡ end
same_going e = cc

pub stopped_going : {A : Type 0} {e : Fault} {r end : Read} → stopped e r ≡ going end → A
stopped_going q = let o : ◌≡◌ {A = ℕ} 0 1 = cc in absurd (omega arith)

module _ (d : Dialect) (file : Bytes) (end : Read) where
  -- what is left is read by form, with these lines
  pub record Facts (r : Read) (xs : Bytes) (pre : List (Line Derived)) (text raw : Bytes) (cells : List Derived) (ls : List (Line Bytes)) : Type 0 where
    pub reads : Reads d r.state xs ls
    pub fit : Fit (length text) ls
    pub checks : ChecksFrom d pre (joined d text raw cells ls)
    pub shows : Each (ShowsRecord file) end.done (pre ++ joined d text raw cells ls)
    pub has_record : Some (pre ++ joined d text raw cells ls)
    pub limit : length file ≤ MAXFILE

  pub data Outcome (r : Read) (xs : Bytes) (pre : List (Line Derived)) (text raw : Bytes) (cells : List Derived) : Type 0 where
    outcome : (ls : List (Line Bytes)) → Facts r xs pre text raw cells ls → Outcome r xs pre text raw cells

  abbrev Comes : Bytes → Type 0
  Comes xs =
      (r : Read) (seen : Bytes) (pre : List (Line Derived)) (text raw : Bytes) (cells : List Derived) → Lies d file seen r pre text raw cells →
      file ≡ seen ++ xs → read_end d None (read_from d None (going r) xs) ≡ going end → Outcome r xs pre text raw cells

  module _ (b : ℕ) (bs : Bytes) (ih : Comes bs) (r : Read) (seen : Bytes) (pre : List (Line Derived))
      (room : suc (length seen) ≤ MAXFILE) (place : file ≡ seen ++ (b ∷ bs)) where
    further : file ≡ (seen ++ (b ∷ [])) ++ bs
    further = place ∙ sym (append_assoc seen (b ∷ []) bs)

    rest_comes :
        (h : FileState) (start : ℕ) {text raw : Bytes} {cells : List Derived} → Lies d file seen r pre text raw cells → Rested d h text raw cells →
        ((ls : List (Line Bytes)) → Reads d h bs ls → Reads d r.state (b ∷ bs) ls) →
        read_end d None (read_from d None (going (record {
          done = r.done;
          state = h;
          offset = suc r.offset;
          start = start;
          size = 0;
          opened = suc r.offset;
          raw = [];
          cells = [];
        })) bs) ≡ going end →
        Outcome r (b ∷ bs) pre text raw cells
    rest_comes h start s (rested g) k q =
        let next : Read
        = record {
          done = r.done;
          state = h;
          offset = suc r.offset;
          start = start;
          size = 0;
          opened = suc r.offset;
          raw = [];
          cells = [];
        } in
        go (ih next (seen ++ (b ∷ [])) pre [] [] [] (stands_reset s b next room refl refl refl refl (omega arith) s.done each_none (rest_tidy g)) further q)
      where
        go :
            Outcome (record {
              done = r.done;
              state = h;
              offset = suc r.offset;
              start = start;
              size = 0;
              opened = suc r.offset;
              raw = [];
              cells = [];
            }) bs pre [] [] [] → Outcome r (b ∷ bs) pre [] [] []
        go (outcome ls y) =
            outcome ls (record { reads = k ls y.reads; fit = y.fit; checks = y.checks; shows = y.shows; has_record = y.has_record; limit = y.limit })

    -- the same lines, from before the byte
    told :
        {n : Read} {text raw text' raw' : Bytes} {cells cells' : List Derived} {ls' : List (Line Bytes)} (ls : List (Line Bytes)) →
        Facts n bs pre text' raw' cells' ls' → Reads d r.state (b ∷ bs) ls → Fit (length text) ls →
        joined d text raw cells ls ≡ joined d text' raw' cells' ls' → Outcome r (b ∷ bs) pre text raw cells
    told ls y k f q =
        outcome ls
        (record { reads = k; fit = f; checks = rw q y.checks; shows = rw q y.shows; has_record = rw q y.has_record; limit = y.limit })

    longer :
        (text : Bytes) {t : Bytes} {cs cs' : List Bytes} {ls : List (Line Bytes)} → Fit (length (text ++ (b ∷ []))) (line t cs ∷ ls) →
        Fit (length text) (line (b ∷ t) cs' ∷ ls)
    longer text {t} (fit_line x m) = let l : length (text ++ (b ∷ [])) ≡ suc (length text) = length_snoc text b in fit_line {t = b ∷ t} (omega arith) m

    cell_comes :
        (h : FileState) {text raw : Bytes} {cells : List Derived} → Lies d file seen r pre text raw cells → file_step d r.state b ≡ Ok (h, OfCell) →
        stage_of d h ≡ in_cell_lem → length text < MAXRECORD →
        read_end d None (read_from d None (going (record {
          done = r.done;
          state = h;
          offset = suc r.offset;
          start = r.start;
          size = suc r.size;
          opened = r.opened;
          raw = r.raw ++ (b ∷ []);
          cells = r.cells;
        })) bs) ≡ going end →
        Outcome r (b ∷ bs) pre text raw cells
    cell_comes h {text} {raw} {cells} s e g f q =
        go (ih next (seen ++ (b ∷ [])) pre (text ++ (b ∷ [])) (raw ++ (b ∷ [])) cells (stands_more s b next room refl refl refl refl f refl refl g) further q)
      where
        next : Read
        next =
            record {
              done = r.done;
              state = h;
              offset = suc r.offset;
              start = r.start;
              size = suc r.size;
              opened = r.opened;
              raw = r.raw ++ (b ∷ []);
              cells = r.cells;
            }

        shaped : {ls : List (Line Bytes)} → HasCell ls → Facts next bs pre (text ++ (b ∷ [])) (raw ++ (b ∷ [])) cells ls → Outcome r (b ∷ bs) pre text raw cells
        shaped (has_cell {t} {c} {cs} {ls}) y =
            told (line (b ∷ t) ((b ∷ c) ∷ cs) ∷ ls) y (reading.of_cell e y.reads) (longer text y.fit) (joined_of_cell d text raw cells b t cs ls c)

        go : Outcome next bs pre (text ++ (b ∷ [])) (raw ++ (b ∷ [])) cells → Outcome r (b ∷ bs) pre text raw cells
        go (outcome ls y) = shaped (reads_cell d y.reads g) y

    record_comes :
        (h : FileState) (size : ℕ) (vs : List Value) (text' : Bytes) (cells' : List Derived) {text raw : Bytes} {cells : List Derived} →
        Lies d file seen r pre text raw cells → size ≡ length text' → length text' ≤ MAXRECORD → Each (ShowsCell file) vs cells' → Recording (stage_of d h) →
        ((n : Read) (t : Bytes) (cs : List Bytes) (ls : List (Line Bytes)) → Reads d h bs (line t cs ∷ ls) →
        Facts n bs pre text' [] cells' (line t cs ∷ ls) → Outcome r (b ∷ bs) pre text raw cells) →
        read_end d None (read_from d None (going (record {
          done = r.done;
          state = h;
          offset = suc r.offset;
          start = r.start;
          size = size;
          opened = suc r.offset;
          raw = [];
          cells = vs;
        })) bs) ≡ going end →
        Outcome r (b ∷ bs) pre text raw cells
    record_comes h size vs text' cells' {text} {raw} {cells} s z l c g k q =
        go (ih next (seen ++ (b ∷ [])) pre text' [] cells' (stands_reset s b next room refl refl refl z l s.done c (recording_tidy g)) further q)
      where
        next : Read
        next = record { done = r.done; state = h; offset = suc r.offset; start = r.start; size = size; opened = suc r.offset; raw = []; cells = vs }

        shaped : {ls : List (Line Bytes)} → HasLine ls → Facts next bs pre text' [] cells' ls → Outcome r (b ∷ bs) pre text raw cells
        shaped (has_line {t} {cs} {ls}) y = k next t cs ls y.reads y

        go : Outcome next bs pre text' [] cells' → Outcome r (b ∷ bs) pre text raw cells
        go (outcome ls y) = shaped (reads_line d y.reads g) y

    complete_comes :
        (h : FileState) (vs : List Value) (cells' : List Derived) {text raw : Bytes} {cells : List Derived} → Lies d file seen r pre text raw cells →
        Each (ShowsCell file) vs cells' → stage_of d h ≡ at_rest → (rest : List Bytes) →
        ((ls : List (Line Bytes)) → Reads d h bs ls → Reads d r.state (b ∷ bs) (line [] rest ∷ ls)) →
        ((ls : List (Line Bytes)) → pre ++ joined d text raw cells (line [] rest ∷ ls) ≡ (pre ++ (line text cells' ∷ [])) ++ joined d [] [] [] ls) →
        ((ls : List (Line Bytes)) → line text cells' ∷ map (decoded_line d) ls ≡ joined d text raw cells (line [] rest ∷ ls)) →
        read_end d None (read_from d None (complete d None r vs h (suc r.offset)) bs) ≡ going end → Outcome r (b ∷ bs) pre text raw cells
    unfolding complete
    complete_comes h vs cells' {text} {raw} {cells} s c g rest k sum same q = verdict (record_fault d None r.done vs) refl q
      where
        next : Read
        next = between_records (r.done ++ (record { start = r.start; size = r.size; cells = vs } ∷ [])) h (suc r.offset)

        stands : Lies d file (seen ++ (b ∷ [])) next (pre ++ (line text cells' ∷ [])) [] [] []
        stands =
            stands_reset s b next room refl refl refl refl (omega arith) (each_snoc s.done (record { size = s.size; cells = c }))
            each_none (rest_tidy g)

        go : LineSound d pre cells' → Outcome next bs (pre ++ (line text cells' ∷ [])) [] [] [] → Outcome r (b ∷ bs) pre text raw cells
        go l (outcome ls y) =
            let f : length text ≤ MAXRECORD = s.fits in
            let a : ChecksFrom d (pre ++ (line text cells' ∷ [])) (map (decoded_line d) ls) = rw (joined_rest d ls) at y.checks in
            outcome (line [] rest ∷ ls)
            (record {
              reads = k ls y.reads;
              fit = fit_line {t = []} (omega arith) (rest_fit y.fit);
              checks = rw (← (same ls)) (checks_next l a);
              shows = rw (sum ls) y.shows;
              has_record = rw (sum ls) y.has_record;
              limit = y.limit;
            })

        verdict :
            (v : CheckResult) → record_fault d None r.done vs ≡ v → read_end d None (read_from d None (validated r next v) bs) ≡ going end →
            Outcome r (b ∷ bs) pre text raw cells
        verdict (Ok _) e q = go (record_checked d s.done c e) (ih next (seen ++ (b ∷ [])) (pre ++ (line text cells' ∷ [])) [] [] [] stands further q)
        verdict (Err x) e q = not_going d x r bs q

    size_left :
        {text raw : Bytes} {cells : List Derived} → Lies d file seen r pre text raw cells → record_full r b ≡ false →
        counts r.state b ≡ true → length text < MAXRECORD
    unfolding record_full
    size_left {text} s f c =
        let z : r.size ≡ length text = s.size in
        let h : r.size < MAXRECORD = leb-false MAXRECORD r.size (go (leb MAXRECORD r.size) (rw c at f)) in
        omega arith
      where
        go : (t : Bool) → (t && true) ≡ false → t ≡ false
        go true e = e
        go false e = refl

    between_comes :
        (h : FileState) {text raw : Bytes} {cells : List Derived} → Lies d file seen r pre text raw cells → file_step d r.state b ≡ Ok (h, Between false) →
        record_full r b ≡ false → Parted d h (counts r.state b ≡ true) text raw →
        read_end d None (read_from d None (move d None r b (Ok (h, Between false))) bs) ≡ going end →
        Outcome r (b ∷ bs) pre text raw cells
    unfolding move
    between_comes h {text} {cells} s e f (parted c g) q =
        let l : length (text ++ (b ∷ [])) ≡ suc (length text) = length_snoc text b in
        let w : length text < MAXRECORD = size_left s f c in
        record_comes h (suc r.size) r.cells (text ++ (b ∷ [])) cells s (ap suc s.size ∙ sym l) (omega arith) s.complete g
        (λ n t cs ls m y. told (line (b ∷ t) cs ∷ ls) y (reading.between e m) (longer text y.fit) (joined_between d text [] cells b t cs ls)) q

    between_closing_comes :
        (h : FileState) {text raw : Bytes} {cells : List Derived} → Lies d file seen r pre text raw cells → file_step d r.state b ≡ Ok (h, Between true) →
        record_full r b ≡ false → read_end d None (read_from d None (move d None r b (Ok (h, Between true))) bs) ≡ going end →
        Outcome r (b ∷ bs) pre text raw cells
    unfolding move
    between_closing_comes h {text} {raw} {cells} s e f q =
        let l : length (text ++ (b ∷ [])) ≡ suc (length text) = length_snoc text b in
        let w : length text < MAXRECORD = size_left s f (between_counts (its_transition e)) in
        record_comes h (suc r.size) (closing d true r) (text ++ (b ∷ [])) (cells ++ (decoded d raw ∷ [])) s
        (ap suc s.size ∙ sym l) (omega arith) (closes_now s (b ∷ bs) place) (between_stage (its_transition e))
        (λ n t cs ls m y.
        told (line (b ∷ t) ([] ∷ cs) ∷ ls) y (reading.between_closing e m) (longer text y.fit)
        (joined_between_closing d text raw cells b t cs ls)) q

    tail_comes :
        (h : FileState) {text raw : Bytes} {cells : List Derived} → Lies d file seen r pre text raw cells → file_step d r.state b ≡ Ok (h, Tail false) →
        Parted d h (counts r.state b ≡ false) text raw → read_end d None (read_from d None (move d None r b (Ok (h, Tail false))) bs) ≡ going end →
        Outcome r (b ∷ bs) pre text raw cells
    unfolding move
    tail_comes h {text} {cells} s e (parted c g) q =
        record_comes h r.size r.cells text cells s s.size s.fits s.complete g
        (λ n t cs ls m y. told (line t cs ∷ ls) y (reading.tail e m) y.fit refl) q

    same_fit : {n : ℕ} {t : Bytes} {cs cs' : List Bytes} {ls : List (Line Bytes)} → Fit n (line t cs ∷ ls) → Fit n (line t cs' ∷ ls)
    same_fit (fit_line {t} x m) = fit_line {t = t} x m

    tail_closing_comes :
        (h : FileState) {text raw : Bytes} {cells : List Derived} → Lies d file seen r pre text raw cells → file_step d r.state b ≡ Ok (h, Tail true) →
        read_end d None (read_from d None (move d None r b (Ok (h, Tail true))) bs) ≡ going end → Outcome r (b ∷ bs) pre text raw cells
    unfolding move
    tail_closing_comes h {text} {raw} {cells} s e q =
        record_comes h r.size (closing d true r) text (cells ++ (decoded d raw ∷ [])) s s.size s.fits
        (closes_now s (b ∷ bs) place) (tail_stage (its_transition e))
        (λ n t cs ls m y. told (line t ([] ∷ cs) ∷ ls) y (reading.tail_closing e m) (same_fit y.fit) (joined_tail_closing d text raw cells b t cs ls)) q

    ends_comes :
        (h : FileState) {text raw : Bytes} {cells : List Derived} → Lies d file seen r pre text raw cells → file_step d r.state b ≡ Ok (h, Ends false) →
        standing.Ended d h (counts r.state b ≡ false) text raw → read_end d None (read_from d None (move d None r b (Ok (h, Ends false))) bs) ≡ going end →
        Outcome r (b ∷ bs) pre text raw cells
    unfolding move
    ends_comes h {text} {cells} s e (standing.ended c g) q =
        complete_comes h r.cells cells s s.complete g [] (λ ls m. reading.ends e m) (λ ls. joined_ends d pre text [] cells ls)
        (λ ls. rw (append-nil text, append-nil cells)) q

    ends_closing_comes :
        (h : FileState) {text raw : Bytes} {cells : List Derived} → Lies d file seen r pre text raw cells → file_step d r.state b ≡ Ok (h, Ends true) →
        read_end d None (read_from d None (move d None r b (Ok (h, Ends true))) bs) ≡ going end → Outcome r (b ∷ bs) pre text raw cells
    unfolding move
    ends_closing_comes h {text} {raw} {cells} s e q =
        complete_comes h (closing d true r) (cells ++ (decoded d raw ∷ [])) s (closes_now s (b ∷ bs) place)
        (ends_stage (its_transition e)) ([] ∷ []) (λ ls m. reading.ends_closing e m)
        (λ ls. joined_ends_closing d pre text raw cells ls) (λ ls. rw (append-nil text, append-nil raw)) q

    step_comes :
        (s : Step) {text raw : Bytes} {cells : List Derived} → Lies d file seen r pre text raw cells → file_step d r.state b ≡ s → record_full r b ≡ false →
        read_end d None (read_from d None (move d None r b s) bs) ≡ going end → Outcome r (b ∷ bs) pre text raw cells
    unfolding move
    step_comes (Err x) s e f q = not_going d (types.Byte x) r bs q
    step_comes (Ok (h, Outside)) s e f q = rest_comes h r.start s (moved_outside (its_transition e) s.tidy) (λ ls m. reading.outside e m) q
    step_comes (Ok (h, Passed)) s e f q = rest_comes h (suc r.offset) s (moved_passed (its_transition e) s.tidy) (λ ls m. reading.passed e m) q
    step_comes (Ok (h, OfCell)) s e f q = cell_comes h s e (cell_stage (its_transition e)) (size_left s f (cell_counts (its_transition e))) q
    step_comes (Ok (h, Between false)) s e f q = between_comes h s e f (moved_between (its_transition e) s.tidy) q
    step_comes (Ok (h, Between true)) s e f q = between_closing_comes h s e f q
    step_comes (Ok (h, Tail false)) s e f q = tail_comes h s e (moved_tail (its_transition e) s.tidy) q
    step_comes (Ok (h, Tail true)) s e f q = tail_closing_comes h s e q
    step_comes (Ok (h, Ends false)) s e f q = ends_comes h s e (moved_ends (its_transition e) s.tidy) q
    step_comes (Ok (h, Ends true)) s e f q = ends_closing_comes h s e q

  byte_comes : (b : ℕ) (bs : Bytes) → Comes bs → Comes (b ∷ bs)
  unfolding read_from read_byte file_full choose◌then◌else◌
  byte_comes b bs ih r seen pre text raw cells s place q = go (leb MAXFILE r.offset) (record_full r b) refl refl
    where
      go : (x y : Bool) → leb MAXFILE r.offset ≡ x → record_full r b ≡ y → Outcome r (b ∷ bs) pre text raw cells
      go true y e f = not_going d types.FileTooLong r bs (rw e at q)
      go false true e f = not_going d types.RecordTooLong r bs (rw (e, f) at q)
      go false false e f =
          let o : r.offset ≡ length seen = s.offset in
          let h : r.offset < MAXFILE = leb-false MAXFILE r.offset e in
          step_comes b bs ih r seen pre (omega arith) place (file_step d r.state b) s refl f (rw (e, f) at q)

  -- ---- the end

  whole_file :
      {seen : Bytes} {r : Read} {pre : List (Line Derived)} {text raw : Bytes} {cells : List Derived} →
      Lies d file seen r pre text raw cells → file ≡ seen ++ [] → length file ≤ MAXFILE
  whole_file {seen} s e = rw (e ∙ append-nil seen) s.short

  done_some : (r : Read) {rs : List Rec} {ls : List (Line Derived)} → Each (ShowsRecord file) rs ls → end_between r rs ≡ going end → Some ls × (r ≡ end)
  done_some r each_none q = stopped_going q
  done_some r (each_cons v k) q = (some, same_going q)

  clean_comes :
      (r : Read) {seen : Bytes} {pre : List (Line Derived)} {text raw : Bytes} {cells : List Derived} →
      Lies d file seen r pre text raw cells → length file ≤ MAXFILE →
      file_end d r.state ≡ Clean → end_between r r.done ≡ going end → Outcome r [] pre text raw cells
  clean_comes r {pre} s l e q =
      let x = done_some r s.done q in
      let k : Each (ShowsRecord file) end.done pre = rw x.1 at s.done in
      outcome []
      (record {
        reads = reading.ends_clean e;
        fit = fit_none;
        checks = checks_none;
        shows = rw (append-nil pre) k;
        has_record = rw (append-nil pre) x.0;
        limit = l;
      })

  end_comes : Comes []
  unfolding read_from read_end
  end_comes r seen pre text raw cells s place q = go (file_end d r.state) refl q
    where
      vs : List Value
      vs = closing d true r

      cells' : List Derived
      cells' = cells ++ (decoded d raw ∷ [])

      next : Read
      next = between_records (r.done ++ (record { start = r.start; size = r.size; cells = vs } ∷ [])) Begin r.offset

      c : Each (ShowsCell file) vs cells'
      c = closes_now s [] place

      final :
          file_end d r.state ≡ Final → (v : CheckResult) → record_fault d None r.done vs ≡ v → validated r next v ≡ going end →
          Outcome r [] pre text raw cells
      final e (Err x) w q = stopped_going q
      final e (Ok _) w q =
          let z : next ≡ end = same_going q in
          let f : length text ≤ MAXRECORD = s.fits in
          let l : LineSound d pre cells' = record_checked d s.done c w in
          let k : Each (ShowsRecord file) next.done (pre ++ (line text cells' ∷ [])) = each_snoc s.done (record { size = s.size; cells = c }) in
          let y : next.done ≡ end.done = ap (λ (x : Read). x.done) z in
          let m : Each (ShowsRecord file) end.done (pre ++ (line text cells' ∷ [])) = rw (← y) k in
          outcome (line [] ([] ∷ []) ∷ [])
          (record {
            reads = reading.ends_final e;
            fit = fit_line {t = []} (omega arith) every_none;
            checks = rw (append-nil text, append-nil raw) (checks_next l checks_none);
            shows = rw (append-nil text, append-nil raw) m;
            has_record = some_last pre _;
            limit = whole_file s place;
          })

      go : (x : Ending) → file_end d r.state ≡ x → end_at d None r x ≡ going end → Outcome r [] pre text raw cells
      go Clean e q = clean_comes r s (whole_file s place) e q
      go Final e q = unfold complete in final e (record_fault d None r.done vs) refl q
      go Cut e q = stopped_going q

  pub accepted_comes : (xs : Bytes) → Comes xs
  accepted_comes [] = end_comes
  accepted_comes (b ∷ bs) = byte_comes b bs (accepted_comes bs)
