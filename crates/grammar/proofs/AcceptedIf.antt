-- A file that is read by form, within the limits and with records that pass the checks, is accepted by the reader with those records.
use Prim.Native.Nat.{ℕ, suc, ◌+◌, ◌≤◌, ◌<◌}
use native.Mathlib.Omega.{arith}
use mathlib.Core.Path.{◌≡◌, refl, sym, ap, ◌∙◌}
use mathlib.Core.Bool.{true, false, and-false}
use Rattle.std.specs.Prelude.{None}
use mathlib.Core.List.{List, [], ◌∷◌, ◌++◌, append_assoc, append-nil}
use lib.ListN.{length, length-append}
use lib.Dec.{leb}
use borrow.Author.Tests.{lt-leb}
use Rattle.grammar.specs.rfc.Types.{Dialect, FileState, Begin, OfCell, Outside, Passed, Between, Tail, Ends, Step, Ok, Clean, Final}
use Rattle.model.specs.rules.Base.{Bytes, choose◌then◌else◌}
use Rattle.model.specs.rules.File.{file_step, file_end, counts}
use Rattle.model.specs.rules.Text.{Value}
use Rattle.model.specs.rules.Report.{MAXFILE, MAXRECORD}
use Rattle.model.specs.rules.Records.{Rec, Read, going, between_records, closing, validated, complete, move, file_full, record_full, record_fault}
use Rattle.model.specs.rules.Records.{read_byte, read_from, end_between, read_end}
use Rattle.grammar.specs.rfc.Derived.{Derived, Line, line, Each, each_none, each_cons}
use Rattle.grammar.specs.dialects.FormReads.{Reads, decoded}
use Rattle.grammar.specs.dialects.FormReads as reading
use Rattle.grammar.specs.Accepted.{ShowsCell, ShowsRecord}
use Rattle.model.proofs.file_laws.FileSteps.{Transition, tail_uncounted, ends_uncounted, its_transition}
use Rattle.grammar.proofs.StepStages.{at_rest, stage_of, Recording, cell_stage, between_stage, tail_stage, ends_stage}
use Rattle.grammar.proofs.RecordChecks.{LineSound, ChecksFrom, checks_next, record_sound_checked}
use Rattle.grammar.proofs.DerivationState.{each_snoc, length_snoc, joined, joined_rest, joined_of_cell, joined_between, joined_between_closing}
use Rattle.grammar.proofs.DerivationState.{joined_tail_closing, joined_ends, joined_ends_closing, Fit, fit_line, fit_rest, Lies, closes_now}
use Rattle.grammar.proofs.DerivationState.{stands_reset, stands_more, Rested, rested, Parted, parted, Ended, ended, recording_tidy, rest_tidy}
use Rattle.grammar.proofs.DerivationState.{moved_outside, moved_passed, moved_between, moved_tail, moved_ends}

-- at least one line
pub data Some : List (Line Derived) → Type 0 where
  some : {l : Line Derived} {ls : List (Line Derived)} → Some (l ∷ ls)

checks_line :
    {d : Dialect} {pre ls : List (Line Derived)} {t : Bytes} {cs : List Derived} → ChecksFrom d pre (line t cs ∷ ls) →
    LineSound d pre cs × ChecksFrom d (pre ++ (line t cs ∷ [])) ls
checks_line (checks_next l k) = (l, k)

-- ---- a byte that reaches no limit

module _ (d : Dialect) (r : Read) (b : ℕ) where
  file_free : r.offset < MAXFILE → file_full r ≡ false
  unfolding file_full
  file_free h = lt-leb MAXFILE r.offset h

  size_free : r.size < MAXRECORD → record_full r b ≡ false
  unfolding record_full
  size_free h = rw (lt-leb MAXRECORD r.size h)

  break_free : counts r.state b ≡ false → record_full r b ≡ false
  unfolding record_full
  break_free e = rw e (and-false (leb MAXRECORD r.size))

  free_byte : (s : Step) → r.offset < MAXFILE → record_full r b ≡ false → file_step d r.state b ≡ s → read_byte d None r b ≡ move d None r b s
  unfolding read_byte choose◌then◌else◌
  free_byte s h k e = rw (file_free h, k, e)

module _ (d : Dialect) (file : Bytes) (total : List (Line Derived)) (limit : length file ≤ MAXFILE) (has_record : Some total) where
  -- the reader accepts what is left, and its records are those of the whole file
  pub data Accepted (r : Read) (xs : Bytes) : Type 0 where
    accepted : (end : Read) → read_end d None (read_from d None (going r) xs) ≡ going end → Each (ShowsRecord file) end.done total → Accepted r xs

  -- a reading state, and what is left is within the limits and passes the checks
  pub record Ready (r : Read) (xs : Bytes) (ls : List (Line Bytes)) (seen : Bytes) (pre : List (Line Derived)) (text raw : Bytes)
      (cells : List Derived) : Type 0 where
    pub stands : Lies d file seen r pre text raw cells
    pub place : file ≡ seen ++ xs
    pub fit : Fit (length text) ls
    pub checks : ChecksFrom d pre (joined d text raw cells ls)
    pub sum : total ≡ pre ++ joined d text raw cells ls

  abbrev Goes : FileState → Bytes → List (Line Bytes) → Type 0
  Goes f xs ls =
      (r : Read) (seen : Bytes) (pre : List (Line Derived)) (text raw : Bytes) (cells : List Derived) → r.state ≡ f →
      Ready r xs ls seen pre text raw cells → Accepted r xs

  next_accepted : (r n : Read) (b : ℕ) {bs : Bytes} → read_byte d None r b ≡ going n → Accepted n bs → Accepted r (b ∷ bs)
  unfolding read_from
  next_accepted r n b e (accepted end q k) = accepted end (rw e q) k

  room : (seen bs : Bytes) (b : ℕ) → file ≡ seen ++ (b ∷ bs) → suc (length seen) ≤ MAXFILE
  room seen bs b e =
      let l : length (seen ++ (b ∷ bs)) ≡ length seen + suc (length bs) = length-append seen (b ∷ bs) in
      let m : length file ≡ length (seen ++ (b ∷ bs)) = ap length e in
      omega arith

  further : (seen bs : Bytes) (b : ℕ) → file ≡ seen ++ (b ∷ bs) → file ≡ (seen ++ (b ∷ [])) ++ bs
  further seen bs b e = e ∙ sym (append_assoc seen (b ∷ []) bs)

  -- a byte, from a reading in state f, and the state after it
  module _ (f h : FileState) (b : ℕ) (bs : Bytes) (r : Read) (seen : Bytes) (pre : List (Line Derived)) (p : r.state ≡ f) where
    at_step : (s : Step) → file_step d f b ≡ s → file_step d r.state b ≡ s
    at_step s e = ap (λ z. file_step d z b) p ∙ e

    read_transition : (s : Step) → file_step d f b ≡ s → Transition d r.state b s
    read_transition s e = its_transition (at_step s e)

    module _ {ls : List (Line Bytes)} {text raw : Bytes} {cells : List Derived} (y : Ready r (b ∷ bs) ls seen pre text raw cells) where
      has_room : suc (length seen) ≤ MAXFILE
      has_room = room seen bs b y.place

      offset_free : r.offset < MAXFILE
      offset_free = let o : r.offset ≡ length seen = y.stands.offset in let h : suc (length seen) ≤ MAXFILE = has_room in omega arith

      counted_byte : (s : Step) → file_step d f b ≡ s → length text < MAXRECORD → read_byte d None r b ≡ move d None r b s
      counted_byte s e h =
          let z : r.size ≡ length text = y.stands.size in
          free_byte d r b s offset_free (size_free d r b (omega arith)) (at_step s e)

      uncounted_byte : (s : Step) → file_step d f b ≡ s → counts r.state b ≡ false → read_byte d None r b ≡ move d None r b s
      uncounted_byte s e c = free_byte d r b s offset_free (break_free d r b c) (at_step s e)

    -- where nothing is pending afterwards
    rest_goes :
        (s : Step) (start : ℕ) {ls : List (Line Bytes)} {text raw : Bytes} {cells : List Derived} → file_step d f b ≡ s →
        move d None r b s ≡ going (record {
          done = r.done;
          state = h;
          offset = suc r.offset;
          start = start;
          size = 0;
          opened = suc r.offset;
          raw = [];
          cells = [];
        }) →
        Goes h bs ls → Ready r (b ∷ bs) ls seen pre text raw cells → Rested d h text raw cells → Accepted r (b ∷ bs)
    rest_goes s start e m k y (rested g) =
        let next : Read
        = record {
          done = r.done;
          state = h;
          offset = suc r.offset;
          start = start;
          size = 0;
          opened = suc r.offset;
          raw = [];
          cells = [];
        } in
        next_accepted r next b (counted_byte y s e (omega arith) ∙ m)
        (k next (seen ++ (b ∷ [])) pre [] [] [] refl
        (record {
          stands = stands_reset y.stands b next (has_room y) refl refl refl refl (omega arith) y.stands.done each_none (rest_tidy g);
          place = further seen bs b y.place;
          fit = y.fit;
          checks = y.checks;
          sum = y.sum;
        }))

    -- where the record continues, with `text'` read of it and these cells complete
    record_goes :
        (s : Step) (size : ℕ) (vs : List Value) (text' : Bytes) {ls ls' : List (Line Bytes)} {text raw : Bytes} {cells cells' : List Derived} →
        read_byte d None r b ≡ move d None r b s →
        move d None r b s ≡ going (record {
          done = r.done;
          state = h;
          offset = suc r.offset;
          start = r.start;
          size = size;
          opened = suc r.offset;
          raw = [];
          cells = vs;
        }) →
        Goes h bs ls' → Ready r (b ∷ bs) ls seen pre text raw cells → size ≡ length text' → length text' ≤ MAXRECORD → Each (ShowsCell file) vs cells' →
        Recording (stage_of d h) → Fit (length text') ls' → joined d text raw cells ls ≡ joined d text' [] cells' ls' → Accepted r (b ∷ bs)
    record_goes s size vs text' {cells'} e m k y z l c g f q =
        let next : Read
        = record {
          done = r.done;
          state = h;
          offset = suc r.offset;
          start = r.start;
          size = size;
          opened = suc r.offset;
          raw = [];
          cells = vs;
        } in
        next_accepted r next b (e ∙ m)
        (k next (seen ++ (b ∷ [])) pre text' [] cells' refl
        (record {
          stands = stands_reset y.stands b next (has_room y) refl refl refl z l y.stands.done c (recording_tidy g);
          place = further seen bs b y.place;
          fit = f;
          checks = rw q at y.checks;
          sum = y.sum ∙ ap (λ l. pre ++ l) q;
        }))

    -- where the record is complete with these cells
    complete_goes :
        (s : Step) (vs : List Value) {ls ls' : List (Line Bytes)} {text raw : Bytes} {cells cells' : List Derived} →
        read_byte d None r b ≡ move d None r b s → move d None r b s ≡ complete d None r vs h (suc r.offset) → Goes h bs ls' →
        Ready r (b ∷ bs) ls seen pre text raw cells → Each (ShowsCell file) vs cells' → stage_of d h ≡ at_rest → Fit 0 ls' →
        pre ++ joined d text raw cells ls ≡ (pre ++ (line text cells' ∷ [])) ++ joined d [] [] [] ls' →
        LineSound d pre cells' → ChecksFrom d (pre ++ (line text cells' ∷ [])) (joined d [] [] [] ls') → Accepted r (b ∷ bs)
    unfolding complete
    complete_goes s vs {text} {cells'} e m k y c g f q l a =
        let next : Read = between_records (r.done ++ (record { start = r.start; size = r.size; cells = vs } ∷ [])) h (suc r.offset) in
        let v : record_fault d None r.done vs ≡ Ok tt = record_sound_checked d y.stands.done c l in
        next_accepted r next b (e ∙ m ∙ ap (validated r next) v)
        (k next (seen ++ (b ∷ [])) (pre ++ (line text cells' ∷ [])) [] [] [] refl
        (record {
          stands =
              stands_reset y.stands b next (has_room y) refl refl refl refl (omega arith)
              (each_snoc y.stands.done (record { size = y.stands.size; cells = c })) each_none (rest_tidy g);
          place = further seen bs b y.place;
          fit = f;
          checks = a;
          sum = y.sum ∙ q;
        }))

  -- ---- each part

  module _ (f h : FileState) (b : ℕ) (bs : Bytes) where
    after_outside : (ls : List (Line Bytes)) → file_step d f b ≡ Ok (h, Outside) → Goes h bs ls → Goes f (b ∷ bs) ls
    unfolding move
    after_outside ls e k r seen pre text raw cells p y =
        rest_goes f h b bs r seen pre p (Ok (h, Outside)) r.start e refl k y
        (moved_outside (read_transition f h b bs r seen pre p (Ok (h, Outside)) e) y.stands.tidy)

    after_passed : (ls : List (Line Bytes)) → file_step d f b ≡ Ok (h, Passed) → Goes h bs ls → Goes f (b ∷ bs) ls
    unfolding move
    after_passed ls e k r seen pre text raw cells p y =
        rest_goes f h b bs r seen pre p (Ok (h, Passed)) (suc r.offset) e refl k y
        (moved_passed (read_transition f h b bs r seen pre p (Ok (h, Passed)) e) y.stands.tidy)

    module _ (t : Bytes) (cs : List Bytes) (ls : List (Line Bytes)) where
      after_of_cell : (c : Bytes) → file_step d f b ≡ Ok (h, OfCell) → Goes h bs (line t (c ∷ cs) ∷ ls) → Goes f (b ∷ bs) (line (b ∷ t) ((b ∷ c) ∷ cs) ∷ ls)
      unfolding move
      after_of_cell c e k r seen pre text raw cells p y = go y.fit
        where
          next : Read
          next =
              record {
                done = r.done;
                state = h;
                offset = suc r.offset;
                start = r.start;
                size = suc r.size;
                opened = r.opened;
                raw = r.raw ++ (b ∷ []);
                cells = r.cells;
              }

          go : Fit (length text) (line (b ∷ t) ((b ∷ c) ∷ cs) ∷ ls) → Accepted r (b ∷ bs)
          go (fit_line x m) =
              let q = joined_of_cell d text raw cells b t cs ls c in
              let l : length (text ++ (b ∷ [])) ≡ suc (length text) = length_snoc text b in
              next_accepted r next b (counted_byte f h b bs r seen pre p y (Ok (h, OfCell)) e (omega arith))
              (k next (seen ++ (b ∷ [])) pre (text ++ (b ∷ [])) (raw ++ (b ∷ [])) cells refl
              (record {
                stands =
                    stands_more y.stands b next (has_room f h b bs r seen pre p y) refl refl refl refl (omega arith) refl refl
                    (cell_stage (its_transition e));
                place = further seen bs b y.place;
                fit = fit_line (omega arith) m;
                checks = rw q at y.checks;
                sum = y.sum ∙ ap (λ l. pre ++ l) q;
              }))

      after_between : file_step d f b ≡ Ok (h, Between false) → Goes h bs (line t cs ∷ ls) → Goes f (b ∷ bs) (line (b ∷ t) cs ∷ ls)
      unfolding move
      after_between e k r seen pre text raw cells p y =
          go y y.fit (moved_between (read_transition f h b bs r seen pre p (Ok (h, Between false)) e) y.stands.tidy)
        where
          go :
              {raw : Bytes} → Ready r (b ∷ bs) (line (b ∷ t) cs ∷ ls) seen pre text raw cells → Fit (length text) (line (b ∷ t) cs ∷ ls) →
              Parted d h (counts r.state b ≡ true) text raw → Accepted r (b ∷ bs)
          go y (fit_line x m) (parted c g) =
              let l : length (text ++ (b ∷ [])) ≡ suc (length text) = length_snoc text b in
              let z : r.size ≡ length text = y.stands.size in
              record_goes f h b bs r seen pre p (Ok (h, Between false)) (suc r.size) r.cells (text ++ (b ∷ []))
              (counted_byte f h b bs r seen pre p y (Ok (h, Between false)) e (omega arith)) refl k y (ap suc z ∙ sym l) (omega arith) y.stands.complete g
              (fit_line (omega arith) m) (joined_between d text [] cells b t cs ls)

      after_between_closing : file_step d f b ≡ Ok (h, Between true) → Goes h bs (line t cs ∷ ls) → Goes f (b ∷ bs) (line (b ∷ t) ([] ∷ cs) ∷ ls)
      unfolding move
      after_between_closing e k r seen pre text raw cells p y = go y.fit
        where
          go : Fit (length text) (line (b ∷ t) ([] ∷ cs) ∷ ls) → Accepted r (b ∷ bs)
          go (fit_line x m) =
              let l : length (text ++ (b ∷ [])) ≡ suc (length text) = length_snoc text b in
              let z : r.size ≡ length text = y.stands.size in
              record_goes f h b bs r seen pre p (Ok (h, Between true)) (suc r.size) (closing d true r) (text ++ (b ∷ []))
              (counted_byte f h b bs r seen pre p y (Ok (h, Between true)) e (omega arith)) refl k y (ap suc z ∙ sym l) (omega arith)
              (closes_now y.stands (b ∷ bs) y.place) (between_stage (its_transition e))
              (fit_line (omega arith) m) (joined_between_closing d text raw cells b t cs ls)

      after_tail : file_step d f b ≡ Ok (h, Tail false) → Goes h bs (line t cs ∷ ls) → Goes f (b ∷ bs) (line t cs ∷ ls)
      unfolding move
      after_tail e k r seen pre text raw cells p y = go y (moved_tail (read_transition f h b bs r seen pre p (Ok (h, Tail false)) e) y.stands.tidy)
        where
          go :
              {raw : Bytes} → Ready r (b ∷ bs) (line t cs ∷ ls) seen pre text raw cells →
              Parted d h (counts r.state b ≡ false) text raw → Accepted r (b ∷ bs)
          go y (parted c g) =
              record_goes f h b bs r seen pre p (Ok (h, Tail false)) r.size r.cells text
              (uncounted_byte f h b bs r seen pre p y (Ok (h, Tail false)) e c) refl k y
              y.stands.size y.stands.fits y.stands.complete g y.fit refl

      after_tail_closing : file_step d f b ≡ Ok (h, Tail true) → Goes h bs (line t cs ∷ ls) → Goes f (b ∷ bs) (line t ([] ∷ cs) ∷ ls)
      unfolding move
      after_tail_closing e k r seen pre text raw cells p y = go y.fit
        where
          go : Fit (length text) (line t ([] ∷ cs) ∷ ls) → Accepted r (b ∷ bs)
          go (fit_line x m) =
              record_goes f h b bs r seen pre p (Ok (h, Tail true)) r.size (closing d true r) text
              (uncounted_byte f h b bs r seen pre p y (Ok (h, Tail true)) e
              (tail_uncounted (read_transition f h b bs r seen pre p (Ok (h, Tail true)) e))) refl k y
              y.stands.size y.stands.fits (closes_now y.stands (b ∷ bs) y.place) (tail_stage (its_transition e))
              (fit_line x m) (joined_tail_closing d text raw cells b t cs ls)

    after_ends : (ls : List (Line Bytes)) → file_step d f b ≡ Ok (h, Ends false) → Goes h bs ls → Goes f (b ∷ bs) (line [] [] ∷ ls)
    unfolding move
    after_ends ls e k r seen pre text raw cells p y = go y y.fit (moved_ends (read_transition f h b bs r seen pre p (Ok (h, Ends false)) e) y.stands.tidy)
      where
        go :
            {raw : Bytes} → Ready r (b ∷ bs) (line [] [] ∷ ls) seen pre text raw cells → Fit (length text) (line [] [] ∷ ls) →
            Ended d h (counts r.state b ≡ false) text raw → Accepted r (b ∷ bs)
        go y (fit_line x m) (ended c g) =
            let a : LineSound d pre cells × ChecksFrom d (pre ++ (line text cells ∷ [])) (joined d [] [] [] ls) =
            rw (append-nil text, append-nil cells, ← (joined_rest d ls)) at (checks_line y.checks) in
            complete_goes f h b bs r seen pre p (Ok (h, Ends false)) r.cells
            (uncounted_byte f h b bs r seen pre p y (Ok (h, Ends false)) e c) refl k y y.stands.complete g
            (fit_rest ls m) (joined_ends d pre text [] cells ls) a.0 a.1

    after_ends_closing : (ls : List (Line Bytes)) → file_step d f b ≡ Ok (h, Ends true) → Goes h bs ls → Goes f (b ∷ bs) (line [] ([] ∷ []) ∷ ls)
    unfolding move
    after_ends_closing ls e k r seen pre text raw cells p y = go y.fit
      where
        go : Fit (length text) (line [] ([] ∷ []) ∷ ls) → Accepted r (b ∷ bs)
        go (fit_line x m) =
            let cells' : List Derived = cells ++ (decoded d raw ∷ []) in
            let a : LineSound d pre cells' × ChecksFrom d (pre ++ (line text cells' ∷ [])) (joined d [] [] [] ls) =
            rw (append-nil text, append-nil raw, ← (joined_rest d ls)) at (checks_line y.checks) in
            complete_goes f h b bs r seen pre p (Ok (h, Ends true)) (closing d true r)
            (uncounted_byte f h b bs r seen pre p y (Ok (h, Ends true)) e
            (ends_uncounted (read_transition f h b bs r seen pre p (Ok (h, Ends true)) e))) refl k y
            (closes_now y.stands (b ∷ bs) y.place) (ends_stage (its_transition e)) (fit_rest ls m)
            (joined_ends_closing d pre text raw cells ls) a.0 a.1

  -- ---- the end

  some_done : (r : Read) {rs : List Rec} {ls : List (Line Derived)} → Each (ShowsRecord file) rs ls → Some ls → end_between r rs ≡ going r
  some_done r (each_cons s k) some = refl
  some_done r each_none x = elim x [ ]

  at_clean : (f : FileState) → file_end d f ≡ Clean → Goes f [] []
  unfolding read_from read_end
  at_clean f e r seen pre text raw cells p y =
      let q : file_end d r.state ≡ Clean = ap (file_end d) p ∙ e in
      let a : total ≡ pre = y.sum ∙ append-nil pre in
      let k : Each (ShowsRecord file) r.done total = rw a y.stands.done in
      accepted r (rw q (some_done r k has_record)) k

  at_final : (f : FileState) → file_end d f ≡ Final → Goes f [] (line [] ([] ∷ []) ∷ [])
  unfolding read_from read_end complete
  at_final f e r seen pre text raw cells p y =
      let q : file_end d r.state ≡ Final = ap (file_end d) p ∙ e in
      let vs : List Value = closing d true r in
      let cells' : List Derived = cells ++ (decoded d raw ∷ []) in
      let c : Each (ShowsCell file) vs cells' = closes_now y.stands [] y.place in
      let end : Read = between_records (r.done ++ (record { start = r.start; size = r.size; cells = vs } ∷ [])) Begin r.offset in
      let l : LineSound d pre cells' = rw (append-nil raw) at (checks_line y.checks).0 in
      let v : record_fault d None r.done vs ≡ Ok tt = record_sound_checked d y.stands.done c l in
      let a : total ≡ pre ++ (line text cells' ∷ []) = rw (append-nil text, append-nil raw) at y.sum in
      let k : Each (ShowsRecord file) (r.done ++ (record { start = r.start; size = r.size; cells = vs } ∷ [])) (pre ++ (line text cells' ∷ [])) =
      each_snoc y.stands.done (record { size = y.stands.size; cells = c }) in
      accepted end (rw q (ap (validated r end) v)) (rw a k)

  pub reads_accepted : {f : FileState} {xs : Bytes} {ls : List (Line Bytes)} → Reads d f xs ls → Goes f xs ls
  reads_accepted (reading.ends_clean {f} e) = at_clean f e
  reads_accepted (reading.ends_final {f} e) = at_final f e
  reads_accepted (reading.outside {f} {g} {b} {bs} {ls} e k) = after_outside f g b bs ls e (reads_accepted k)
  reads_accepted (reading.passed {f} {g} {b} {bs} {ls} e k) = after_passed f g b bs ls e (reads_accepted k)
  reads_accepted (reading.of_cell {f} {g} {b} {bs} {text} {raw} {cells} {ls} e k) = after_of_cell f g b bs text cells ls raw e (reads_accepted k)
  reads_accepted (reading.between {f} {g} {b} {bs} {text} {cells} {ls} e k) = after_between f g b bs text cells ls e (reads_accepted k)
  reads_accepted (reading.between_closing {f} {g} {b} {bs} {text} {cells} {ls} e k) = after_between_closing f g b bs text cells ls e (reads_accepted k)
  reads_accepted (reading.tail {f} {g} {b} {bs} {text} {cells} {ls} e k) = after_tail f g b bs text cells ls e (reads_accepted k)
  reads_accepted (reading.tail_closing {f} {g} {b} {bs} {text} {cells} {ls} e k) = after_tail_closing f g b bs text cells ls e (reads_accepted k)
  reads_accepted (reading.ends {f} {g} {b} {bs} {ls} e k) = after_ends f g b bs ls e (reads_accepted k)
  reads_accepted (reading.ends_closing {f} {g} {b} {bs} {ls} e k) = after_ends_closing f g b bs ls e (reads_accepted k)
