-- Reading is scanning to the end of the current record; scanning with places and limit moved is scanning moved.
use Prim.Native.Nat.{ℕ, suc, ◌+◌, ◌-◌, ◌≤◌}
use native.Mathlib.Omega.{arith}
use mathlib.Core.Path.{◌≡◌, refl, sym, ap, ◌∙◌}
use mathlib.Core.Bool.{Bool, true, false, ◌&&◌}
use Rattle.std.specs.Prelude.{Option}
use mathlib.Core.List.{List, [], ◌∷◌, map, map-append}
use lib.Dec.{leb}
use borrow.Author.Tests.{leb-true, leb-false, le-leb, lt-leb}
use Rattle.model.specs.rules.Types.{Dialect, Target, Outside, Passed, OfCell, Between, Tail, Ends, Step, Ok, Err, FileTooLong, RecordTooLong}
use Rattle.model.specs.rules.Base.{choose◌then◌else◌, Bytes}
use Rattle.model.specs.rules.File.{file_step, counts}
use Rattle.model.specs.rules.Report.{MAXFILE, MAXRECORD}
use Rattle.model.specs.rules.Records.{Rec, going, stopped, closing, complete, move, file_full, record_full, read_byte, read_from}
use Rattle.model.specs.laws.Scans.{Scan, fails, closing_raw, scan_step, scan, value_of, read_of, resume, ScanReads, moved_cell, moved, moved_to}
use Rattle.model.specs.laws.Scans.{Shift, PartMoved, CompleteReads}
use Rattle.model.proofs.Tests.{split_on}
use Rattle.model.proofs.file_laws.ReadAppend.{read_stopped}

-- ---- reading

module _ (d : Dialect) (target : Option Target) (done : List Rec) where
  pub values_closing : (k : Bool) (s : Scan) → closing d k (read_of d done s) ≡ map (value_of d) (closing_raw k s)
  values_closing true s = sym (map-append (value_of d) s.cells (record { from = s.opened; upto = s.offset; bytes = s.raw } ∷ []))
  values_closing false s = refl

  abbrev Comes : Bytes → Type 0
  Comes bs = (s : Scan) → read_from d target (going (read_of d done s)) bs ≡ resume d target done (scan d MAXFILE s bs)

  step_reads :
      (s : Scan) (b : ℕ) (bs : Bytes) → Comes bs → (x : Step) →
      read_from d target (move d target (read_of d done s) b x) bs ≡ resume d target done (scan_step s b bs (λ s'. scan d MAXFILE s' bs) x)
  unfolding move scan_step
  step_reads s b bs ih (Err e) = read_stopped d target _ _ bs
  step_reads s b bs ih (Ok (f, Outside)) = ih _
  step_reads s b bs ih (Ok (f, Passed)) = ih _
  step_reads s b bs ih (Ok (f, OfCell)) = ih _
  step_reads s b bs ih (Ok (f, Between k)) = rw (values_closing k s) (ih _)
  step_reads s b bs ih (Ok (f, Tail k)) = rw (values_closing k s) (ih _)
  step_reads s b bs ih (Ok (f, Ends k)) = rw (values_closing k s)

  choose_reads :
      (s : Scan) (b : ℕ) (bs : Bytes) → Comes bs → (u v : Bool) (x : Step) →
      read_from d target
      (choose u then stopped FileTooLong (read_of d done s)
      else choose v then stopped RecordTooLong (read_of d done s) else move d target (read_of d done s) b x) bs
      ≡ resume d target done
      (choose u then fails FileTooLong s else choose v then fails RecordTooLong s else scan_step s b bs (λ s'. scan d MAXFILE s' bs) x)
  unfolding choose◌then◌else◌
  choose_reads s b bs ih true v x = read_stopped d target FileTooLong (read_of d done s) bs
  choose_reads s b bs ih false true x = read_stopped d target RecordTooLong (read_of d done s) bs
  choose_reads s b bs ih false false x = step_reads s b bs ih x

  comes : (bs : Bytes) → Comes bs
  unfolding read_from read_byte file_full record_full scan
  comes [] s = refl
  comes (b ∷ bs) s = choose_reads s b bs (comes bs) (leb MAXFILE s.offset) (leb MAXRECORD s.size && counts s.state b) (file_step d s.state b)

pub scan_reads : ScanReads
scan_reads d target done s bs = comes d target done bs s

-- ---- shift

leb_moved : (n a b : ℕ) → leb (n + a) (n + b) ≡ leb a b
leb_moved n a b =
    split_on (leb a b) (λ h. rw h (le-leb (n + a) (n + b) (let k : a ≤ b = leb-true a b h in omega arith))) λ h.
    rw h (lt-leb (n + a) (n + b) (let k : suc b ≤ a = leb-false a b h in omega arith))

next_moved : (n a : ℕ) → suc (n + a) ≡ n + suc a
next_moved n a = omega arith

module _ (d : Dialect) (n limit : ℕ) where
  closing_moved : (k : Bool) (s : Scan) → closing_raw k (moved n s) ≡ map (moved_cell n) (closing_raw k s)
  closing_moved true s = sym (map-append (moved_cell n) s.cells (record { from = s.opened; upto = s.offset; bytes = s.raw } ∷ []))
  closing_moved false s = refl

  abbrev Shifts : Bytes → Type 0
  Shifts bs = (s : Scan) → scan d (n + limit) (moved n s) bs ≡ moved_to n (scan d limit s bs)

  step_moved :
      (s : Scan) (b : ℕ) (bs : Bytes) → Shifts bs → (x : Step) →
      scan_step (moved n s) b bs (λ s'. scan d (n + limit) s' bs) x ≡ moved_to n (scan_step s b bs (λ s'. scan d limit s' bs) x)
  unfolding scan_step
  step_moved s b bs ih (Err e) = refl
  step_moved s b bs ih (Ok (f, Outside)) = rw (next_moved n s.offset) (ih _)
  step_moved s b bs ih (Ok (f, Passed)) = rw (next_moved n s.offset) (ih _)
  step_moved s b bs ih (Ok (f, OfCell)) = rw (next_moved n s.offset) (ih _)
  step_moved s b bs ih (Ok (f, Between k)) = rw (next_moved n s.offset, closing_moved k s) (ih _)
  step_moved s b bs ih (Ok (f, Tail k)) = rw (next_moved n s.offset, closing_moved k s) (ih _)
  step_moved s b bs ih (Ok (f, Ends k)) = rw (next_moved n s.offset, closing_moved k s)

  choose_moved :
      (s : Scan) (b : ℕ) (bs : Bytes) → Shifts bs → (u v : Bool) (x : Step) →
      (choose u then fails FileTooLong (moved n s)
      else choose v then fails RecordTooLong (moved n s) else scan_step (moved n s) b bs (λ s'. scan d (n + limit) s' bs) x)
      ≡ moved_to n (choose u then fails FileTooLong s else choose v then fails RecordTooLong s else scan_step s b bs (λ s'. scan d limit s' bs) x)
  unfolding choose◌then◌else◌
  choose_moved s b bs ih true v x = refl
  choose_moved s b bs ih false true x = refl
  choose_moved s b bs ih false false x = step_moved s b bs ih x

  shifts : (bs : Bytes) → Shifts bs
  unfolding scan
  shifts [] s = refl
  shifts (b ∷ bs) s =
      rw (leb_moved n limit s.offset)
      (choose_moved s b bs (shifts bs) (leb limit s.offset) (leb MAXRECORD s.size && counts s.state b) (file_step d s.state b))

pub shift : Shift
shift d n limit s bs = shifts d n limit bs s

pub part_moved : PartMoved
part_moved d target done n s bs l =
    let limit : n + (MAXFILE - n) ≡ MAXFILE = omega arith in
    scan_reads d target done (moved n s) bs ∙ ap (λ x. resume d target done (scan d x (moved n s) bs)) (sym limit)
    ∙ ap (resume d target done) (shift d n (MAXFILE - n) s bs)

-- ---- a complete record

pub completing : CompleteReads
unfolding complete
completing d target done s cs f next left =
    record { sound = λ h. rw h; faulty = λ e h. rw h (read_stopped d target e (read_of d done s) left) }
