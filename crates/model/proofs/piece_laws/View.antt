-- A scan that starts with buffered bytes and cells is a scan that starts with none, and these before it. In a record no byte is
-- outside it (`step_stays`), so the buffered cells stay before all others; a cell that is opened later is opened after the place
-- where the part began.
use Prim.Native.Nat.{ℕ, suc, ◌+◌, ◌-◌, ◌≤◌}
use native.Mathlib.Omega.{arith}
use mathlib.Core.Path.{◌≡◌, refl, sym, ap, ◌∙◌}
use mathlib.Core.Bool.{Bool, true, false, ◌&&◌}
use mathlib.Core.List.{[], ◌∷◌, ◌++◌, map, map-append, append_assoc, append-nil}
use lib.Dec.{leb}
use borrow.Author.Tests.{ne_eqb}
use Rattle.model.specs.rules.Types.{Dialect, Csvj, Tdif, CsvPlus, EeToEf, Second, Last, Within, ByteFault, Cell, Fresh, Plain, CellStep, More}
use Rattle.model.specs.rules.Types.{Stop, Refuse}
use Rattle.model.specs.rules.Types.{FileState, Top, Begin, Ended, Bom1, Bom2, PlainBom1, PlainBom2, Comment, Blanks, ExpectCell, Inside, After}
use Rattle.model.specs.rules.Types.{Cr, Outside, Passed, OfCell, Between, Tail, Ends, Step, Ok, Err, FileTooLong, RecordTooLong}
use Rattle.model.specs.rules.Base.{choose◌then◌else◌, ◌is◌, Bytes}
use Rattle.model.specs.rules.Cell.{cell_step}
use Rattle.model.specs.rules.File.{after_cell, grow, in_cell, file_step, counts}
use Rattle.model.specs.rules.Report.{MAXFILE, MAXRECORD}
use Rattle.model.specs.laws.Scans.{RawCell, Scan, fails, closing_raw, scan_between, scan_step, scan, resume, moved, in_record, Buffered}
use Rattle.model.specs.laws.Scans.{joined_cell, joined_raw, joined_place, joined_cells, joined, joined_to, Holds, current, nothing_current, View}
use Rattle.model.specs.laws.Scans.{fresh, standing, PartReads}
use Rattle.model.proofs.Tests.{split, split_on, impossible, same_byte}
use Rattle.model.proofs.piece_laws.ScanLaws.{scan_reads, shift}

-- ---- in a record

-- a byte of a record continues it, or ends it
data Stays : Step → Type 0 where
  y_fault : {e : ByteFault} → Stays (Err e)
  y_cell : {g : FileState} → in_record g ≡ true → Stays (Ok (g, OfCell))
  y_between : {g : FileState} {k : Bool} → in_record g ≡ true → Stays (Ok (g, Between k))
  y_tail : {g : FileState} {k : Bool} → in_record g ≡ true → Stays (Ok (g, Tail k))
  y_ends : {g : FileState} {k : Bool} → Stays (Ok (g, Ends k))

after_stays : (d : Dialect) (k : Bool) (b : ℕ) → Stays (after_cell d k b)
unfolding after_cell
after_stays Csvj k b =
    let P : Step → Type 0 = Stays in
    split P _ (λ _. y_between refl) λ _. split P _ (λ _. y_between refl) λ _. split P _ (λ _. y_ends) λ _. split P _ (λ _. y_tail refl) λ _. y_fault
after_stays Tdif k b =
    let P : Step → Type 0 = Stays in
    split P _ (λ _. y_between refl) λ _. split P _ (λ _. y_ends) λ _. split P _ (λ _. y_ends) λ _. y_fault
after_stays (CsvPlus s) k b =
    let P : Step → Type 0 = Stays in
    split P _ (λ _. y_between refl) λ _. split P _ (λ _. y_ends) λ _. split P _ (λ _. y_tail refl) λ _. y_fault

grow_stays : (a : CellStep) {s : Step} → Stays s → Stays (grow a s)
grow_stays (More c) y = y_cell refl
grow_stays Stop y = y
grow_stays (Refuse e) y = y_fault

in_cell_stays : (d : Dialect) (c : Cell) (b : ℕ) → Stays (in_cell d c b)
unfolding in_cell
in_cell_stays d c b = grow_stays (cell_step d c b) (after_stays d true b)

step_stays : (d : Dialect) (f : FileState) (b : ℕ) → in_record f ≡ true → Stays (file_step d f b)
unfolding file_step
step_stays d Top b h = impossible h
step_stays d Begin b h = impossible h
step_stays d Ended b h = impossible h
step_stays d Bom1 b h = impossible h
step_stays d Bom2 b h = impossible h
step_stays d PlainBom1 b h = split Stays _ (λ _. y_cell refl) λ _. in_cell_stays d (Plain (Within (Second EeToEf))) b
step_stays d PlainBom2 b h = split Stays _ (λ _. y_fault) λ _. in_cell_stays d (Plain (Within Last)) b
step_stays d (Comment c) b h = impossible h
step_stays d Blanks b h = impossible h
step_stays d ExpectCell b h = split Stays _ (λ _. y_between refl) λ _. in_cell_stays d Fresh b
step_stays d (Inside c) b h = in_cell_stays d c b
step_stays d After b h = after_stays d false b
step_stays d Cr b h = split Stays _ (λ _. y_ends) λ _. y_fault

-- ---- what is buffered, one byte on

module _ (d : Dialect) (limit : ℕ) (k : Buffered) (began : ℕ) where
  -- a place behind where the part began
  behind : (o : ℕ) → began ≤ o → (suc o is began) ≡ false
  behind o l = ne_eqb (suc o) began (λ e. omega arith)

  place_behind : (kept o : ℕ) → began ≤ o → joined_place kept began (suc o) ≡ suc o
  unfolding joined_place choose◌then◌else◌
  place_behind kept o l = rw (behind o l)

  raw_behind : (o : ℕ) → began ≤ o → joined_raw k began (suc o) [] ≡ []
  unfolding joined_raw choose◌then◌else◌
  raw_behind o l = rw (behind o l)

  raw_more : (o b : ℕ) (raw : Bytes) → joined_raw k began o raw ++ (b ∷ []) ≡ joined_raw k began o (raw ++ (b ∷ []))
  unfolding joined_raw choose◌then◌else◌
  raw_more o b raw = split_on (o is began) (λ h. rw h (append_assoc k.raw raw (b ∷ []))) λ h. rw h

  cell_joined :
      (s : Scan) →
      record { from = joined_place k.opened began s.opened; upto = s.offset; bytes = joined_raw k began s.opened s.raw }
      ≡ joined_cell k began (record { from = s.opened; upto = s.offset; bytes = s.raw })
  unfolding joined_cell joined_raw joined_place choose◌then◌else◌
  cell_joined s = split_on (s.opened is began) (λ h. rw h) λ h. rw h

  closing_joined : (c : Bool) (s : Scan) → closing_raw c (joined k began s) ≡ joined_cells k began (closing_raw c s)
  closing_joined false s = refl
  closing_joined true s =
      let x : RawCell = record { from = s.opened; upto = s.offset; bytes = s.raw } in
      append_assoc k.cells (map (joined_cell k began) s.cells) _
      ∙ ap (λ c. k.cells ++ (map (joined_cell k began) s.cells ++ (c ∷ []))) (cell_joined s)
      ∙ ap (λ l. k.cells ++ l) (sym (map-append (joined_cell k began) s.cells (x ∷ [])))

  abbrev Views : Bytes → Type 0
  Views bs = (s : Scan) → Holds s.state k → began ≤ s.offset → scan d limit (joined k began s) bs ≡ joined_to k began (scan d limit s bs)

  module _ (s : Scan) (b : ℕ) (bs : Bytes) (ih : Views bs) (l : began ≤ s.offset) where
    abbrev Seen : Step → Type 0
    Seen x = scan_step (joined k began s) b bs (λ s'. scan d limit s' bs) x ≡ joined_to k began (scan_step s b bs (λ s'. scan d limit s' bs) x)

    cell_seen : (f : FileState) → Holds f k → Seen (Ok (f, OfCell))
    unfolding scan_step
    cell_seen f h =
        rw (raw_more s.opened b s.raw) (ih (record {
          state = f;
          offset = suc s.offset;
          start = s.start;
          size = suc s.size;
          opened = s.opened;
          raw = s.raw ++ (b ∷ []);
          cells = s.cells;
        }) h (omega arith))

    between_seen : (f : FileState) (c : Bool) → Holds f k → Seen (Ok (f, Between c))
    unfolding scan_step
    between_seen f c h =
        let next : Scan
        = record {
          state = f;
          offset = suc s.offset;
          start = s.start;
          size = suc s.size;
          opened = suc s.offset;
          raw = [];
          cells = closing_raw c s;
        } in
        rw (closing_joined c s) (rw (place_behind k.opened s.offset l, raw_behind s.offset l) at (ih next h (omega arith)))

    tail_seen : (f : FileState) (c : Bool) → Holds f k → Seen (Ok (f, Tail c))
    unfolding scan_step
    tail_seen f c h =
        let next : Scan
        = record {
          state = f;
          offset = suc s.offset;
          start = s.start;
          size = s.size;
          opened = suc s.offset;
          raw = [];
          cells = closing_raw c s;
        } in
        rw (closing_joined c s) (rw (place_behind k.opened s.offset l, raw_behind s.offset l) at (ih next h (omega arith)))

    ends_seen : (f : FileState) (c : Bool) → Seen (Ok (f, Ends c))
    unfolding scan_step
    ends_seen f c = rw (closing_joined c s)

    stays_seen : (x : Step) → Stays x → Seen x
    unfolding scan_step
    stays_seen (Err e) y_fault = refl
    stays_seen (Ok (f, OfCell)) (y_cell h) = cell_seen f (current h)
    stays_seen (Ok (f, Between c)) (y_between h) = between_seen f c (current h)
    stays_seen (Ok (f, Tail c)) (y_tail h) = tail_seen f c (current h)
    stays_seen (Ok (f, Ends c)) y_ends = ends_seen f c
    stays_seen (Ok (f, Outside)) x4 = elim x4 [ ]
    stays_seen (Ok (f, Passed)) x5 = elim x5 [ ]

    none_kept : k.cells ≡ [] → k.cells ++ [] ≡ []
    none_kept q = append-nil k.cells ∙ q

    -- nothing is pending
    none_seen : k.raw ≡ [] → k.cells ≡ [] → (x : Step) → Seen x
    unfolding scan_step
    none_seen p q (Err e) = refl
    none_seen p q (Ok (f, Outside)) =
        let next : Scan = record { state = f; offset = suc s.offset; start = s.start; size = 0; opened = suc s.offset; raw = []; cells = [] } in
        rw (place_behind k.opened s.offset l, raw_behind s.offset l, none_kept q) at (ih next (nothing_current p q) (omega arith))
    none_seen p q (Ok (f, Passed)) =
        rw (place_behind k.start s.offset l, place_behind k.opened s.offset l, raw_behind s.offset l, none_kept q) at
        (ih (scan_between f (suc s.offset)) (nothing_current p q) (omega arith))
    none_seen p q (Ok (f, OfCell)) = cell_seen f (nothing_current p q)
    none_seen p q (Ok (f, Between c)) = between_seen f c (nothing_current p q)
    none_seen p q (Ok (f, Tail c)) = tail_seen f c (nothing_current p q)
    none_seen p q (Ok (f, Ends c)) = ends_seen f c

    step_seen : Holds s.state k → Seen (file_step d s.state b)
    step_seen (current h) = stays_seen (file_step d s.state b) (step_stays d s.state b h)
    step_seen (nothing_current p q) = none_seen p q (file_step d s.state b)

    choose_seen :
        (u v : Bool) (x : Step) → Seen x →
        (choose u then fails FileTooLong (joined k began s)
        else choose v then fails RecordTooLong (joined k began s) else scan_step (joined k began s) b bs (λ s'. scan d limit s' bs) x)
        ≡ joined_to k began
        (choose u then fails FileTooLong s else choose v then fails RecordTooLong s else scan_step s b bs (λ s'. scan d limit s' bs) x)
    unfolding choose◌then◌else◌
    choose_seen true v x e = refl
    choose_seen false true x e = refl
    choose_seen false false x e = e

  views : (bs : Bytes) → Views bs
  unfolding scan
  views [] s h l = refl
  views (b ∷ bs) s h l =
      choose_seen s b bs (views bs) l (leb limit s.offset) (leb MAXRECORD s.size && counts s.state b) (file_step d s.state b)
      (step_seen s b bs (views bs) l h)

pub view : View
view d limit k began s bs h l = views d limit k began bs s h l

-- ---- a part of a file

place_buffered : (kept began : ℕ) → joined_place kept began began ≡ kept
unfolding joined_place choose◌then◌else◌
place_buffered kept began = rw (same_byte began)

raw_buffered : (k : Buffered) (began : ℕ) → joined_raw k began began [] ≡ k.raw
unfolding joined_raw choose◌then◌else◌
raw_buffered k began = rw (same_byte began) (append-nil k.raw)

position_joined : (n : ℕ) (k : Buffered) (f : FileState) (size began : ℕ) → joined k (n + began) (moved n (fresh f size began)) ≡ standing n k f size began
position_joined n k f size began =
    rw (place_buffered k.start (n + began), place_buffered k.opened (n + began), raw_buffered k (n + began), append-nil k.cells)

pub part_reads : PartReads
part_reads d target done n k f size began bs l h =
    let limit : n + (MAXFILE - n) ≡ MAXFILE = omega arith in
    let s : Scan = fresh f size began in
    scan_reads d target done (standing n k f size began) bs
    ∙ ap (λ x. resume d target done (scan d MAXFILE x bs)) (sym (position_joined n k f size began))
    ∙ ap (resume d target done) (view d MAXFILE k (n + began) (moved n s) bs h (omega arith))
    ∙ ap (λ x. resume d target done (joined_to k (n + began) (scan d x (moved n s) bs))) (sym limit)
    ∙ ap (λ x. resume d target done (joined_to k (n + began) x)) (shift d n (MAXFILE - n) s bs)
