-- A call over a piece: inside a cell it takes no steps, and after the header's step the run continues in the other arrays.
use Prim.Native.Nat.{ℕ, ◌+◌, ◌≤◌, ◌<◌}
use native.Mathlib.Omega.{arith}
use mathlib.Core.Path.{◌≡◌, refl, sym, ap, subst, ◌∙◌}
use mathlib.Core.List.{List, [], ◌∷◌, ◌++◌}
use lib.ListN.{length, take, drop, length-append}
use lib.Seq.{drop-append_seam}
use Rattle.model.specs.rules.Base.{Bytes, over}
use Rattle.model.specs.rules.Report.{accepted, MAXRECORD, MAXCOLUMNS}
use Rattle.model.specs.rules.Records.{Rec}
use Rattle.model.specs.laws.Laws.{Grows}
use Rattle.model.specs.laws.Scans.{Buffered}
use Rattle.model.specs.laws.Machine.{new_text}
use Rattle.piece_state.specs.declared.place.Place.{Place}
use Rattle.piece_state.specs.Sound.{order_end}
use Rattle.piece_step.specs.Types.{Report, Dialect, Target}
use Rattle.piece_step.specs.declared.CallResult.{CallResult}
use Rattle.piece_step.specs.declared.PieceStep.TheVariants.{Next, NeedInput, Failed}
use Rattle.piece_step.specs.Invariant.{all_buffered, scan_at, StateInvariant}
use Rattle.piece_step.specs.Steps.{InBounds, StepReady, StepInBounds, next_bounds, EncodedInFile, Follows, StepSound, steps_next, steps_pending, steps_stopped}
use Rattle.piece_step.specs.Calls.{CallStart, Named, CountsRecords, Begun}
use Rattle.piece_step.proofs.CallStart.{first_current, second_current, begun_later}
use Rattle.piece_step.proofs.Writes.{grows_none}
use Rattle.piece_step.proofs.BufferedSpans.{named_none, scan_grows, named_grows}
use Rattle.piece_step.specs.InCell.{InCellSound, all_buffered_lem, not_found}
use Rattle.std.specs.Prelude.{Option, None, Some}
use Rattle.piece_run.specs.Runs.{StepsSoFar, Entered, StepsSound, proceeds_all, proceeds_fault}
use Rattle.piece_run.proofs.Runs.{run_begins, Since, walk_more, walk_on, walk_pends}
use Rattle.piece_run.specs.PieceRun.{PieceRunSound, took_all, took_fault}

-- ---- a piece inside a cell

-- where the fast path found it, no step is left
pub cell_buffered :
    {d : Dialect} {t : Target} {piece : Bytes} {place : Place} {done : List Rec} {k : Buffered} {out bytes ends bytes' : List ℕ} {r : Option Place}
    {q : Place} {e : Report}
    (w : StepsSoFar d t piece place done k out 0 place bytes ends out 0) → InCellSound d piece place bytes ends bytes' r → r ≡ Some q → e ≡ accepted →
    StepsSound d t piece place done k w.done' out bytes' ends out (record { place = q; report = e; length = 0 })
cell_buffered {d} {t} {piece} {place} {done} {k} {out} {ends = ends} {bytes' = bytes'} {q = q} {e = e} w (all_buffered_lem {q = q'} b turns) z a =
    let same : q' ≡ q = cc in
    subst (λ (y : Place). StepsSound d t piece place done k w.done' out bytes' ends out (record { place = y; report = e; length = 0 })) same
    (walk_pends w (turns t w.done' w.k' out w.hold) b a w.done' (grows_none t w.done'))
cell_buffered w (not_found s) z a = let y : ◌≡◌ {A = ℕ} 0 1 = cc in absurd (omega arith)

pub cell_nothing :
    {d : Dialect} {piece : Bytes} {place : Place} {bytes ends bytes' : List ℕ} {r : Option Place} → InCellSound d piece place bytes ends bytes' r →
    r ≡ None → bytes' ≡ bytes
cell_nothing (all_buffered_lem b turns) z = let y : ◌≡◌ {A = ℕ} 0 1 = cc in absurd (omega arith)
cell_nothing (not_found s) z = s

pub still_proceeds :
    {d : Dialect} {t : Target} {piece : Bytes} {place : Place} {done : List Rec} {k : Buffered} {out bytes ends bytes' bytes'' ends'' out'' : List ℕ}
    {r : CallResult} →
    bytes' ≡ bytes →
    ((w : StepsSoFar d t piece place done k out 0 place bytes' ends out 0) → StepsSound d t piece place done k w.done' out bytes'' ends'' out'' r) →
    (w : StepsSoFar d t piece place done k out 0 place bytes ends out 0) → StepsSound d t piece place done k w.done' out bytes'' ends'' out'' r
still_proceeds {d} {t} {piece} {place} {done} {k} {out} {ends = ends} {bytes'' = bytes''} {ends'' = ends''} {out'' = out''} {r = r} same goes =
    subst (λ (x : List ℕ). (w : StepsSoFar d t piece place done k out 0 place x ends out 0) →
    StepsSound d t piece place done k w.done' out bytes'' ends'' out'' r) same goes

-- ---- from the header's arrays to the others

no_bytes_left : (l : Bytes) → length l ≡ 0 → l ≡ []
no_bytes_left [] e = refl
no_bytes_left (b ∷ bs) e = absurd (omega arith)

-- where nothing is buffered, any arrays hold it
hold_anywhere :
    {d : Dialect} {t : Target} {p : Place} {bytes ends : List ℕ} {done : List Rec} {k : Buffered} → StateInvariant d t p bytes ends done k →
    (p.fill ≡ 0) × (p.cells ≡ 0) → (bytes' ends' : List ℕ) → StateInvariant d t p bytes' ends' done k
hold_anywhere {ends = ends} {k = k} h none bytes' ends' =
    record {
      starts = h.starts;
      opens = h.opens;
      holds = h.holds;
      sized = h.sized;
      runs = h.runs;
      whole = h.whole;
      cells = h.cells;
      shown = λ l.
          let s = h.shown l in
          let z : length k.cells ≡ 0 = sym h.cells ∙ none.1 in
          record {
            fill = s.fill;
            bytes_kept = ap (λ (m : ℕ). take m bytes') none.0 ∙ sym (no_bytes_left (all_buffered k) (sym s.fill ∙ none.0));
            ends_kept = ap (λ (m : ℕ). take m ends') z ∙ sym (ap (λ (m : ℕ). take m ends) z) ∙ s.ends_kept;
          };
      records = h.records;
      columns = h.columns;
      written = h.written;
    }

bounds_anywhere : {p : Place} {ends : List ℕ} → InBounds p ends → p.cells ≡ 0 → (ends' : List ℕ) → InBounds p ends'
bounds_anywhere {p} b none ends' =
    let l : 0 ≤ p.fill = omega arith in
    record {
      size = b.size;
      fill = b.fill;
      offset = b.offset;
      written = b.written;
      records = b.records;
      cells = b.cells;
      ordered = λ _. rw none (order_end l);
      between = b.between;
    }

pub none_current :
    {piece : Bytes} {n i : ℕ} {q : Place} {at end : ℕ} {ends out : List ℕ} → StepInBounds piece n i ends out (Next q at end) → (q.fill ≡ 0) × (q.cells ≡ 0)
none_current (next_bounds b a on in_piece room none) = none

pub ready_behind :
    {piece : Bytes} {n i : ℕ} {q : Place} {at end : ℕ} {ends' bytes ends out out' : List ℕ} → StepInBounds piece n i ends' out (Next q at end) →
    length bytes ≡ MAXRECORD → length ends ≡ MAXCOLUMNS →
    length out' ≡ length out → StepReady piece n at q bytes ends out' end
ready_behind {ends = ends} (next_bounds b a on in_piece room none) x y z =
    record { bounds = bounds_anywhere b none.1 ends; at = a; inside = in_piece; room = omega arith; long_bytes = x; long_ends = y }

pub entered_of :
    {d : Dialect} {t : Target} {piece : Bytes} {p : Place} {bytes ends out : List ℕ} {done : List Rec} {k : Buffered} →
    CallStart d t piece p bytes ends out done k → Entered d t piece p done k out
entered_of b = record { reached = b.reached; short = b.short; room = b.room }

-- ---- a whole call

named_first :
    (file : Bytes) (names ends : List ℕ) (x : Rec) (rs : List Rec) → length rs ≡ 0 → EncodedInFile file names 0 ends x.cells →
    Named file names ends (rs ++ (x ∷ []))
named_first file names ends x [] e n = n
named_first file names ends x (y ∷ rs) e n = absurd (omega arith)

named_on :
    (file : Bytes) (names ends : List ℕ) (mid : List Rec) {rs : List Rec} → 1 ≤ length mid → Named file names ends mid → Grows mid rs → Named file names ends rs
named_on file names ends [] l n g = absurd (omega arith)
named_on file names ends (x ∷ mid) l n g = subst (Named file names ends) (sym g.sum) n

-- until the header is complete, its buffered cells are encoded as in the file
pub begun_follows :
    {d : Dialect} {t : Target} {before piece : Bytes} {p : Place} {names name_ends bytes ends out : List ℕ} {done : List Rec} {k : Buffered} →
    Begun d t before piece p names name_ends bytes ends out done k → p.records ≡ 0 →
    Follows (before ++ piece) piece 0 p k
begun_follows {before = before} {piece = piece} {p = p} {k = k} b none =
    record {
      rest = ap (λ (n : ℕ). drop n (before ++ piece)) b.offset ∙ drop-append_seam before piece;
      kept = scan_grows before piece (scan_at p k) (b.heads.kept (sym b.begins.hold.records ∙ none));
    }

-- a step after the header, whose names do not change
pub record Headed (file : Bytes) (d : Dialect) (t : Target) (piece : Bytes) (place : Place) (done : List Rec) (k : Buffered)
    (out₀ names name_ends : List ℕ) (i : ℕ) (p : Place) (bytes ends out : List ℕ) (o : ℕ) : Type 0 where
  pub now : StepsSoFar d t piece place done k out₀ i p bytes ends out o
  pub behind : 1 ≤ length now.done'
  pub named : Named file names name_ends now.done'

pub headed_begins :
    {d : Dialect} {t : Target} {before piece : Bytes} {p : Place} {names name_ends bytes ends out : List ℕ} {done : List Rec} {k : Buffered} →
    Begun d t before piece p names name_ends bytes ends out done k → 0 < p.records →
    Headed (before ++ piece) d t piece p done k out names name_ends 0 p bytes ends out 0
unfolding run_begins
headed_begins {before = before} {piece = piece} {names = names} {name_ends = name_ends} {done = done} b more =
    let begins = begun_later b (λ e. omega arith) in
    record { now = run_begins begins; behind = omega (arith, begins.hold.records); named = named_grows before piece names name_ends done b.heads.named }

module _ {d : Dialect} {t : Target} {piece : Bytes} {place : Place} {names name_ends out : List ℕ} {done : List Rec} {k : Buffered}
    (b : CallStart d t piece place names name_ends out done k) where
  pub headed_next :
      {file : Bytes} {q : Place} {at end : ℕ} {names' name_ends' out' : List ℕ} → Follows file piece 0 place k → place.records ≡ 0 →
      StepSound d t piece 0 place done k 0 out names' name_ends' out' (Next q at end) → (q.fill ≡ 0) × (q.cells ≡ 0) →
      (bytes ends : List ℕ) → Headed file d t piece place done k out names' name_ends' at q bytes ends out' end
  unfolding run_begins walk_more walk_on
  headed_next {file} {q} {at} {end} {names'} {name_ends'} {out'} f first (steps_next x k'' r h n v e) none bytes ends =
      let turn : StepSound d t piece 0 place done k 0 out names' name_ends' out' (Next q at end) = steps_next x k'' r h n v e in
      let since : Since done d t piece place done k out at q names' name_ends' out' end = walk_on (run_begins b) (grows_none t done) turn in
      let w : StepsSoFar d t piece place done k out at q names' name_ends' out' end = since.now in
      record {
        now =
            record {
              done' = done ++ (x ∷ []);
              k' = k'';
              hold = hold_anywhere h none bytes ends;
              grown = w.grown;
              reads = w.reads;
              text = w.text;
              long = w.long;
            };
        behind = omega (arith, length-append done (x ∷ []));
        named = named_first file names' name_ends' x done (sym b.hold.records ∙ first) (n file f);
      }

  pub took_pended :
      {before : Bytes} {q : Place} {e : Report} {names' name_ends' out' : List ℕ} → Follows (before ++ piece) piece 0 place k → place.records ≡ 0 →
      StepSound d t piece 0 place done k 0 out names' name_ends' out' (NeedInput q) →
      InBounds q name_ends' → e ≡ accepted → (bytes ends : List ℕ) →
      PieceRunSound d t before piece place done k out names' name_ends' bytes ends out' (record { place = q; report = e; length = 0 })
  unfolding run_begins
  took_pended {before} {q} {names' = names'} {name_ends' = name_ends'} f first (steps_pending k'' r h z v) i e bytes ends =
      let w = run_begins b in
      let none : length done ≡ 0 = sym b.hold.records ∙ first in
      let header : q.records ≡ 0 = h.records ∙ none in
      took_all done k'' r (rw (first_current q names' bytes header, first_current q name_ends' ends header) h)
      (record { named = named_none (before ++ piece) names' name_ends' done none; kept = λ _. z (before ++ piece) f })
      (rw (first_current q name_ends' ends header) i) e (v ∙ w.text) w.long

  pub took_stopped :
      {before : Bytes} {e : Report} {names' name_ends' out' : List ℕ} → place.records ≡ 0 →
      StepSound d t piece 0 place done k 0 out names' name_ends' out' (Failed e) →
      (bytes ends : List ℕ) →
      PieceRunSound d t before piece place done k out names' name_ends' bytes ends out' (record { place = place; report = e; length = 0 })
  unfolding run_begins
  took_stopped {before} {names' = names'} {name_ends' = name_ends'} first (steps_stopped x q r f e v) bytes ends =
      let w = run_begins b in
      let none : length q.done ≡ 0 = ap length f ∙ sym b.hold.records ∙ first in
      took_fault x q r (subst (CountsRecords place) (sym f) (record { records = b.hold.records; columns = b.hold.columns }))
      (named_none (before ++ piece) names' name_ends' q.done none) e (v ∙ w.text ∙ ap (λ (l : List Rec). over (new_text t done l) out) (sym f))
      (w.long ∙ ap (λ (l : List Rec). length (new_text t done l)) (sym f))

-- the steps after the header do not change its names
pub took_later :
    {d : Dialect} {t : Target} {before piece : Bytes} {place : Place} {done : List Rec} {k : Buffered} {out₀ names name_ends : List ℕ} {i : ℕ}
    {p : Place} {bytes ends out : List ℕ} {o : ℕ} {bytes' ends' out' : List ℕ} {r : CallResult}
    (h : Headed (before ++ piece) d t piece place done k out₀ names name_ends i p bytes ends out o) →
    StepsSound d t piece place done k h.now.done' out₀ bytes' ends' out' r →
    PieceRunSound d t before piece place done k out₀ names name_ends bytes' ends' out' r
took_later {before = before} {piece = piece} {names = names} {name_ends = name_ends} {bytes' = bytes'} {ends' = ends'} {r = r} h
    (proceeds_all done' k' g reads hold bounds told text long) =
    let m : length done' ≡ length h.now.done' + length g.added = ap length g.sum ∙ length-append h.now.done' g.added in
    let records : r.place.records ≡ length done' = hold.records in
    let behind : 1 ≤ length h.now.done' = h.behind in
    let later : r.place.records ≡ 0 → ⊥ = λ e. omega arith in
    took_all done' k' reads (rw (second_current r.place names bytes' later, second_current r.place name_ends ends' later) hold)
    (record { named = named_on (before ++ piece) names name_ends h.now.done' behind h.named g; kept = λ e. absurd (omega arith) })
    (rw (second_current r.place name_ends ends' later) bounds) told text long
took_later {before = before} {piece = piece} {names = names} {name_ends = name_ends} h (proceeds_fault x q g reads counts told text long) =
    took_fault x q reads counts (named_on (before ++ piece) names name_ends h.now.done' h.behind h.named g) told text long
