-- Laws of the next token: a byte is read by its step, a cell by its automaton, and the ordinary bytes of a comment leave the state of
-- reading unchanged.
use Prim.Native.Nat.{ℕ, zero, suc, ◌+◌, ◌-◌, ◌≤◌, ◌<◌}
use native.Mathlib.Numerals.{add-one}
use native.Mathlib.Omega.{arith}
use mathlib.Core.Path.{◌≡◌, refl, sym, ap, subst, ◌∙◌}
use mathlib.Core.Bool.{Bool, true, false, ◌&&◌}
use mathlib.Core.List.{List, [], ◌∷◌, ◌++◌}
use lib.ListN.{length, drop, get_or, length-drop}
use lib.Seq.{drop-cons, take-suc, length-take-le, get_or-drop}
use lib.Dec.{leb}
use borrow.Author.Tests.{lt-leb}
use Rattle.model.proofs.Tests.{impossible}
use Rattle.model.specs.rules.Base.{choose◌then◌else◌, Bytes}
use Rattle.model.specs.rules.Cell.{cell_step}
use Rattle.model.specs.rules.File.{file_step, in_cell, after_cell, counts}
use Rattle.model.specs.rules.Report.{MAXRECORD}
use Rattle.model.specs.laws.Scans.{RawCell, Scan, ScanResult, scan_step, scan}
use Rattle.cell_scanner.specs.Run.{ordinary, leading, cell_run}
use Rattle.model.specs.rules.Api.{slice}
use Rattle.file_lexer.specs.Dispatched.{step_of}
use Rattle.file_lexer.specs.declared.Dispatched.{Dispatched}
use Rattle.file_lexer.specs.declared.Dispatched.TheVariants as held
use Rattle.cell_scanner.specs.declared.CellEnd.{CellEnd}
use Rattle.cell_scanner.specs.declared.CellEnd.TheVariants as cell-end
use Rattle.cell_scanner.proofs.Runs.{part_end, part_short, leading_on, leading_ends, leading_none, rest_more, rest_stops, rest_refused, rest_open, comment_step}
use Rattle.model.specs.declared.Dialect.{Dialect}
use Rattle.model.specs.declared.Char.TheVariants.{Whole, Within}
use Rattle.model.specs.declared.ByteFault.{ByteFault}
use Rattle.model.specs.declared.Cell.{Cell}
use Rattle.model.specs.declared.CellStep.{CellStep}
use Rattle.model.specs.declared.CellStep.TheVariants.{More, Stop, Refuse}
use Rattle.model.specs.declared.FileState.{FileState}
use Rattle.model.specs.declared.FileState.TheVariants.{Top, Begin, Ended, Bom1, Bom2, PlainBom1, PlainBom2, Comment, Blanks, ExpectCell, Inside, After, Cr}
use Rattle.model.specs.declared.ByteRole.{ByteRole}
use Rattle.model.specs.declared.ByteRole.TheVariants.{Outside, Passed, OfCell, Between, Tail, Ends}
use Rattle.model.specs.rules.Types.{Step}
use Rattle.std.specs.Prelude.{Ok, Err, min}
use Rattle.model.specs.declared.Fault.TheVariants.{Byte}
use Rattle.record_scanner.specs.Types.{RecordState, Token, Is, Skipped, AfterCell, Refused, Open}
use Rattle.record_scanner.specs.CurrentRecord.{ends_record, state_after_byte, extended_by}
use Rattle.record_scanner.specs.Parts.{Found, found_of, found_in}
use Rattle.record_scanner.specs.declared.token.ScanOutcome.TheVariants as reached
use Rattle.codes.proofs.Least.{least_first, least_second, least_above}
use Rattle.record_scanner.specs.Tokens.{scan_at, cells_next, stepped_at, met_next, Free, TokenCorrect, TokenInBounds, comment_end}

-- ---- one byte

pub part_one : (s : Bytes) (i j : ℕ) → i ≤ j → j < length s → slice s i (j + 1) ≡ slice s i j ++ (get_or s j 0 ∷ [])
part_one s i j h k =
    let n : j + 1 - i ≡ suc (j - i) = omega arith in
    let l : length (drop i s) ≡ length s - i = length-drop i s in
    let g : j - i < length (drop i s) = omega arith in
    let m : i + (j - i) ≡ j = omega arith in
    rw n (take-suc (drop i s) (j - i) 0 g ∙ ap (λ (b : ℕ). slice s i j ++ (b ∷ [])) (get_or-drop i s (j - i) 0 ∙ ap (λ (k' : ℕ). get_or s k' 0) m))

module _ (d : Dialect) (limit : ℕ) (part : Bytes) where
  -- after a byte that does not end its record, scanning is described by the record's numbers after it
  pub goes_to : (p : ByteRole) (f g : FileState) (i : ℕ) (h : RecordState) (cs : List RawCell) → h.opened ≤ i → i < length part
      → ends_record p ≡ false
      → stepped_at d limit part f i h cs (Ok (g, p)) ≡ found_in d limit
      (scan_at part g (i + 1) (state_after_byte p i h) (cells_next p (scan_at part f i h cs))) (drop (i + 1) part)
  unfolding scan_step
  goes_to Outside f g i h cs o l e = let n : slice part (i + 1) (i + 1) ≡ [] = part_end part (i + 1) in rw (n, add-one i)
  goes_to Passed f g i h cs o l e = let n : slice part (i + 1) (i + 1) ≡ [] = part_end part (i + 1) in rw (n, add-one i)
  goes_to OfCell f g i h cs o l e =
      let n : slice part h.opened (i + 1) ≡ slice part h.opened i ++ (get_or part i 0 ∷ []) = part_one part h.opened i o l in
      rw (n, add-one i, add-one h.size)
  goes_to (Between k) f g i h cs o l e = let n : slice part (i + 1) (i + 1) ≡ [] = part_end part (i + 1) in rw (n, add-one i, add-one h.size)
  goes_to (Tail k) f g i h cs o l e = let n : slice part (i + 1) (i + 1) ≡ [] = part_end part (i + 1) in rw (n, add-one i)
  goes_to (Ends k) f g i h cs o l e = impossible (sym e)

  -- a byte that is refused
  pub refuses : (x : ByteFault) (f : FileState) (i : ℕ) (h : RecordState) (cs : List RawCell)
      → stepped_at d limit part f i h cs (Err x) ≡ record { answer = reached.Failed (Byte x) i; cells = cs }
  unfolding scan_step
  refuses x f i h cs = refl

  -- a byte that is not one too many takes its step
  pub next_step : (f : FileState) (i : ℕ) (h : RecordState) (cs : List RawCell) → i < length part → i < limit
      → (leb MAXRECORD h.size && counts f (get_or part i 0)) ≡ false
      → found_in d limit (scan_at part f i h cs) (drop i part) ≡ stepped_at d limit part f i h cs (file_step d f (get_or part i 0))
  unfolding scan choose◌then◌else◌
  next_step f i h cs l m e =
      let n : drop i part ≡ get_or part i 0 ∷ drop (i + 1) part = rw (add-one, drop-cons part i 0) in
      let t : leb limit i ≡ false = lt-leb limit i m in
      rw (n, scan, t, e)

-- ---- the rest of a cell

-- the end of a cell's run as a token
abbrev pub met_of : (stop : ℕ) → CellEnd → Token
met_of stop (cell-end.Stopped c j) = AfterCell true j
met_of stop (cell-end.Refused e j) = Refused e j
met_of stop (cell-end.Open c) = Open c stop

-- it is not before i
abbrev Past : (i : ℕ) → CellEnd → Type 0
Past i (cell-end.Stopped c j) = i ≤ j
Past i (cell-end.Refused e j) = i ≤ j
Past i (cell-end.Open c) = Unit {0}

past_later : (i : ℕ) (e : CellEnd) → Past (suc i) e → Past i e
past_later i (cell-end.Stopped c j) h = omega arith
past_later i (cell-end.Refused e j) h = omega arith
past_later i (cell-end.Open c) h = tt

run_past : (d : Dialect) (c : Cell) (i : ℕ) (bs : Bytes) → Past i (cell_run d c i bs)
unfolding cell_run
run_past d c i [] = tt
run_past d c i (b ∷ bs) = go (cell_step d c b) (λ t. run_past d t (suc i) bs)
  where
    go : (a : CellStep) → ((t : Cell) → Past (suc i) (cell_run d t (suc i) bs))
        → Past i (elim a [ More t ↦ cell_run d t (suc i) bs | Stop ↦ cell-end.Stopped c i | Refuse e ↦ cell-end.Refused e i ])
    go (More t) ih = past_later i (cell_run d t (suc i) bs) (ih t)
    go Stop ih = omega arith
    go (Refuse e) ih = omega arith

-- it is before n
abbrev Before : (n : ℕ) → CellEnd → Type 0
Before n (cell-end.Stopped c j) = j < n
Before n (cell-end.Refused e j) = j < n
Before n (cell-end.Open c) = Unit {0}

before_same : (m n : ℕ) → m ≡ n → (e : CellEnd) → Before m e → Before n e
before_same m n q (cell-end.Stopped c j) h = omega arith
before_same m n q (cell-end.Refused e j) h = omega arith
before_same m n q (cell-end.Open c) h = tt

run_before : (d : Dialect) (c : Cell) (i : ℕ) (bs : Bytes) → Before (i + length bs) (cell_run d c i bs)
unfolding cell_run
run_before d c i [] = tt
run_before d c i (b ∷ bs) = go (cell_step d c b) (λ t. run_before d t (suc i) bs)
  where
    go : (a : CellStep) → ((t : Cell) → Before (suc i + length bs) (cell_run d t (suc i) bs))
        → Before (i + suc (length bs)) (elim a [ More t ↦ cell_run d t (suc i) bs | Stop ↦ cell-end.Stopped c i | Refuse e ↦ cell-end.Refused e i ])
    go (More t) ih = before_same (suc i + length bs) (i + suc (length bs)) (omega arith) (cell_run d t (suc i) bs) (ih t)
    go Stop ih = omega arith
    go (Refuse e) ih = omega arith

-- a step does not depend on the file's state before it
step_form : (part : Bytes) (f g : FileState) (j b : ℕ) (h : RecordState) (cs : List RawCell) (left : Bytes) (more : Scan → ScanResult)
    (s : Step) → found_of (scan_step (scan_at part f j h cs) b left more s) ≡ found_of (scan_step (scan_at part g j h cs) b left more s)
unfolding scan_step
step_form part f g j b h cs left more (Err e) = refl
step_form part f g j b h cs left more (Ok (t, Outside)) = refl
step_form part f g j b h cs left more (Ok (t, Passed)) = refl
step_form part f g j b h cs left more (Ok (t, OfCell)) = refl
step_form part f g j b h cs left more (Ok (t, Between true)) = refl
step_form part f g j b h cs left more (Ok (t, Between false)) = refl
step_form part f g j b h cs left more (Ok (t, Tail true)) = refl
step_form part f g j b h cs left more (Ok (t, Tail false)) = refl
step_form part f g j b h cs left more (Ok (t, Ends true)) = refl
step_form part f g j b h cs left more (Ok (t, Ends false)) = refl

module _ (d : Dialect) (limit : ℕ) (part : Bytes) (cs : List RawCell) (stop : ℕ) (inside : stop ≤ length part) (under : stop ≤ limit) where
  abbrev Runs : FileState → (i : ℕ) → RecordState → Cell → Type 0
  Runs f i h c =
      found_in d limit (scan_at part f i h cs) (drop i part) ≡ met_next d limit part f i h cs (met_of stop (cell_run d c i (slice part i stop)))

  -- one byte later, with one more byte counted, the next token is the same
  shift : (f g : FileState) (i : ℕ) (h : RecordState) (e : CellEnd) → Past (i + 1) e → i < stop
      → met_next d limit part g (i + 1) (extended_by h 1) cs (met_of stop e) ≡ met_next d limit part f i h cs (met_of stop e)
  unfolding met_next
  shift f g i h (cell-end.Stopped c j) p l =
      let n : h.size + 1 + (j - (i + 1)) ≡ h.size + (j - i) = omega arith in
      let s : Step = after_cell d true (get_or part j 0) in
      step_form part g f j (get_or part j 0) (extended_by (extended_by h 1) (j - (i + 1))) cs (drop (j + 1) part) (λ t. scan d limit t (drop (j + 1) part)) s
      ∙ ap (λ (m : ℕ). stepped_at d limit part f j (record { start = h.start; size = m; opened = h.opened; cells = h.cells }) cs s) n
  shift f g i h (cell-end.Refused e j) p l = refl
  shift f g i h (cell-end.Open c) p l =
      let n : h.size + 1 + (stop - (i + 1)) ≡ h.size + (stop - i) = omega arith in
      ap (λ (m : ℕ). found_in d limit (scan_at part (Inside c) stop (record {
        start = h.start;
        size = m;
        opened = h.opened;
        cells = h.cells;
      }) cs) (drop stop part)) n

  one : (f : FileState) (i : ℕ) (h : RecordState) (c : Cell) → i < stop → h.opened ≤ i
      → (leb MAXRECORD h.size && counts f (get_or part i 0)) ≡ false → in_cell d c (get_or part i 0) ≡ file_step d f (get_or part i 0)
      → ((t : Cell) → cell_step d c (get_or part i 0) ≡ More t → Runs (Inside t) (i + 1) (extended_by h 1) t) → Runs f i h c
  unfolding met_next in_cell
  one f i h c l o e q rest =
      let start : found_in d limit (scan_at part f i h cs) (drop i part) ≡ stepped_at d limit part f i h cs (in_cell d c (get_or part i 0)) =
      next_step d limit part f i h cs (omega arith) (omega arith) e ∙ ap (λ (s : Step). stepped_at d limit part f i h cs s) (sym q) in
      start ∙ go (cell_step d c (get_or part i 0)) refl
    where
      z : h.size + (i - i) ≡ h.size
      z = omega arith

      go : (a : CellStep) → cell_step d c (get_or part i 0) ≡ a
          → stepped_at d limit part f i h cs (in_cell d c (get_or part i 0)) ≡ met_next d limit part f i h cs (met_of stop (cell_run d c i (slice part i stop)))
      go (More t) a =
          let past : Past (i + 1) (cell_run d t (i + 1) (slice part (i + 1) stop)) = run_past d t (i + 1) (slice part (i + 1) stop) in
          let same : cell_run d c i (slice part i stop) ≡ cell_run d t (i + 1) (slice part (i + 1) stop) = rest_more d c part i stop l inside t a in
          rw (a, same) (
          goes_to d limit part OfCell f (Inside t) i h cs o (omega arith) refl
          ∙ rest t a
          ∙ shift f (Inside t) i h (cell_run d t (i + 1) (slice part (i + 1) stop)) past l)
      go Stop a =
          rw (a, rest_stops d c part i stop l inside a) (sym (ap (λ (m : ℕ). stepped_at d limit part f i (record {
            start = h.start;
            size = m;
            opened = h.opened;
            cells = h.cells;
          }) cs (after_cell d true (get_or part i 0))) z))
      go (Refuse x) a = rw (a, rest_refused d c part i stop l inside x a) (refuses d limit part x f i h cs)

  -- inside a cell, up to where a limit may be reached
  runs : (n i : ℕ) (h : RecordState) (c : Cell) → stop - i ≡ n → i ≤ stop → h.opened ≤ i → (i < stop → h.size + (stop - i) ≤ MAXRECORD)
      → Runs (Inside c) i h c
  unfolding met_next file_step in_cell
  runs zero i h c n l o m =
      let e : stop ≡ i = omega arith in
      let z : h.size + (i - i) ≡ h.size = omega arith in
      rw (e, rest_open d c part i) (sym (ap (λ (k : ℕ). found_in d limit (scan_at part (Inside c) i (record {
        start = h.start;
        size = k;
        opened = h.opened;
        cells = h.cells;
      }) cs) (drop i part)) z))
  runs (suc n) i h c e l o m =
      let g : h.size + (stop - i) ≤ MAXRECORD = m (omega arith) in
      one (Inside c) i h c (omega arith) o (not_full (Inside c) i h (omega arith)) refl
      λ t a. runs n (i + 1) (extended_by h 1) t (omega arith) (omega arith) (omega arith) λ k. omega arith
    where
      not_full : (f : FileState) (j : ℕ) (k : RecordState) → k.size < MAXRECORD → (leb MAXRECORD k.size && counts f (get_or part j 0)) ≡ false
      not_full f j k l = rw (lt-leb MAXRECORD k.size l)

-- ---- the token, by the lexer's result

-- a cell
pub cell_results : (d : Dialect) (limit : ℕ) (part : Bytes) (f : FileState) (c : Cell) (i size stop : ℕ)
    → Free (length part) limit i size stop → in_cell d c (get_or part i 0) ≡ file_step d f (get_or part i 0)
    → TokenCorrect d limit part f i size (met_of stop (cell_run d c i (slice part i stop)))
cell_results d limit part f c i size stop free q =
    record {
      comes =
          λ h cs e o n.
          let a : i < stop = free.on in
          one d limit part cs stop free.inside free.under f i h c a o n q
          λ t _. runs d limit part cs stop free.inside free.under (stop - (i + 1)) (i + 1) (extended_by h 1) t refl (omega arith) (omega arith)
          λ k. let m : size + (stop - i) ≤ MAXRECORD = free.fits k in omega arith;
    }

-- a byte outside cells
pub byte_results : (d : Dialect) (limit : ℕ) (part : Bytes) (f : FileState) (i size : ℕ) → i < length part → i < limit → (s : Step)
    → s ≡ file_step d f (get_or part i 0) → TokenCorrect d limit part f i size (Is s)
unfolding met_next
byte_results d limit part f i size l m s q =
    record { comes = λ h cs e o n. next_step d limit part f i h cs l m n ∙ ap (λ (t : Step). stepped_at d limit part f i h cs t) (sym q) }

-- a byte after a cell and blanks
pub after_results : (d : Dialect) (limit : ℕ) (part : Bytes) (f : FileState) (i size : ℕ) → i < length part → i < limit
    → after_cell d false (get_or part i 0) ≡ file_step d f (get_or part i 0) → TokenCorrect d limit part f i size (AfterCell false i)
unfolding met_next
after_results d limit part f i size l m q =
    record {
      comes =
          λ h cs e o n.
          let z : h.size ≡ h.size + (i - i) = omega arith in
          next_step d limit part f i h cs l m n
          ∙ ap (λ (t : Step). stepped_at d limit part f i h cs t) (sym q)
          ∙ ap (λ (k : ℕ). stepped_at d limit part f i (record {
            start = h.start;
            size = k;
            opened = h.opened;
            cells = h.cells;
          }) cs (after_cell d false (get_or part i 0))) z;
    }

-- the end of a cell's run is in the part
pub cell_lies : (d : Dialect) (limit : ℕ) (c : Cell) (part : Bytes) (f : FileState) (i size stop : ℕ) → Free (length part) limit i size stop
    → TokenInBounds d limit part f i (met_of stop (cell_run d c i (slice part i stop)))
cell_lies d limit c part f i size stop free = go (cell_run d c i (slice part i stop)) (run_past d c i (slice part i stop)) (run_before d c i (slice part i stop))
  where
    sized : length (slice part i stop) ≡ stop - i
    sized =
        let a : stop ≤ length part = free.inside in
        let g : length (drop i part) ≡ length part - i = length-drop i part in
        length-take-le (stop - i) (drop i part) (omega arith)

    go : (e : CellEnd) → Past i e → Before (i + length (slice part i stop)) e → TokenInBounds d limit part f i (met_of stop e)
    go (cell-end.Stopped t j) p b =
        let z : length (slice part i stop) ≡ stop - i = sized in
        let a : i < stop = free.on in
        let k : stop ≤ length part = free.inside in
        let l : stop ≤ limit = free.under in (p, omega arith, omega arith)
    go (cell-end.Refused e j) p b =
        let z : length (slice part i stop) ≡ stop - i = sized in
        let a : i < stop = free.on in
        let k : stop ≤ length part = free.inside in omega arith
    go (cell-end.Open t) p b = (free.on, free.inside, free.under)

-- ---- the ordinary bytes of a comment

abbrev outside : (start i : ℕ) → RecordState
outside s i = record { start = s; size = 0; opened = i; cells = 0 }

module _ (d : Dialect) (limit : ℕ) (part : Bytes) (start stop : ℕ) (inside : stop ≤ length part) (under : stop ≤ limit) where
  abbrev From : ℕ → Found
  From i = found_in d limit (scan_at part (Comment Whole) i (outside start i) []) (drop i part)

  -- an ordinary byte, whatever the record before it
  past_one : (i : ℕ) (h : RecordState) (cs : List RawCell) → h.start ≡ start → h.opened ≤ i → i < stop
      → (leb MAXRECORD h.size && counts (Comment Whole) (get_or part i 0)) ≡ false → ordinary 0 0 (get_or part i 0) ≡ true
      → found_in d limit (scan_at part (Comment Whole) i h cs) (drop i part) ≡ From (i + 1)
  past_one i h cs s o l e q =
      next_step d limit part (Comment Whole) i h cs (omega arith) (omega arith) e
      ∙ rw (comment_step d (get_or part i 0) q) (
      goes_to d limit part Outside (Comment Whole) (Comment Whole) i h cs o (omega arith) refl
      ∙ ap (λ (k : ℕ). found_in d limit (scan_at part (Comment Whole) (i + 1) (outside k (i + 1)) []) (drop (i + 1) part)) s)

  comment_on : (n i : ℕ) → stop - i ≡ n → i ≤ stop → From i ≡ From (i + leading 0 0 (slice part i stop))
  comment_on zero i e l =
      let z : stop ≡ i = omega arith in
      rw z (ap From (sym (leading_none part i 0 0)))
  comment_on (suc n) i e l =
      go (ordinary 0 0 (get_or part i 0)) refl (comment_on n (i + 1) (omega arith) (omega arith))
    where
      go : (t : Bool) → ordinary 0 0 (get_or part i 0) ≡ t → From (i + 1) ≡ From (i + 1 + leading 0 0 (slice part (i + 1) stop))
          → From i ≡ From (i + leading 0 0 (slice part i stop))
      go true q ih =
          past_one i (outside start i) [] refl (omega arith) (omega arith) refl q ∙ ih ∙ ap From (sym (leading_on part i stop 0 0 (omega arith) inside q))
      go false q ih = ap From (sym (leading_ends part i stop 0 0 (omega arith) inside q))

comment_skips : (d : Dialect) (limit : ℕ) (part : Bytes) (i size stop : ℕ) → i < stop → stop ≤ length part → stop ≤ limit
    → i < i + leading 0 0 (slice part i stop) → TokenCorrect d limit part (Comment Whole) i size (Skipped (i + leading 0 0 (slice part i stop)))
unfolding met_next
comment_skips d limit part i size stop l inside under more = go (ordinary 0 0 (get_or part i 0)) refl
  where
    go : (t : Bool) → ordinary 0 0 (get_or part i 0) ≡ t → TokenCorrect d limit part (Comment Whole) i size (Skipped (i + leading 0 0 (slice part i stop)))
    go true q =
        record {
          comes =
              λ h cs e o n.
              let j : ℕ = i + leading 0 0 (slice part i stop) in
              let m : j ≡ i + 1 + leading 0 0 (slice part (i + 1) stop) = leading_on part i stop 0 0 l inside q in
              let z : j ≡ j - 1 + 1 = omega arith in
              past_one d limit part h.start stop inside under i h cs refl o l n q
              ∙ comment_on d limit part h.start stop inside under (stop - (i + 1)) (i + 1) refl (omega arith)
              ∙ ap (From d limit part h.start stop inside under) (sym m)
              ∙ ap (λ (k : ℕ). found_in d limit (scan_at part (Comment Whole) j (outside h.start k) []) (drop j part)) z;
        }
    go false q = let m : i + leading 0 0 (slice part i stop) ≡ i = leading_ends part i stop 0 0 l inside q in absurd (omega arith)

pub comment_results : (d : Dialect) (limit : ℕ) (part : Bytes) (f : FileState) (i size : ℕ) → i < length part → i < limit
    → i < comment_end f part limit i → TokenCorrect d limit part f i size (Skipped (comment_end f part limit i))
comment_results d limit part (Comment Whole) i size l m more =
    comment_skips d limit part i size (min (length part) limit) (least_above i (length part) limit l m) (least_first (length part) limit)
    (least_second (length part) limit) more
comment_results d limit part Top i size l m more = absurd (omega arith)
comment_results d limit part Begin i size l m more = absurd (omega arith)
comment_results d limit part Ended i size l m more = absurd (omega arith)
comment_results d limit part Bom1 i size l m more = absurd (omega arith)
comment_results d limit part Bom2 i size l m more = absurd (omega arith)
comment_results d limit part PlainBom1 i size l m more = absurd (omega arith)
comment_results d limit part PlainBom2 i size l m more = absurd (omega arith)
comment_results d limit part (Comment (Within n)) i size l m more = absurd (omega arith)
comment_results d limit part Blanks i size l m more = absurd (omega arith)
comment_results d limit part ExpectCell i size l m more = absurd (omega arith)
comment_results d limit part (Inside c) i size l m more = absurd (omega arith)
comment_results d limit part After i size l m more = absurd (omega arith)
comment_results d limit part Cr i size l m more = absurd (omega arith)

pub comment_lies : (d : Dialect) (limit : ℕ) (part : Bytes) (f : FileState) (i : ℕ) → i < length part → i < limit
    → i < comment_end f part limit i → TokenInBounds d limit part f i (Skipped (comment_end f part limit i))
comment_lies d limit part (Comment Whole) i l m more =
    let a : i < min (length part) limit = least_above i (length part) limit l m in
    let b : min (length part) limit ≤ length part = least_first (length part) limit in
    let c : min (length part) limit ≤ limit = least_second (length part) limit in
    let e : i + leading 0 0 (slice part i (min (length part) limit)) ≤ min (length part) limit =
    part_short 0 0 part i (min (length part) limit) (omega arith) b in
    (refl, more, omega arith, omega arith)
comment_lies d limit part Top i l m more = absurd (omega arith)
comment_lies d limit part Begin i l m more = absurd (omega arith)
comment_lies d limit part Ended i l m more = absurd (omega arith)
comment_lies d limit part Bom1 i l m more = absurd (omega arith)
comment_lies d limit part Bom2 i l m more = absurd (omega arith)
comment_lies d limit part PlainBom1 i l m more = absurd (omega arith)
comment_lies d limit part PlainBom2 i l m more = absurd (omega arith)
comment_lies d limit part (Comment (Within n)) i l m more = absurd (omega arith)
comment_lies d limit part Blanks i l m more = absurd (omega arith)
comment_lies d limit part ExpectCell i l m more = absurd (omega arith)
comment_lies d limit part (Inside c) i l m more = absurd (omega arith)
comment_lies d limit part After i l m more = absurd (omega arith)
comment_lies d limit part Cr i l m more = absurd (omega arith)

-- ---- by the lexer's results

abbrev Lies : Dialect → (limit : ℕ) → Bytes → FileState → (i size : ℕ) → Token → Type 0
Lies d limit part f i size m = TokenInBounds d limit part f i m × TokenCorrect d limit part f i size m

module _ (d : Dialect) (limit : ℕ) (part : Bytes) (f : FileState) (i size : ℕ) (l : i < length part) (m : i < limit) where
  pub met_skipped : (j : ℕ) → j ≡ comment_end f part limit i → i < j → Lies d limit part f i size (Skipped j)
  met_skipped j e h =
      subst (λ (k : ℕ). i < k → Lies d limit part f i size (Skipped k)) (sym e)
      (λ g. (comment_lies d limit part f i l m g, comment_results d limit part f i size l m g)) h

  module _ (r : Dispatched) (q : step_of d r (get_or part i 0) ≡ file_step d f (get_or part i 0)) where
    pub met_byte : (s : Step) → r ≡ held.Is s → Lies d limit part f i size (Is s)
    met_byte s e =
        let g : s ≡ file_step d f (get_or part i 0) = ap (λ (x : Dispatched). step_of d x (get_or part i 0)) (sym e) ∙ q in
        (g, byte_results d limit part f i size l m s g)

    pub met_after : r ≡ held.AfterCell → Lies d limit part f i size (AfterCell false i)
    met_after e = ((omega arith, l, m), after_results d limit part f i size l m (ap (λ (x : Dispatched). step_of d x (get_or part i 0)) (sym e) ∙ q))

    pub met_cell : (c : Cell) → r ≡ held.InCell c → (stop : ℕ) → Free (length part) limit i size stop → (e : CellEnd)
        → cell_run d c i (slice part i stop) ≡ e → Lies d limit part f i size (met_of stop e)
    met_cell c g stop free e h =
        subst (λ (x : CellEnd). Lies d limit part f i size (met_of stop x)) h (
          cell_lies d limit c part f i size stop free,
          cell_results d limit part f c i size stop free (ap (λ (x : Dispatched). step_of d x (get_or part i 0)) (sym g) ∙ q),
        )
