-- Every cell that the scanner finds lies in the file.
use Prim.Native.Nat.{ℕ, suc, ◌+◌, ◌-◌, ◌≤◌, ◌<◌}
use native.Mathlib.Omega.{arith}
use mathlib.Core.Path.{◌≡◌, refl, sym, ap, ◌∙◌}
use mathlib.Core.Bool.{Bool, true, false, ◌&&◌}
use mathlib.Core.List.{[], ◌∷◌, ◌++◌}
use lib.ListN.{length, drop, get_or, length-drop}
use lib.Seq.{drop-cons}
use lib.Dec.{leb}
use borrow.Author.Tests.{leb-false}
use Rattle.model.specs.rules.Base.{choose◌then◌else◌, Bytes}
use Rattle.model.specs.rules.Decode.{kind_of, content_of, validate_cell}
use Rattle.model.specs.rules.File.{file_step, file_end, counts}
use Rattle.model.specs.rules.Report.{MAXRECORD}
use Rattle.model.specs.rules.Records.{Read, between_records, closing, file_full, record_full}
use Rattle.model.specs.laws.Laws.{All, all_none}
use Rattle.model.proofs.Tests.{split, impossible}
use Rattle.model.proofs.cell_laws.CellRuns.{Runs, here, snoc, runs_sound, all_snoc}
use Rattle.model.proofs.cell_laws.Cells as cell
use Rattle.model.proofs.cell_laws.Cells.{cell_at, Closes, Fits, step_fits, EndsAfter, file_ends}
use Rattle.model.specs.rules.Api.{slice}
use Rattle.cell_scanner.proofs.Runs.{part_end}
use Rattle.model.specs.declared.Dialect.{Dialect}
use Rattle.model.specs.declared.Cell.TheVariants.{Fresh}
use Rattle.std.specs.Prelude.{Ok}
use Rattle.model.specs.declared.FileState.{FileState}
use Rattle.model.specs.declared.FileState.TheVariants.{Top, Begin, Ended, Bom1, Bom2, PlainBom1, PlainBom2, Comment, Blanks, ExpectCell, Inside, After, Cr}
use Rattle.model.specs.declared.ByteRole.TheVariants.{Outside, Passed, OfCell, Between, Tail}
use Rattle.model.specs.rules.Types.{Step}
use Rattle.model.specs.declared.Ending.{Ending}
use Rattle.model.specs.declared.Ending.TheVariants.{Clean, Final, Cut}
use Rattle.file_cursor.specs.Next.{Next, read_after, ended, stepped, next_record}
use Rattle.file_cursor.specs.Types.{FileScan, Completed, LastRecord, Failed, End}
use Rattle.record_scanner.specs.Tokens.{outer}
use Rattle.record_fast.specs.CellLists.{LiesIn}
use Rattle.record_scanner.proofs.TokenOutcomes.{part_one}
use Rattle.record_scanner.proofs.OuterStates.{Calm, step_calm, refuses, leaves, passes, grows, blanks, parts, tails, finishes}
use Rattle.file_cursor.proofs.RecordByRecord.{next_drop}

-- the next byte is one of the file's
next_inside : (xs : Bytes) (n b : ℕ) (bs : Bytes) → b ∷ bs ≡ drop n xs → n < length xs
next_inside xs n b bs e =
    let l : length (drop n xs) ≡ length xs - n = length-drop n xs in
    let m : suc (length bs) ≡ length (drop n xs) = ap length e in
    omega arith

next_byte : (xs : Bytes) (n b : ℕ) (bs : Bytes) → b ∷ bs ≡ drop n xs → b ≡ get_or xs n 0
next_byte xs n b bs e = ap (λ (l : Bytes). get_or l 0 0) (e ∙ drop-cons xs n 0 (next_inside xs n b bs e))

module _ (d : Dialect) (file : Bytes) where
  -- the current cell is a span of the file, no longer than what is counted of its record, and its bytes lead to the state of
  -- reading; the complete cells lie in the file
  record Standing (r : Read) : Type 0 where
    stands : r.raw ≡ slice file r.opened r.offset
    forward : r.opened ≤ r.offset
    within : r.offset ≤ length file
    short : r.offset ≤ r.opened + r.size
    sized : r.size ≤ MAXRECORD
    runs : Runs d Fresh r.raw (cell_at r.state)
    cells : All (LiesIn d file) r.cells

  -- the cells, with the current one where it closes
  closed : (r : Read) (k : Bool) → Closes d (cell_at r.state) k → Standing r → All (LiesIn d file) (closing d k r)
  unfolding validate_cell
  closed r true w s =
      let sound : validate_cell d r.raw ≡ Ok tt = runs_sound 0 s.runs w in
      all_snoc s.cells
      (record {
        kind = ap (kind_of d) s.stands;
        content = ap (content_of d) s.stands;
        forward = s.forward;
        within = s.within;
        short = omega arith;
        sound = ap (validate_cell d) (sym s.stands) ∙ sound;
      })
  closed r false w s = s.cells

  -- there is no current cell
  opens :
      (r : Read) → r.raw ≡ [] → r.opened ≡ r.offset → r.offset ≤ length file → r.size ≤ MAXRECORD → cell_at r.state ≡ Fresh →
      All (LiesIn d file) r.cells → Standing r
  opens r e o l m c vs =
      record {
        stands = e ∙ sym (part_end file r.offset) ∙ ap (λ (i : ℕ). slice file i r.offset) (sym o);
        forward = omega arith;
        within = l;
        short = omega arith;
        sized = m;
        runs = rw (e, c) here;
        cells = vs;
      }

  abbrev Ih : Bytes → Type 0
  Ih bs = (r : Read) → bs ≡ drop r.offset file → Standing r → All (LiesIn d file) (next_record d r bs).cells

  at_end : (r : Read) → Standing r → (x : Ending) → EndsAfter d (cell_at r.state) x → All (LiesIn d file) (ended d r x).cells
  at_end r s Clean cell.ends_clean = all_none
  at_end r s Final (cell.ends_final w) = closed r true w s
  at_end r s Cut cell.ends_cut = s.cells

  -- where a byte counts and is not one too many, the record has room for it
  room : (n : ℕ) (c : Bool) → c ≡ true → (leb MAXRECORD n && c) ≡ false → n < MAXRECORD
  room n c e q = leb-false MAXRECORD n (and_first (leb MAXRECORD n) c e q)
    where
      and_first : (x y : Bool) → y ≡ true → (x && y) ≡ false → x ≡ false
      and_first true y e q = sym e ∙ q
      and_first false y e q = refl

  -- a byte that is not one too many
  on_byte :
      (r : Read) (b : ℕ) (bs : Bytes) → b ∷ bs ≡ drop r.offset file → Ih bs → Standing r → record_full r b ≡ false → (t : Step) →
      Calm r.state b t → Fits d (cell_at r.state) b t → All (LiesIn d file) (stepped d r b (λ r'. next_record d r' bs) t).cells
  unfolding stepped choose◌then◌else◌ record_full
  on_byte r b bs e ih s full t refuses y = s.cells
  on_byte r b bs e ih s full t (leaves {g = g} o) (cell.leaves y) =
      let l : r.offset < length file = next_inside file r.offset b bs e in
      ih (read_after d r b g Outside) (next_drop file r.offset b bs e) (opens (read_after d r b g Outside) refl refl (omega arith) (omega arith) y all_none)
  on_byte r b bs e ih s full t (passes {g = g} o) (cell.passes y) =
      let l : r.offset < length file = next_inside file r.offset b bs e in
      ih (read_after d r b g Passed) (next_drop file r.offset b bs e) (opens (read_after d r b g Passed) refl refl (omega arith) (omega arith) y all_none)
  on_byte r b bs e ih s full t (grows {g = g} c o) (cell.adds y) =
      let l : r.offset < length file = next_inside file r.offset b bs e in
      let m : r.size < MAXRECORD = room r.size (counts r.state b) c full in
      let raw : r.raw ++ (b ∷ []) ≡ slice file r.opened (r.offset + 1)
      = ap (λ (x : Bytes). x ++ (b ∷ [])) s.stands
      ∙ ap (λ (x : ℕ). slice file r.opened r.offset ++ (x ∷ [])) (next_byte file r.offset b bs e)
      ∙ sym (part_one file r.opened r.offset s.forward l) in
      ih (read_after d r b g OfCell) (next_drop file r.offset b bs e) (record {
        stands = raw;
        forward = omega arith;
        within = omega arith;
        short = omega arith;
        sized = omega arith;
        runs = snoc b s.runs y;
        cells = s.cells;
      })
  on_byte r b bs e ih s full t (blanks {g = g} c o) (cell.parts y w) =
      let l : r.offset < length file = next_inside file r.offset b bs e in
      let m : r.size < MAXRECORD = room r.size (counts r.state b) c full in
      ih (read_after d r b g (Between false)) (next_drop file r.offset b bs e)
      (opens (read_after d r b g (Between false)) refl refl (omega arith) (omega arith) y (closed r false w s))
  on_byte r b bs e ih s full t (parts {g = g} {k = k} c o) (cell.parts y w) =
      let l : r.offset < length file = next_inside file r.offset b bs e in
      let m : r.size < MAXRECORD = room r.size (counts r.state b) c full in
      ih (read_after d r b g (Between k)) (next_drop file r.offset b bs e)
      (opens (read_after d r b g (Between k)) refl refl (omega arith) (omega arith) y (closed r k w s))
  on_byte r b bs e ih s full t (tails {g = g} {k = k} o) (cell.turns y w) =
      let l : r.offset < length file = next_inside file r.offset b bs e in
      ih (read_after d r b g (Tail k)) (next_drop file r.offset b bs e)
      (opens (read_after d r b g (Tail k)) refl refl (omega arith) s.sized y (closed r k w s))
  on_byte r b bs e ih s full t (finishes {k = k} o) (cell.completes y w) = closed r k w s

  all_stand : (bs : Bytes) → Ih bs
  unfolding next_record
  all_stand [] r e s = at_end r s (file_end d r.state) (file_ends d r.state)
  all_stand (b ∷ bs) r e s = on (all_stand bs)
    where
      on : Ih bs → All (LiesIn d file) (next_record d r (b ∷ bs)).cells
      on ih =
          split (λ (n : Next). All (LiesIn d file) n.cells) (file_full r) (λ _. s.cells) λ _.
          split (λ (n : Next). All (LiesIn d file) n.cells) (record_full r b) (λ _. s.cells) λ full.
          on_byte r b bs e ih s full (file_step d r.state b) (step_calm d r.state b) (step_fits d r.state b)

-- where there is no current cell, the next byte is a cell's first
outer_fresh : (f : FileState) → outer f ≡ true → cell_at f ≡ Fresh
unfolding cell_at
outer_fresh Top o = refl
outer_fresh Begin o = refl
outer_fresh Ended o = refl
outer_fresh Bom1 o = refl
outer_fresh Bom2 o = refl
outer_fresh PlainBom1 o = impossible o
outer_fresh PlainBom2 o = impossible o
outer_fresh (Comment c) o = refl
outer_fresh Blanks o = refl
outer_fresh ExpectCell o = impossible o
outer_fresh (Inside c) o = impossible o
outer_fresh After o = refl
outer_fresh Cr o = refl

-- every cell of the next record lies in the file, from wherever there is no current cell
pub cells_lie :
    (d : Dialect) (file : Bytes) (f : FileState) (o : ℕ) → outer f ≡ true → o ≤ length file →
    All (LiesIn d file) (next_record d (between_records [] f o) (drop o file)).cells
cells_lie d file f o u l =
    all_stand d file (drop o file) (between_records [] f o) refl (opens d file (between_records [] f o) refl refl l (omega arith) (outer_fresh f u) all_none)

-- ---- where a record ends, there is no current cell

abbrev pub EndsOuter : FileScan → Type 0
EndsOuter (Completed start n f o) = outer f ≡ true
EndsOuter (LastRecord start n) = Unit {0}
EndsOuter (Failed e o) = Unit {0}
EndsOuter (End o) = Unit {0}

module _ (d : Dialect) where
  abbrev Outside-after : Bytes → Type 0
  Outside-after bs = (r : Read) → EndsOuter (next_record d r bs).event

  step_outer :
      (r : Read) (b : ℕ) (bs : Bytes) → Outside-after bs → (t : Step) → Calm r.state b t →
      EndsOuter (stepped d r b (λ r'. next_record d r' bs) t).event
  unfolding stepped choose◌then◌else◌
  step_outer r b bs ih t refuses = tt
  step_outer r b bs ih t (leaves {g = g} o) = ih (read_after d r b g Outside)
  step_outer r b bs ih t (passes {g = g} o) = ih (read_after d r b g Passed)
  step_outer r b bs ih t (grows {g = g} c o) = ih (read_after d r b g OfCell)
  step_outer r b bs ih t (blanks {g = g} c o) = ih (read_after d r b g (Between false))
  step_outer r b bs ih t (parts {g = g} {k = k} c o) = ih (read_after d r b g (Between k))
  step_outer r b bs ih t (tails {g = g} {k = k} o) = ih (read_after d r b g (Tail k))
  step_outer r b bs ih t (finishes o) = o

  end_outer : (r : Read) (x : Ending) → EndsOuter (ended d r x).event
  end_outer r Clean = tt
  end_outer r Final = tt
  end_outer r Cut = tt

  pub record_outer : (bs : Bytes) → Outside-after bs
  unfolding next_record
  record_outer [] r = end_outer r (file_end d r.state)
  record_outer (b ∷ bs) r = on (record_outer bs)
    where
      on : Outside-after bs → EndsOuter (next_record d r (b ∷ bs)).event
      on ih =
          split (λ (n : Next). EndsOuter n.event) (file_full r) (λ _. tt) λ _.
          split (λ (n : Next). EndsOuter n.event) (record_full r b) (λ _. tt) λ _.
          step_outer r b bs ih (file_step d r.state b) (step_calm d r.state b)
