-- Reading a cell's text, over every dialect. Where a cell may begin, the file behaves as the current cell does (`Like`), unless the
-- bytes are the byte order mark (`NoBom`); so the bytes of a cell are read as its automaton runs.
use Prim.Native.Nat.{ℕ, suc, ◌+◌, ◌≤◌, ◌<◌}
use native.Mathlib.Omega.{arith}
use native.Mathlib.Nat.{add-zero}
use mathlib.Core.Path.{◌≡◌, refl, ap, ◌∙◌}
use mathlib.Core.Bool.{Bool, true, false, ◌&&◌}
use Rattle.std.specs.Prelude.{Option}
use mathlib.Core.List.{List, [], ◌∷◌, ◌++◌, append_assoc, append-nil}
use lib.ListN.{length}
use borrow.Author.Tests.{lt-leb}
use Rattle.model.specs.rules.Types.{Settings, Dialect, Csvj, Tdif, CsvPlus, Target, EeToEf, Second, Last, Within, Cell, Fresh, Plain, CellStep}
use Rattle.model.specs.rules.Types.{More, Refuse, Syntax}
use Rattle.model.specs.rules.Types.{FileState, Top, Begin, Ended, Bom1, Bom2, PlainBom1, PlainBom2, Comment, Blanks, ExpectCell, Inside, After}
use Rattle.model.specs.rules.Types.{Cr, OfCell, Ok}
use Rattle.model.specs.rules.Base.{Bytes, LF, CR, ◌is◌, choose◌then◌else◌}
use Rattle.model.specs.rules.Cell.{first_byte, cell_step}
use Rattle.model.specs.rules.File.{in_cell, begin_record, begin_file, file_step}
use Rattle.model.specs.rules.Text.{Value, begins_bom}
use Rattle.model.specs.rules.Report.{MAXFILE, MAXRECORD}
use Rattle.model.specs.rules.Records.{Rec, Read, Progress, going, file_full, record_full, read_byte, read_from, move}
use Rattle.model.proofs.Tests.{is→eq}
use Rattle.model.proofs.cell_laws.CellRuns.{Runs, here, there, bom_cell, bom_rest}

-- ---- states that behave as a current cell does

pub data Like : Dialect → FileState → Cell → Type 0 where
  like_in : {d : Dialect} {c : Cell} → Like d (Inside c) c
  like_begin : {d : Dialect} → Like d Begin Fresh
  like_top : {d : Dialect} → Like d Top Fresh
  like_wanting : Like Csvj ExpectCell Fresh
  like_bom1 : {s : Settings} → Like (CsvPlus s) PlainBom1 (Plain (Within (Second EeToEf)))
  like_bom2 : {s : Settings} → Like (CsvPlus s) PlainBom2 (Plain (Within Last))

-- these bytes do not complete the byte order mark
abbrev marks2 : Bytes → Bool
marks2 [] = false
marks2 (b ∷ []) = false
marks2 (b ∷ c ∷ bs) = b is 0xBB && c is 0xBF

abbrev marks3 : Bytes → Bool
marks3 [] = false
marks3 (c ∷ bs) = c is 0xBF

abbrev pub NoBom : FileState → Bytes → Type 0
NoBom Top bs = begins_bom bs ≡ false
NoBom Begin bs = Unit {0}
NoBom Ended bs = Unit {0}
NoBom Bom1 bs = Unit {0}
NoBom Bom2 bs = Unit {0}
NoBom PlainBom1 bs = marks2 bs ≡ false
NoBom PlainBom2 bs = marks3 bs ≡ false
NoBom (Comment c) bs = Unit {0}
NoBom Blanks bs = Unit {0}
NoBom ExpectCell bs = Unit {0}
NoBom (Inside c) bs = Unit {0}
NoBom After bs = Unit {0}
NoBom Cr bs = Unit {0}

record Next (d : Dialect) (f : FileState) (b : ℕ) (c : Cell) (bs : Bytes) : Type 0 where
  state : FileState
  step : file_step d f b ≡ Ok (state, OfCell)
  like : Like d state c
  clear : NoBom state bs

-- a byte that begins a cell is none that does not
not_this : (d : Dialect) (x b : ℕ) {c : Cell} → cell_step d Fresh x ≡ Refuse Syntax → cell_step d Fresh b ≡ More c → (b is x) ≡ false
not_this d x b {c} n e = go (b is x) refl
  where
    go : (t : Bool) → (b is x) ≡ t → t ≡ false
    go false h = refl
    go true h = let q : b ≡ x = is→eq b x h in let e' : cell_step d Fresh x ≡ More c = rw q at e in let z : ◌≡◌ {A = ℕ} 0 1 = cc in absurd (omega arith)

grows : (d : Dialect) (c : Cell) (b : ℕ) (c' : Cell) → cell_step d c b ≡ More c' → in_cell d c b ≡ Ok (Inside c', OfCell)
unfolding in_cell
grows d c b c' e = rw e

begins : (d : Dialect) (b : ℕ) (c : Cell) → cell_step d Fresh b ≡ More c → begin_record d b ≡ Ok (Inside c, OfCell)
unfolding begin_record choose◌then◌else◌
begins Csvj b c e =
    unfold cell_step first_byte in rw (not_this Csvj 0x20 b refl e, not_this Csvj 0x09 b refl e, not_this Csvj LF b refl e, not_this Csvj CR b refl e)
    (grows Csvj Fresh b c e)
begins Tdif b c e = unfold cell_step first_byte in rw (not_this Tdif 0x23 b refl e) (grows Tdif Fresh b c e)
begins (CsvPlus s) b c e = grows (CsvPlus s) Fresh b c e

first_marks : (a : ℕ) (bs : Bytes) → (a is 0xEF) ≡ true → begins_bom (a ∷ bs) ≡ false → marks2 bs ≡ false
first_marks a [] h e = refl
first_marks a (b ∷ []) h e = refl
first_marks a (b ∷ c ∷ bs) h e = rw h at e

second_marks : (b : ℕ) (bs : Bytes) → (b is 0xBB) ≡ true → marks2 (b ∷ bs) ≡ false → marks3 bs ≡ false
second_marks b [] h e = refl
second_marks b (c ∷ bs) h e = rw h at e

same_cell : {x y : Cell} {a : CellStep} → a ≡ More x → a ≡ More y → x ≡ y
same_cell p q = cc

module _ (s : Settings) (b : ℕ) (bs : Bytes) (c : Cell) where
  top_plus : cell_step (CsvPlus s) Fresh b ≡ More c → begins_bom (b ∷ bs) ≡ false → Next (CsvPlus s) Top b c bs
  unfolding file_step begin_file choose◌then◌else◌
  top_plus e n = go (b is 0xEF) refl
    where
      go : (t : Bool) → (b is 0xEF) ≡ t → Next (CsvPlus s) Top b c bs
      go false h = record { state = Inside c; step = rw h (begins (CsvPlus s) b c e); like = like_in; clear = tt }
      go true h =
          let q : b ≡ 0xEF = is→eq b 0xEF h in
          let p : Plain (Within (Second EeToEf)) ≡ c = same_cell (bom_cell s) (rw q at e) in
          record { state = PlainBom1; step = rw h; like = rw (← p) like_bom1; clear = first_marks b bs h n }

  mark1_plus : cell_step (CsvPlus s) (Plain (Within (Second EeToEf))) b ≡ More c → marks2 (b ∷ bs) ≡ false → Next (CsvPlus s) PlainBom1 b c bs
  unfolding file_step choose◌then◌else◌
  mark1_plus e n = go (b is 0xBB) refl
    where
      go : (t : Bool) → (b is 0xBB) ≡ t → Next (CsvPlus s) PlainBom1 b c bs
      go false h = record { state = Inside c; step = rw h (grows (CsvPlus s) (Plain (Within (Second EeToEf))) b c e); like = like_in; clear = tt }
      go true h =
          let q : b ≡ 0xBB = is→eq b 0xBB h in
          let p : Plain (Within Last) ≡ c = same_cell (bom_rest (CsvPlus s)) (rw q at e) in
          record { state = PlainBom2; step = rw h; like = rw (← p) like_bom2; clear = second_marks b bs h n }

  mark2_plus : cell_step (CsvPlus s) (Plain (Within Last)) b ≡ More c → marks3 (b ∷ bs) ≡ false → Next (CsvPlus s) PlainBom2 b c bs
  unfolding file_step choose◌then◌else◌
  mark2_plus e n = record { state = Inside c; step = rw n (grows (CsvPlus s) (Plain (Within Last)) b c e); like = like_in; clear = tt }

like_step :
    {d : Dialect} {f : FileState} {c : Cell} (b : ℕ) (c' : Cell) (bs : Bytes) → Like d f c → cell_step d c b ≡ More c' → NoBom f (b ∷ bs) →
    Next d f b c' bs
unfolding file_step begin_file choose◌then◌else◌
like_step {d} b c' bs (like_in {c}) e n = record { state = Inside c'; step = grows d c b c' e; like = like_in; clear = tt }
like_step {d} b c' bs like_begin e n = record { state = Inside c'; step = begins d b c' e; like = like_in; clear = tt }
like_step b c' bs (like_top {d = Csvj}) e n =
    record {
      state = Inside c';
      step = rw (not_this Csvj 0xEF b (unfold cell_step first_byte in refl) e) (begins Csvj b c' e);
      like = like_in;
      clear = tt;
    }
like_step b c' bs (like_top {d = Tdif}) e n = record { state = Inside c'; step = begins Tdif b c' e; like = like_in; clear = tt }
like_step b c' bs (like_top {d = CsvPlus s}) e n = top_plus s b bs c' e n
like_step b c' bs like_wanting e n =
    record {
      state = Inside c';
      step =
          rw (not_this Csvj 0x20 b (unfold cell_step first_byte in refl) e, not_this Csvj 0x09 b (unfold cell_step first_byte in refl) e)
          (grows Csvj Fresh b c' e);
      like = like_in;
      clear = tt;
    }
like_step b c' bs (like_bom1 {s}) e n = mark1_plus s b bs c' e n
like_step b c' bs (like_bom2 {s}) e n = mark2_plus s b bs c' e n

-- ---- reading the bytes of a cell

abbrev pub reading : List Rec → FileState → (offset start size opened : ℕ) → Bytes → List Value → Read
reading ds f o s z p raw vs = record { done = ds; state = f; offset = o; start = s; size = z; opened = p; raw = raw; cells = vs }

pub file_free : (r : Read) → r.offset < MAXFILE → file_full r ≡ false
unfolding file_full
file_free r h = lt-leb MAXFILE r.offset h

pub record_free : (r : Read) (b : ℕ) → r.size < MAXRECORD → record_full r b ≡ false
unfolding record_full
record_free r b k = rw (lt-leb MAXRECORD r.size k)

module _ (d : Dialect) (T : Option Target) (ds : List Rec) (s p : ℕ) (vs : List Value) where
  byte_read :
      (f f' : FileState) (b o z : ℕ) (raw : Bytes) → file_step d f b ≡ Ok (f', OfCell) → o < MAXFILE → z < MAXRECORD →
      read_byte d T (reading ds f o s z p raw vs) b ≡ going (reading ds f' (suc o) s (suc z) p (raw ++ (b ∷ [])) vs)
  unfolding read_byte move choose◌then◌else◌
  byte_read f f' b o z raw e h k = rw (file_free (reading ds f o s z p raw vs) h, record_free (reading ds f o s z p raw vs) b k, e)

  -- the reading state after these bytes of a cell
  pub record Ran (f : FileState) (c : Cell) (o z : ℕ) (raw bs : Bytes) : Type 0 where
    pub state : FileState
    pub like : Like d state c
    pub run :
        (xs : Bytes) →
        read_from d T (going (reading ds f o s z p raw vs)) (bs ++ xs)
        ≡ read_from d T (going (reading ds state (o + length bs) s (z + length bs) p (raw ++ bs) vs)) xs

  none_read :
      (f : FileState) (o z : ℕ) (raw xs : Bytes) →
      read_from d T (going (reading ds f o s z p raw vs)) xs ≡ read_from d T (going (reading ds f (o + 0) s (z + 0) p (raw ++ []) vs)) xs
  none_read f o z raw xs = rw (add-zero o, add-zero z, append-nil raw)

  one_more_lem :
      (f : FileState) (b o z : ℕ) (raw bs xs : Bytes) →
      read_from d T (going (reading ds f (suc o + length bs) s (suc z + length bs) p ((raw ++ (b ∷ [])) ++ bs) vs)) xs
      ≡ read_from d T (going (reading ds f (o + suc (length bs)) s (z + suc (length bs)) p (raw ++ (b ∷ bs)) vs)) xs
  one_more_lem f b o z raw bs xs =
      let h : suc o + length bs ≡ o + suc (length bs) = omega arith in
      let k : suc z + length bs ≡ z + suc (length bs) = omega arith in
      rw (h, k, append_assoc raw (b ∷ []) bs)

  pub run_cell :
      {f : FileState} {c c' : Cell} {bs : Bytes} → Like d f c → Runs d c bs c' → NoBom f bs → (o z : ℕ) (raw : Bytes) →
      o + length bs ≤ MAXFILE → z + length bs ≤ MAXRECORD → Ran f c' o z raw bs
  unfolding read_from
  run_cell {f} l here n o z raw h k = record { state = f; like = l; run = none_read f o z raw }
  run_cell {f} l (there {c'} {b} {bs} e r) n o z raw h k =
      let x = like_step b c' bs l e n in
      let y = run_cell {f = x.state} x.like r x.clear (suc o) (suc z) (raw ++ (b ∷ [])) (omega arith) (omega arith) in
      record {
        state = y.state;
        like = y.like;
        run =
            λ xs.
            ap (λ (q : Progress). read_from d T q (bs ++ xs)) (byte_read f x.state b o z raw x.step (omega arith) (omega arith))
            ∙ y.run xs ∙ one_more_lem y.state b o z raw bs xs;
      }
