-- The proof of the law of runs. A byte of a run steps to the same state, so it is read as a run of one byte (`of_cell`, `of_comment`);
-- runs join (`ran_append`), and the law is an induction over the run (`many`). In a comment it needs that no record has begun, which
-- every step preserves, since a step into a comment is always outside records.
use Prim.Native.Nat.{ℕ, zero, suc, ◌+◌, ◌-◌, ◌≤◌, ◌<◌}
use native.Mathlib.Omega.{arith}
use mathlib.Core.Path.{◌≡◌, refl, sym, ap, ◌∙◌}
use mathlib.Core.Bool.{Bool, true, false}
use Rattle.std.specs.Prelude.{Option, Some, None, Ok, Err}
use mathlib.Core.List.{List, [], ◌∷◌, ◌++◌, append_assoc, append-nil}
use lib.ListN.{length, take, drop, length-append, take-append-drop}
use lib.Seq.{drop-drop}
use borrow.Author.Tests.{lt-leb}
use Rattle.model.specs.declared.Dialect.{Dialect}
use Rattle.model.specs.declared.Target.{Target}
use Rattle.model.specs.declared.Char.{Char}
use Rattle.model.specs.declared.Char.TheVariants.{Whole, Within}
use Rattle.model.specs.declared.Cell.{Cell}
use Rattle.model.specs.rules.Types.{CheckResult}
use Rattle.model.specs.declared.Fault.{Fault}
use Rattle.model.specs.declared.FileState.{FileState}
use Rattle.model.specs.declared.FileState.TheVariants.{Top, Begin, Ended, Bom1, Bom2, PlainBom1, PlainBom2, Comment, Blanks, ExpectCell, Inside, After, Cr}
use Rattle.model.specs.declared.ByteRole.TheVariants.{Outside, OfCell}
use Rattle.model.specs.rules.Types.{Step}
use Rattle.model.specs.rules.Base.{Bytes, choose◌then◌else◌}
use Rattle.model.specs.rules.Dialect.{quote_of}
use Rattle.model.specs.rules.File.{in_cell, file_step}
use Rattle.model.specs.rules.Report.{MAXFILE, MAXRECORD}
use Rattle.model.specs.rules.Records.{
  Rec,
  Read,
  between_records,
  nothing_read,
  Progress,
  going,
  stopped,
  closing,
  validated,
  complete,
  move,
  record_fault,
  file_full,
  record_full,
  read_byte,
  read_from,
  read_bytes,
}
use Rattle.model.proofs.Tests.{split}
use Rattle.model.proofs.file_laws.ReadAppend.{read_append}
use Rattle.model.proofs.file_laws.FileSteps.{
  Grown,
  g_inside,
  g_plain1,
  g_plain2,
  Opens,
  o_after,
  o_wanting,
  o_fresh,
  Transition,
  refuses,
  outside,
  passes,
  adds,
  blanks,
  parts,
  turns,
  ends,
  ends_cr,
  step_transition,
}
use Rattle.model.specs.rules.Api.{slice}
use Rattle.cell_scanner.specs.Run.{ordinary, leading, run_stop, run_length}
use Rattle.cell_scanner.specs.RunLaw.{Place, in_cell_lem, in_comment, elsewhere, place_in, run_at, ran_at, run_in, ran, Lies, InLimits, RunLaw}
use Rattle.cell_scanner.proofs.Runs.{run_step, comment_step}

-- ---- runs join

ran_append : (k : Place) (r : Read) (xs ys : Bytes) → ran_at k (ran_at k r xs) ys ≡ ran_at k r (xs ++ ys)
unfolding ran_at
ran_append (in_cell_lem c) r xs ys =
    let n : r.offset + length xs + length ys ≡ r.offset + length (xs ++ ys) = omega (arith, length-append xs ys) in
    let m : r.size + length xs + length ys ≡ r.size + length (xs ++ ys) = omega (arith, length-append xs ys) in
    let l : r.raw ++ xs ++ ys ≡ r.raw ++ (xs ++ ys) = append_assoc r.raw xs ys in
    cc
ran_append (in_comment t) r xs ys =
    let n : r.offset + length xs + length ys ≡ r.offset + length (xs ++ ys) = omega (arith, length-append xs ys) in
    cc
ran_append elsewhere r xs ys = refl

ran_state : (k : Place) (r : Read) (xs : Bytes) → (ran_at k r xs).state ≡ r.state
unfolding ran_at
ran_state (in_cell_lem c) r xs = refl
ran_state (in_comment t) r xs = refl
ran_state elsewhere r xs = refl

-- ---- a byte, and all of them

all_ordinary : (p q b : ℕ) (xs : Bytes) → leading p q (b ∷ xs) ≡ suc (length xs) → (ordinary p q b ≡ true) × (leading p q xs ≡ length xs)
unfolding leading choose◌then◌else◌
all_ordinary p q b xs e = go (ordinary p q b) e
  where
    go : (t : Bool) → (choose t then suc (leading p q xs) else 0) ≡ suc (length xs) → (t ≡ true) × (leading p q xs ≡ length xs)
    go true h = (refl, omega arith)
    go false h = absurd (omega arith)

module _ (d : Dialect) (target : Option Target) where
  of_cell : (c : Cell) (r : Read) (b : ℕ) → file_step d r.state b ≡ Ok (r.state, OfCell) → r.offset < MAXFILE → r.size < MAXRECORD
      → read_byte d target r b ≡ going (ran_at (in_cell_lem c) r (b ∷ []))
  unfolding read_byte file_full record_full move ran_at choose◌then◌else◌
  of_cell c r b e h k =
      let n : suc r.offset ≡ r.offset + 1 = omega arith in
      let m : suc r.size ≡ r.size + 1 = omega arith in
      rw (lt-leb MAXFILE r.offset h, lt-leb MAXRECORD r.size k, e) (cc)

  of_comment : (t : Char) (r : Read) (b : ℕ) → file_step d r.state b ≡ Ok (r.state, Outside) → r.offset < MAXFILE → r.size < MAXRECORD
      → read_byte d target r b ≡ going (ran_at (in_comment t) r (b ∷ []))
  unfolding read_byte file_full record_full move ran_at choose◌then◌else◌
  of_comment t r b e h k =
      let n : suc r.offset ≡ r.offset + 1 = omega arith in
      rw (lt-leb MAXFILE r.offset h, lt-leb MAXRECORD r.size k, e) (cc)

  -- an ordinary byte is read as a run of one byte
  abbrev One : Place → (p q : ℕ) → FileState → Type 0
  One k p q f =
      (r : Read) (b : ℕ) (xs : Bytes) → r.state ≡ f → ran_at k r [] ≡ r → ordinary p q b ≡ true → InLimits (ran_at k r (b ∷ xs)) → read_byte d
      target r b ≡ going (ran_at k r (b ∷ []))

  one_of_cell : (c : Cell) (q : ℕ) → run_stop d c ≡ Some q → One (in_cell_lem c) (quote_of d) q (Inside c)
  unfolding file_step in_cell ran_at
  one_of_cell c q e r b xs g s o l =
      let h : r.offset + suc (length xs) ≤ MAXFILE = l.file in
      let k : r.size + suc (length xs) ≤ MAXRECORD = l.size in
      of_cell c r b (rw (g, run_step d c q b e o)) (omega arith) (omega arith)

  one_of_comment : One (in_comment Whole) 0 0 (Comment Whole)
  unfolding ran_at
  one_of_comment r b xs g s o l =
      let h : r.offset + suc (length xs) ≤ MAXFILE = l.file in
      let k : 0 ≡ r.size = ap (λ (x : Read). x.size) s in
      of_comment Whole r b (rw g (comment_step d b o)) (omega arith) (omega arith)

  many : (k : Place) (p q : ℕ) (f : FileState) → One k p q f → (xs : Bytes) → leading p q xs ≡ length xs → (r : Read) → r.state ≡ f
      → ran_at k r [] ≡ r → InLimits (ran_at k r xs) → read_from d target (going r) xs ≡ going (ran_at k r xs)
  unfolding read_from
  many k p q f one [] e r g s l = ap going (sym s)
  many k p q f one (b ∷ xs) e r g s l =
      let a = all_ordinary p q b xs e in
      let j : ran_at k (ran_at k r (b ∷ [])) xs ≡ ran_at k r (b ∷ xs) = ran_append k r (b ∷ []) xs in
      rw (one r b xs g s a.0 l)
      (many k p q f one xs a.1 (ran_at k r (b ∷ [])) (ran_state k r (b ∷ []) ∙ g) (ran_append k r (b ∷ []) []) (rw j l) ∙ ap going j)

  none : (k : Place) (xs : Bytes) → 0 ≡ length xs → (r : Read) → ran_at k r [] ≡ r → read_from d target (going r) xs ≡ going (ran_at k r xs)
  unfolding read_from
  none k [] e r s = ap going (sym s)
  none k (b ∷ xs) e r s = absurd (omega arith)

  in_cell_run : (c : Cell) (x : Option ℕ) → run_stop d c ≡ x → (r : Read) (xs : Bytes) → r.state ≡ Inside c → ran_at (in_cell_lem c) r [] ≡ r
      → run_length d x xs ≡ length xs → InLimits (ran_at (in_cell_lem c) r xs) → read_from d target (going r) xs ≡ going (ran_at (in_cell_lem c) r xs)
  in_cell_run c (Some q) h r xs g s e l = many (in_cell_lem c) (quote_of d) q (Inside c) (one_of_cell c q h) xs e r g s l
  in_cell_run c None h r xs g s e l = none (in_cell_lem c) xs e r s

  in_comment_run : (t : Char) (r : Read) (xs : Bytes) → r.state ≡ Comment t → ran_at (in_comment t) r [] ≡ r
      → run_at d (in_comment t) xs ≡ length xs → InLimits (ran_at (in_comment t) r xs) → read_from d target (going r) xs ≡ going (ran_at (in_comment t) r xs)
  unfolding run_at
  in_comment_run Whole r xs g s e l = many (in_comment Whole) 0 0 (Comment Whole) one_of_comment xs e r g s l
  in_comment_run (Within i) r xs g s e l = none (in_comment (Within i)) xs e r s

  in_state_run : (f : FileState) (r : Read) (xs : Bytes) → r.state ≡ f → ran_at (place_in f) r [] ≡ r → run_at d (place_in f) xs ≡ length xs
      → InLimits (ran_at (place_in f) r xs) → read_from d target (going r) xs ≡ going (ran_at (place_in f) r xs)
  unfolding run_at
  in_state_run Top r xs g s e l = none elsewhere xs e r s
  in_state_run Begin r xs g s e l = none elsewhere xs e r s
  in_state_run Ended r xs g s e l = none elsewhere xs e r s
  in_state_run Bom1 r xs g s e l = none elsewhere xs e r s
  in_state_run Bom2 r xs g s e l = none elsewhere xs e r s
  in_state_run PlainBom1 r xs g s e l = none elsewhere xs e r s
  in_state_run PlainBom2 r xs g s e l = none elsewhere xs e r s
  in_state_run (Comment t) r xs g s e l = in_comment_run t r xs g s e l
  in_state_run Blanks r xs g s e l = none elsewhere xs e r s
  in_state_run ExpectCell r xs g s e l = none elsewhere xs e r s
  in_state_run (Inside c) r xs g s e l = in_cell_run c (run_stop d c) refl r xs g s e l
  in_state_run After r xs g s e l = none elsewhere xs e r s
  in_state_run Cr r xs g s e l = none elsewhere xs e r s

  pub run : (r : Read) (xs : Bytes) → Lies r → run_in d r.state xs ≡ length xs → InLimits (ran r xs) → read_from d target (going r) xs ≡ going (ran r xs)
  run r xs s e l = in_state_run r.state r xs refl s e l

-- ---- prefixes of a run

leading_take : (p q n : ℕ) (bs : Bytes) → n ≤ leading p q bs → leading p q (take n bs) ≡ length (take n bs)
unfolding leading choose◌then◌else◌
leading_take p q zero bs h = refl
leading_take p q (suc n) [] h = refl
leading_take p q (suc n) (b ∷ bs) h = go (ordinary p q b) h (leading_take p q n bs)
  where
    go : (t : Bool) → suc n ≤ (choose t then suc (leading p q bs) else 0) → (n ≤ leading p q bs → leading p q (take n bs) ≡ length (take n bs))
        → (choose t then suc (leading p q (take n bs)) else 0) ≡ suc (length (take n bs))
    go true k ih = ap suc (ih (omega arith))
    go false k ih = absurd (omega arith)

take_none : (n : ℕ) (bs : Bytes) → n ≤ 0 → 0 ≡ length (take n bs)
take_none zero bs h = refl
take_none (suc n) bs h = absurd (omega arith)

-- a prefix of a run is a run
pub run_take : (d : Dialect) (k : Place) (n : ℕ) (bs : Bytes) → n ≤ run_at d k bs → run_at d k (take n bs) ≡ length (take n bs)
unfolding run_at
run_take d (in_cell_lem c) n bs h = go (run_stop d c) h
  where
    go : (x : Option ℕ) → n ≤ run_length d x bs → run_length d x (take n bs) ≡ length (take n bs)
    go (Some q) g = leading_take (quote_of d) q n bs g
    go None g = take_none n bs g
run_take d (in_comment Whole) n bs h = leading_take 0 0 n bs h
run_take d (in_comment (Within i)) n bs h = take_none n bs h
run_take d elsewhere n bs h = take_none n bs h

module _ (d : Dialect) (target : Option Target) where
  pub rest : (r : Read) (n : ℕ) (bs : Bytes) → Lies r → n ≤ run_in d r.state bs → InLimits (ran r (take n bs))
      → read_from d target (going r) bs ≡ read_from d target (going (ran r (take n bs))) (drop n bs)
  rest r n bs s h l =
      ap (read_from d target (going r)) (sym (take-append-drop n bs))
      ∙ read_append d target (going r) (take n bs) (drop n bs)
      ∙ ap (λ (p : Progress). read_from d target p (drop n bs)) (run d target r (take n bs) s (run_take d (place_in r.state) n bs h) l)

-- ---- the run that a function finds in a part of a slice

leading_fewer : (p q n : ℕ) (bs : Bytes) → leading p q (take n bs) ≤ leading p q bs
unfolding leading choose◌then◌else◌
leading_fewer p q zero bs = omega arith
leading_fewer p q (suc n) [] = omega arith
leading_fewer p q (suc n) (b ∷ bs) = go (ordinary p q b) (leading_fewer p q n bs)
  where
    go : (t : Bool) → leading p q (take n bs) ≤ leading p q bs → (choose t then suc (leading p q (take n bs)) else 0) ≤ (choose t then suc (leading p q bs) else 0)
    go true h = omega arith
    go false h = omega arith

run_fewer : (d : Dialect) (k : Place) (n : ℕ) (bs : Bytes) → run_at d k (take n bs) ≤ run_at d k bs
unfolding run_at
run_fewer d (in_cell_lem c) n bs = go (run_stop d c)
  where
    go : (x : Option ℕ) → run_length d x (take n bs) ≤ run_length d x bs
    go (Some q) = leading_fewer (quote_of d) q n bs
    go None = omega arith
run_fewer d (in_comment Whole) n bs = leading_fewer 0 0 n bs
run_fewer d (in_comment (Within i)) n bs = omega arith
run_fewer d elsewhere n bs = omega arith

module _ (d : Dialect) (target : Option Target) (r : Read) (s : Bytes) (at stop m : ℕ) where
  -- reading the slice from `at` equals reading it from m, where the run that begins at `at` ends before `stop`
  pub rest_of_slice : Lies r → m ≡ at + run_in d r.state (slice s at stop) → InLimits (ran r (slice s at m))
      → read_from d target (going r) (drop at s) ≡ read_from d target (going (ran r (slice s at m))) (drop m s)
  rest_of_slice w e l =
      let h : run_in d r.state (slice s at stop) ≤ run_in d r.state (drop at s) = run_fewer d (place_in r.state) (stop - at) (drop at s) in
      let n : m - at ≤ run_in d r.state (drop at s) = omega arith in
      let k : at + (m - at) ≡ m = omega arith in
      rest d target r (m - at) (drop at s) w n l
      ∙ ap (read_from d target (going (ran r (slice s at m)))) (drop-drop (m - at) at s ∙ ap (λ (i : ℕ). drop i s) k)

-- ---- in a comment no record has begun

data InRecord : Place → Type 0 where
  at_cell : {c : Cell} → InRecord (in_cell_lem c)
  at_none : InRecord elsewhere

grown_record : {f : FileState} → Grown f → InRecord (place_in f)
grown_record g_inside = at_cell
grown_record g_plain1 = at_none
grown_record g_plain2 = at_none

opens_record : {f : FileState} → Opens f → InRecord (place_in f)
opens_record o_after = at_none
opens_record o_wanting = at_none
opens_record o_fresh = at_cell

-- an empty run leaves the state unchanged, if reading proceeds
pub data LiesAfter : Progress → Type 0 where
  proceeds_on : {r : Read} → Lies r → LiesAfter (going r)
  stops : {e : Fault} {r : Read} → LiesAfter (stopped e r)

recording : (k : Place) (r : Read) → InRecord k → ran_at k r [] ≡ r
unfolding ran_at
recording (in_cell_lem c) r w =
    let n : r.offset + 0 ≡ r.offset = omega arith in
    let m : r.size + 0 ≡ r.size = omega arith in
    let l : r.raw ++ [] ≡ r.raw = append-nil r.raw in
    let e : ran_at (in_cell_lem c) r [] ≡ record { done = r.done; state = r.state; offset = r.offset; start = r.start; size = r.size; opened = r.opened; raw = r.raw; cells = r.cells } =
    cc in
    e
recording elsewhere r w = refl
recording (in_comment _) r w = elim w [ ]

resting : (k : Place) (rs : List Rec) (f : FileState) (o s : ℕ)
    → ran_at k (record { done = rs; state = f; offset = o; start = s; size = 0; opened = o; raw = []; cells = [] }) [] ≡ record
    { done = rs; state = f; offset = o; start = s; size = 0; opened = o; raw = []; cells = [] }
unfolding ran_at
resting (in_cell_lem c) rs f o s = let n : o + 0 ≡ o = omega arith in cc
resting (in_comment t) rs f o s = let n : o + 0 ≡ o = omega arith in cc
resting elsewhere rs f o s = refl

module _ (d : Dialect) (target : Option Target) where
  validated_stands : (r : Read) (rs : List Rec) (f : FileState) (o : ℕ) (v : CheckResult) → LiesAfter (validated r (between_records rs f o) v)
  validated_stands r rs f o (Ok _) = proceeds_on (resting (place_in f) rs f o o)
  validated_stands r rs f o (Err e) = stops

  -- a step into a comment is outside records
  move_stands : (r : Read) (b : ℕ) {f : FileState} {s : Step} → Transition d f b s → LiesAfter (move d target r b s)
  unfolding move complete
  move_stands r b (refuses t) = stops
  move_stands r b (outside {g} t w x) = proceeds_on (resting (place_in g) r.done g (suc r.offset) r.start)
  move_stands r b (passes {g} t w x) = proceeds_on (resting (place_in g) r.done g (suc r.offset) (suc r.offset))
  move_stands r b (adds {g} t n h x i e) = proceeds_on (recording (place_in g) _ (grown_record x))
  move_stands r b (blanks t n e c) = proceeds_on (recording elsewhere _ at_none)
  move_stands r b (parts {g} t n l o) = proceeds_on (recording (place_in g) _ (opens_record o))
  move_stands r b (turns t p l) = proceeds_on (recording elsewhere _ at_none)
  move_stands r b (ends {g} {k} t p l x) = validated_stands r _ g (suc r.offset) (record_fault d target r.done (closing d k r))
  move_stands r b (ends_cr t e p) = validated_stands r _ Begin (suc r.offset) (record_fault d target r.done (closing d false r))

  -- any byte leads to such a state, from any state
  pub byte_stands : (r : Read) (b : ℕ) → LiesAfter (read_byte d target r b)
  unfolding read_byte
  byte_stands r b =
      split LiesAfter _ (λ _. stops) λ _. split LiesAfter _ (λ _. stops) λ _. move_stands r b (step_transition d r.state b)

  pub read_stands : (p : Progress) (xs : Bytes) → LiesAfter p → LiesAfter (read_from d target p xs)
  unfolding read_from
  read_stands p [] w = w
  read_stands (going r) (x ∷ xs) w = read_stands (read_byte d target r x) xs (byte_stands r x)
  read_stands (stopped e r) (x ∷ xs) w = stops

  stands_where : (p : Progress) (r : Read) → p ≡ going r → LiesAfter p → Lies r
  stands_where (going q) r e (proceeds_on w) = let h : q ≡ r = cc in rw h at w
  stands_where (stopped x q) r e w = let z : ◌≡◌ {A = ℕ} 0 1 = cc in absurd (omega arith)

  pub stands : (bs : Bytes) (r : Read) → read_bytes d target bs ≡ going r → Lies r
  unfolding read_bytes nothing_read
  stands bs r e = stands_where (read_bytes d target bs) r e (read_stands (going nothing_read) bs (proceeds_on (resting (place_in Top) [] Top 0 0)))

-- ---- the law

pub run_law : (d : Dialect) (target : Option Target) → RunLaw d target
run_law d target = record { run = run d target; rest = rest d target; stands = stands d target }
