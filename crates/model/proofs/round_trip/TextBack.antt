-- The decoder accepts the text of a cell, with its content: quotes doubled (TDIF, CSV+) and unquoted (CSV+). Content without a lone
-- surrogate is UTF-8 (`content_text`), and UTF-8 runs through the automaton of a cell.
use Prim.Native.Nat.{ℕ, ◌<◌}
use native.Mathlib.Omega.{arith}
use mathlib.Core.Path.{◌≡◌, refl, sym, ap, ◌∙◌}
use mathlib.Core.Bool.{Bool, true, false, ◌&&◌, ◌||◌}
use Rattle.std.specs.Prelude.{None, Some}
use mathlib.Core.List.{[], ◌∷◌, ◌++◌}
use lib.Dec.{leb}
use borrow.Author.Tests.{leb-false, le-leb, lt-leb, eq-eqb}
use Rattle.model.specs.rules.Types.{Settings, Dialect, CsvPlus, Ed, Inner, Second, Last, Char, Whole, Within, Option}
use Rattle.model.specs.rules.Types.{Text, Cell, Fresh, Quoted, Closed, Plain, More, Ok}
use Rattle.model.specs.rules.Base.{Bytes, LF, CR, QUOTE, ◌is◌, holds, choose◌then◌else◌}
use Rattle.model.specs.rules.Dialect.{quote_of, delimiter_of}
use Rattle.model.specs.rules.Utf8.{row_of, leads, lead_byte, inner_step, char_step, text_from, holds_lone, Wide, gap, ed, lone, inner, settled}
use Rattle.model.specs.rules.Utf8.{settle, wide_step, wide_from, is_content}
use Rattle.model.specs.rules.Cell.{text_byte, first_byte, quoted_byte, plain_byte, cell_step, is_whole}
use Rattle.model.specs.rules.Decode.{kind_of, undouble, content_of, validate_from, validate_cell}
use Rattle.model.specs.rules.Text.{doubled, quoted_text, special}
use Rattle.model.proofs.Tests.{split_on, impossible, is→eq, same_byte}
use Rattle.model.proofs.cell_laws.Utf8.{ascii_whole, quote_ascii, inner_no_quote, TextStep, text_step, text_on}
use Rattle.model.proofs.cell_laws.CellRuns.{Runs, here, there, runs_sound}
use Rattle.model.proofs.cell_laws.CellContent.{Doubles, d_tdif, d_plus}

pub or_false : (x y : Bool) → (x || y) ≡ false → (x ≡ false) × (y ≡ false)
or_false true y e = impossible (sym e)
or_false false y e = (refl, e)

pub undouble_doubled : (q : ℕ) (bs : Bytes) → undouble q false (doubled q bs ++ (q ∷ [])) ≡ bs
unfolding undouble doubled choose◌then◌else◌
undouble_doubled q [] = rw (same_byte q, undouble)
undouble_doubled q (b ∷ bs) =
    let ih : undouble q false (doubled q bs ++ (q ∷ [])) ≡ bs = undouble_doubled q bs in
    split_on (b is q) (λ e. rw (e, doubled) (rw (same_byte q, undouble) (rw (ih, is→eq b q e)))) (λ e. rw (e, doubled) (rw (e, undouble, ih)))

-- ---- content without a lone surrogate is UTF-8

unfoldable pub char_of : Wide → Char
char_of (gap h) = Whole
char_of (ed h) = Within (Second Ed)
char_of (lone h) = Whole
char_of (inner i) = Within i

char_settled : (c : Char) → char_of (settled c) ≡ c
unfolding char_of
char_settled Whole = refl
char_settled (Within i) = refl

-- after ED no second byte of a surrogate, and not inside one
abbrev pub Apart : Wide → Bytes → Type 0
Apart (gap h) bs = Unit {0}
Apart (ed h) [] = Unit {0}
Apart (ed h) (b ∷ bs) = leb 0xA0 b ≡ false
Apart (lone h) bs = ⊥
Apart (inner i) bs = Unit {0}

pub apart_settled : (c : Char) (bs : Bytes) → Apart (settled c) bs
apart_settled Whole bs = tt
apart_settled (Within i) bs = tt

-- a surrogate begins here
abbrev pub pair : ℕ → Bytes → Bool
pair a [] = false
pair a (b ∷ bs) = a is 0xED && leb 0xA0 b

-- what a step of content does, apart from surrogates: as UTF-8
pub data Steps (w : Wide) (b : ℕ) (bs : Bytes) : Type 0 where
  steps : (w' : Wide) → char_step (char_of w) b ≡ Some (char_of w') → wide_from w' bs ≡ true → (pair b bs ≡ false → Apart w' bs) → Steps w b bs

lone_after_ed : (bs : Bytes) (b : ℕ) (h : Bool) → (b is 0xED) ≡ true → pair b bs ≡ false → Apart (ed h) bs
lone_after_ed [] b h e k = tt
lone_after_ed (c ∷ bs) b h e k = let q : (b is 0xED) ≡ true = eq-eqb b 0xED (is→eq b 0xED e) in rw q at k

pair_apart : (b : ℕ) (bs : Bytes) → holds_lone (b ∷ bs) ≡ false → pair b bs ≡ false
unfolding holds_lone choose◌then◌else◌
pair_apart b [] k = refl
pair_apart b (c ∷ bs) k = go (b is 0xED) (leb 0xA0 c) refl refl
  where
    go : (x y : Bool) → (b is 0xED) ≡ x → leb 0xA0 c ≡ y → (x && y) ≡ false
    go false y p q = refl
    go true false p q = refl
    go true true p q = impossible (sym (rw (is→eq b 0xED p, q) at k))

lone_tail : (b : ℕ) (bs : Bytes) → holds_lone (b ∷ bs) ≡ false → holds_lone bs ≡ false
unfolding holds_lone choose◌then◌else◌
lone_tail b [] k = refl
lone_tail b (c ∷ bs) k = go ((b is 0xED) && leb 0xA0 c) refl
  where
    go : (t : Bool) → ((b is 0xED) && leb 0xA0 c) ≡ t → holds_lone (c ∷ bs) ≡ false
    go false p = rw p at k
    go true p = impossible (sym (rw p at k))

settled_steps :
    (w : Wide) (b : ℕ) (bs : Bytes) (o : Option Char) → char_step (char_of w) b ≡ o →
    (elim (settle o) as (λ _. Bool) [ None ↦ false | Some w' ↦ wide_from w' bs ]) ≡ true → Steps w b bs
settled_steps w b bs None e h = impossible h
settled_steps w b bs (Some c) e h = steps (settled c) (rw (char_settled c) e) h (λ _. apart_settled c bs)

ed_char : (b : ℕ) → (b is 0xED) ≡ true → char_step Whole b ≡ Some (Within (Second Ed))
unfolding char_step lead_byte leads row_of choose◌then◌else◌
ed_char b e = rw (is→eq b 0xED e)

pub step_apart : (w : Wide) (b : ℕ) (bs : Bytes) → wide_from w (b ∷ bs) ≡ true → Apart w (b ∷ bs) → Steps w b bs
unfolding wide_from wide_step char_of choose◌then◌else◌
step_apart (gap h) b bs e a = go (b is 0xED) refl
  where
    go : (t : Bool) → (b is 0xED) ≡ t → Steps (gap h) b bs
    go true p = steps (ed h) (ed_char b p) (rw (p, wide_from) at e) (lone_after_ed bs b h p)
    go false p = settled_steps (gap h) b bs (char_step Whole b) refl (rw (p, wide_from) at e)
step_apart (ed h) b bs e a = go (leb 0x80 b) (leb b 0x9F) refl refl
  where
    go : (x y : Bool) → leb 0x80 b ≡ x → leb b 0x9F ≡ y → Steps (ed h) b bs
    go true true p q = steps (inner Last) (unfold char_step inner_step row_of in rw (p, q)) (rw (p, q, wide_from) at e) (λ _. tt)
    go true false p q = let k : 0x9F < b = leb-false b 0x9F q in impossible (sym a ∙ le-leb 0xA0 b (omega arith))
    go false y p q = let k : b < 0x80 = leb-false 0x80 b p in impossible (rw (p, a, lt-leb 0xB0 b (omega arith), wide_from) at e)
step_apart (lone h) b bs e a = absurd a
step_apart (inner i) b bs e a = settled_steps (inner i) b bs (char_step (Within i) b) refl e

-- ---- UTF-8

after_step :
    (w : Wide) (b : ℕ) (bs : Bytes) → Steps w b bs → holds_lone (b ∷ bs) ≡ false →
    ((w' : Wide) → wide_from w' bs ≡ true → Apart w' bs → holds_lone bs ≡ false → text_from (char_of w') bs ≡ true) →
    text_from (char_of w) (b ∷ bs) ≡ true
unfolding text_from
after_step w b bs (steps w' e h a) k ih = rw (e, text_from) (ih w' h (a (pair_apart b bs k)) (lone_tail b bs k))

pub text_apart : (w : Wide) (bs : Bytes) → wide_from w bs ≡ true → Apart w bs → holds_lone bs ≡ false → text_from (char_of w) bs ≡ true
unfolding wide_from char_of text_from
text_apart (gap h) [] e a k = refl
text_apart (ed h) [] e a k = impossible e
text_apart (lone h) [] e a k = absurd a
text_apart (inner i) [] e a k = impossible e
text_apart (gap h) (b ∷ bs) e a k = after_step (gap h) b bs (step_apart (gap h) b bs e a) k (λ w. text_apart w bs)
text_apart (ed h) (b ∷ bs) e a k = after_step (ed h) b bs (step_apart (ed h) b bs e a) k (λ w. text_apart w bs)
text_apart (lone h) (b ∷ bs) e a k = absurd a
text_apart (inner i) (b ∷ bs) e a k = after_step (inner i) b bs (step_apart (inner i) b bs e a) k (λ w. text_apart w bs)

pub content_text : (bs : Bytes) → is_content bs ≡ true → holds_lone bs ≡ false → text_from Whole bs ≡ true
unfolding is_content char_of
content_text bs e k = text_apart (gap false) bs e tt k

-- ---- quotes doubled

first_quote : {d : Dialect} → Doubles d → cell_step d Fresh (quote_of d) ≡ More (Quoted Whole)
unfolding cell_step first_byte choose◌then◌else◌
first_quote d_tdif = refl
first_quote (d_plus {s}) = rw (same_byte (quote_of (CsvPlus s)))

quote_closes : {d : Dialect} → Doubles d → cell_step d (Quoted Whole) (quote_of d) ≡ More Closed
unfolding cell_step quoted_byte choose◌then◌else◌
quote_closes d_tdif = refl
quote_closes (d_plus {s}) = rw (same_byte (quote_of (CsvPlus s)))

quote_opens : (d : Dialect) → cell_step d Closed (quote_of d) ≡ More (Quoted Whole)
unfolding cell_step choose◌then◌else◌
quote_opens d = rw (same_byte (quote_of d))

quoted_char : {d : Dialect} (b : ℕ) (c : Char) → Doubles d → (b is quote_of d) ≡ false → char_step Whole b ≡ Some c → cell_step d (Quoted Whole) b ≡ More (Quoted c)
unfolding cell_step quoted_byte choose◌then◌else◌
quoted_char b c d_tdif n e = rw (n, e)
quoted_char b c d_plus n e = rw (n, e)

later_char :
    (d : Dialect) (f : Char → Cell) (i : Inner) (b : ℕ) (c : Char) → cell_step d (f (Within i)) b ≡ text_byte f (char_step (Within i) b) →
    char_step (Within i) b ≡ Some c → cell_step d (f (Within i)) b ≡ More (f c)
later_char d f i b c k e = rw (k, e)

abbrev body_of : Dialect → Bytes → Bytes
body_of d bs = doubled (quote_of d) bs ++ (quote_of d ∷ [])

module _ (d : Dialect) (k : Doubles d) where
  doubled_other : (b : ℕ) (bs : Bytes) → (b is quote_of d) ≡ false → body_of d (b ∷ bs) ≡ b ∷ body_of d bs
  unfolding doubled choose◌then◌else◌
  doubled_other b bs e = rw (e, doubled)

  doubled_quote : (b : ℕ) (bs : Bytes) → (b is quote_of d) ≡ true → body_of d (b ∷ bs) ≡ quote_of d ∷ quote_of d ∷ body_of d bs
  unfolding doubled choose◌then◌else◌
  doubled_quote b bs e = rw (e, doubled)

  body_step :
      (b : ℕ) (bs : Bytes) → TextStep Whole b bs → ((c : Char) → text_from c bs ≡ true → Runs d (Quoted c) (body_of d bs) Closed) →
      Runs d (Quoted Whole) (body_of d (b ∷ bs)) Closed
  body_step b bs (text_step c p h) ih = go (b is quote_of d) refl
    where
      go : (t : Bool) → (b is quote_of d) ≡ t → Runs d (Quoted Whole) (body_of d (b ∷ bs)) Closed
      go false e = rw (doubled_other b bs e) (there (quoted_char b c k e p) (ih c h))
      go true e =
          let q : b ≡ quote_of d = is→eq b (quote_of d) e in
          let x : Some c ≡ Some Whole = sym p ∙ ap (λ (y : ℕ). char_step Whole y) q ∙ ascii_whole (quote_of d) (quote_ascii d) in
          let y : c ≡ Whole = cc in
          rw (doubled_quote b bs e) (there (quote_closes k) (there (quote_opens d) (ih Whole (rw y at h))))

  later_step :
      (i : Inner) (b : ℕ) (bs : Bytes) → TextStep (Within i) b bs →
      ((c : Char) → text_from c bs ≡ true → Runs d (Quoted c) (body_of d bs) Closed) → Runs d (Quoted (Within i)) (body_of d (b ∷ bs)) Closed
  unfolding cell_step
  later_step i b bs (text_step c p h) ih =
      rw (doubled_other b bs (inner_no_quote d i b c p)) (there (later_char d Quoted i b c refl p) (ih c h))

  body_runs : (c : Char) (bs : Bytes) → text_from c bs ≡ true → Runs d (Quoted c) (body_of d bs) Closed
  unfolding text_from doubled
  body_runs Whole [] h = there (quote_closes k) here
  body_runs (Within i) [] h = impossible h
  body_runs Whole (b ∷ bs) h = body_step b bs (text_on Whole b bs h) (λ c. body_runs c bs)
  body_runs (Within i) (b ∷ bs) h = later_step i b bs (text_on (Within i) b bs h) (λ c. body_runs c bs)

  pub quoted_sound : (bs : Bytes) → text_from Whole bs ≡ true → validate_cell d (quoted_text (quote_of d) bs) ≡ Ok tt
  unfolding validate_cell quoted_text is_whole
  quoted_sound bs h = runs_sound 0 (there (first_quote k) (body_runs Whole bs h)) refl

pub quoted_content : {d : Dialect} (bs : Bytes) → Doubles d → content_of d (quoted_text (quote_of d) bs) ≡ bs
unfolding content_of quoted_text choose◌then◌else◌
quoted_content bs d_tdif = undouble_doubled QUOTE bs
quoted_content bs (d_plus {s}) = rw (same_byte (quote_of (CsvPlus s))) (undouble_doubled (quote_of (CsvPlus s)) bs)

pub quoted_kind : {d : Dialect} (bs : Bytes) → Doubles d → kind_of d (quoted_text (quote_of d) bs) ≡ Text
unfolding kind_of quoted_text choose◌then◌else◌
quoted_kind bs d_tdif = refl
quoted_kind bs d_plus = refl

-- ---- unquoted (CSV+)

-- a byte that an unquoted cell may hold
record Usual (s : Settings) (b : ℕ) : Type 0 where
  no_quote : (b is quote_of (CsvPlus s)) ≡ false
  no_end : (b is delimiter_of (CsvPlus s) || b is CR || b is LF) ≡ false

usual : (s : Settings) (b : ℕ) → special s b ≡ false → Usual s b
usual s b e =
    let x = or_false (b is quote_of (CsvPlus s) || b is delimiter_of (CsvPlus s) || b is CR) (b is LF) e in
    let y = or_false (b is quote_of (CsvPlus s) || b is delimiter_of (CsvPlus s)) (b is CR) x.0 in
    let z = or_false (b is quote_of (CsvPlus s)) (b is delimiter_of (CsvPlus s)) y.0 in
    record { no_quote = z.0; no_end = rw (z.1, y.1, x.1) }

module _ (s : Settings) where
  fresh_char : (b : ℕ) (c : Char) → Usual s b → char_step Whole b ≡ Some c → cell_step (CsvPlus s) Fresh b ≡ More (Plain c)
  unfolding cell_step first_byte choose◌then◌else◌
  fresh_char b c u e = rw (u.no_quote, u.no_end, e)

  plain_char : (b : ℕ) (c : Char) → Usual s b → char_step Whole b ≡ Some c → cell_step (CsvPlus s) (Plain Whole) b ≡ More (Plain c)
  unfolding cell_step plain_byte choose◌then◌else◌
  plain_char b c u e = rw (u.no_quote, u.no_end, e)

  abbrev Plainly : Bytes → Type 0
  Plainly bs = (c : Char) → text_from c bs ≡ true → holds (special s) bs ≡ false → Runs (CsvPlus s) (Plain c) bs (Plain Whole)

  unusual : (b : ℕ) (bs : Bytes) → holds (special s) (b ∷ bs) ≡ false → Usual s b × (holds (special s) bs ≡ false)
  unfolding holds
  unusual b bs e = let x = or_false (special s b) (holds (special s) bs) e in (usual s b x.0, x.1)

  plain_step :
      (b : ℕ) (bs : Bytes) → TextStep Whole b bs → holds (special s) (b ∷ bs) ≡ false → Plainly bs →
      Runs (CsvPlus s) (Plain Whole) (b ∷ bs) (Plain Whole)
  plain_step b bs (text_step c p h) k ih = let x = unusual b bs k in there (plain_char b c x.0 p) (ih c h x.1)

  plain_later :
      (i : Inner) (b : ℕ) (bs : Bytes) → TextStep (Within i) b bs → holds (special s) (b ∷ bs) ≡ false → Plainly bs →
      Runs (CsvPlus s) (Plain (Within i)) (b ∷ bs) (Plain Whole)
  unfolding cell_step
  plain_later i b bs (text_step c p h) k ih = there (later_char (CsvPlus s) Plain i b c refl p) (ih c h (unusual b bs k).1)

  plain_runs : (bs : Bytes) → Plainly bs
  unfolding text_from
  plain_runs [] Whole h k = here
  plain_runs [] (Within i) h k = impossible h
  plain_runs (b ∷ bs) Whole h k = plain_step b bs (text_on Whole b bs h) k (plain_runs bs)
  plain_runs (b ∷ bs) (Within i) h k = plain_later i b bs (text_on (Within i) b bs h) k (plain_runs bs)

  pub plain_sound : (bs : Bytes) → text_from Whole bs ≡ true → holds (special s) bs ≡ false → validate_cell (CsvPlus s) bs ≡ Ok tt
  unfolding validate_cell is_whole
  plain_sound [] h k = runs_sound 0 here refl
  plain_sound (b ∷ bs) h k = first (text_on Whole b bs h)
    where
      first : TextStep Whole b bs → validate_from (CsvPlus s) Fresh 0 (b ∷ bs) ≡ Ok tt
      first (text_step c p t) = let x = unusual b bs k in runs_sound 0 (there (fresh_char b c x.0 p) (plain_runs bs c t x.1)) refl

  pub plain_content : (bs : Bytes) → holds (special s) bs ≡ false → content_of (CsvPlus s) bs ≡ bs
  unfolding content_of choose◌then◌else◌
  plain_content [] k = refl
  plain_content (b ∷ bs) k = rw (unusual b bs k).0.no_quote
