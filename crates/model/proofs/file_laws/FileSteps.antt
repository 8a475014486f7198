-- Every step of a file by its kind, in one case analysis of `file_step`, from which the other families follow without a test. Beside
-- the states before and after, it gives for each byte whether the record counts it and whether it breaks a text.
use Prim.Native.Nat.{ℕ, ◌≤◌}
use native.Mathlib.Omega.{arith}
use mathlib.Core.Path.{◌≡◌, refl, ap, ◌∙◌}
use mathlib.Core.Bool.{Bool, true, false}
use Rattle.model.specs.rules.Types.{Dialect, Csvj, Tdif, CsvPlus, EeToEf, Second, Last, Char, Whole, Within, Option, Some, None}
use Rattle.model.specs.rules.Types.{Cell, Fresh, Quoted, Closed, Escape, Hex, InNumber, InWord, Plain, Complete, CellStep, More, Stop, Refuse}
use Rattle.model.specs.rules.Types.{ByteFault, Encoding, Syntax}
use Rattle.model.specs.rules.Types.{FileState, Top, Begin, Ended, Bom1, Bom2, PlainBom1, PlainBom2, Comment, Blanks, ExpectCell, Inside, After}
use Rattle.model.specs.rules.Types.{Cr, ByteRole, Outside, Passed, OfCell, Between, Tail, Ends, Step, Ok, Err}
use Rattle.model.specs.rules.Base.{choose◌then◌else◌, LF, CR, COMMA, ◌is◌}
use Rattle.model.specs.rules.Dialect.{delimiter_of}
use Rattle.model.specs.rules.Utf8.{row_of, leads, lead_byte, inner_step, char_step}
use Rattle.model.specs.rules.Cell.{cell_step, is_whole, in_quotes}
use Rattle.model.specs.rules.File.{is_blank, after_cell, grow, in_cell, begin_record, begin_file, commented, file_step, quotes_open, counts}
use Rattle.model.specs.laws.Viable.{fresh_text, cell_text_at, text_at, is_broken, breaks}
use Rattle.model.proofs.Tests.{split, split_on, impossible, is→eq}
use Rattle.model.proofs.cell_laws.Utf8.{is_ascii}
use Rattle.model.proofs.cell_laws.CellSteps.{broken_not, CellTransition, takes_more, takes_stop, takes_two, takes_three, cell_transition}
use Rattle.model.proofs.file_laws.Counted.{counted, lf_uncounted, cr_uncounted, more_counted, blank_counted, delimiter_counted}
use Rattle.model.proofs.cell_laws.CellRuns.{bom_cell, bom_rest}

-- a step has one state and one role
pub step_parts : {f g : FileState} {p q : ByteRole} {s : Step} → s ≡ Ok (f, p) → s ≡ Ok (g, q) → (f ≡ g) × (p ≡ q)
step_parts {f} {g} {p} {q} e k = let z : ◌≡◌ {A = FileState × ByteRole} (f, p) (g, q) = cc in (ap (λ x. x.0) z, ap (λ x. x.1) z)

-- between records
pub data Rests : FileState → Type 0 where
  top : Rests Top
  begin : Rests Begin
  ended : Rests Ended
  bom1 : Rests Bom1
  bom2 : Rests Bom2
  comment : {c : Char} → Rests (Comment c)

-- a comment may begin here, or continues: between records, or in a state that TDIF never reaches
pub data Around : Dialect → FileState → Type 0 where
  rests : {d : Dialect} {f : FileState} → Rests f → Around d f
  unread : Around Tdif Blanks

-- the next byte may be the first or a further one of this cell
pub data Holds : FileState → Cell → Type 0 where
  at_top : Holds Top Fresh
  at_begin : Holds Begin Fresh
  at_ended : Holds Ended Fresh
  at_blanks : Holds Blanks Fresh
  at_wanting : Holds ExpectCell Fresh
  inside : {c : Cell} → Holds (Inside c) c
  plain1 : Holds PlainBom1 (Plain (Within (Second EeToEf)))
  plain2 : Holds PlainBom2 (Plain (Within Last))

-- a byte of a cell leads here
pub data Grown : FileState → Type 0 where
  g_inside : {c : Cell} → Grown (Inside c)
  g_plain1 : Grown PlainBom1
  g_plain2 : Grown PlainBom2

-- a record is open and no cell of it
pub data Free : FileState → Type 0 where
  f_top : Free Top
  f_begin : Free Begin
  f_ended : Free Ended
  f_blanks : Free Blanks
  f_wanting : Free ExpectCell
  f_after : Free After

-- a record may begin here
pub data Starts : FileState → Type 0 where
  s_top : Starts Top
  s_begin : Starts Begin
  s_ended : Starts Ended
  s_blanks : Starts Blanks

pub starts_free : {f : FileState} → Starts f → Free f
starts_free s_top = f_top
starts_free s_begin = f_begin
starts_free s_ended = f_ended
starts_free s_blanks = f_blanks

pub starts_holds : {f : FileState} → Starts f → Holds f Fresh
starts_holds s_top = at_top
starts_holds s_begin = at_begin
starts_holds s_ended = at_ended
starts_holds s_blanks = at_blanks

-- what a separator leads to
pub data Opens : FileState → Type 0 where
  o_after : Opens After
  o_wanting : Opens ExpectCell
  o_fresh : Opens (Inside Fresh)

-- after a record's end
pub data Next : FileState → Type 0 where
  n_begin : Next Begin
  n_ended : Next Ended

-- no cell is current, or the current one is whole and stops before the byte
pub data Leaves (d : Dialect) (b : ℕ) (f : FileState) : Bool → Type 0 where
  none : Free f → Leaves d b f false
  stops : {c : Cell} → Holds f c → cell_step d c b ≡ Stop → is_whole d c ≡ true → Leaves d b f true

pub data Breaks (b : ℕ) : Type 0 where
  lf : (b is LF) ≡ true → Breaks b
  cr : (b is CR) ≡ true → Breaks b

-- fault 2 is given exactly where the byte breaks the UTF-8 table of the text that it belongs to
pub data Reports : (breaks : Bool) → Step → Type 0 where
  reports_to : {f : FileState} {p : ByteRole} → Reports false (Ok (f, p))
  reports_two : Reports true (Err Encoding)
  reports_three : Reports false (Err Syntax)

-- the text that the next byte belongs to allows this one, or there is none
abbrev Fine : Dialect → FileState → ℕ → Type 0
Fine d f b = breaks (text_at d f) b ≡ false

pub data Transition (d : Dialect) (f : FileState) (b : ℕ) : Step → Type 0 where
  refuses : {e : ByteFault} → Reports (breaks (text_at d f) b) (Err e) → Transition d f b (Err e)
  outside : {g : FileState} → Fine d f b → Around d f → Rests g → Transition d f b (Ok (g, Outside))
  passes : {g : FileState} → Fine d f b → Rests f → Next g → Transition d f b (Ok (g, Passed))
  adds :
      {g : FileState} {c c' : Cell} → Fine d f b → counts f b ≡ true → Holds f c → Grown g → Holds g c' → cell_step d c b ≡ More c' →
      Transition d f b (Ok (g, OfCell))
  blanks : Fine d f b → counts f b ≡ true → Starts f → d ≡ Csvj → Transition d f b (Ok (Blanks, Between false))
  parts : {g : FileState} {k : Bool} → Fine d f b → counts f b ≡ true → Leaves d b f k → Opens g → Transition d f b (Ok (g, Between k))
  turns : {k : Bool} → Fine d f b → (b is CR) ≡ true → Leaves d b f k → Transition d f b (Ok (Cr, Tail k))
  ends : {g : FileState} {k : Bool} → Fine d f b → Breaks b → Leaves d b f k → Next g → Transition d f b (Ok (g, Ends k))
  ends_cr : Fine d f b → f ≡ Cr → (b is LF) ≡ true → Transition d f b (Ok (Begin, Ends false))

pub tells : {d : Dialect} {f : FileState} {b : ℕ} {s : Step} → Transition d f b s → Reports (breaks (text_at d f) b) s
tells (refuses t) = t
tells (outside t r g) = rw t reports_to
tells (passes t r g) = rw t reports_to
tells (adds t n h g i s) = rw t reports_to
tells (blanks t n e c) = rw t reports_to
tells (parts t n l o) = rw t reports_to
tells (turns t p l) = rw t reports_to
tells (ends t p l g) = rw t reports_to
tells (ends_cr t e p) = rw t reports_to

-- every byte of a cell counts in its record, and so does every byte between cells
pub cell_counts : {d : Dialect} {f g : FileState} {b : ℕ} → Transition d f b (Ok (g, OfCell)) → counts f b ≡ true
cell_counts (adds t n h g i s) = n

pub between_counts : {d : Dialect} {f g : FileState} {b : ℕ} {k : Bool} → Transition d f b (Ok (g, Between k)) → counts f b ≡ true
between_counts (blanks t n e c) = n
between_counts (parts t n l o) = n

pub holds_quotes : {f : FileState} {c : Cell} → Holds f c → quotes_open f ≡ in_quotes c
holds_quotes at_top = refl
holds_quotes at_begin = refl
holds_quotes at_ended = refl
holds_quotes at_blanks = refl
holds_quotes at_wanting = refl
holds_quotes inside = refl
holds_quotes plain1 = refl
holds_quotes plain2 = refl

free_quotes : {f : FileState} → Free f → quotes_open f ≡ false
free_quotes f_top = refl
free_quotes f_begin = refl
free_quotes f_ended = refl
free_quotes f_blanks = refl
free_quotes f_wanting = refl
free_quotes f_after = refl

-- a whole cell is not in quotes
pub whole_open : (d : Dialect) (c : Cell) → is_whole d c ≡ true → in_quotes c ≡ false
unfolding is_whole
whole_open d Fresh w = refl
whole_open d (Quoted c) w = impossible w
whole_open d Closed w = refl
whole_open d Escape w = impossible w
whole_open d (Hex n) w = impossible w
whole_open d (InNumber n) w = refl
whole_open d (InWord x) w = refl
whole_open d (Plain c) w = refl
whole_open d Complete w = refl

leaves_quotes : {d : Dialect} {f : FileState} {b : ℕ} {k : Bool} → Leaves d b f k → quotes_open f ≡ false
leaves_quotes (none e) = free_quotes e
leaves_quotes {d} (stops {c = c} h s w) = holds_quotes h ∙ whole_open d c w

break_uncounted : (f : FileState) (b : ℕ) → quotes_open f ≡ false → Breaks b → counts f b ≡ false
break_uncounted f b q (lf p) = rw (is→eq b LF p) (lf_uncounted f q)
break_uncounted f b q (cr p) = rw (is→eq b CR p) (cr_uncounted f q)

-- a CR or LF that ends a record does not count in it
pub tail_uncounted : {d : Dialect} {f g : FileState} {b : ℕ} {k : Bool} → Transition d f b (Ok (g, Tail k)) → counts f b ≡ false
tail_uncounted {f} {b} (turns t p l) = break_uncounted f b (leaves_quotes l) (cr p)

pub ends_uncounted : {d : Dialect} {f g : FileState} {b : ℕ} {k : Bool} → Transition d f b (Ok (g, Ends k)) → counts f b ≡ false
ends_uncounted {f} {b} (ends t p l n) = break_uncounted f b (leaves_quotes l) p
ends_uncounted {f} {b} (ends_cr t e p) = break_uncounted f b (rw e) (lf p)

holds_text : (d : Dialect) {f : FileState} {c : Cell} → Holds f c → text_at d f ≡ cell_text_at d c
holds_text d at_top = refl
holds_text d at_begin = refl
holds_text d at_ended = refl
holds_text d at_blanks = refl
holds_text d at_wanting = refl
holds_text d inside = refl
holds_text d plain1 = refl
holds_text d plain2 = refl

-- ---- bytes that no text refuses

fresh_fine : (d : Dialect) (b : ℕ) → b ≤ 0x7F → breaks (fresh_text d) b ≡ false
fresh_fine Csvj b h = refl
fresh_fine Tdif b h = refl
fresh_fine (CsvPlus s) b h = broken_not b h

bom_fine : is_broken (char_step Whole 0xEF) ≡ false
unfolding char_step lead_byte leads row_of choose◌then◌else◌
bom_fine = refl

bom_one_fine : is_broken (char_step (Within (Second EeToEf)) 0xBB) ≡ false
unfolding char_step inner_step row_of choose◌then◌else◌
bom_one_fine = refl

bom_two_fine : is_broken (char_step (Within Last) 0xBF) ≡ false
unfolding char_step inner_step choose◌then◌else◌
bom_two_fine = refl

blank_ascii : (b : ℕ) → is_blank b ≡ true → b ≤ 0x7F
blank_ascii b e = split_on (b is 0x20) (λ p. is_ascii b 0x20 (omega arith) p) λ p. is_ascii b 0x09 (omega arith) (rw p at e)

-- ---- the case analysis

-- after a cell, or blanks after one
module _ {f : FileState} (b : ℕ) where
  after_transition : (d : Dialect) (k : Bool) → Fine d f b → Leaves d b f k → Transition d f b (after_cell d k b)
  unfolding after_cell
  after_transition Csvj k t l =
      let P : Step → Type 0 = Transition Csvj f b in
      split P (is_blank b) (λ p. parts t (blank_counted f b p) l o_after) λ _.
      split P (b is COMMA) (λ p. parts t (delimiter_counted Csvj f b p) l o_wanting) λ _.
      split P (b is LF) (λ p. ends t (lf p) l n_begin) λ _. split P (b is CR) (λ p. turns t p l) λ _. refuses {e = Syntax} (rw t reports_three)
  after_transition Tdif k t l =
      let P : Step → Type 0 = Transition Tdif f b in
      split P (b is COMMA) (λ p. parts t (delimiter_counted Tdif f b p) l o_fresh) λ _.
      split P (b is LF) (λ p. ends t (lf p) l n_begin) λ _. split P (b is CR) (λ p. ends t (cr p) l n_ended) λ _. refuses {e = Syntax} (rw t reports_three)
  after_transition (CsvPlus s) k t l =
      let P : Step → Type 0 = Transition (CsvPlus s) f b in
      split P (b is delimiter_of (CsvPlus s)) (λ p. parts t (delimiter_counted (CsvPlus s) f b p) l o_fresh) λ _.
      split P (b is LF) (λ p. ends t (lf p) l n_begin) λ _. split P (b is CR) (λ p. turns t p l) λ _. refuses {e = Syntax} (rw t reports_three)

  in_cell_transition : (d : Dialect) {c : Cell} → Holds f c → Transition d f b (in_cell d c b)
  unfolding in_cell
  in_cell_transition d {c} h = go (breaks (cell_text_at d c) b) (cell_step d c b) (ap (λ x. breaks x b) (holds_text d h)) refl (cell_transition d c b)
    where
      go : (t : Bool) (a : CellStep) → breaks (text_at d f) b ≡ t → cell_step d c b ≡ a → CellTransition d c t a → Transition d f b (grow a (after_cell d true b))
      go false (More e) t s takes_more = adds t (more_counted d f c e b (holds_quotes h) s) h g_inside inside s
      go false Stop t s (takes_stop w) = after_transition d true t (stops h s w)
      go true (Refuse e) t s takes_two = refuses {e = Encoding} (rw t reports_two)
      go false (Refuse e) t s takes_three = refuses {e = Syntax} (rw t reports_three)
      go true (More e) t s x4 = elim x4 [ ]
      go true Stop t s x5 = elim x5 [ ]

  -- where a record may begin: outside records, or after blanks, which TDIF and CSV+ never read
  record_transition : Around Tdif f → Starts f → ((d : Dialect) → text_at d f ≡ fresh_text d) → (d : Dialect) → Transition d f b (begin_record d b)
  unfolding begin_record
  record_transition r e x Csvj =
      let P : Step → Type 0 = Transition Csvj f b in
      let t : Fine Csvj f b = rw (x Csvj) in
      split P (is_blank b) (λ p. blanks t (blank_counted f b p) e refl) λ _.
      split P (b is LF) (λ p. ends t (lf p) (none (starts_free e)) n_begin) λ _. split P (b is CR)
      (λ p. turns t p (none (starts_free e))) λ _. in_cell_transition Csvj (starts_holds e)
  record_transition r e x Tdif = split (Transition Tdif f b) (b is 0x23) (λ _. outside (rw (x Tdif)) r comment) λ _. in_cell_transition Tdif (starts_holds e)
  record_transition r e x (CsvPlus s) = in_cell_transition (CsvPlus s) (starts_holds e)

comment_transition : {d : Dialect} (b : ℕ) (c : Char) (o : Option Char) → char_step c b ≡ o → Transition d (Comment c) b (commented o)
comment_transition b c None e = refuses {e = Encoding} (rw e reports_two)
comment_transition b c (Some x) e = outside (rw e) (rests comment) comment

-- a byte of the byte order mark that belongs to an unquoted cell is counted
high_counted : (f : FileState) (b n : ℕ) → 0x0E ≤ n → (b is n) ≡ true → counts f b ≡ true
high_counted f b n h p = let z : b ≡ n = is→eq b n p in counted f b (λ y. omega arith) (λ y. omega arith)

file_transition : (d : Dialect) (b : ℕ) → Transition d Top b (begin_file d b)
unfolding begin_file
file_transition Csvj b = split (Transition Csvj Top b) _ (λ _. outside refl (rests top) bom1) λ _. record_transition b (rests top) s_top (λ d. refl) Csvj
file_transition Tdif b = record_transition b (rests top) s_top (λ d. refl) Tdif
file_transition (CsvPlus s) b =
    split (Transition (CsvPlus s) Top b) (b is 0xEF)
    (λ p.
    adds (rw (is→eq b 0xEF p) bom_fine) (high_counted Top b 0xEF (omega arith) p) at_top g_plain1 plain1
    (rw (is→eq b 0xEF p) (bom_cell s))) λ _.
    record_transition b (rests top) s_top (λ d. refl) (CsvPlus s)

pub step_transition : (d : Dialect) (f : FileState) (b : ℕ) → Transition d f b (file_step d f b)
unfolding file_step
step_transition d Top b = file_transition d b
step_transition d Begin b = record_transition b (rests begin) s_begin (λ d. refl) d
step_transition d Ended b =
    split (Transition d Ended b) (b is LF) (λ p. passes (fresh_fine d b (is_ascii b LF (omega arith) p)) ended n_begin) λ _.
    record_transition b (rests ended) s_ended (λ d. refl) d
step_transition d Bom1 b = split (Transition d Bom1 b) _ (λ _. outside refl (rests bom1) bom2) λ _. refuses {e = Syntax} reports_three
step_transition d Bom2 b = split (Transition d Bom2 b) _ (λ _. passes refl bom2 n_begin) λ _. refuses {e = Syntax} reports_three
step_transition d PlainBom1 b =
    split (Transition d PlainBom1 b) (b is 0xBB)
    (λ p.
    adds (rw (is→eq b 0xBB p) bom_one_fine) (high_counted PlainBom1 b 0xBB (omega arith) p) plain1 g_plain2 plain2
    (rw (is→eq b 0xBB p) (bom_rest d))) λ _.
    in_cell_transition b d plain1
step_transition d PlainBom2 b =
    split (Transition d PlainBom2 b) (b is 0xBF) (λ p. refuses {e = Syntax} (rw (is→eq b 0xBF p, bom_two_fine) reports_three)) λ _.
    in_cell_transition b d plain2
step_transition d (Comment Whole) b =
    let P : Step → Type 0 = Transition d (Comment Whole) b in
    split P (b is LF) (λ p. passes (broken_not b (is_ascii b LF (omega arith) p)) comment n_begin) λ _.
    split P (b is CR) (λ p. passes (broken_not b (is_ascii b CR (omega arith) p)) comment n_ended) λ _. comment_transition b Whole (char_step Whole b) refl
step_transition d (Comment (Within i)) b = comment_transition b (Within i) (char_step (Within i) b) refl
step_transition d Blanks b = record_transition b unread s_blanks (λ d. refl) d
step_transition d ExpectCell b =
    split (Transition d ExpectCell b) (is_blank b)
    (λ p. parts (fresh_fine d b (blank_ascii b p)) (blank_counted ExpectCell b p) (none f_wanting) o_wanting) λ _. in_cell_transition b
    d at_wanting
step_transition d (Inside c) b = in_cell_transition b d inside
step_transition d After b = after_transition b d false refl (none f_after)
step_transition d Cr b = split (Transition d Cr b) (b is LF) (λ p. ends_cr refl refl p) λ _. refuses {e = Syntax} reports_three

pub its_transition : {d : Dialect} {f : FileState} {b : ℕ} {s : Step} → file_step d f b ≡ s → Transition d f b s
its_transition {d} {f} {b} e = rw e at (step_transition d f b)
