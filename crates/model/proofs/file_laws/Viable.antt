-- By form alone, every state of a file can be completed to a record, and a byte is refused exactly where no continuation with it
-- completes one, in every dialect. `completion` names a continuation for each state; `completes` shows that it completes.
use Prim.Native.Nat.{ℕ}
use native.Mathlib.Omega.{arith}
use mathlib.Core.Path.{◌≡◌, refl, ◌∙◌}
use mathlib.Core.Logic.{◌⊎◌, inl, inr, ◌↔◌}
use mathlib.Core.Bool.{Bool, true, false}
use mathlib.Core.List.{[], ◌∷◌, ◌++◌}
use Rattle.model.specs.rules.Types.{Delimiter, Comma, Semicolon, Tab, Bar, Quote, Double, Single, Settings, Dialect, Csvj, Tdif, CsvPlus}
use Rattle.model.specs.rules.Types.{C2ToDf, E0, E1ToEc, Ed, EeToEf, F0, F1ToF3, F4, Inner, Second, LastTwo, Last, Char, Whole, Within, Some}
use Rattle.model.specs.rules.Types.{HexLeft, Four, Three, Two, One, Numeral, Minus, Zero, Integer, Point, Fraction, E, ESign, Exponent, Word, T}
use Rattle.model.specs.rules.Types.{Tr, Tru, F, Fa, Fal, Fals, N, Nu, Nul, Backslash}
use Rattle.model.specs.rules.Types.{Cell, Fresh, Quoted, Closed, Escape, Hex, InNumber, InWord, Plain, Complete, More, Stop, ByteFault}
use Rattle.model.specs.rules.Types.{FileState, Top, Begin, Ended, Bom1, Bom2, PlainBom1, PlainBom2, Comment, Blanks, ExpectCell, Inside, After}
use Rattle.model.specs.rules.Types.{Cr, ByteRole, Outside, Passed, OfCell, Ends, Step, Ok, Err}
use Rattle.model.specs.rules.Base.{Bytes, LF, QUOTE, ◌is◌, choose◌then◌else◌}
use Rattle.model.specs.rules.Dialect.{quote_of, delimiter_of, delimiter_byte, quote_byte}
use Rattle.model.specs.rules.Utf8.{row_of, inner_step, char_step}
use Rattle.model.specs.rules.Cell.{numeral_step, letter_of, after_letter, first_byte, quoted_byte, plain_byte, cell_step}
use Rattle.model.specs.rules.File.{after_cell, in_cell, begin_record, begin_file, is_blank, file_step}
use Rattle.model.specs.laws.Viable.{Completes, completed, onward}
use Rattle.model.proofs.Tests.{same_byte}

-- ---- a continuation for each state

abbrev line : Bytes
line = LF ∷ []

abbrev inner_end : Inner → Bytes
inner_end (Second C2ToDf) = 0x80 ∷ []
inner_end (Second E0) = 0xA0 ∷ 0x80 ∷ []
inner_end (Second E1ToEc) = 0x80 ∷ 0x80 ∷ []
inner_end (Second Ed) = 0x80 ∷ 0x80 ∷ []
inner_end (Second EeToEf) = 0x80 ∷ 0x80 ∷ []
inner_end (Second F0) = 0x90 ∷ 0x80 ∷ 0x80 ∷ []
inner_end (Second F1ToF3) = 0x80 ∷ 0x80 ∷ 0x80 ∷ []
inner_end (Second F4) = 0x80 ∷ 0x80 ∷ 0x80 ∷ []
inner_end LastTwo = 0x80 ∷ 0x80 ∷ []
inner_end Last = 0x80 ∷ []

abbrev char_end : Char → Bytes
char_end Whole = []
char_end (Within i) = inner_end i

abbrev empty_cell : Dialect → Bytes
empty_cell d = quote_of d ∷ quote_of d ∷ line

abbrev fresh_end : Dialect → Bytes
fresh_end Csvj = empty_cell Csvj
fresh_end Tdif = empty_cell Tdif
fresh_end (CsvPlus s) = line

abbrev hex_end : Dialect → HexLeft → Bytes
hex_end d Four = 0x30 ∷ 0x30 ∷ 0x30 ∷ 0x30 ∷ quote_of d ∷ line
hex_end d Three = 0x30 ∷ 0x30 ∷ 0x30 ∷ quote_of d ∷ line
hex_end d Two = 0x30 ∷ 0x30 ∷ quote_of d ∷ line
hex_end d One = 0x30 ∷ quote_of d ∷ line

abbrev numeral_end : Numeral → Bytes
numeral_end Minus = 0x30 ∷ line
numeral_end Zero = line
numeral_end Integer = line
numeral_end Point = 0x30 ∷ line
numeral_end Fraction = line
numeral_end E = 0x30 ∷ line
numeral_end ESign = 0x30 ∷ line
numeral_end Exponent = line

abbrev word_end : Word → Bytes
word_end T = 0x72 ∷ 0x75 ∷ 0x65 ∷ line
word_end Tr = 0x75 ∷ 0x65 ∷ line
word_end Tru = 0x65 ∷ line
word_end F = 0x61 ∷ 0x6C ∷ 0x73 ∷ 0x65 ∷ line
word_end Fa = 0x6C ∷ 0x73 ∷ 0x65 ∷ line
word_end Fal = 0x73 ∷ 0x65 ∷ line
word_end Fals = 0x65 ∷ line
word_end N = 0x75 ∷ 0x6C ∷ 0x6C ∷ line
word_end Nu = 0x6C ∷ 0x6C ∷ line
word_end Nul = 0x6C ∷ line
word_end Backslash = 0x4E ∷ line

abbrev cell_end : Dialect → Cell → Bytes
cell_end d Fresh = fresh_end d
cell_end d (Quoted c) = char_end c ++ (quote_of d ∷ line)
cell_end d Closed = line
cell_end d Escape = 0x22 ∷ quote_of d ∷ line
cell_end d (Hex n) = hex_end d n
cell_end d (InNumber n) = numeral_end n
cell_end d (InWord w) = word_end w
cell_end d (Plain c) = char_end c ++ line
cell_end d Complete = line

abbrev begin_end : Dialect → Bytes
begin_end Csvj = line
begin_end Tdif = empty_cell Tdif
begin_end (CsvPlus s) = line

unfoldable pub completion : Dialect → FileState → Bytes
completion d Top = begin_end d
completion d Begin = begin_end d
completion d Ended = LF ∷ begin_end d
completion d Bom1 = 0xBB ∷ 0xBF ∷ begin_end d
completion d Bom2 = 0xBF ∷ begin_end d
completion d PlainBom1 = 0x80 ∷ 0x80 ∷ line
completion d PlainBom2 = 0x80 ∷ line
completion d (Comment c) = char_end c ++ (LF ∷ begin_end d)
completion d Blanks = begin_end d
completion d ExpectCell = empty_cell d
completion d (Inside c) = cell_end d c
completion d After = line
completion d Cr = line

-- ---- it completes

on : (d : Dialect) (f : FileState) (b : ℕ) (f' : FileState) (p : ByteRole) {bs : Bytes} → file_step d f b ≡ Ok (f', p) → Completes d f' bs → Completes d f (b ∷ bs)
on d f b f' p e k = onward e k

over : (d : Dialect) (f : FileState) (b : ℕ) (f' : FileState) (k : Bool) → file_step d f b ≡ Ok (f', Ends k) → Completes d f (b ∷ [])
over d f b f' k e = completed e

lf_no_delimiter : (s : Settings) → (LF is delimiter_of (CsvPlus s)) ≡ false
lf_no_delimiter s = go s.delimiter
  where
    go : (x : Delimiter) → (LF is delimiter_byte x) ≡ false
    go Comma = refl
    go Semicolon = refl
    go Tab = refl
    go Bar = refl

lf_no_quote : (d : Dialect) → (LF is quote_of d) ≡ false
lf_no_quote Csvj = refl
lf_no_quote Tdif = refl
lf_no_quote (CsvPlus s) = go s.quote
  where
    go : (x : Quote) → (LF is quote_byte x) ≡ false
    go Double = refl
    go Single = refl

-- LF ends a record after a cell
after_line : (d : Dialect) (k : Bool) → after_cell d k LF ≡ Ok (Begin, Ends k)
unfolding after_cell choose◌then◌else◌
after_line Csvj k = refl
after_line Tdif k = refl
after_line (CsvPlus s) k = rw (lf_no_delimiter s)

-- a byte of a cell
cell_on : (d : Dialect) {c : Cell} (c' : Cell) {b : ℕ} {bs : Bytes} → cell_step d c b ≡ More c' → Completes d (Inside c') bs → Completes d (Inside c) (b ∷ bs)
unfolding file_step in_cell
cell_on d {c} c' {b} e k = on d (Inside c) b (Inside c') OfCell (rw e) k

-- a whole cell
cell_over : (d : Dialect) {c : Cell} → cell_step d c LF ≡ Stop → Completes d (Inside c) line
unfolding file_step in_cell
cell_over d {c} e = over d (Inside c) LF Begin true (rw e (after_line d true))

-- the end of a character, in a cell or a comment
module _ (d : Dialect) (g : Char → FileState) (bs : Bytes)
    (next : (i : Inner) (b : ℕ) (c : Char) (xs : Bytes) → char_step (Within i) b ≡ Some c → Completes d (g c) xs → Completes d (g (Within i)) (b ∷ xs))
    (end : Completes d (g Whole) bs) where
  last_on : Completes d (g (Within Last)) (0x80 ∷ bs)
  unfolding char_step inner_step choose◌then◌else◌
  last_on = next Last 0x80 Whole bs refl end

  last_two_on : Completes d (g (Within LastTwo)) (0x80 ∷ 0x80 ∷ bs)
  unfolding char_step inner_step choose◌then◌else◌
  last_two_on = next LastTwo 0x80 (Within Last) (0x80 ∷ bs) refl last_on

  char_on : (c : Char) → Completes d (g c) (char_end c ++ bs)
  unfolding char_step inner_step row_of choose◌then◌else◌
  char_on Whole = end
  char_on (Within (Second C2ToDf)) = next (Second C2ToDf) 0x80 Whole bs refl end
  char_on (Within (Second E0)) = next (Second E0) 0xA0 (Within Last) (0x80 ∷ bs) refl last_on
  char_on (Within (Second E1ToEc)) = next (Second E1ToEc) 0x80 (Within Last) (0x80 ∷ bs) refl last_on
  char_on (Within (Second Ed)) = next (Second Ed) 0x80 (Within Last) (0x80 ∷ bs) refl last_on
  char_on (Within (Second EeToEf)) = next (Second EeToEf) 0x80 (Within Last) (0x80 ∷ bs) refl last_on
  char_on (Within (Second F0)) = next (Second F0) 0x90 (Within LastTwo) (0x80 ∷ 0x80 ∷ bs) refl last_two_on
  char_on (Within (Second F1ToF3)) = next (Second F1ToF3) 0x80 (Within LastTwo) (0x80 ∷ 0x80 ∷ bs) refl last_two_on
  char_on (Within (Second F4)) = next (Second F4) 0x80 (Within LastTwo) (0x80 ∷ 0x80 ∷ bs) refl last_two_on
  char_on (Within LastTwo) = last_two_on
  char_on (Within Last) = last_on

closed_on : (d : Dialect) → Completes d (Inside Closed) line
unfolding cell_step choose◌then◌else◌
closed_on d = cell_over d (rw (lf_no_quote d))

complete_on : (d : Dialect) → Completes d (Inside Complete) line
unfolding cell_step
complete_on d = cell_over d refl

quote_on : (d : Dialect) → Completes d (Inside (Quoted Whole)) (quote_of d ∷ line)
unfolding cell_step quoted_byte choose◌then◌else◌
quote_on Csvj = cell_on Csvj Complete refl (complete_on Csvj)
quote_on Tdif = cell_on Tdif Closed refl (closed_on Tdif)
quote_on (CsvPlus s) = cell_on (CsvPlus s) Closed (rw (same_byte (quote_of (CsvPlus s)))) (closed_on (CsvPlus s))

plain_on : (d : Dialect) → Completes d (Inside (Plain Whole)) line
unfolding cell_step plain_byte choose◌then◌else◌
plain_on Csvj = cell_over Csvj refl
plain_on Tdif = cell_over Tdif refl
plain_on (CsvPlus s) = cell_over (CsvPlus s) (rw (lf_no_quote (CsvPlus s), lf_no_delimiter s))

hex_on : (d : Dialect) (n : HexLeft) → Completes d (Inside (Hex n)) (hex_end d n)
unfolding cell_step choose◌then◌else◌
hex_on d One = cell_on d (Quoted Whole) refl (quote_on d)
hex_on d Two = cell_on d (Hex One) refl (cell_on d (Quoted Whole) refl (quote_on d))
hex_on d Three = cell_on d (Hex Two) refl (cell_on d (Hex One) refl (cell_on d (Quoted Whole) refl (quote_on d)))
hex_on d Four =
    cell_on d (Hex Three) refl (cell_on d (Hex Two) refl (cell_on d (Hex One) refl (cell_on d (Quoted Whole) refl (quote_on d))))

numeral_on : (d : Dialect) (n : Numeral) → Completes d (Inside (InNumber n)) (numeral_end n)
unfolding cell_step numeral_step choose◌then◌else◌
numeral_on d Minus = cell_on d (InNumber Zero) refl (cell_over d refl)
numeral_on d Zero = cell_over d refl
numeral_on d Integer = cell_over d refl
numeral_on d Point = cell_on d (InNumber Fraction) refl (cell_over d refl)
numeral_on d Fraction = cell_over d refl
numeral_on d E = cell_on d (InNumber Exponent) refl (cell_over d refl)
numeral_on d ESign = cell_on d (InNumber Exponent) refl (cell_over d refl)
numeral_on d Exponent = cell_over d refl

letter_on : (d : Dialect) (w : Word) {bs : Bytes} → Completes d (Inside (after_letter w)) bs → Completes d (Inside (InWord w)) (letter_of w ∷ bs)
unfolding cell_step choose◌then◌else◌
letter_on d w k = cell_on d (after_letter w) (rw (same_byte (letter_of w))) k

word_on : (d : Dialect) (w : Word) → Completes d (Inside (InWord w)) (word_end w)
word_on d T = letter_on d T (letter_on d Tr (letter_on d Tru (complete_on d)))
word_on d Tr = letter_on d Tr (letter_on d Tru (complete_on d))
word_on d Tru = letter_on d Tru (complete_on d)
word_on d F = letter_on d F (letter_on d Fa (letter_on d Fal (letter_on d Fals (complete_on d))))
word_on d Fa = letter_on d Fa (letter_on d Fal (letter_on d Fals (complete_on d)))
word_on d Fal = letter_on d Fal (letter_on d Fals (complete_on d))
word_on d Fals = letter_on d Fals (complete_on d)
word_on d N = letter_on d N (letter_on d Nu (letter_on d Nul (complete_on d)))
word_on d Nu = letter_on d Nu (letter_on d Nul (complete_on d))
word_on d Nul = letter_on d Nul (complete_on d)
word_on d Backslash = letter_on d Backslash (complete_on d)

-- a quote opens a cell
quote_opens : (d : Dialect) → cell_step d Fresh (quote_of d) ≡ More (Quoted Whole)
unfolding cell_step first_byte choose◌then◌else◌
quote_opens Csvj = refl
quote_opens Tdif = refl
quote_opens (CsvPlus s) = rw (same_byte (quote_of (CsvPlus s)))

fresh_line : (s : Settings) → cell_step (CsvPlus s) Fresh LF ≡ Stop
unfolding cell_step first_byte choose◌then◌else◌
fresh_line s = rw (lf_no_quote (CsvPlus s), lf_no_delimiter s)

fresh_on : (d : Dialect) → Completes d (Inside Fresh) (fresh_end d)
fresh_on Csvj = cell_on Csvj (Quoted Whole) (quote_opens Csvj) (quote_on Csvj)
fresh_on Tdif = cell_on Tdif (Quoted Whole) (quote_opens Tdif) (quote_on Tdif)
fresh_on (CsvPlus s) = cell_over (CsvPlus s) (fresh_line s)

cell_completes : (d : Dialect) (c : Cell) → Completes d (Inside c) (cell_end d c)
unfolding cell_step choose◌then◌else◌
cell_completes d Fresh = fresh_on d
cell_completes d (Quoted c) = char_on d (λ x. Inside (Quoted x)) (quote_of d ∷ line) (λ i b x xs e h. cell_on d (Quoted x) (rw e) h) (quote_on d) c
cell_completes d Closed = closed_on d
cell_completes d Escape = cell_on d (Quoted Whole) refl (quote_on d)
cell_completes d (Hex n) = hex_on d n
cell_completes d (InNumber n) = numeral_on d n
cell_completes d (InWord w) = word_on d w
cell_completes d (Plain c) = char_on d (λ x. Inside (Plain x)) line (λ i b x xs e h. cell_on d (Plain x) (rw e) h) (plain_on d) c
cell_completes d Complete = complete_on d

-- a record from any state that begins one
begin_line : (s : Settings) → begin_record (CsvPlus s) LF ≡ Ok (Begin, Ends true)
unfolding begin_record in_cell
begin_line s = rw (fresh_line s) (after_line (CsvPlus s) true)

begin_quote : begin_record Tdif QUOTE ≡ Ok (Inside (Quoted Whole), OfCell)
unfolding begin_record in_cell cell_step first_byte choose◌then◌else◌
begin_quote = refl

begin_empty : begin_record Csvj LF ≡ Ok (Begin, Ends false)
unfolding begin_record choose◌then◌else◌
begin_empty = refl

record_on : (d : Dialect) (f : FileState) → file_step d f LF ≡ begin_record d LF → file_step d f QUOTE ≡ begin_record d QUOTE → Completes d f (begin_end d)
record_on Csvj f l q = over Csvj f LF Begin false (l ∙ begin_empty)
record_on Tdif f l q = on Tdif f QUOTE (Inside (Quoted Whole)) OfCell (q ∙ begin_quote) (quote_on Tdif)
record_on (CsvPlus s) f l q = over (CsvPlus s) f LF Begin true (l ∙ begin_line s)

begin_on : (d : Dialect) → Completes d Begin (begin_end d)
unfolding file_step
begin_on d = record_on d Begin refl refl

file_lf : (d : Dialect) → begin_file d LF ≡ begin_record d LF
unfolding begin_file choose◌then◌else◌
file_lf Csvj = refl
file_lf Tdif = refl
file_lf (CsvPlus s) = refl

file_quote : (d : Dialect) → begin_file d QUOTE ≡ begin_record d QUOTE
unfolding begin_file choose◌then◌else◌
file_quote Csvj = refl
file_quote Tdif = refl
file_quote (CsvPlus s) = refl

bom_one : (d : Dialect) → file_step d PlainBom1 0x80 ≡ Ok (Inside (Plain (Within Last)), OfCell)
unfolding file_step in_cell cell_step char_step inner_step row_of choose◌then◌else◌
bom_one d = refl

bom_two : (d : Dialect) → file_step d PlainBom2 0x80 ≡ Ok (Inside (Plain Whole), OfCell)
unfolding file_step in_cell cell_step char_step inner_step choose◌then◌else◌
bom_two d = refl

quote_wanted : (d : Dialect) → file_step d ExpectCell (quote_of d) ≡ Ok (Inside (Quoted Whole), OfCell)
unfolding file_step in_cell choose◌then◌else◌
quote_wanted d = rw (no_blank d, quote_opens d)
  where
    no_blank : (x : Dialect) → is_blank (quote_of x) ≡ false
    no_blank Csvj = refl
    no_blank Tdif = refl
    no_blank (CsvPlus s) = go s.quote
      where
        go : (q : Quote) → is_blank (quote_byte q) ≡ false
        go Double = refl
        go Single = refl

pub completes : (d : Dialect) (f : FileState) → Completes d f (completion d f)
unfolding completion file_step choose◌then◌else◌
completes d Top = record_on d Top (file_lf d) (file_quote d)
completes d Begin = begin_on d
completes d Ended = on d Ended LF Begin Passed refl (begin_on d)
completes d Bom1 = on d Bom1 0xBB Bom2 Outside refl (on d Bom2 0xBF Begin Passed refl (begin_on d))
completes d Bom2 = on d Bom2 0xBF Begin Passed refl (begin_on d)
completes d PlainBom1 = on d PlainBom1 0x80 (Inside (Plain (Within Last))) OfCell (bom_one d) (cell_completes d (Plain (Within Last)))
completes d PlainBom2 = on d PlainBom2 0x80 (Inside (Plain Whole)) OfCell (bom_two d) (plain_on d)
completes d (Comment c) =
    char_on d Comment (LF ∷ begin_end d) (λ i b x xs e h. on d (Comment (Within i)) b (Comment x) Outside (rw e) h)
    (on d (Comment Whole) LF Begin Passed refl (begin_on d)) c
completes d Blanks = record_on d Blanks refl refl
completes d ExpectCell = on d ExpectCell (quote_of d) (Inside (Quoted Whole)) OfCell (quote_wanted d) (quote_on d)
completes d (Inside c) = cell_completes d c
completes d After = over d After LF Begin false (after_line d false)
completes d Cr = over d Cr LF Begin false refl

-- ---- refused exactly where no continuation completes

no_step : {A : Type 0} {e : ByteFault} {f : FileState} {p : ByteRole} (s : Step) → s ≡ Err e → s ≡ Ok (f, p) → A
no_step s p q = let z : ◌≡◌ {A = ℕ} 0 1 = cc in absurd (omega arith)

-- a refused byte is in no completion
refused_dead : (d : Dialect) (f : FileState) (b : ℕ) (e : ByteFault) (bs : Bytes) → file_step d f b ≡ Err e → Completes d f (b ∷ bs) → ⊥
refused_dead d f b e bs x (completed h) = no_step (file_step d f b) x h
refused_dead d f b e bs x (onward h k) = no_step (file_step d f b) x h

-- some continuation with this byte completes a record
abbrev pub Viable : Dialect → FileState → ℕ → Type 0
Viable d f b = (bs : Bytes) × Completes d f (b ∷ bs)

-- this byte is refused
abbrev pub Refused : Dialect → FileState → ℕ → Type 0
Refused d f b = (e : ByteFault) × (file_step d f b ≡ Err e)

refused_or_viable : (d : Dialect) (f : FileState) (b : ℕ) → Refused d f b ⊎ Viable d f b
refused_or_viable d f b = go (file_step d f b) refl
  where
    go : (s : Step) → file_step d f b ≡ s → Refused d f b ⊎ Viable d f b
    go (Err e) h = inl (e, h)
    go (Ok (f', p)) h = inr (completion d f', onward h (completes d f'))

pub refused_iff : (d : Dialect) (f : FileState) (b : ℕ) → Refused d f b ↔ ¬ (Viable d f b)
refused_iff d f b = (λ r v. refused_dead d f b r.0 v.0 r.1 v.1, back (refused_or_viable d f b))
  where
    back : Refused d f b ⊎ Viable d f b → ¬ (Viable d f b) → Refused d f b
    back (inl r) n = r
    back (inr v) n = absurd (n v)
