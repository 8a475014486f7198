-- The content of an accepted cell of TDIF and CSV+ is UTF-8, and so is a number of CSVJ.
use Prim.Native.Nat.{ℕ, ◌≤◌}
use native.Mathlib.Omega.{arith}
use mathlib.Core.Path.{◌≡◌, refl, sym, ◌∙◌}
use mathlib.Core.Bool.{Bool, true, false, ◌||◌}
use mathlib.Core.List.{[], ◌∷◌}
use Rattle.model.specs.rules.Types.{Settings, Dialect, Csvj, Tdif, CsvPlus, Inner, Char, Whole, Within, Option, Some, None, ByteFault}
use Rattle.model.specs.rules.Types.{Numeral, Minus, Zero, Integer, Point, Fraction, E, ESign, Exponent, Cell, Fresh, Quoted, Closed, InNumber}
use Rattle.model.specs.rules.Types.{Plain, CellStep, More, Stop, Refuse}
use Rattle.model.specs.rules.Base.{Bytes, QUOTE, CR, LF, ◌is◌, choose◌then◌else◌}
use Rattle.model.specs.rules.Dialect.{quote_of, delimiter_of}
use Rattle.model.specs.rules.Utf8.{char_step, text_from}
use Rattle.model.specs.rules.Cell.{text_byte, is_digit, numeral_step, first_byte, quoted_byte, plain_byte, cell_step, is_whole}
use Rattle.model.specs.rules.Decode.{content_of, undouble}
use Rattle.model.proofs.Tests.{split, split_on, impossible, is→eq, within_true}
use Rattle.model.proofs.cell_laws.Utf8.{ascii_whole, quote_ascii, is_ascii, inner_no_quote, text_more}
use Rattle.model.proofs.cell_laws.CellRuns.{Runs, here, there, WholeRun}

-- ---- what a byte of a cell shows

pub no_more : {A : Type 0} {c : Cell} {e : ByteFault} → Refuse e ≡ More c → A
no_more e = let z : ◌≡◌ {A = ℕ} 0 1 = cc in absurd (omega arith)

pub no_stop : {A : Type 0} {c : Cell} → Stop ≡ More c → A
no_stop e = let z : ◌≡◌ {A = ℕ} 0 1 = cc in absurd (omega arith)

pub same_more : {x y : Cell} → More x ≡ More y → x ≡ y
same_more e = cc

-- a byte of text continues a character
pub record CharOn (f : Char → Cell) (c : Char) (b : ℕ) (c' : Cell) : Type 0 where
  pub char : Char
  pub step : char_step c b ≡ Some char
  pub cell : f char ≡ c'

pub char_on : (f : Char → Cell) (c : Char) (b : ℕ) (c' : Cell) → text_byte f (char_step c b) ≡ More c' → CharOn f c b c'
char_on f c b c' e = go (char_step c b) refl e
  where
    go : (o : Option Char) → char_step c b ≡ o → text_byte f o ≡ More c' → CharOn f c b c'
    go None p k = no_more k
    go (Some x) p k = record { char = x; step = p; cell = cc }

-- ---- quotes doubled

pub data Doubles : Dialect → Type 0 where
  d_tdif : Doubles Tdif
  d_plus : {s : Settings} → Doubles (CsvPlus s)

pub quoted_is : {d : Dialect} → Doubles d → (b : ℕ) → cell_step d (Quoted Whole) b ≡ (choose b is quote_of d then More Closed else text_byte Quoted (char_step Whole b))
unfolding cell_step quoted_byte
quoted_is d_tdif b = refl
quoted_is d_plus b = refl

module _ (d : Dialect) (k : Doubles d) where
  -- what is left to undouble, by the current cell
  data Undoubled : Cell → Bytes → Type 0 where
    un_quoted : {c : Char} {bs : Bytes} → text_from c (undouble (quote_of d) false bs) ≡ true → Undoubled (Quoted c) bs
    un_closed : {bs : Bytes} → text_from Whole (undouble (quote_of d) true bs) ≡ true → Undoubled Closed bs

  un_text : {c : Char} {bs : Bytes} → Undoubled (Quoted c) bs → text_from c (undouble (quote_of d) false bs) ≡ true
  un_text (un_quoted e) = e

  un_end : {bs : Bytes} → Undoubled Closed bs → text_from Whole (undouble (quote_of d) true bs) ≡ true
  un_end (un_closed e) = e

  quoted_whole :
      (b : ℕ) (c' : Cell) (bs : Bytes) → cell_step d (Quoted Whole) b ≡ More c' → Undoubled c' bs →
      text_from Whole (undouble (quote_of d) false (b ∷ bs)) ≡ true
  unfolding undouble choose◌then◌else◌
  quoted_whole b c' bs e u = go (b is quote_of d) refl
    where
      go : (t : Bool) → (b is quote_of d) ≡ t → text_from Whole (undouble (quote_of d) false (b ∷ bs)) ≡ true
      go true p =
          let q : Closed ≡ c' = same_more (rw p at (sym (quoted_is k b) ∙ e)) in
          rw (p, undouble) (un_end (rw (← q) at u))
      go false p =
          let x = char_on Quoted Whole b c' (rw p at (sym (quoted_is k b) ∙ e)) in
          rw (p, undouble) (text_more Whole x.char b (undouble (quote_of d) false bs) x.step ∙ un_text (rw (← x.cell) at u))

  quoted_inner :
      (i : Inner) (b : ℕ) (c' : Cell) (bs : Bytes) → cell_step d (Quoted (Within i)) b ≡ More c' → Undoubled c' bs →
      text_from (Within i) (undouble (quote_of d) false (b ∷ bs)) ≡ true
  unfolding undouble cell_step choose◌then◌else◌
  quoted_inner i b c' bs e u =
      let x = char_on Quoted (Within i) b c' e in
      rw (inner_no_quote d i b x.char x.step, undouble)
      (text_more (Within i) x.char b (undouble (quote_of d) false bs) x.step ∙ un_text (rw (← x.cell) at u))

  closed_next : (b : ℕ) (c' : Cell) (bs : Bytes) → cell_step d Closed b ≡ More c' → Undoubled c' bs → text_from Whole (undouble (quote_of d) true (b ∷ bs)) ≡ true
  unfolding undouble cell_step choose◌then◌else◌
  closed_next b c' bs e u = go (b is quote_of d) refl
    where
      go : (t : Bool) → (b is quote_of d) ≡ t → text_from Whole (undouble (quote_of d) true (b ∷ bs)) ≡ true
      go true p =
          let q : Quoted Whole ≡ c' = same_more (rw p at e) in
          let z : char_step Whole b ≡ Some Whole = ascii_whole b (is_ascii b (quote_of d) (quote_ascii d) p) in
          rw (p, undouble) (text_more Whole Whole b (undouble (quote_of d) false bs) z ∙ un_text (rw (← q) at u))
      go false p = no_stop (rw p at e)

  -- the cells in quotes
  data InText : Cell → Type 0 where
    in_quoted : {c : Char} → InText (Quoted c)
    in_closed : InText Closed

  stays : {c c' : Cell} (b : ℕ) → InText c → cell_step d c b ≡ More c' → InText c'
  unfolding cell_step choose◌then◌else◌
  stays {c'} b (in_quoted {c = Whole}) e = go (b is quote_of d) refl
    where
      go : (t : Bool) → (b is quote_of d) ≡ t → InText c'
      go true p = let q : Closed ≡ c' = same_more (rw p at (sym (quoted_is k b) ∙ e)) in rw (← q) in_closed
      go false p = let x = char_on Quoted Whole b c' (rw p at (sym (quoted_is k b) ∙ e)) in rw (← x.cell) in_quoted
  stays {c'} b (in_quoted {c = Within i}) e = let x = char_on Quoted (Within i) b c' e in rw (← x.cell) in_quoted
  stays {c'} b in_closed e = go (b is quote_of d) refl
    where
      go : (t : Bool) → (b is quote_of d) ≡ t → InText c'
      go true p = let q : Quoted Whole ≡ c' = same_more (rw p at e) in rw (← q) in_quoted
      go false p = no_stop (rw p at e)

  undoubled : {c e : Cell} {bs : Bytes} → InText c → Runs d c bs e → is_whole d e ≡ true → Undoubled c bs
  unfolding is_whole undouble text_from
  undoubled in_quoted here w = impossible w
  undoubled in_closed here w = un_closed refl
  undoubled (in_quoted {c = Whole}) (there {c'} {b} {bs} x r) w = un_quoted (quoted_whole b c' bs x (undoubled (stays b in_quoted x) r w))
  undoubled (in_quoted {c = Within i}) (there {c'} {b} {bs} x r) w = un_quoted (quoted_inner i b c' bs x (undoubled (stays b in_quoted x) r w))
  undoubled in_closed (there {c'} {b} {bs} x r) w = un_closed (closed_next b c' bs x (undoubled (stays b in_closed x) r w))

-- ---- unquoted cells of CSV+

module _ (s : Settings) where
  data InPlain : Cell → Bytes → Type 0 where
    in_plain : {c : Char} {bs : Bytes} → text_from c bs ≡ true → InPlain (Plain c) bs

  plain_text_lem : {c : Char} {bs : Bytes} → InPlain (Plain c) bs → text_from c bs ≡ true
  plain_text_lem (in_plain e) = e

  -- a byte of an unquoted cell is a byte of text
  plain_byte_lem : (c : Char) (b : ℕ) (c' : Cell) → cell_step (CsvPlus s) (Plain c) b ≡ More c' → CharOn Plain c b c'
  unfolding cell_step plain_byte choose◌then◌else◌
  plain_byte_lem (Within i) b c' e = char_on Plain (Within i) b c' e
  plain_byte_lem Whole b c' e = go (b is quote_of (CsvPlus s)) (b is delimiter_of (CsvPlus s) || b is CR || b is LF) refl refl
    where
      go : (x y : Bool) → (b is quote_of (CsvPlus s)) ≡ x → (b is delimiter_of (CsvPlus s) || b is CR || b is LF) ≡ y → CharOn Plain Whole b c'
      go true y p q = no_more (rw p at e)
      go false true p q = no_stop (rw (p, q) at e)
      go false false p q = char_on Plain Whole b c' (rw (p, q) at e)

  data IsPlain : Cell → Type 0 where
    is_plain : {c : Char} → IsPlain (Plain c)

  plain_run : {c e : Cell} {bs : Bytes} → IsPlain c → Runs (CsvPlus s) c bs e → is_whole (CsvPlus s) e ≡ true → InPlain c bs
  unfolding is_whole text_from
  plain_run (is_plain {c = Whole}) here w = in_plain refl
  plain_run (is_plain {c = Within i}) here w = impossible w
  plain_run (is_plain {c}) (there {c'} {b} {bs} e r) w =
      let x = plain_byte_lem c b c' e in
      let i : InPlain c' bs = plain_run (rw (← x.cell) is_plain) r w in
      in_plain (text_more c x.char b bs x.step ∙ plain_text_lem (rw (← x.cell) at i))

  plus_first :
      (b : ℕ) (bs : Bytes) (c' : Cell) {e : Cell} → cell_step (CsvPlus s) Fresh b ≡ More c' → Runs (CsvPlus s) c' bs e →
      is_whole (CsvPlus s) e ≡ true → text_from Whole (content_of (CsvPlus s) (b ∷ bs)) ≡ true
  unfolding content_of cell_step first_byte choose◌then◌else◌
  plus_first b bs c' {e} x r w = go (b is quote_of (CsvPlus s)) (b is delimiter_of (CsvPlus s) || b is CR || b is LF) refl refl
    where
      go :
          (p q : Bool) → (b is quote_of (CsvPlus s)) ≡ p → (b is delimiter_of (CsvPlus s) || b is CR || b is LF) ≡ q →
          text_from Whole (content_of (CsvPlus s) (b ∷ bs)) ≡ true
      go true q h k =
          let z : Quoted Whole ≡ c' = same_more (rw h at x) in
          let r' : Runs (CsvPlus s) (Quoted Whole) bs e = rw (← z) at r in
          rw h (un_text (CsvPlus s) d_plus (undoubled (CsvPlus s) d_plus in_quoted r' w))
      go false true h k = no_stop (rw (h, k) at x)
      go false false h k =
          let y = char_on Plain Whole b c' (rw (h, k) at x) in
          let i : InPlain c' bs = plain_run (rw (← y.cell) is_plain) r w in
          rw h (text_more Whole y.char b bs y.step ∙ plain_text_lem (rw (← y.cell) at i))

  pub plus_content : (raw : Bytes) → WholeRun (CsvPlus s) Fresh raw → text_from Whole (content_of (CsvPlus s) raw) ≡ true
  unfolding content_of text_from
  plus_content [] w = refl
  plus_content (b ∷ bs) w = first w.runs w.whole
    where
      first : {e : Cell} → Runs (CsvPlus s) Fresh (b ∷ bs) e → is_whole (CsvPlus s) e ≡ true → text_from Whole (content_of (CsvPlus s) (b ∷ bs)) ≡ true
      first (there {c'} x r) w = plus_first b bs c' x r w

-- ---- TDIF

tdif_first :
    (b : ℕ) (bs : Bytes) (c' : Cell) {e : Cell} → cell_step Tdif Fresh b ≡ More c' → Runs Tdif c' bs e → is_whole Tdif e ≡ true →
    text_from Whole (content_of Tdif (b ∷ bs)) ≡ true
unfolding content_of cell_step first_byte text_from choose◌then◌else◌
tdif_first b bs c' {e} x r w = go (b is QUOTE) refl
  where
    go : (p : Bool) → (b is QUOTE) ≡ p → text_from Whole (content_of Tdif (b ∷ bs)) ≡ true
    go true h =
        let z : Quoted Whole ≡ c' = same_more (rw h at x) in
        let r' : Runs Tdif (Quoted Whole) bs e = rw (← z) at r in
        rw h (un_text Tdif d_tdif (undoubled Tdif d_tdif in_quoted r' w))
    go false h = rw h

pub tdif_content : (raw : Bytes) → WholeRun Tdif Fresh raw → text_from Whole (content_of Tdif raw) ≡ true
unfolding content_of text_from
tdif_content [] w = refl
tdif_content (b ∷ bs) w = first w.runs w.whole
  where
    first : {e : Cell} → Runs Tdif Fresh (b ∷ bs) e → is_whole Tdif e ≡ true → text_from Whole (content_of Tdif (b ∷ bs)) ≡ true
    first (there {c'} x r) w = tdif_first b bs c' x r w

-- ---- numbers of CSVJ are ASCII

pub data NumeralNext (b : ℕ) : CellStep → Type 0 where
  next_more : {n : Numeral} → b ≤ 0x7F → NumeralNext b (More (InNumber n))
  next_stop : NumeralNext b Stop
  next_refuse : {e : ByteFault} → NumeralNext b (Refuse e)

digit_ascii : (b : ℕ) → is_digit b ≡ true → b ≤ 0x7F
digit_ascii b e = let w = within_true 0x30 0x39 b e in let h : b ≤ 0x39 = w.1 in omega arith

either_ascii : (b c c' : ℕ) → c ≤ 0x7F → c' ≤ 0x7F → (b is c || b is c') ≡ true → b ≤ 0x7F
either_ascii b c c' h h' e = split_on (b is c) (λ p. is_ascii b c h p) λ p. is_ascii b c' h' (rw p at e)

numeral_next : (n : Numeral) (b : ℕ) → NumeralNext b (numeral_step n b)
unfolding numeral_step
numeral_next n b = go n
  where
    P : CellStep → Type 0
    P = NumeralNext b

    this : (c : ℕ) → c ≤ 0x7F → (b is c) ≡ true → b ≤ 0x7F
    this c h e = is_ascii b c h e

    digit : {n : Numeral} → is_digit b ≡ true → P (More (InNumber n))
    digit e = next_more (digit_ascii b e)

    e_or : {n : Numeral} → (b is 0x65 || b is 0x45) ≡ true → P (More (InNumber n))
    e_or e = next_more (either_ascii b 0x65 0x45 (omega arith) (omega arith) e)

    go : (n : Numeral) → NumeralNext b (numeral_step n b)
    go Minus = split P (b is 0x30) (λ e. next_more (this 0x30 (omega arith) e)) λ _. split P _ (λ e. digit e) λ _. next_refuse
    go Zero = split P (b is 0x2E) (λ e. next_more (this 0x2E (omega arith) e)) λ _. split P (b is 0x65 || b is 0x45) (λ e. e_or e) λ _. next_stop
    go Integer =
        split P _ (λ e. digit e) λ _. split P (b is 0x2E) (λ e. next_more (this 0x2E (omega arith) e)) λ _.
        split P (b is 0x65 || b is 0x45) (λ e. e_or e) λ _. next_stop
    go Point = split P _ (λ e. digit e) λ _. next_refuse
    go Fraction = split P _ (λ e. digit e) λ _. split P (b is 0x65 || b is 0x45) (λ e. e_or e) λ _. next_stop
    go E =
        split P _ (λ e. digit e) λ _.
        split P (b is 0x2B || b is 0x2D) (λ e. next_more (either_ascii b 0x2B 0x2D (omega arith) (omega arith) e)) λ _. next_refuse
    go ESign = split P _ (λ e. digit e) λ _. next_refuse
    go Exponent = split P _ (λ e. digit e) λ _. next_stop

-- the cells of a number
pub data IsNumber : Cell → Type 0 where
  is_number : {n : Numeral} → IsNumber (InNumber n)

pub number_step : {a : CellStep} {b : ℕ} {c : Cell} → NumeralNext b a → a ≡ More c → (b ≤ 0x7F) × IsNumber c
number_step (next_more {n} h) e = let q : InNumber n ≡ _ = same_more e in (h, rw q at (is_number {n = n}))
number_step next_stop e = no_stop e
number_step next_refuse e = no_more e

pub ascii_text : (b : ℕ) (bs : Bytes) → b ≤ 0x7F → text_from Whole (b ∷ bs) ≡ text_from Whole bs
ascii_text b bs h = text_more Whole Whole b bs (ascii_whole b h)

pub number_text : {c e : Cell} {bs : Bytes} → IsNumber c → Runs Csvj c bs e → text_from Whole bs ≡ true
unfolding text_from cell_step
number_text n here = refl
number_text (is_number {n}) (there {b} {bs} x r) =
    let s = number_step (numeral_next n b) x in ascii_text b bs s.0 ∙ number_text s.1 r

-- a number's first byte
pub first_number : (b : ℕ) → (b is QUOTE) ≡ false → (b is 0x2D || is_digit b) ≡ true → NumeralNext b (cell_step Csvj Fresh b)
unfolding cell_step first_byte
first_number b q t =
    let P : CellStep → Type 0 = NumeralNext b in
    split P (b is QUOTE) (λ e. impossible (sym q ∙ e)) λ _.
    split P (b is 0x2D) (λ e. next_more (is_ascii b 0x2D (omega arith) e)) λ _.
    split P (b is 0x30) (λ e. next_more (is_ascii b 0x30 (omega arith) e)) λ _.
    split P (is_digit b) (λ e. next_more (digit_ascii b e)) λ _.
    split P (b is 0x74) (λ e. impossible (rw (is→eq b 0x74 e) at t)) λ _.
    split P (b is 0x66) (λ e. impossible (rw (is→eq b 0x66 e) at t)) λ _.
    split P (b is 0x6E) (λ e. impossible (rw (is→eq b 0x6E e) at t)) λ _. next_refuse
