-- Text between quotes with quotes doubled, as TDIF and CSV+ have it, over the quote: what the automaton reads after the opening quote
-- is exactly a list of characters and doubled quotes and then one quote, and what they denote is what the decoder undoubles.
use Prim.Native.Nat.{ℕ, ◌≤◌}
use native.Mathlib.Omega.{arith}
use mathlib.Core.Path.{◌≡◌, refl, sym, ap, ◌∙◌}
use mathlib.Core.Logic.{◌≢◌}
use mathlib.Core.Bool.{Bool, true, false}
use mathlib.Core.List.{[], ◌∷◌, ◌++◌, append_assoc}
use borrow.Author.Tests.{ne_eqb, eqb-false}
use Rattle.grammar.specs.rfc.Types.{Dialect, Inner, Char, Whole, Within, Some, Cell, Quoted, Closed, More}
use Rattle.model.specs.rules.Base.{Bytes, ◌is◌, choose◌then◌else◌}
use Rattle.model.specs.rules.Dialect.{quote_of}
use Rattle.model.specs.rules.Utf8.{char_step}
use Rattle.model.specs.rules.Cell.{text_byte, cell_step, is_whole}
use Rattle.model.specs.rules.Decode.{undouble}
use Rattle.model.proofs.Tests.{impossible, is→eq, same_byte}
use Rattle.model.proofs.cell_laws.Utf8.{ascii_whole, quote_ascii, inner_high}
use Rattle.model.proofs.cell_laws.CellContent.{no_stop, same_more, char_on, Doubles, quoted_is}
use Rattle.grammar.proofs.rfc.Chars.{Finishes, finished, finishing, Long, long, whole_ascii, first_high}
use Rattle.grammar.proofs.rfc.WholeCells.{Spells, whole, byte, TextState, long_spells}

-- characters and doubled quotes, and the content that they denote
pub data Doubled (q : ℕ) : (raw content : Bytes) → Type 0 where
  no_char : Doubled q [] []
  ascii_char : {b : ℕ} {bs ts : Bytes} → b ≤ 0x7F → b ≢ q → Doubled q bs ts → Doubled q (b ∷ bs) (b ∷ ts)
  long_char : {cs bs ts : Bytes} → Long cs → Doubled q bs ts → Doubled q (cs ++ bs) (cs ++ ts)
  two_quotes : {bs ts : Bytes} → Doubled q bs ts → Doubled q (q ∷ q ∷ bs) (q ∷ ts)

pub quoted_state : (d : Dialect) → TextState d Quoted
unfolding cell_step is_whole
quoted_state d = record { inner = λ i b. refl; unfinished = λ i. refl }

module _ {d : Dialect} (k : Doubles d) where
  at_quote : cell_step d (Quoted Whole) (quote_of d) ≡ More Closed
  unfolding choose◌then◌else◌
  at_quote = quoted_is k (quote_of d) ∙ (rw (same_byte (quote_of d)))

  again : cell_step d Closed (quote_of d) ≡ More (Quoted Whole)
  unfolding cell_step choose◌then◌else◌
  again = rw (same_byte (quote_of d))

  at_other : (b : ℕ) → b ≢ quote_of d → cell_step d (Quoted Whole) b ≡ text_byte Quoted (char_step Whole b)
  unfolding choose◌then◌else◌
  at_other b n = quoted_is k b ∙ (rw (ne_eqb b (quote_of d) n))

  at_high : (b : ℕ) → 0x80 ≤ b → cell_step d (Quoted Whole) b ≡ text_byte Quoted (char_step Whole b)
  at_high b h = let q : quote_of d ≤ 0x7F = quote_ascii d in at_other b (λ e. omega arith)

  -- ---- derived text is read

  pub doubled_spells : {bs ts : Bytes} → Doubled (quote_of d) bs ts → Spells d (Quoted Whole) (bs ++ (quote_of d ∷ []))
  unfolding is_whole
  doubled_spells no_char = byte at_quote (whole refl)
  doubled_spells (ascii_char {b} h n m) = byte (at_other b n ∙ ap (text_byte Quoted) (ascii_whole b h)) (doubled_spells m)
  doubled_spells (long_char {cs} {bs} l m) =
      rw (append_assoc cs bs (quote_of d ∷ [])) (long_spells (quoted_state d) at_high l (doubled_spells m))
  doubled_spells (two_quotes m) = byte at_quote (byte again (doubled_spells m))

  -- ---- text that is read is derived

  -- what is still to come in quotes
  data Open : Cell → Bytes → Type 0 where
    open_quoted : {c : Char} {cs bs ts : Bytes} → Finishes c cs → Doubled (quote_of d) bs ts → Open (Quoted c) (cs ++ (bs ++ (quote_of d ∷ [])))
    open_closed : Open Closed []
    open_again : {bs ts : Bytes} → Doubled (quote_of d) bs ts → Open Closed (quote_of d ∷ (bs ++ (quote_of d ∷ [])))

  -- the states in quotes
  data InText : Cell → Type 0 where
    in_quoted : (c : Char) → InText (Quoted c)
    in_closed : InText Closed

  close : {bs : Bytes} → Open Closed bs → Open (Quoted Whole) (quote_of d ∷ bs)
  close open_closed = open_quoted finished no_char
  close (open_again m) = open_quoted finished (two_quotes m)

  open_more : {bs : Bytes} → Open (Quoted Whole) bs → Open Closed (quote_of d ∷ bs)
  open_more (open_quoted finished m) = open_again m

  add_char : (c : Char) {b : ℕ} {bs : Bytes} → b ≢ quote_of d → char_step Whole b ≡ Some c → Open (Quoted c) bs → Open (Quoted Whole) (b ∷ bs)
  add_char Whole {b} n e (open_quoted finished m) = open_quoted finished (ascii_char (whole_ascii b e) n m)
  add_char (Within i) {b} n e (open_quoted {cs} {bs} f m) =
      rw (← (append_assoc (b ∷ cs) bs (quote_of d ∷ []))) (open_quoted finished (long_char (long e f) m))

  add_inner : {i : Inner} {c : Char} {b : ℕ} {bs : Bytes} → char_step (Within i) b ≡ Some c → Open (Quoted c) bs → Open (Quoted (Within i)) (b ∷ bs)
  add_inner e (open_quoted f m) = open_quoted (finishing e f) m

  open_none : {c : Cell} → InText c → is_whole d c ≡ true → Open c []
  unfolding is_whole
  open_none (in_quoted c) w = impossible w
  open_none in_closed w = open_closed

  open_byte : {c c' : Cell} {b : ℕ} {bs : Bytes} → InText c → cell_step d c b ≡ More c' → (InText c' → Open c' bs) → Open c (b ∷ bs)
  unfolding cell_step choose◌then◌else◌
  open_byte {c'} {b} {bs} (in_quoted Whole) e ih = go (b is quote_of d) refl
    where
      go : (t : Bool) → (b is quote_of d) ≡ t → Open (Quoted Whole) (b ∷ bs)
      go true p =
          let q : Closed ≡ c' = same_more (rw p at (sym (quoted_is k b) ∙ e)) in
          rw (is→eq b (quote_of d) p) (close (rw (← q) at (ih (rw (← q) in_closed))))
      go false p =
          let x = char_on Quoted Whole b c' (rw p at (sym (quoted_is k b) ∙ e)) in
          add_char x.char (eqb-false b (quote_of d) p) x.step (rw (← x.cell) at (ih (rw (← x.cell) (in_quoted x.char))))
  open_byte {c'} {b} (in_quoted (Within i)) e ih =
      let x = char_on Quoted (Within i) b c' e in
      add_inner x.step (rw (← x.cell) at (ih (rw (← x.cell) (in_quoted x.char))))
  open_byte {c'} {b} {bs} in_closed e ih = go (b is quote_of d) refl
    where
      go : (t : Bool) → (b is quote_of d) ≡ t → Open Closed (b ∷ bs)
      go true p =
          let q : Quoted Whole ≡ c' = same_more (rw p at e) in
          rw (is→eq b (quote_of d) p) (open_more (rw (← q) at (ih (rw (← q) (in_quoted Whole)))))
      go false p = no_stop (rw p at e)

  spells_open : {c : Cell} {xs : Bytes} → Spells d c xs → InText c → Open c xs
  spells_open (whole w) i = open_none i w
  spells_open (byte e m) i = open_byte i e (λ j. spells_open m j)

-- doubled text and its closing quote
pub data Closing (q : ℕ) : Bytes → Type 0 where
  closing : {bs ts : Bytes} → Doubled q bs ts → Closing q (bs ++ (q ∷ []))

pub spells_doubled : {d : Dialect} (k : Doubles d) {xs : Bytes} → Spells d (Quoted Whole) xs → Closing (quote_of d) xs
spells_doubled {d} k {xs} m = go (spells_open k m (in_quoted Whole))
  where
    go : {xs : Bytes} → Open k (Quoted Whole) xs → Closing (quote_of d) xs
    go (open_quoted finished m) = closing m

-- ---- the content it denotes

module _ (q : ℕ) (a : q ≤ 0x7F) where
  undouble_other : (b : ℕ) (bs : Bytes) → b ≢ q → undouble q false (b ∷ bs) ≡ b ∷ undouble q false bs
  unfolding undouble choose◌then◌else◌
  undouble_other b bs n = rw (ne_eqb b q n)

  undouble_finish : {c : Char} {cs : Bytes} (xs : Bytes) → Finishes c cs → undouble q false (cs ++ xs) ≡ cs ++ undouble q false xs
  undouble_finish xs finished = refl
  undouble_finish xs (finishing {i} {c} {b} {bs} e f) =
      let h : 0x80 ≤ b = inner_high i b c e in
      undouble_other b (bs ++ xs) (λ z. omega arith) ∙ ap (λ l. b ∷ l) (undouble_finish xs f)

  undouble_long : {cs : Bytes} (xs : Bytes) → Long cs → undouble q false (cs ++ xs) ≡ cs ++ undouble q false xs
  undouble_long xs (long {i} {b} {bs} e f) =
      let h : 0x80 ≤ b = first_high b i e in
      undouble_other b (bs ++ xs) (λ z. omega arith) ∙ ap (λ l. b ∷ l) (undouble_finish xs f)

  pub doubled_content : {bs ts : Bytes} → Doubled q bs ts → undouble q false (bs ++ (q ∷ [])) ≡ ts
  unfolding undouble choose◌then◌else◌
  doubled_content no_char = rw (same_byte q)
  doubled_content (ascii_char {b} {bs} h n m) = undouble_other b (bs ++ (q ∷ [])) n ∙ ap (λ l. b ∷ l) (doubled_content m)
  doubled_content (long_char {cs} {bs} l m) =
      rw (append_assoc cs bs (q ∷ [])) (undouble_long (bs ++ (q ∷ [])) l ∙ ap (λ t. cs ++ t) (doubled_content m))
  doubled_content (two_quotes m) = rw (same_byte q) (ap (λ l. q ∷ l) (doubled_content m))
