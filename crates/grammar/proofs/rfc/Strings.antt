-- The strings of RFC 8259 are exactly what the automaton reads in quotes of CSVJ: each of its states determines which part of a char
-- is still to come (`StringRest`).
use Prim.Native.Nat.{ℕ, ◌≤◌, ◌<◌}
use native.Mathlib.Omega.{arith}
use mathlib.Core.Path.{◌≡◌, refl, ap, ◌∙◌}
use mathlib.Core.Logic.{◌≢◌}
use mathlib.Core.Bool.{true}
use mathlib.Core.List.{List, [], ◌∷◌, ◌++◌, append_assoc}
use lib.Dec.{leb, ltb}
use borrow.Author.Tests.{ne_eqb, eqb-false, le-ltb, ltb-false, leb-true, leb-false}
use Rattle.grammar.specs.rfc.Types.{Csvj, Inner, Char, Whole, Within, Some, HexLeft, Four, Three, Two, One, Cell, Quoted, Escape, Hex, Complete}
use Rattle.grammar.specs.rfc.Types.{CellStep, More}
use Rattle.model.specs.rules.Base.{Bytes, QUOTE, BACKSLASH, ◌is◌, within, choose◌then◌else◌}
use Rattle.model.specs.rules.Utf8.{char_step}
use Rattle.model.specs.rules.Cell.{text_byte, is_digit, is_hex, is_short, after_hex, quoted_byte, cell_step, is_whole}
use Rattle.model.proofs.Tests.{split, split_on, impossible, is→eq}
use Rattle.model.proofs.cell_laws.Utf8.{ascii_whole}
use Rattle.model.proofs.cell_laws.CellContent.{no_more, no_stop, same_more, char_on}
use Rattle.grammar.specs.rfc.Rfc5234.{HEXDIG, decimal, upper, lower}
use Rattle.grammar.specs.rfc.Rfc8259.{Unescaped, below_quote, below_backslash, above_backslash, above_ascii, Item, unescaped, quotation_mark}
use Rattle.grammar.specs.rfc.Rfc8259.{reverse_solidus, solidus, backspace, form_feed, line_feed, carriage_return, tab, uXXXX, escape, Chars}
use Rattle.grammar.specs.rfc.Rfc8259.{no_char, char}
use Rattle.grammar.specs.rfc.Rfc8259 as json
use Rattle.grammar.proofs.rfc.Ranges.{range, within_range, range_within, above_within}
use Rattle.grammar.proofs.rfc.Chars.{Finishes, finished, finishing, long, data_long, long_data, whole_ascii}
use Rattle.grammar.proofs.rfc.WholeCells.{Spells, whole, byte, long_spells}
use Rattle.grammar.proofs.rfc.Doubled.{quoted_state}

-- ---- a string is read

-- a byte that is text in a string
text_step : (b : ℕ) → 0x20 ≤ b → b ≢ QUOTE → b ≢ BACKSLASH → cell_step Csvj (Quoted Whole) b ≡ text_byte Quoted (char_step Whole b)
unfolding cell_step quoted_byte choose◌then◌else◌
text_step b h n m = rw (ne_eqb b QUOTE n, ne_eqb b BACKSLASH m, le-ltb b 0x20 h)

ascii_step : (b : ℕ) → 0x20 ≤ b → b ≤ 0x7F → b ≢ QUOTE → b ≢ BACKSLASH → cell_step Csvj (Quoted Whole) b ≡ More (Quoted Whole)
ascii_step b h k n m = text_step b h n m ∙ ap (text_byte Quoted) (ascii_whole b k)

pub hex_test : {b v : ℕ} → HEXDIG b v → is_hex b ≡ true
hex_test (decimal {b} r) = rw (range_within r)
hex_test (upper {b} r) = let h : 0x41 ≤ b = r.low in rw (above_within 0x30 0x39 b (omega arith), range_within r)
hex_test (lower {b} r) =
    let h : 0x61 ≤ b = r.low in
    rw (above_within 0x30 0x39 b (omega arith), above_within 0x41 0x46 b (omega arith), range_within r)

hex_step : (n : HexLeft) {b v : ℕ} → HEXDIG b v → cell_step Csvj (Hex n) b ≡ More (after_hex n)
unfolding cell_step choose◌then◌else◌
hex_step n x = rw (hex_test x)

char_spells : {cs xs : Bytes} {i : Item} → json.Char cs i → Spells Csvj (Quoted Whole) xs → Spells Csvj (Quoted Whole) (cs ++ xs)
unfolding cell_step quoted_byte choose◌then◌else◌
char_spells (unescaped (below_quote {b} r)) k = let h : b ≤ 0x21 = r.high in byte (ascii_step b r.low (omega arith) (λ e. omega arith) (λ e. omega arith)) k
char_spells (unescaped (below_backslash {b} r)) k =
    let h : 0x23 ≤ b = r.low in let m : b ≤ 0x5B = r.high in byte (ascii_step b (omega arith) (omega arith) (λ e. omega arith) (λ e. omega arith)) k
char_spells (unescaped (above_backslash {b} r)) k =
    let h : 0x5D ≤ b = r.low in byte (ascii_step b (omega arith) r.high (λ e. omega arith) (λ e. omega arith)) k
char_spells (unescaped (above_ascii u)) k =
    long_spells (quoted_state Csvj) (λ b h. text_step b (omega arith) (λ e. omega arith) (λ e. omega arith)) (data_long u) k
char_spells (quotation_mark escape) k = byte refl (byte refl k)
char_spells (reverse_solidus escape) k = byte refl (byte refl k)
char_spells (solidus escape) k = byte refl (byte refl k)
char_spells (backspace escape) k = byte refl (byte refl k)
char_spells (form_feed escape) k = byte refl (byte refl k)
char_spells (line_feed escape) k = byte refl (byte refl k)
char_spells (carriage_return escape) k = byte refl (byte refl k)
char_spells (tab escape) k = byte refl (byte refl k)
char_spells (uXXXX escape w x y z) k =
    byte refl (byte refl (byte (hex_step Four w) (byte (hex_step Three x) (byte (hex_step Two y) (byte (hex_step One z) k)))))

pub chars_spell : {bs : Bytes} {us : List Item} → Chars bs us → Spells Csvj (Quoted Whole) (bs ++ (QUOTE ∷ []))
unfolding cell_step quoted_byte is_whole choose◌then◌else◌
chars_spell no_char = byte refl (whole refl)
chars_spell (char {cs} {bs} c k) = rw (append_assoc cs bs (QUOTE ∷ [])) (char_spells c (chars_spell k))

-- ---- the bytes read are a string

-- the digits that are still to come
data Hexes : HexLeft → Bytes → Type 0 where
  one_left : {a v : ℕ} → HEXDIG a v → Hexes One (a ∷ [])
  two_left : {a v : ℕ} {bs : Bytes} → HEXDIG a v → Hexes One bs → Hexes Two (a ∷ bs)
  three_left : {a v : ℕ} {bs : Bytes} → HEXDIG a v → Hexes Two bs → Hexes Three (a ∷ bs)
  four_left : {a v : ℕ} {bs : Bytes} → HEXDIG a v → Hexes Three bs → Hexes Four (a ∷ bs)

-- chars and the closing quote
pub data Closing : Bytes → Type 0 where
  closing : {bs : Bytes} {us : List Item} → Chars bs us → Closing (bs ++ (QUOTE ∷ []))

-- what is still to come of a string, where an escape's char is known from its later bytes
data StringRest : Cell → Bytes → Type 0 where
  in_quoted : {c : Char} {cs bs : Bytes} → Finishes c cs → Closing bs → StringRest (Quoted c) (cs ++ bs)
  in_complete : StringRest Complete []
  in_escape : {cs bs : Bytes} {i : Item} → json.Char (BACKSLASH ∷ cs) i → Closing bs → StringRest Escape (cs ++ bs)
  in_hex : {n : HexLeft} {cs bs : Bytes} → Hexes n cs → Closing bs → StringRest (Hex n) (cs ++ bs)

-- the states of a string
data InString : Cell → Type 0 where
  at_quoted : (c : Char) → InString (Quoted c)
  at_complete : InString Complete
  at_escape : InString Escape
  at_hex : (n : HexLeft) → InString (Hex n)

more_char : {cs bs : Bytes} {i : Item} → json.Char cs i → Closing bs → Closing (cs ++ bs)
more_char {cs} c (closing {bs} k) = rw (← (append_assoc cs bs (QUOTE ∷ []))) (closing (char c k))

close : {bs : Bytes} → StringRest Complete bs → StringRest (Quoted Whole) (QUOTE ∷ bs)
close in_complete = in_quoted finished (closing no_char)

open_escape : {bs : Bytes} → StringRest Escape bs → StringRest (Quoted Whole) (BACKSLASH ∷ bs)
open_escape (in_escape c k) = in_quoted finished (more_char c k)

ascii_unescaped : (b : ℕ) → 0x20 ≤ b → b ≤ 0x7F → b ≢ QUOTE → b ≢ BACKSLASH → Unescaped (b ∷ [])
ascii_unescaped b h k n m =
    split_on (leb b 0x21) (λ p. below_quote (range h (leb-true b 0x21 p))) λ p.
    let l : 0x21 < b = leb-false b 0x21 p in
    split_on (leb b 0x5B) (λ q. below_backslash (range (omega arith) (leb-true b 0x5B q))) λ q.
    let j : 0x5B < b = leb-false b 0x5B q in above_backslash (range (omega arith) k)

text_char :
    (c : Char) (b : ℕ) {bs : Bytes} → 0x20 ≤ b → b ≢ QUOTE → b ≢ BACKSLASH → char_step Whole b ≡ Some c → StringRest (Quoted c) bs →
    StringRest (Quoted Whole) (b ∷ bs)
text_char Whole b h n m e (in_quoted finished k) = in_quoted finished (more_char (unescaped (ascii_unescaped b h (whole_ascii b e) n m)) k)
text_char (Within i) b h n m e (in_quoted f k) = in_quoted finished (more_char (unescaped (above_ascii (long_data (long e f)))) k)

inner_char : {i : Inner} {c : Char} {b : ℕ} {bs : Bytes} → char_step (Within i) b ≡ Some c → StringRest (Quoted c) bs → StringRest (Quoted (Within i)) (b ∷ bs)
inner_char e (in_quoted f k) = in_quoted (finishing e f) k

short_char : {b : ℕ} {i : Item} {bs : Bytes} → json.Char (BACKSLASH ∷ b ∷ []) i → StringRest (Quoted Whole) bs → StringRest Escape (b ∷ bs)
short_char c (in_quoted finished k) = in_escape c k

hex_char : {bs : Bytes} → StringRest (Hex Four) bs → StringRest Escape (0x75 ∷ bs)
hex_char (in_hex (four_left w (three_left x (two_left y (one_left z)))) k) = in_escape (uXXXX escape w x y z) k

hex_digit_lem : (n : HexLeft) {b v : ℕ} {bs : Bytes} → HEXDIG b v → StringRest (after_hex n) bs → StringRest (Hex n) (b ∷ bs)
hex_digit_lem Four x (in_hex h k) = in_hex (four_left x h) k
hex_digit_lem Three x (in_hex h k) = in_hex (three_left x h) k
hex_digit_lem Two x (in_hex h k) = in_hex (two_left x h) k
hex_digit_lem One x (in_quoted finished k) = in_hex (one_left x) k

-- a digit has a value
data HasValue (b : ℕ) : Type 0 where
  has_value : {v : ℕ} → HEXDIG b v → HasValue b

hex_value : (b : ℕ) → is_hex b ≡ true → HasValue b
hex_value b t =
    split_on (is_digit b) (λ p. has_value (decimal (within_range 0x30 0x39 b p))) λ p.
    split_on (within 0x41 0x46 b) (λ q. has_value (upper (within_range 0x41 0x46 b q))) λ q.
    has_value (lower (within_range 0x61 0x66 b (rw (p, q) at t)))

short_value : (b : ℕ) {bs : Bytes} → is_short b ≡ true → StringRest (Quoted Whole) bs → StringRest Escape (b ∷ bs)
short_value b t k =
    split_on (b is QUOTE) (λ p. rw (is→eq b QUOTE p) (short_char (quotation_mark escape) k)) λ p1.
    split_on (b is BACKSLASH) (λ p. rw (is→eq b BACKSLASH p) (short_char (reverse_solidus escape) k)) λ p2.
    split_on (b is 0x2F) (λ p. rw (is→eq b 0x2F p) (short_char (solidus escape) k)) λ p3.
    split_on (b is 0x62) (λ p. rw (is→eq b 0x62 p) (short_char (backspace escape) k)) λ p4.
    split_on (b is 0x66) (λ p. rw (is→eq b 0x66 p) (short_char (form_feed escape) k)) λ p5.
    split_on (b is 0x6E) (λ p. rw (is→eq b 0x6E p) (short_char (line_feed escape) k)) λ p6.
    split_on (b is 0x72) (λ p. rw (is→eq b 0x72 p) (short_char (carriage_return escape) k)) λ p7.
    rw (is→eq b 0x74 (rw (p1, p2, p3, p4, p5, p6, p7) at t)) (short_char (tab escape) k)

string_none : {c : Cell} → InString c → is_whole Csvj c ≡ true → StringRest c []
unfolding is_whole
string_none (at_quoted c) w = impossible w
string_none at_complete w = in_complete
string_none at_escape w = impossible w
string_none (at_hex n) w = impossible w

after_hex_lem : (n : HexLeft) → InString (after_hex n)
after_hex_lem Four = at_hex Three
after_hex_lem Three = at_hex Two
after_hex_lem Two = at_hex One
after_hex_lem One = at_quoted Whole

module _ {e : Cell} {bs : Bytes} (ih : InString e → StringRest e bs) where
  -- what the rest means where it is read on from c
  onward : {c : Cell} → InString c → More c ≡ More e → StringRest c bs
  onward i q = let z = same_more q in rw (← z) at (ih (rw z at i))

  string_byte : {c : Cell} {b : ℕ} → InString c → cell_step Csvj c b ≡ More e → StringRest c (b ∷ bs)
  unfolding cell_step quoted_byte
  string_byte {b} (at_quoted Whole) =
      let P : CellStep → Type 0 = λ a. a ≡ More e → StringRest (Quoted Whole) (b ∷ bs) in
      split P (b is QUOTE) (λ p q. rw (is→eq b QUOTE p) (close (onward at_complete q))) λ n.
      split P (b is BACKSLASH) (λ p q. rw (is→eq b BACKSLASH p) (open_escape (onward at_escape q))) λ m.
      split P (ltb b 0x20) (λ p q. no_more q) λ l q.
      let x = char_on Quoted Whole b e q in
      text_char x.char b (ltb-false b 0x20 l) (eqb-false b QUOTE n) (eqb-false b BACKSLASH m) x.step (onward (at_quoted x.char) (ap More x.cell))
  string_byte {b} (at_quoted (Within i)) =
      λ q. let x = char_on Quoted (Within i) b e q in inner_char x.step (onward (at_quoted x.char) (ap More x.cell))
  string_byte at_complete = λ q. no_stop q
  string_byte {b} at_escape =
      let P : CellStep → Type 0 = λ a. a ≡ More e → StringRest Escape (b ∷ bs) in
      split P (is_short b) (λ p q. short_value b p (onward (at_quoted Whole) q)) λ _.
      split P (b is 0x75) (λ p q. rw (is→eq b 0x75 p) (hex_char (onward (at_hex Four) q))) λ _ q. no_more q
  string_byte {b} (at_hex n) =
      let P : CellStep → Type 0 = λ a. a ≡ More e → StringRest (Hex n) (b ∷ bs) in
      split P (is_hex b) (λ p q. digit (hex_value b p) q) λ _ q. no_more q
    where
      digit : HasValue b → More (after_hex n) ≡ More e → StringRest (Hex n) (b ∷ bs)
      digit (has_value x) q = hex_digit_lem n x (onward (after_hex_lem n) q)

string_of : {c : Cell} {xs : Bytes} → Spells Csvj c xs → InString c → StringRest c xs
string_of (whole w) i = string_none i w
string_of (byte s k) i = string_byte (λ j. string_of k j) i s

pub spells_chars : {xs : Bytes} → Spells Csvj (Quoted Whole) xs → Closing xs
spells_chars k = go (string_of k (at_quoted Whole))
  where
    go : {xs : Bytes} → StringRest (Quoted Whole) xs → Closing xs
    go (in_quoted finished c) = c
