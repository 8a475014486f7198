-- The content of a string of RFC 8259 is what the decoder returns for it: its chars are the decoder's units (`chars_units`), the
-- octets of a code point are `pack` (`octets_pack`), and pairs are joined in the same places (`content_text`). Every list of chars
-- denotes some content (`has_content`).
use Prim.Native.Nat.{ℕ, ◌+◌, ◌*◌, ◌/◌, ◌%◌, ◌≤◌, ◌<◌}
use native.Mathlib.Omega.{arith}
use mathlib.Core.Path.{◌≡◌, refl, sym, ap, ◌∙◌}
use mathlib.Core.Logic.{◌≢◌}
use mathlib.Core.Bool.{Bool, true, false, ◌&&◌}
use mathlib.Core.List.{List, [], ◌∷◌, ◌++◌, map, append_assoc, append-nil}
use lib.Dec.{leb}
use borrow.Author.Tests.{ne_eqb, le-leb, lt-leb, leb-true, leb-false}
use Rattle.grammar.specs.rfc.Types.{Text, Csvj, Char}
use Rattle.model.specs.rules.Base.{Bytes, QUOTE, BACKSLASH, choose◌then◌else◌}
use Rattle.model.specs.rules.Utf8.{pack, is_high, is_low, joined}
use Rattle.model.specs.rules.Decode.{Unit16, between, hex_of, units, text_of, kind_of, content_of}
use Rattle.model.specs.rules.Decode as decode
use Rattle.model.proofs.Tests.{split, split_on, impossible, and_true}
use Rattle.model.proofs.cell_laws.Utf8.{inner_high}
use Rattle.grammar.specs.rfc.Rfc5234.{◌from◌to◌, HEXDIG, decimal, upper, lower}
use Rattle.grammar.specs.rfc.Rfc3629.{Octets, one_octet, two_octets, three_octets, four_octets}
use Rattle.grammar.specs.rfc.Rfc8259.{below_quote, below_backslash, above_backslash, above_ascii, Item, octets, unit, unescaped, quotation_mark}
use Rattle.grammar.specs.rfc.Rfc8259.{reverse_solidus, solidus, backspace, form_feed, line_feed, carriage_return, tab, uXXXX, escape}
use Rattle.grammar.specs.rfc.Rfc8259.{a_quotation_mark, Chars, no_char, char, Pair, halves, Content, nothing, as_they_lie, paired, single}
use Rattle.grammar.specs.rfc.Rfc8259.{String, string}
use Rattle.grammar.specs.rfc.Rfc8259 as json
use Rattle.grammar.proofs.rfc.Ranges.{range, within_range, range_within}
use Rattle.grammar.proofs.rfc.Chars.{Finishes, finished, finishing, Long, long, data_long, first_high}
use Rattle.grammar.proofs.rfc.Strings.{Closing, closing}

-- ---- chars are the decoder's units

abbrev item_units : Item → List Unit16 → List Unit16
item_units (octets cs) us = map decode.byte cs ++ us
item_units (unit u) us = decode.unit u ∷ us

units_of : List Item → List Unit16
units_of [] = []
units_of (i ∷ us) = item_units i (units_of us)

byte_units : (b : ℕ) (xs : Bytes) → b ≢ QUOTE → b ≢ BACKSLASH → units between (b ∷ xs) ≡ decode.byte b ∷ units between xs
unfolding units choose◌then◌else◌
byte_units b xs n m = rw (ne_eqb b QUOTE n, ne_eqb b BACKSLASH m)

finish_units : {c : Char} {cs : Bytes} (xs : Bytes) → Finishes c cs → units between (cs ++ xs) ≡ map decode.byte cs ++ units between xs
finish_units xs finished = refl
finish_units xs (finishing {i} {c} {b} {bs} e f) =
    let h : 0x80 ≤ b = inner_high i b c e in
    byte_units b (bs ++ xs) (λ z. omega arith) (λ z. omega arith) ∙ ap (λ l. decode.byte b ∷ l) (finish_units xs f)

long_units : {cs : Bytes} (xs : Bytes) → Long cs → units between (cs ++ xs) ≡ map decode.byte cs ++ units between xs
long_units xs (long {i} {b} {bs} e f) =
    let h : 0x80 ≤ b = first_high b i e in
    byte_units b (bs ++ xs) (λ z. omega arith) (λ z. omega arith) ∙ ap (λ l. decode.byte b ∷ l) (finish_units xs f)

hex_of_lem : {b v : ℕ} → HEXDIG b v → hex_of b ≡ v
unfolding choose◌then◌else◌
hex_of_lem (decimal {b} r) = rw (le-leb b 0x39 r.high)
hex_of_lem (upper {b} r) = let h : 0x41 ≤ b = r.low in rw (lt-leb b 0x39 (omega arith), le-leb b 0x46 r.high)
hex_of_lem (lower {b} r) = let h : 0x61 ≤ b = r.low in rw (lt-leb b 0x39 (omega arith), lt-leb b 0x46 (omega arith))

escape_units :
    (a b c d : ℕ) (xs : Bytes) →
    units between (BACKSLASH ∷ 0x75 ∷ a ∷ b ∷ c ∷ d ∷ xs)
    ≡ decode.unit ((((0 * 0x10 + hex_of a) * 0x10 + hex_of b) * 0x10 + hex_of c) * 0x10 + hex_of d) ∷ units between xs
unfolding units choose◌then◌else◌
escape_units a b c d xs = refl

char_units : {cs : Bytes} {i : Item} (xs : Bytes) → json.Char cs i → units between (cs ++ xs) ≡ item_units i (units between xs)
unfolding units choose◌then◌else◌
char_units xs (unescaped (below_quote {b} r)) = let h : b ≤ 0x21 = r.high in byte_units b xs (λ z. omega arith) (λ z. omega arith)
char_units xs (unescaped (below_backslash {b} r)) =
    let h : 0x23 ≤ b = r.low in let k : b ≤ 0x5B = r.high in byte_units b xs (λ z. omega arith) (λ z. omega arith)
char_units xs (unescaped (above_backslash {b} r)) = let h : 0x5D ≤ b = r.low in byte_units b xs (λ z. omega arith) (λ z. omega arith)
char_units xs (unescaped (above_ascii u)) = long_units xs (data_long u)
char_units xs (quotation_mark escape) = refl
char_units xs (reverse_solidus escape) = refl
char_units xs (solidus escape) = refl
char_units xs (backspace escape) = refl
char_units xs (form_feed escape) = refl
char_units xs (line_feed escape) = refl
char_units xs (carriage_return escape) = refl
char_units xs (tab escape) = refl
char_units xs (uXXXX {a} {b} {c} {d} {w} {x} {y} {z} escape p q r s) = escape_units a b c d xs ∙ ap (λ n. decode.unit n ∷ units between xs) value
  where
    value : (((0 * 0x10 + hex_of a) * 0x10 + hex_of b) * 0x10 + hex_of c) * 0x10 + hex_of d ≡ ((w * 0x10 + x) * 0x10 + y) * 0x10 + z
    value =
        let i : hex_of a ≡ w = hex_of_lem p in
        let j : hex_of b ≡ x = hex_of_lem q in
        let k : hex_of c ≡ y = hex_of_lem r in
        let l : hex_of d ≡ z = hex_of_lem s in
        omega arith

chars_units : {bs : Bytes} {us : List Item} → Chars bs us → units between (bs ++ (QUOTE ∷ [])) ≡ units_of us
unfolding units units_of choose◌then◌else◌
chars_units no_char = refl
chars_units (char {cs} {bs} {i} c k) =
    rw (append_assoc cs bs (QUOTE ∷ [])) (char_units (bs ++ (QUOTE ∷ [])) c ∙ ap (item_units i) (chars_units k))

-- ---- the octets of a code point

octets_pack : {u : ℕ} {cs : Bytes} → Octets u cs → cs ≡ pack u
unfolding pack choose◌then◌else◌
octets_pack {u} (one_octet r) = rw (le-leb u 0x7F r.high)
octets_pack {u} (two_octets w x r e k) =
    let l : 0x80 ≤ u = r.low in
    let a : u / 0x40 ≡ w = omega arith in
    let b : u % 0x40 ≡ x = omega arith in
    rw (lt-leb u 0x7F (omega arith), le-leb u 0x7FF r.high, a, b)
octets_pack {u} (three_octets w x y r e k m) =
    let l : 0x800 ≤ u = r.low in
    let a : u / 0x1000 ≡ w = omega arith in
    let b : u / 0x40 % 0x40 ≡ x = omega arith in
    let c : u % 0x40 ≡ y = omega arith in
    rw (lt-leb u 0x7F (omega arith), lt-leb u 0x7FF (omega arith), le-leb u 0xFFFF r.high, a, b, c)
octets_pack {u} (four_octets w x y z r e k m n) =
    let l : 0x10000 ≤ u = r.low in
    let a : u / 0x40000 ≡ w = omega arith in
    let b : u / 0x1000 % 0x40 ≡ x = omega arith in
    let c : u / 0x40 % 0x40 ≡ y = omega arith in
    let d : u % 0x40 ≡ z = omega arith in
    rw (lt-leb u 0x7F (omega arith), lt-leb u 0x7FF (omega arith), lt-leb u 0xFFFF (omega arith), a, b, c, d)

pack_octets : (u : ℕ) → u ≤ 0x10FFFF → Octets u (pack u)
unfolding pack
pack_octets u h =
    split (Octets u) (leb u 0x7F) (λ p. one_octet (range (omega arith) (leb-true u 0x7F p))) λ p.
    let i : 0x7F < u = leb-false u 0x7F p in
    split (Octets u) (leb u 0x7FF) (λ q. two_octets (u / 0x40) (u % 0x40) (range (omega arith) (leb-true u 0x7FF q)) (omega arith) (omega arith)) λ q.
    let j : 0x7FF < u = leb-false u 0x7FF q in
    split (Octets u) (leb u 0xFFFF)
    (λ r. three_octets (u / 0x1000) (u / 0x40 % 0x40) (u % 0x40) (range (omega arith) (leb-true u 0xFFFF r)) (omega arith) (omega arith) (omega arith)) λ r.
    let k : 0xFFFF < u = leb-false u 0xFFFF r in
    four_octets (u / 0x40000) (u / 0x1000 % 0x40) (u / 0x40 % 0x40) (u % 0x40) (range (omega arith) h) (omega arith) (omega arith) (omega arith) (omega arith)

-- ---- the items of chars: octets are some, and units are of 16 bits

data Items : List Item → Type 0 where
  no_item : Items []
  some_octets : {b : ℕ} {cs : Bytes} {us : List Item} → Items us → Items (octets (b ∷ cs) ∷ us)
  a_unit : {u : ℕ} {us : List Item} → u ≤ 0xFFFF → Items us → Items (unit u ∷ us)

hex_bound : {b v : ℕ} → HEXDIG b v → v ≤ 0xF
hex_bound (decimal {b} r) = let h : b ≤ 0x39 = r.high in omega arith
hex_bound (upper {b} r) = let h : b ≤ 0x46 = r.high in omega arith
hex_bound (lower {b} r) = let h : b ≤ 0x66 = r.high in omega arith

long_items : {cs : Bytes} {us : List Item} → Long cs → Items us → Items (octets cs ∷ us)
long_items (long e f) k = some_octets k

char_items : {cs : Bytes} {i : Item} {us : List Item} → json.Char cs i → Items us → Items (i ∷ us)
char_items (unescaped (below_quote r)) k = some_octets k
char_items (unescaped (below_backslash r)) k = some_octets k
char_items (unescaped (above_backslash r)) k = some_octets k
char_items (unescaped (above_ascii u)) k = long_items (data_long u) k
char_items (quotation_mark escape) k = some_octets k
char_items (reverse_solidus escape) k = some_octets k
char_items (solidus escape) k = some_octets k
char_items (backspace escape) k = some_octets k
char_items (form_feed escape) k = some_octets k
char_items (line_feed escape) k = some_octets k
char_items (carriage_return escape) k = some_octets k
char_items (tab escape) k = some_octets k
char_items (uXXXX {w} {x} {y} {z} escape p q r s) k =
    let a : w ≤ 0xF = hex_bound p in
    let b : x ≤ 0xF = hex_bound q in
    let c : y ≤ 0xF = hex_bound r in
    let d : z ≤ 0xF = hex_bound s in
    let h : ((w * 0x10 + x) * 0x10 + y) * 0x10 + z ≤ 0xFFFF = omega arith in
    a_unit h k

chars_items : {bs : Bytes} {us : List Item} → Chars bs us → Items us
chars_items no_char = no_item
chars_items (char c k) = char_items c (chars_items k)

-- ---- the content they denote

octets_text : (cs : Bytes) (us : List Unit16) → text_of (map decode.byte cs ++ us) ≡ cs ++ text_of us
unfolding text_of
octets_text [] us = refl
octets_text (c ∷ cs) us = ap (λ l. c ∷ l) (octets_text cs us)

pair_text : (h l : ℕ) (us : List Unit16) → (is_high h && is_low l) ≡ true → text_of (decode.unit h ∷ decode.unit l ∷ us) ≡ pack (joined h l) ++ text_of us
unfolding text_of choose◌then◌else◌
pair_text h l us p = rw p

lone_text : {us : List Item} (u : ℕ) → Items us → ¬ Pair u us → text_of (decode.unit u ∷ units_of us) ≡ pack u ++ text_of (units_of us)
unfolding text_of units_of choose◌then◌else◌
lone_text u no_item n = sym (append-nil (pack u))
lone_text u (some_octets k) n = refl
lone_text u (a_unit {u = l} {us} h k) n = go (is_high u && is_low l) refl
  where
    go : (t : Bool) → (is_high u && is_low l) ≡ t → text_of (decode.unit u ∷ decode.unit l ∷ units_of us) ≡ pack u ++ text_of (decode.unit l ∷ units_of us)
    go true p =
        let x = and_true (is_high u) (is_low l) p in
        absurd (n (halves (within_range 0xD800 0xDBFF u x.0) (within_range 0xDC00 0xDFFF l x.1)))
    go false p = rw p

both_halves : (h l : ℕ) → h from 0xD800 to 0xDBFF → l from 0xDC00 to 0xDFFF → (is_high h && is_low l) ≡ true
both_halves h l r s = rw (range_within r, range_within s)

pair_of : {h l : ℕ} {us : List Item} → Pair h (unit l ∷ us) → (is_high h && is_low l) ≡ true
pair_of (halves {h} {l} r s) = both_halves h l r s

tail_items : {i : Item} {us : List Item} → Items (i ∷ us) → Items us
tail_items (some_octets k) = k
tail_items (a_unit h k) = k

content_text : {us : List Item} {ts : Bytes} → Content us ts → Items us → text_of (units_of us) ≡ ts
unfolding units_of text_of
content_text nothing k = refl
content_text (as_they_lie {cs} {us} c) k = octets_text cs (units_of us) ∙ ap (λ t. cs ++ t) (content_text c (tail_items k))
content_text (paired {h} {l} {us} p o c) k =
    rw (octets_pack o) (pair_text h l (units_of us) (pair_of p) ∙ ap (λ t. pack (joined h l) ++ t) (content_text c (tail_items (tail_items k))))
content_text (single {u} n o c) k = rw (octets_pack o) (lone_text u (tail_items k) n ∙ ap (λ t. pack u ++ t) (content_text c (tail_items k)))

-- ---- every list of items denotes some content

data HasContent (us : List Item) : Type 0 where
  has_content_of : {ts : Bytes} → Content us ts → HasContent us

single_content : {us : List Item} (u : ℕ) → u ≤ 0xFFFF → ¬ Pair u us → HasContent us → HasContent (unit u ∷ us)
single_content u h n (has_content_of c) = has_content_of (single n (pack_octets u (omega arith)) c)

octets_content : {us : List Item} (cs : Bytes) → HasContent us → HasContent (octets cs ∷ us)
octets_content cs (has_content_of c) = has_content_of (as_they_lie {cs = cs} c)

paired_content : {us : List Item} (h l : ℕ) → h from 0xD800 to 0xDBFF → l from 0xDC00 to 0xDFFF → HasContent us → HasContent (unit h ∷ unit l ∷ us)
paired_content h l r s (has_content_of c) =
    let a : 0xD800 ≤ h = r.low in
    let b : h ≤ 0xDBFF = r.high in
    let d : 0xDC00 ≤ l = s.low in
    let e : l ≤ 0xDFFF = s.high in
    has_content_of (paired (halves r s) (pack_octets (joined h l) (omega arith)) c)

unit_content : (h l : ℕ) {us : List Item} → h ≤ 0xFFFF → HasContent us → HasContent (unit l ∷ us) → HasContent (unit h ∷ unit l ∷ us)
unit_content h l {us} k x y =
    split_on (is_high h && is_low l)
    (λ p. let w = and_true (is_high h) (is_low l) p in paired_content h l (within_range 0xD800 0xDBFF h w.0) (within_range 0xDC00 0xDFFF l w.1) x) λ p.
    single_content h k (λ q. impossible (sym p ∙ pair_of q)) y

-- a pair is followed by a unit
abbrev BeginsWithUnit : List Item → Type 0
BeginsWithUnit [] = ⊥
BeginsWithUnit (octets cs ∷ us) = ⊥
BeginsWithUnit (unit u ∷ us) = Unit {0}

pair_unit : {u : ℕ} {us : List Item} → Pair u us → BeginsWithUnit us
pair_unit (halves r s) = tt

has_content : {us : List Item} → Items us → HasContent us
has_content no_item = has_content_of nothing
has_content (some_octets {b} {cs} k) = octets_content (b ∷ cs) (has_content k)
has_content (a_unit {u} h no_item) = single_content u h (λ p. pair_unit p) (has_content_of nothing)
has_content (a_unit {u} h (some_octets {b} {cs} k)) = single_content u h (λ p. pair_unit p) (octets_content (b ∷ cs) (has_content k))
has_content (a_unit {u} h (a_unit {u = l} j k)) = unit_content u l h (has_content k) (has_content (a_unit j k))

-- ---- strings

pub string_content : {raw ts : Bytes} → String raw ts → content_of Csvj raw ≡ ts
unfolding content_of choose◌then◌else◌
string_content (string a_quotation_mark c a_quotation_mark k) = ap text_of (chars_units c) ∙ content_text k (chars_items c)

pub string_kind : {raw ts : Bytes} → String raw ts → kind_of Csvj raw ≡ Text
unfolding kind_of choose◌then◌else◌
string_kind (string a_quotation_mark c a_quotation_mark k) = refl

-- a string of these bytes
pub data StringOf (raw : Bytes) : Type 0 where
  string_of : {ts : Bytes} → String raw ts → StringOf raw

pub closing_string : {xs : Bytes} → Closing xs → StringOf (QUOTE ∷ xs)
closing_string (closing {bs} {us} c) = go (has_content (chars_items c))
  where
    go : HasContent us → StringOf (QUOTE ∷ (bs ++ (QUOTE ∷ [])))
    go (has_content_of k) = string_of (string a_quotation_mark c a_quotation_mark k)
