-- UTF-8 text by the rules' table of first and second bytes, a byte at a time; code points; and content, which is UTF-8 widened
-- by lone surrogates.
use Rattle.std.specs.Prelude.{ℕ, ◌+◌, ◌-◌, ◌*◌, ◌/◌, ◌%◌, Bool, true, false, ◌&&◌, List, [], ◌∷◌, ◌++◌, leb, Option, None, Some}
use Rattle.model.specs.rules.Types.{Lead, C2ToDf, E0, E1ToEc, Ed, EeToEf, F0, F1ToF3, F4, Inner, Second, LastTwo, Last, Char, Whole, Within}
use Rattle.model.specs.rules.Base.{choose◌then◌else◌, ◌is◌, within, Bytes}

-- ---- the table

-- a row of the table: first bytes from lo to hi, the character's length, second bytes from lo2 to hi2 (§2.11)
pub record Row : Type 0 where
  pub lo : ℕ
  pub hi : ℕ
  pub size : ℕ
  pub lo2 : ℕ
  pub hi2 : ℕ

-- a row in the order in which the table prints it (§2.11)
abbrev row : ℕ → ℕ → ℕ → ℕ → ℕ → Row
row lo hi size lo2 hi2 = record { lo = lo; hi = hi; size = size; lo2 = lo2; hi2 = hi2 }

-- the table, from its second row on; its first row, 00 to 7F, is a character of one byte and is in `char_step` (§2.11)
--                  | first |    | length | second |
unfoldable pub row_of : Lead → Row
row_of C2ToDf = row 0xC2 0xDF 2 0x80 0xBF
row_of E0 = row 0xE0 0xE0 3 0xA0 0xBF
row_of E1ToEc = row 0xE1 0xEC 3 0x80 0xBF
row_of Ed = row 0xED 0xED 3 0x80 0x9F
row_of EeToEf = row 0xEE 0xEF 3 0x80 0xBF
row_of F0 = row 0xF0 0xF0 4 0x90 0xBF
row_of F1ToF3 = row 0xF1 0xF3 4 0x80 0xBF
row_of F4 = row 0xF4 0xF4 4 0x80 0x8F

-- the rows for more than one byte, in the table's order (§2.11)
unfoldable pub leads : List Lead
leads = C2ToDf ∷ E0 ∷ E1ToEc ∷ Ed ∷ EeToEf ∷ F0 ∷ F1ToF3 ∷ F4 ∷ []

-- the first byte of a character of more than one byte: its row, or none, which breaks the table (§2.11)
unfoldable pub lead_byte : List Lead → ℕ → Option Char
lead_byte [] b = None
lead_byte (l ∷ ls) b = choose within (row_of l).lo (row_of l).hi b then Some (Within (Second l)) else lead_byte ls b

-- after the second byte of a character of this length (§2.11)
abbrev pub after_second : (size : ℕ) → Char
after_second size = choose size is 2 then Whole else choose size is 3 then Within Last else Within LastTwo

-- a character's second byte by its row, and its later bytes, which are 80 to BF (§2.11)
unfoldable pub inner_step : Inner → ℕ → Option Char
inner_step (Second l) b = choose within (row_of l).lo2 (row_of l).hi2 b then Some (after_second (row_of l).size) else None
inner_step LastTwo b = choose within 0x80 0xBF b then Some (Within Last) else None
inner_step Last b = choose within 0x80 0xBF b then Some Whole else None

-- the next byte of a text, by the table (§2.11)
unfoldable pub char_step : Char → ℕ → Option Char
char_step Whole b = choose within 0x00 0x7F b then Some Whole else lead_byte leads b
char_step (Within i) b = inner_step i b

-- a text obeys the table from here to its end, and is not cut inside a character (§1.5 §2.11)
unfoldable pub text_from : Char → Bytes → Bool
text_from Whole [] = true
text_from (Within i) [] = false
text_from c (b ∷ bs) = elim (char_step c b) [ None ↦ false | Some c' ↦ text_from c' bs ]

-- ---- code points

-- a code point as one to four bytes; a surrogate as the three bytes that represent a lone one (§2.6 §2.10)
unfoldable pub pack : ℕ → Bytes
pack u =
    choose leb u 0x7F then u ∷ []
    else choose leb u 0x7FF then (0xC0 + u / 0x40) ∷ (0x80 + u % 0x40) ∷ []
    else choose leb u 0xFFFF then (0xE0 + u / 0x1000) ∷ (0x80 + u / 0x40 % 0x40) ∷ (0x80 + u % 0x40) ∷ []
    else (0xF0 + u / 0x40000) ∷ (0x80 + u / 0x1000 % 0x40) ∷ (0x80 + u / 0x40 % 0x40) ∷ (0x80 + u % 0x40) ∷ []

-- code points one after another, as text holds them (§2.6 §2.10)
unfoldable pub packed : List ℕ → Bytes
packed [] = []
packed (u ∷ us) = pack u ++ packed us

-- a byte that stands inside a character, after its first: 80 to BF in every row of the table (§2.11)
abbrev pub is_later : ℕ → Bool
is_later b = within 0x80 0xBF b

-- the number of a high surrogate (§2.8)
abbrev pub is_high : ℕ → Bool
is_high u = within 0xD800 0xDBFF u

-- the number of a low surrogate (§2.8)
abbrev pub is_low : ℕ → Bool
is_low u = within 0xDC00 0xDFFF u

-- the code point of a high and a low surrogate (§2.8)
abbrev pub joined : ℕ → ℕ → ℕ
joined h l = 0x10000 + (h - 0xD800) * 0x400 + (l - 0xDC00)

-- ---- content

-- the first two bytes of a lone surrogate; no character of the table has them (§2.6 §2.11)
abbrev pub is_surrogate : ℕ → ℕ → Bool
is_surrogate a b = a is 0xED && leb 0xA0 b

-- content contains a lone surrogate (§2.6 §8.3)
unfoldable pub holds_lone : Bytes → Bool
holds_lone [] = false
holds_lone (a ∷ []) = false
holds_lone (a ∷ b ∷ bs) = choose is_surrogate a b then true else holds_lone (b ∷ bs)

-- the state inside content, with what is needed to recognise a high surrogate directly before a low one (§2.6 §2.9)
pub data Wide : Type 0 where
  -- between characters, directly after a high surrogate or not
  gap : (high : Bool) → Wide
  -- after ED, directly after a high surrogate or not
  ed : (high : Bool) → Wide
  -- in a surrogate, before its last byte, a high one or not
  lone : (high : Bool) → Wide
  -- in another character
  inner : Inner → Wide

-- the state after a byte of the table's text, which is of no surrogate (§2.6)
abbrev pub settled : Char → Wide
settled Whole = gap false
settled (Within i) = inner i

-- the same, or none where the byte breaks the table (§2.6 §2.11)
abbrev pub settle : Option Char → Option Wide
settle None = None
settle (Some c) = Some (settled c)

-- the next byte of content: of the table's text, or of a lone surrogate, which is not low directly after a high one (§2.6
-- §2.9)
unfoldable pub wide_step : Wide → ℕ → Option Wide
wide_step (gap h) b = choose b is 0xED then Some (ed h) else settle (char_step Whole b)
wide_step (ed h) b =
    choose within 0x80 0x9F b then Some (inner Last)
    else choose within 0xA0 0xAF b then Some (lone true)
    else choose within 0xB0 0xBF b then (choose h then None else Some (lone false))
    else None
wide_step (lone h) b = choose within 0x80 0xBF b then Some (gap h) else None
wide_step (inner i) b = settle (char_step (Within i) b)

-- bytes are content from here to their end, and are not cut inside a character or a surrogate (§2.6 §2.9)
unfoldable pub wide_from : Wide → Bytes → Bool
wide_from (gap h) [] = true
wide_from (ed h) [] = false
wide_from (lone h) [] = false
wide_from (inner i) [] = false
wide_from w (b ∷ bs) = elim (wide_step w b) [ None ↦ false | Some w' ↦ wide_from w' bs ]

-- bytes have the form of content (§2.6 §2.9)
unfoldable pub is_content : Bytes → Bool
is_content bs = wide_from (gap false) bs

-- helper: `unfolding utf8_computes` opens every definition of this module
unfoldable pub utf8_computes : Type 0
unfolding row_of leads lead_byte inner_step char_step text_from pack packed holds_lone wide_step wide_from is_content
utf8_computes = Unit {0}
