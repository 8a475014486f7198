-- JSON's literals, numbers and strings by RFC 8259, sections 3, 6 and 7, production by production in its order. Before them, since
-- the RFC has it in prose, the content that a string's chars denote.
use Rattle.std.specs.Prelude.{ℕ, ◌+◌, ◌-◌, ◌*◌, List, [], ◌∷◌, ◌++◌}
use Rattle.model.specs.rules.Base.{Bytes}
use Rattle.grammar.specs.rfc.Rfc5234.{◌from◌to◌, Digits, SomeDigits, HEXDIG}
use Rattle.grammar.specs.rfc.Rfc3629.{UTF8-data, Octets}

-- ---- the content of chars

-- a char: octets, or the code unit that \u names
pub data Item : Type 0 where
  octets : Bytes → Item
  unit : ℕ → Item

-- a code unit and the first of those that follow are the halves of a pair
pub data Pair : ℕ → List Item → Type 0 where
  halves : {h l : ℕ} {us : List Item} → h from 0xD800 to 0xDBFF → l from 0xDC00 to 0xDFFF → Pair h (unit l ∷ us)

-- the chars of a string. "To escape an extended character that is not in the Basic Multilingual Plane, the character is represented as
-- a 12-character sequence, encoding the UTF-16 surrogate pair". A surrogate that is not so paired is a lone one (§2.7 §2.8)
pub data Content : List Item → Bytes → Type 0 where
  nothing : Content [] []
  as_they_lie : {cs ts : Bytes} {us : List Item} → Content us ts → Content (octets cs ∷ us) (cs ++ ts)
  paired :
      {h l : ℕ} {cs ts : Bytes} {us : List Item} → Pair h (unit l ∷ us) → Octets (0x10000 + (h - 0xD800) * 0x400 + (l - 0xDC00)) cs →
      Content us ts → Content (unit h ∷ unit l ∷ us) (cs ++ ts)
  single :
      {u : ℕ} {cs ts : Bytes} {us : List Item} → ¬ Pair u us → Octets u cs → Content us ts → Content (unit u ∷ us) (cs ++ ts)

-- ---- section 3

-- false = %x66.61.6c.73.65
pub data False : Bytes → Type 0 where
  encoded_false : False (0x66 ∷ 0x61 ∷ 0x6C ∷ 0x73 ∷ 0x65 ∷ [])

-- null = %x6e.75.6c.6c
pub data Null : Bytes → Type 0 where
  encoded_null : Null (0x6E ∷ 0x75 ∷ 0x6C ∷ 0x6C ∷ [])

-- true = %x74.72.75.65
pub data True : Bytes → Type 0 where
  encoded_true : True (0x74 ∷ 0x72 ∷ 0x75 ∷ 0x65 ∷ [])

-- ---- section 6

mutual
  -- number = [ minus ] int [ frac ] [ exp ]
  pub data Number : Bytes → Type 0 where
    number :
        {ms ns fs es : Bytes} → Optional-minus ms → Int ns → Optional-frac fs → Optional-exp es → Number (ms ++ (ns ++ (fs ++ es)))

  -- [ minus ]
  pub data Optional-minus : Bytes → Type 0 where
    no_minus : Optional-minus []
    a_minus : {b : ℕ} → Minus b → Optional-minus (b ∷ [])

  -- [ frac ]
  pub data Optional-frac : Bytes → Type 0 where
    no_frac : Optional-frac []
    a_frac : {bs : Bytes} → Frac bs → Optional-frac bs

  -- [ exp ]
  pub data Optional-exp : Bytes → Type 0 where
    no_exp : Optional-exp []
    an_exp : {bs : Bytes} → Exp bs → Optional-exp bs

  -- decimal-point = %x2E
  pub data Decimal-point : ℕ → Type 0 where
    decimal_point : Decimal-point 0x2E

  -- digit1-9 = %x31-39
  pub data Digit1-9 : ℕ → Type 0 where
    digit1_9 : {b : ℕ} → b from 0x31 to 0x39 → Digit1-9 b

  -- e = %x65 / %x45
  pub data E : ℕ → Type 0 where
    small_e : E 0x65
    large_e : E 0x45

  -- exp = e [ minus / plus ] 1*DIGIT
  pub data Exp : Bytes → Type 0 where
    exp : {b : ℕ} {ss bs : Bytes} → E b → Optional-sign ss → SomeDigits bs → Exp (b ∷ (ss ++ bs))

  -- [ minus / plus ]
  pub data Optional-sign : Bytes → Type 0 where
    no_sign : Optional-sign []
    negative : {b : ℕ} → Minus b → Optional-sign (b ∷ [])
    positive : {b : ℕ} → Plus b → Optional-sign (b ∷ [])

  -- frac = decimal-point 1*DIGIT
  pub data Frac : Bytes → Type 0 where
    frac : {b : ℕ} {bs : Bytes} → Decimal-point b → SomeDigits bs → Frac (b ∷ bs)

  -- int = zero / ( digit1-9 *DIGIT )
  pub data Int : Bytes → Type 0 where
    a_zero : {b : ℕ} → Zero b → Int (b ∷ [])
    nonzero : {b : ℕ} {bs : Bytes} → Digit1-9 b → Digits bs → Int (b ∷ bs)

  -- minus = %x2D
  pub data Minus : ℕ → Type 0 where
    minus : Minus 0x2D

  -- plus = %x2B
  pub data Plus : ℕ → Type 0 where
    plus : Plus 0x2B

  -- zero = %x30
  pub data Zero : ℕ → Type 0 where
    zero : Zero 0x30

-- ---- section 7

mutual
  -- string = quotation-mark *char quotation-mark
  pub data String : (raw content : Bytes) → Type 0 where
    string :
        {q r : ℕ} {bs ts : Bytes} {us : List Item} → Quotation-mark q → Chars bs us → Quotation-mark r → Content us ts →
        String (q ∷ (bs ++ (r ∷ []))) ts

  -- *char
  pub data Chars : Bytes → List Item → Type 0 where
    no_char : Chars [] []
    char : {cs bs : Bytes} {i : Item} {us : List Item} → Char cs i → Chars bs us → Chars (cs ++ bs) (i ∷ us)

  -- char = unescaped / escape ( %x22 / %x5C / %x2F / %x62 / %x66 / %x6E / %x72 / %x74 / %x75 4HEXDIG )
  pub data Char : Bytes → Item → Type 0 where
    unescaped : {cs : Bytes} → Unescaped cs → Char cs (octets cs)
    quotation_mark : {e : ℕ} → Escape e → Char (e ∷ 0x22 ∷ []) (octets (0x22 ∷ []))
    reverse_solidus : {e : ℕ} → Escape e → Char (e ∷ 0x5C ∷ []) (octets (0x5C ∷ []))
    solidus : {e : ℕ} → Escape e → Char (e ∷ 0x2F ∷ []) (octets (0x2F ∷ []))
    backspace : {e : ℕ} → Escape e → Char (e ∷ 0x62 ∷ []) (octets (0x08 ∷ []))
    form_feed : {e : ℕ} → Escape e → Char (e ∷ 0x66 ∷ []) (octets (0x0C ∷ []))
    line_feed : {e : ℕ} → Escape e → Char (e ∷ 0x6E ∷ []) (octets (0x0A ∷ []))
    carriage_return : {e : ℕ} → Escape e → Char (e ∷ 0x72 ∷ []) (octets (0x0D ∷ []))
    tab : {e : ℕ} → Escape e → Char (e ∷ 0x74 ∷ []) (octets (0x09 ∷ []))
    uXXXX :
        {e a b c d w x y z : ℕ} → Escape e → HEXDIG a w → HEXDIG b x → HEXDIG c y → HEXDIG d z →
        Char (e ∷ 0x75 ∷ a ∷ b ∷ c ∷ d ∷ []) (unit (((w * 0x10 + x) * 0x10 + y) * 0x10 + z))

  -- escape = %x5C
  pub data Escape : ℕ → Type 0 where
    escape : Escape 0x5C

  -- quotation-mark = %x22
  pub data Quotation-mark : ℕ → Type 0 where
    a_quotation_mark : Quotation-mark 0x22

  -- unescaped = %x20-21 / %x23-5B / %x5D-10FFFF
  pub data Unescaped : Bytes → Type 0 where
    below_quote : {b : ℕ} → b from 0x20 to 0x21 → Unescaped (b ∷ [])
    below_backslash : {b : ℕ} → b from 0x23 to 0x5B → Unescaped (b ∷ [])
    above_backslash : {b : ℕ} → b from 0x5D to 0x7F → Unescaped (b ∷ [])
    -- %x80-10FFFF, in UTF-8, which has no octets for D800-DFFF (§1.5 §2.11)
    above_ascii : {cs : Bytes} → UTF8-data cs → Unescaped cs
