-- The notation of RFC 5234 (ABNF) and, of its core rules (appendix B.1), those that the grammars use, in its order. A production is a
-- predicate of the bytes that it derives; where the bytes have a meaning, of that too. Two productions one after the other derive the
-- bytes of the one and then of the other (`++`), and a choice ("/") is a constructor for each side. What a production repeats or
-- leaves out at will, `*P`, `1*P` and `[ P ]`, has a type of its own directly after it. A grammar is one `mutual` block, so its
-- productions are in the order of their source.
use Rattle.std.specs.Prelude.{ℕ, ◌≤◌, ◌-◌, [], ◌∷◌}
use Rattle.model.specs.rules.Base.{Bytes}

-- %xLO-HI
infix 40 ◌from◌to◌
pub record ◌from◌to◌ (b lo hi : ℕ) : Type 0 where
  pub low : lo ≤ b
  pub high : b ≤ hi

-- CR = %x0D
abbrev pub CR : ℕ
CR = 0x0D

-- CRLF = CR LF, by its bytes, as the CSVJ page writes it: %x0D.0A
abbrev pub CRLF : Bytes
CRLF = 0x0D ∷ 0x0A ∷ []

-- DIGIT = %x30-39
abbrev pub DIGIT : ℕ → Type 0
DIGIT b = b from 0x30 to 0x39

-- *DIGIT
pub data Digits : Bytes → Type 0 where
  no_digit : Digits []
  digit : {b : ℕ} {bs : Bytes} → DIGIT b → Digits bs → Digits (b ∷ bs)

-- 1*DIGIT
pub data SomeDigits : Bytes → Type 0 where
  digits : {b : ℕ} {bs : Bytes} → DIGIT b → Digits bs → SomeDigits (b ∷ bs)

-- DQUOTE = %x22
abbrev pub DQUOTE : ℕ
DQUOTE = 0x22

-- HEXDIG = DIGIT / "A" / "B" / "C" / "D" / "E" / "F", where a quoted letter denotes both cases; and its value
pub data HEXDIG : (b value : ℕ) → Type 0 where
  decimal : {b : ℕ} → DIGIT b → HEXDIG b (b - 0x30)
  upper : {b : ℕ} → b from 0x41 to 0x46 → HEXDIG b (b - 0x37)
  lower : {b : ℕ} → b from 0x61 to 0x66 → HEXDIG b (b - 0x57)

-- LF = %x0A
abbrev pub LF : ℕ
LF = 0x0A
