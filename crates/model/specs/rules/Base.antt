-- Choices, byte tests and list functions that the definitions share.
use Rattle.std.specs.Prelude.{ℕ, Bool, true, false, ◌&&◌, ◌||◌, List, [], ◌∷◌, ◌++◌, length, drop, leb, eqb}

-- helper: a choice by a test
infixr 5 choose◌then◌else◌
unfoldable pub choose◌then◌else◌ {ℓ} : {A : Type ℓ} → Bool → A → A → A
choose◌then◌else◌ true a b = a
choose◌then◌else◌ false a b = b

-- the bytes of a file, of a raw cell, of content or of a written text, each a number (§2.1 §2.4 §14.1)
abbrev pub Bytes : Type 0
Bytes = List ℕ

-- helper: the same number, by which a rule names a byte, a count or a kind
infix 50 ◌is◌
abbrev pub ◌is◌ : ℕ → ℕ → Bool
◌is◌ = eqb

-- a range with both its ends, as rules give one: lo ≤ b ≤ hi (§2.11)
abbrev pub within : ℕ → ℕ → ℕ → Bool
within lo hi b = leb lo b && leb b hi

-- the line feed, which ends a record in every dialect (§3.1 §4.1 §5.1)
abbrev pub LF : ℕ
LF = 0x0A

-- the carriage return, which ends a TDIF record and elsewhere comes before the LF of an ending (§3.1 §4.1 §5.1 §5.7)
abbrev pub CR : ℕ
CR = 0x0D

-- the comma, which separates two cells (§3.3 §4.5 §5.3)
abbrev pub COMMA : ℕ
COMMA = 0x2C

-- the quote that a quoted cell and a string begin and end with (§3.6 §4.3 §5.4)
abbrev pub QUOTE : ℕ
QUOTE = 0x22

-- the backslash, which begins an escape of CSVJ and TDIF's null (§3.6 §4.3)
abbrev pub BACKSLASH : ℕ
BACKSLASH = 0x5C

-- equal, byte for byte: how names are compared (§3.11 §4.10 §5.10)
unfoldable pub same : Bytes → Bytes → Bool
same [] [] = true
same [] (b ∷ bs) = false
same (a ∷ s) [] = false
same (a ∷ s) (b ∷ bs) = eqb a b && same s bs

-- some byte passes the test, as where CSV+ requires quotes (§14.7)
unfoldable pub holds : (ℕ → Bool) → Bytes → Bool
holds p [] = false
holds p (b ∷ bs) = p b || holds p bs

-- the first byte is b, which decides the kind of a whole raw cell (§3.4 §4.3)
abbrev pub begins : ℕ → Bytes → Bool
begins b [] = false
begins b (a ∷ bs) = a is b

-- the list is empty: a header with no cells, an empty span, empty content (§8.2 §13.5 §14.7)
abbrev pub is_empty {ℓ} : {A : Type ℓ} → List A → Bool
is_empty [] = true
is_empty (x ∷ xs) = false

-- lists one after another: the cells of all records, in file order (§10.2)
unfoldable pub concat {ℓ} : {A : Type ℓ} → List (List A) → List A
concat [] = []
concat (x ∷ xs) = x ++ concat xs

-- a lent list or buffer after `new` was written at its beginning: the places past it, and on refusal all places, are as they were
-- (§9.3 §9.4)
abbrev pub over : (new old : List ℕ) → List ℕ
over new old = new ++ drop (length new) old

-- helper: `unfolding base_computes` opens every definition of this module
unfoldable pub base_computes : Type 0
unfolding choose◌then◌else◌ same holds concat
base_computes = Unit {0}
