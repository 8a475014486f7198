-- The text of a verbatim cell, from its raw bytes: in quotation marks, or without them where CSV+ needs none.
use Rattle.std.specs.Prelude.{ℕ, ◌-◌, Bool, true, false, not, ◌&&◌, ◌||◌, [], ◌∷◌, ◌++◌, length}
use Rattle.model.specs.rules.Base.{Bytes, QUOTE, begins, holds, is_empty}
use Rattle.model.specs.rules.Api.{slice}
use Rattle.swar.specs.Words.{is_byte}

-- the quotation mark before and after a text, if it has them
abbrev pub quote_if : (quoted : Bool) → Bytes
quote_if true = QUOTE ∷ []
quote_if false = []

abbrev pub marked : (quoted : Bool) → Bytes → Bytes
marked quoted bs = quote_if quoted ++ (bs ++ quote_if quoted)

-- a cell in quotation marks: those that it has, or two around it
unfoldable pub quoted_cell : Bytes → Bytes
quoted_cell raw = marked (not (begins QUOTE raw)) raw

-- how many bytes precede its content, and as many follow it
abbrev pub quotes_by : (quoted : Bool) → ℕ
quotes_by true = 1
quotes_by false = 0

-- a cell without its quotation marks
unfoldable pub inside_of : Bytes → Bytes
inside_of raw = slice raw (quotes_by (begins QUOTE raw)) (length raw - quotes_by (begins QUOTE raw))

-- whether CSV+ with this delimiter quotes a verbatim content: it holds the delimiter, or is empty and the only cell (§14.7)
abbrev pub needs_quotes : (delimiter : ℕ) (only : Bool) → Bytes → Bool
needs_quotes p only bs = holds (is_byte p) bs || only && is_empty bs

-- a cell in CSV+
unfoldable pub plus_cell : (delimiter : ℕ) (only : Bool) → Bytes → Bytes
plus_cell p only raw = marked (needs_quotes p only (inside_of raw)) (inside_of raw)
