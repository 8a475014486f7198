-- Faults 2 and 3 as the table of faults defines them: what can continue by form alone, and where a byte breaks the table of UTF-8.
use Rattle.std.specs.Prelude.{ℕ, ◌≡◌, Bool, true, false, [], ◌∷◌, ◌++◌, Option, None, Some}
use Rattle.model.specs.rules.Types.{Dialect, Csvj, Tdif, CsvPlus, EeToEf, Second, Last, Char, Whole, Within, Option, Cell, Fresh}
use Rattle.model.specs.rules.Types.{Quoted, Closed, Escape, Hex, InNumber, InWord, Plain, Complete}
use Rattle.model.specs.rules.Types.{FileState, Top, Begin, Ended, Bom1, Bom2, PlainBom1, PlainBom2, Comment, Blanks, ExpectCell, Inside, After}
use Rattle.model.specs.rules.Types.{Cr, ByteRole, Ends, Ok}
use Rattle.model.specs.rules.Base.{Bytes}
use Rattle.model.specs.rules.Utf8.{char_step}
use Rattle.model.specs.rules.File.{file_step}

-- from this state these bytes, none of them refused by form, end with the end of a record (§6.24)
pub data Completes (d : Dialect) : FileState → Bytes → Type 0 where
  completed : {f f' : FileState} {k : Bool} {b : ℕ} → file_step d f b ≡ Ok (f', Ends k) → Completes d f (b ∷ [])
  onward : {f f' : FileState} {p : ByteRole} {b : ℕ} {bs : Bytes} → file_step d f b ≡ Ok (f', p) → Completes d f' bs → Completes d f (b ∷ bs)

-- after this byte a file can continue: some file that begins with these bytes, and this one after them, completes a record by form
-- (§6.3 §6.24)
abbrev pub CanGoOn : Dialect → Bytes → ℕ → Type 0
CanGoOn d xs b = (ys : Bytes) × Completes d Top (xs ++ (b ∷ ys))

-- the text that a cell's first byte would belong to: in CSV+ that of an unquoted cell (§6.2 §6.22)
abbrev pub fresh_text : Dialect → Option Char
fresh_text Csvj = None
fresh_text Tdif = None
fresh_text (CsvPlus s) = Some Whole

-- the text that the next byte of a cell would belong to: that of a quoted or an unquoted cell, none inside an escape (§6.2 §6.23)
abbrev pub cell_text_at : Dialect → Cell → Option Char
cell_text_at d Fresh = fresh_text d
cell_text_at d (Quoted c) = Some c
cell_text_at d Closed = None
cell_text_at d Escape = None
cell_text_at d (Hex n) = None
cell_text_at d (InNumber n) = None
cell_text_at d (InWord w) = None
cell_text_at d (Plain c) = Some c
cell_text_at d Complete = None

-- the text that the next byte of a file would belong to: that of a cell or of a comment (§6.2)
abbrev pub text_at : Dialect → FileState → Option Char
text_at d Top = fresh_text d
text_at d Begin = fresh_text d
text_at d Ended = fresh_text d
text_at d Bom1 = None
text_at d Bom2 = None
text_at d PlainBom1 = Some (Within (Second EeToEf))
text_at d PlainBom2 = Some (Within Last)
text_at d (Comment c) = Some c
text_at d Blanks = fresh_text d
text_at d ExpectCell = fresh_text d
text_at d (Inside c) = cell_text_at d c
text_at d After = None
text_at d Cr = None

-- the byte has no place in the table (§2.11)
abbrev pub is_broken : Option Char → Bool
is_broken (Some c) = false
is_broken None = true

-- the byte breaks the table in the text that it would belong to, if there is one (§6.2 §6.21)
abbrev pub breaks : Option Char → ℕ → Bool
breaks None b = false
breaks (Some c) b = is_broken (char_step c b)
