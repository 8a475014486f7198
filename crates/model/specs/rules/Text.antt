-- Canonical text of a cell, a record and a table, in each dialect.
use Rattle.std.specs.Prelude.{ℕ, ◌+◌, ◌-◌, ◌*◌, ◌/◌, ◌%◌, Bool, true, false, ◌&&◌, ◌||◌, List, [], ◌∷◌, ◌++◌, leb}
use Rattle.model.specs.rules.Types.{Kind, Text, Number, True, False, Null, Settings, Dialect, Csvj, Tdif, CsvPlus, Target}
use Rattle.model.specs.rules.Base.{choose◌then◌else◌, ◌is◌, Bytes, QUOTE, BACKSLASH, CR, LF, holds, is_empty}
use Rattle.model.specs.rules.Dialect.{delimiter_of, quote_of}
use Rattle.model.specs.rules.Utf8.{is_surrogate}

-- a cell: its kind and its content; from and upto are its span, where it was read from or lies in a table's content (§2.3 §2.4 §10.3)
pub record Value : Type 0 where
  pub from : ℕ
  pub upto : ℕ
  pub kind : Kind
  pub content : Bytes

-- the kind is text (§2.3)
abbrev pub is_text : Kind → Bool
is_text Text = true
is_text Number = false
is_text True = false
is_text False = false
is_text Null = false

-- ---- CSVJ

-- a lower-case hexadecimal digit (§14.3 §14.4)
abbrev pub hex_digit : ℕ → ℕ
hex_digit n = choose leb n 9 then 0x30 + n else 0x57 + n

-- a byte of a text in CSVJ: as it is, or as its escape (§14.3)
abbrev pub escaped : ℕ → Bytes
escaped b =
    choose b is QUOTE then BACKSLASH ∷ QUOTE ∷ []
    else choose b is BACKSLASH then BACKSLASH ∷ BACKSLASH ∷ []
    else choose leb 0x20 b then b ∷ []
    else choose b is 0x08 then BACKSLASH ∷ 0x62 ∷ []
    else choose b is 0x09 then BACKSLASH ∷ 0x74 ∷ []
    else choose b is 0x0A then BACKSLASH ∷ 0x6E ∷ []
    else choose b is 0x0C then BACKSLASH ∷ 0x66 ∷ []
    else choose b is 0x0D then BACKSLASH ∷ 0x72 ∷ []
    else BACKSLASH ∷ 0x75 ∷ 0x30 ∷ 0x30 ∷ hex_digit (b / 0x10) ∷ hex_digit (b % 0x10) ∷ []

-- a lone surrogate in CSVJ: the three bytes ED b c are \ud and three more digits (§14.4)
abbrev pub surrogate : ℕ → ℕ → Bytes
surrogate b c =
    let low : ℕ = (b - 0x80) % 0x40 in
    BACKSLASH ∷ 0x75 ∷ 0x64 ∷ hex_digit (low / 4) ∷ hex_digit (low % 4 * 4 + (c - 0x80) / 0x10) ∷ hex_digit (c % 0x10) ∷ []

-- content between the quotes of a string: a lone surrogate as its escape, every other byte as `escaped` says (§14.3 §14.4)
unfoldable pub json_body : Bytes → Bytes
json_body [] = []
json_body (a ∷ []) = escaped a
json_body (a ∷ b ∷ []) = escaped a ++ json_body (b ∷ [])
json_body (a ∷ b ∷ c ∷ bs) =
    choose is_surrogate a b then surrogate b c ++ json_body bs else escaped a ++ json_body (b ∷ c ∷ bs)

-- a cell in CSVJ (§14.3 §14.5)
unfoldable pub json_cell : Kind → Bytes → Bytes
json_cell Text bs = QUOTE ∷ json_body bs ++ (QUOTE ∷ [])
-- a number is written as it is spelt (§14.5)
json_cell Number bs = bs
json_cell True bs = 0x74 ∷ 0x72 ∷ 0x75 ∷ 0x65 ∷ []
json_cell False bs = 0x66 ∷ 0x61 ∷ 0x6C ∷ 0x73 ∷ 0x65 ∷ []
json_cell Null bs = 0x6E ∷ 0x75 ∷ 0x6C ∷ 0x6C ∷ []

-- ---- text with quotes doubled

-- content with each quote written twice (§14.6 §14.7)
unfoldable pub doubled : ℕ → Bytes → Bytes
doubled q [] = []
doubled q (b ∷ bs) = choose b is q then q ∷ q ∷ doubled q bs else b ∷ doubled q bs

-- content in quotes, as a cell of TDIF or CSV+ (§14.6 §14.7)
unfoldable pub quoted_text : ℕ → Bytes → Bytes
quoted_text q bs = q ∷ doubled q bs ++ (q ∷ [])

-- ---- CSV+

-- content begins like the byte order mark (§14.7)
abbrev pub begins_bom : Bytes → Bool
begins_bom [] = false
begins_bom (a ∷ []) = false
begins_bom (a ∷ b ∷ []) = false
begins_bom (a ∷ b ∷ c ∷ bs) = a is 0xEF && b is 0xBB && c is 0xBF

-- a byte that requires quotes, by the settings (§5.12 §14.7)
abbrev pub special : Settings → ℕ → Bool
special s b = b is quote_of (CsvPlus s) || b is delimiter_of (CsvPlus s) || b is CR || b is LF

-- content is written in quotes: it holds a byte that requires them, or is empty in a table of one column, or begins like the byte
-- order mark in the header's first cell. `only`: its record has no other cell; `first`: it is the first header cell (§14.7)
abbrev pub has_quotes : Settings → (only first : Bool) → Bytes → Bool
has_quotes s only first bs = holds (special s) bs || only && is_empty bs || first && begins_bom bs

-- a cell in CSV+, in quotes where it has to be (§14.7)
unfoldable pub csv_plus_cell : Settings → (only first : Bool) → Bytes → Bytes
csv_plus_cell s only first bs = choose has_quotes s only first bs then quoted_text (quote_of (CsvPlus s)) bs else bs

-- ---- records and tables

-- a cell in a dialect that can represent its kind; TDIF's other kind beside text is null (§14.5 §14.6 §14.7)
unfoldable pub cell_text : Dialect → (only first : Bool) → Value → Bytes
cell_text Csvj only first v = json_cell v.kind v.content
cell_text Tdif only first v = choose is_text v.kind then quoted_text QUOTE v.content else BACKSLASH ∷ 0x4E ∷ []
cell_text (CsvPlus s) only first v = csv_plus_cell s only first v.content

-- a record's ending (§14.2)
abbrev pub ending : Dialect → Bytes
ending Csvj = LF ∷ []
ending Tdif = LF ∷ []
ending (CsvPlus s) = CR ∷ LF ∷ []

-- the cells after the first, a delimiter before each and nothing else between them (§14.1)
unfoldable pub more_cells : Dialect → List Value → Bytes
more_cells d [] = []
more_cells d (v ∷ vs) = delimiter_of d ∷ cell_text d false false v ++ more_cells d vs

-- all cells of a record, a delimiter between each two; a CSV+ cell has to know whether it is alone and whether it is the first
-- header cell (§14.1 §14.7)
unfoldable pub all_cells : Dialect → (header : Bool) → List Value → Bytes
all_cells d header [] = []
all_cells d header (v ∷ vs) = cell_text d (is_empty vs) header v ++ more_cells d vs

-- a record's cells as they are written: the point where a cell passes from reading to writing, before fault 9 and before
-- canonical text. Each is written as it was read (§12.1)
abbrev pub carried : Target → List Value → List Value
carried t vs = vs

-- a record without its ending (§14.1)
unfoldable pub record_text : Target → (header : Bool) → List Value → Bytes
record_text t header vs = all_cells t.dialect header (carried t vs)

-- the data records, each with its ending (§14.1)
unfoldable pub data_text : Target → List (List Value) → Bytes
data_text t [] = []
data_text t (r ∷ rs) = record_text t false r ++ ending t.dialect ++ data_text t rs

-- the canonical text of a table: its header and then its data records (§14.1)
unfoldable pub table_text : Target → List (List Value) → Bytes
table_text t [] = []
table_text t (r ∷ rs) = record_text t true r ++ ending t.dialect ++ data_text t rs

-- helper: `unfolding text_computes` opens every definition of this module
unfoldable pub text_computes : Type 0
unfolding json_body json_cell doubled quoted_text csv_plus_cell cell_text more_cells all_cells record_text data_text table_text
text_computes = Unit {0}
