-- The text of a cell, by the written form of its kind in the target.
use Rattle.std.specs.Prelude.{Bool, true, false, [], ◌∷◌}
use Rattle.model.specs.declared.Dialect.{Dialect}
use Rattle.model.specs.declared.Dialect.TheVariants.{Csvj, Tdif, CsvPlus}
use Rattle.model.specs.declared.Kind.{Kind}
use Rattle.model.specs.declared.Kind.TheVariants.{Text, Number, True, False, Null}
use Rattle.model.specs.rules.Base.{Bytes, QUOTE, BACKSLASH}
use Rattle.model.specs.rules.Dialect.{quote_of}
use Rattle.model.specs.rules.Text.{Value, json_cell, quoted_text, csv_plus_cell, has_quotes}
use Rattle.cell_decoder.specs.declared.first_byte.Spelling.{Spelling}
use Rattle.cell_decoder.specs.declared.first_byte.Spelling.TheVariants.{Nothing, AsItStands, Doubled, Escaped}
use Rattle.cell_decoder.specs.declared.source.Source.{Source}
use Rattle.cell_decoder.specs.Sources.{content_by}
use Rattle.cell_writer.specs.declared.cell.WrittenForm.{WrittenForm}
use Rattle.cell_writer.specs.declared.cell.WrittenForm.TheVariants.{AsText, AsNumber, AsWord}

-- a cell of this kind
abbrev pub value_of : Source → Kind → Bytes → Value
value_of src kind raw = record { from = 0; upto = 0; kind = kind; content = content_by src raw }

-- whether a text is in quotes (§14.3 §14.6 §14.7)
abbrev pub is_quoted : Dialect → (only first : Bool) → Bytes → Bool
is_quoted Csvj only first bs = true
is_quoted Tdif only first bs = true
is_quoted (CsvPlus s) only first bs = has_quotes s only first bs

-- the quote before and after it, if it is
abbrev pub quote_by : Dialect → (quoted : Bool) → Bytes
quote_by t true = quote_of t ∷ []
quote_by t false = []

-- a cell whose content is written as a text
abbrev pub text_cell : Dialect → (only first : Bool) → Bytes → Bytes
text_cell Csvj only first bs = json_cell Text bs
text_cell Tdif only first bs = quoted_text QUOTE bs
text_cell (CsvPlus s) only first bs = csv_plus_cell s only first bs

-- the content of a number, by its encoding: verbatim, or nothing (§2.5)
abbrev pub number_in : Spelling → Bytes → Bytes
number_in Nothing raw = []
number_in AsItStands raw = raw
number_in (Doubled q) raw = raw
number_in Escaped raw = raw

-- the written form in `cell_text` (§14.5 §14.6 §14.7)
abbrev pub written_as : Dialect → Kind → WrittenForm
written_as Csvj Text = AsText
written_as Csvj Number = AsNumber
written_as Csvj True = AsWord
written_as Csvj False = AsWord
written_as Csvj Null = AsWord
written_as Tdif Text = AsText
written_as Tdif Number = AsWord
written_as Tdif True = AsWord
written_as Tdif False = AsWord
written_as Tdif Null = AsWord
written_as (CsvPlus s) k = AsText

-- the word of a kind that is written as one
abbrev pub word_for : Dialect → Kind → Bytes
word_for Csvj Text = []
word_for Csvj Number = []
word_for Csvj True = 0x74 ∷ 0x72 ∷ 0x75 ∷ 0x65 ∷ []
word_for Csvj False = 0x66 ∷ 0x61 ∷ 0x6C ∷ 0x73 ∷ 0x65 ∷ []
word_for Csvj Null = 0x6E ∷ 0x75 ∷ 0x6C ∷ 0x6C ∷ []
word_for Tdif k = BACKSLASH ∷ 0x4E ∷ []
word_for (CsvPlus s) k = []
