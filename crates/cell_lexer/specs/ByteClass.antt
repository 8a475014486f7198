-- What the results of the inner functions mean, in the definition's terms.
use Rattle.std.specs.Prelude.{ℕ, ◌||◌}
use Rattle.model.specs.declared.Dialect.{Dialect}
use Rattle.model.specs.declared.Char.TheVariants.{Whole}
use Rattle.model.specs.declared.CellStep.{CellStep}
use Rattle.model.specs.declared.CellStep.TheVariants.{More, Stop}
use Rattle.model.specs.declared.Cell.TheVariants.{Quoted, Closed, Plain}
use Rattle.model.specs.rules.Base.{choose◌then◌else◌, ◌is◌, CR, LF}
use Rattle.model.specs.rules.Dialect.{quote_of, delimiter_of}
use Rattle.model.specs.rules.Utf8.{char_step}
use Rattle.model.specs.rules.Cell.{text_byte}
use Rattle.cell_lexer.specs.declared.ByteClass.{ByteClass}
use Rattle.cell_lexer.specs.declared.ByteClass.TheVariants.{Is, InQuotes, InPlain}

-- the step that a class of a byte means
abbrev pub cell_step_of : ByteClass → ℕ → CellStep
cell_step_of (Is a) b = a
cell_step_of (InQuotes t) b = text_byte Quoted (char_step t b)
cell_step_of (InPlain t) b = text_byte Plain (char_step t b)

-- a byte outside quotes at a character's start, where a quote means `at_quote`: the cases of `first_byte` and `plain_byte`
abbrev pub outside_quotes : Dialect → (at_quote : CellStep) → ℕ → CellStep
outside_quotes d at_quote b =
    choose b is quote_of d then at_quote
    else choose b is delimiter_of d || b is CR || b is LF then Stop
    else text_byte Plain (char_step Whole b)

-- a byte between quotes that may be doubled, at a character's start: the cases of `quoted_byte` for TDIF and CSV+
abbrev pub doubled_byte : (quote : ℕ) → ℕ → CellStep
doubled_byte quote b = choose b is quote then More Closed else text_byte Quoted (char_step Whole b)
