-- What the program writes about a refusal: a form for each fault, with the numbers of the report filled in.
use Rattle.std.specs.Prelude.{ℕ, zero, suc, ◌/◌, [], ◌∷◌, ◌++◌, ltb}
use Rattle.io.specs.Digits.{last_digits}
use Rattle.model.specs.declared.Report.{Report}
use Rattle.model.specs.rules.Base.{Bytes, choose◌then◌else◌, ◌is◌}
use Rattle.model.specs.laws.Ascii.{ascii}

-- helper: how many decimal digits a number has, at most one more than `most`
unfoldable pub places_of : (most n : ℕ) → ℕ
places_of zero n = 1
places_of (suc most) n = choose ltb n 10 then 1 else suc (places_of most (n / 10))

-- helper: a number in decimal digits, which are at most 20 for one of 64 bits
unfoldable pub decimal : ℕ → Bytes
decimal n = last_digits 10 (places_of 19 n) n

-- the text of one byte of a form: N is the number of the report, R its record, C its column, B its byte offset, and any other byte is
-- itself (§6.14)
unfoldable pub part_of : Report → ℕ → Bytes
part_of e b =
    choose b is 0x4E then decimal e.number
    else choose b is 0x52 then decimal e.record_number
    else choose b is 0x43 then decimal e.column
    else choose b is 0x42 then decimal e.offset
    else b ∷ []

-- a form with the numbers of a report in it (§6.14)
unfoldable pub filled : Report → Bytes → Bytes
filled e [] = []
filled e (b ∷ form) = part_of e b ++ filled e form

-- the form of fault 9 by its column, which is that of a cell or a name (§8.3 §8.4), or 0 where the reason is the record as a whole (§8.2
-- §8.5 §8.6)
unfoldable pub uncarried_form : (column : ℕ) → Bytes
uncarried_form column =
    choose column is 0 then ascii
    "refused (N): record R can't be written in the target dialect, which asks for a column or in which the record or the file gets too long; it begins at byte B\n"
    else ascii "refused (N): column C of record R can't be written in the target dialect, which lacks such a cell or character or takes the name for an earlier one; the record begins at byte B\n"

-- what each fault means, and which place it reports (§6.1 §6.2 §6.3 §6.4 §6.5 §6.6 §6.7 §6.8 §6.13 §6.9); a call that is itself wrong
-- (§6.10 §6.11) has no place
unfoldable pub form_of : (number column : ℕ) → Bytes
form_of n column =
    choose n is 1 then ascii "refused (N): the file ends at byte B before record R, the header, begins\n"
    else choose n is 2 then ascii "refused (N): at record R, byte B is not UTF-8 text\n"
    else choose n is 3 then ascii "refused (N): at record R, byte B can't stand there in a file of the source dialect\n"
    else choose n is 4 then ascii "refused (N): the file ends at byte B before record R is complete\n"
    else choose n is 5 then ascii "refused (N): record R has another number of cells than the header; it begins at byte B\n"
    else choose n is 6 then ascii "refused (N): record R, the header, has in column C the name of an earlier column; it begins at byte B\n"
    else choose n is 7 then ascii "refused (N): record R, the header, has no name in column C, where the cell is not text; it begins at byte B\n"
    else choose n is 8 then ascii
    "refused (N): at record R, a limit is passed (16,777,215 bytes in a file, 4,096 bytes or 64 columns in a record); byte B is the first too many or, for columns, the record's first\n"
    else choose n is 9 then uncarried_form column
    else ascii "refused (N): the converter was not called as it has to be\n"

-- the sentence for a report (§6.14)
abbrev pub sentence_of : Report → Bytes
sentence_of e = filled e (form_of e.number e.column)

-- helper: `unfolding sentences_compute` opens every definition of this module
unfoldable pub sentences_compute : Type 0
unfolding places_of decimal part_of filled uncarried_form form_of
sentences_compute = Unit {0}
