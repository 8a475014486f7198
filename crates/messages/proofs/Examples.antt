-- Words and sentences by the definitions, by computation.
use mathlib.Core.Path.{◌≡◌, refl}
use Rattle.std.specs.Prelude.{Some, None}
use Rattle.model.specs.rules.Base.{choose◌then◌else◌, same}
use Rattle.model.specs.laws.Ascii.{ascii}
use Rattle.model.specs.rules.Records.{name_key}
use Rattle.model.specs.rules.Report.{report}
use Rattle.messages.specs.Words.{dialect_named}
use Rattle.messages.specs.Sentences.{sentence_of, sentences_compute}

upper_case : dialect_named (ascii "CSV+") ≡ Some 3
unfolding dialect_named ascii same name_key choose◌then◌else◌
upper_case = refl

by_number : dialect_named (ascii "2") ≡ Some 2
unfolding dialect_named ascii same name_key choose◌then◌else◌
by_number = refl

no_name : dialect_named (ascii "csv") ≡ None
unfolding dialect_named ascii same name_key choose◌then◌else◌
no_name = refl

cell_count : sentence_of (report 5 3 0 57) ≡ ascii "refused (5): record 3 has another number of cells than the header; it begins at byte 57\n"
unfolding sentences_compute ascii choose◌then◌else◌
cell_count = refl

cut_short : sentence_of (report 4 1204 0 16777215) ≡ ascii "refused (4): the file ends at byte 16777215 before record 1204 is complete\n"
unfolding sentences_compute ascii choose◌then◌else◌
cut_short = refl
