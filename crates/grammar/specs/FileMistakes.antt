-- The mistakes that these productions do not make. Each field says so of one, at the production that would be widened to make it;
-- `proofs/AbsentInFiles.antt` proves it by case analysis of the productions.
use Rattle.std.specs.Prelude.{ℕ, ◌≡◌, ◌≢◌, List, [], ◌∷◌}
use Rattle.grammar.specs.rfc.Types.{Kind, Text, CsvPlus}
use Rattle.model.specs.rules.Base.{Bytes}
use Rattle.model.specs.rules.Dialect.{standard}
use Rattle.grammar.specs.rfc.Derived.{Derived, cell, Line, line, text_in}
use Rattle.grammar.specs.dialects.Csvj as csvj
use Rattle.grammar.specs.dialects.Tdif as tdif
use Rattle.grammar.specs.dialects.CsvPlus as plus
use Rattle.grammar.specs.dialects.Spans.{span, stretches}

pub record FileMistakes : Type 0 where
  -- an empty line in TDIF: LF where a line may begin (§4.6)
  pub empty_line : (ls : List (Line Derived)) → ¬ tdif.Lines (0x0A ∷ []) ls
  -- a space beside a quoted CSV+ cell: ` "a"`, and `"a" ` (§5.8)
  pub space_before : (kind : Kind) (content : Bytes) → ¬ plus.Field standard (cell (0x20 ∷ 0x22 ∷ 0x61 ∷ 0x22 ∷ []) kind content)
  pub space_after : (kind : Kind) (content : Bytes) → ¬ plus.Field standard (cell (0x22 ∷ 0x61 ∷ 0x22 ∷ 0x20 ∷ []) kind content)
  -- a missing last CSVJ ending: `"a"` (§3.1)
  pub missing_ending : (ls : List (Line Derived)) → ¬ csvj.Data-lines (0x22 ∷ 0x61 ∷ 0x22 ∷ []) ls
  -- the byte order mark first in CSV+, and then `a` (§5.9)
  pub mark_first : (ls : List (Line Derived)) → ¬ plus.File standard (0xEF ∷ 0xBB ∷ 0xBF ∷ 0x61 ∷ []) ls
  -- a doubled TDIF quote that is content of two (§4.4)
  pub two_quotes : (ts : Bytes) → tdif.Inner (0x22 ∷ 0x22 ∷ []) ts → ts ≡ 0x22 ∷ []
  -- blanks of a CSVJ line that are not of its counted text: two spaces and LF (§7.4)
  pub blanks_uncounted : (l : Line Derived) → csvj.Line (0x20 ∷ 0x20 ∷ 0x0A ∷ []) l → text_in l ≢ []

-- `x`, `a` and `a`, each with LF, of unquoted CSV+ cells
abbrev pub three_lines : Bytes
three_lines = 0x78 ∷ 0x0A ∷ 0x61 ∷ 0x0A ∷ 0x61 ∷ 0x0A ∷ []

abbrev pub letter : ℕ → Line Derived
letter b = line (b ∷ []) (cell (b ∷ []) Text (b ∷ []) ∷ [])

abbrev pub three_records : List (Line Derived)
three_records = letter 0x78 ∷ letter 0x61 ∷ letter 0x61 ∷ []

abbrev pub three_derived :
    ¬ plus.BeginsWithBom three_lines → plus.Non-escaped standard (0x78 ∷ []) → plus.Non-escaped standard (0x61 ∷ []) →
    plus.File standard three_lines three_records
three_derived n x a =
    plus.file n
    (plus.header_then (plus.a_name (plus.name (plus.a_non_escaped x))) plus.lf
    (plus.next (plus.field (plus.a_non_escaped a)) plus.lf (plus.last (plus.field (plus.a_non_escaped a)) plus.lf)))

-- the same of where cells lie
pub record Misplacements : Type 0 where
  -- a position that starts again with each record, so that the second `a` lies at the first one's place
  pub equal_cells :
      (n : ¬ plus.BeginsWithBom three_lines) (x : plus.Non-escaped standard (0x78 ∷ [])) (a : plus.Non-escaped standard (0x61 ∷ [])) →
      stretches (CsvPlus standard) three_lines three_records (three_derived n x a) ≡ (span 0 1 ∷ []) ∷ (span 2 3 ∷ []) ∷ (span 4 5 ∷ []) ∷ []
