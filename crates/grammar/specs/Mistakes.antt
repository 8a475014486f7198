-- The mistakes that the theorems exclude. Each field says that one is not made, at the production that would be widened to make it,
-- or at what is required beside the productions. `proofs/Refused.antt` proves all from the statement of the theorems (`Exact`),
-- whatever the productions are; `proofs/Absent.antt` from the productions. So a production that is widened to make one makes the
-- theorems false.
use Rattle.std.specs.Prelude.{[], ◌∷◌, replicate}
use Rattle.grammar.specs.rfc.Types.{Text, Csvj}
use Rattle.model.specs.rules.Base.{Bytes}
use Rattle.grammar.specs.rfc.Derived.{Derived, cell, line}
use Rattle.grammar.specs.RfcMistakes.{RfcMistakes}
use Rattle.grammar.specs.FileMistakes.{FileMistakes}
use Rattle.grammar.specs.Accepted.{WithinLimits, ChecksHold}
use Rattle.grammar.specs.NextByte.{ProceedsOn}

-- `"a"`, and `"a","a"`
abbrev pub name_a : Derived
name_a = cell (0x22 ∷ 0x61 ∷ 0x22 ∷ []) Text (0x61 ∷ [])

abbrev pub two_names : Bytes
two_names = 0x22 ∷ 0x61 ∷ 0x22 ∷ 0x2C ∷ 0x22 ∷ 0x61 ∷ 0x22 ∷ []

-- 4,097 bytes of an unquoted CSV+ cell
abbrev pub too_long : Bytes
too_long = replicate 4097 0x61

pub record Mistakes : Type 0 where
  -- at the productions of the RFCs
  pub of_rfcs : RfcMistakes
  -- at the productions of the dialects
  pub of_files : FileMistakes
  -- a header name that repeats another: `"a","a"`
  pub repeated_name : ¬ ChecksHold Csvj (line two_names (name_a ∷ name_a ∷ []) ∷ [])
  -- a record of 4,097 bytes
  pub long_record : ¬ WithinLimits too_long (line too_long (cell too_long Text too_long ∷ []) ∷ [])
  -- a byte that is refused though a file continues with it: the quote with which a CSVJ file begins
  pub begun : ¬ ¬ ProceedsOn Csvj [] 0x22
