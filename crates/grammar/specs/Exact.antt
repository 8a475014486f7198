-- The theorems about the grammars as one statement.
use Rattle.std.specs.Prelude.{ℕ, ◌≡◌, ◌↔◌, false, List, Option, None}
use Rattle.grammar.specs.rfc.Types.{Target, Dialect}
use Rattle.model.specs.rules.Base.{Bytes}
use Rattle.model.specs.rules.Report.{accepted}
use Rattle.model.specs.rules.Records.{Read, going, file_full, record_full, read_bytes, read_file, report_of}
use Rattle.grammar.specs.rfc.Derived.{Derived, raw_of, Line}
use Rattle.grammar.specs.dialects.Derives.{DerivesCell, Derives}
use Rattle.grammar.specs.dialects.FormReads.{decoded, ReadByForm}
use Rattle.grammar.specs.Accepted.{Acceptable}
use Rattle.grammar.specs.NextByte.{NextByte}
use Rattle.grammar.specs.dialects.Spans.{stretches, shown}

pub record Exact : Type 0 where
  -- a file is derived with these records exactly when it is read by form with them
  pub files : (d : Dialect) (xs : Bytes) (ls : List (Line Derived)) → Derives d xs ls ↔ ReadByForm d xs ls
  -- a derivation's kind and content are the decoder's
  pub contents : (d : Dialect) (c : Derived) → DerivesCell d c → c ≡ decoded d (raw_of c)
  -- a file is accepted exactly when it is derived and the limits and the record checks hold
  pub acceptance : (d : Dialect) (xs : Bytes) → (report_of (read_file d None xs) ≡ accepted) ↔ ((ls : List (Line Derived)) × Acceptable d xs ls)
  -- a byte after bytes that were read, within the limits, is fault 2 or 3 exactly when no derivation's text begins so
  pub next_byte :
      (d : Dialect) (target : Option Target) (xs : Bytes) (r : Read) (b : ℕ) → read_bytes d target xs ≡ going r → file_full r ≡ false →
      record_full r b ≡ false → NextByte d target xs r b

-- and of where cells lie. It is stated by the cases of the productions, so it is separate from what is stated for any productions
pub record ExactPlaces : Type 0 where
  -- the cells of a file that was read lie where every derivation of it has them
  pub stretches :
      (d : Dialect) (xs : Bytes) (ls : List (Line Derived)) (k : Derives d xs ls) (r : Read) → read_file d None xs ≡ going r →
      shown r.done ≡ stretches d xs ls k
