-- Names as they are compared (§6.6), by the rule of a dialect that need not be the one in which they are encoded.
use Rattle.std.specs.Prelude.{ℕ, zero, suc, ◌<◌, ◌≤◌, ◌≡◌, List, [], ◌∷◌, length, get_or, Option, None, Some, Ok, Err}
use Rattle.model.specs.declared.Dialect.{Dialect}
use Rattle.model.specs.declared.Dialect.TheVariants.{Csvj, Tdif, CsvPlus}
use Rattle.model.specs.declared.Fault.{Fault}
use Rattle.model.specs.rules.Types.{CheckResult}
use Rattle.model.specs.rules.Base.{Bytes}
use Rattle.model.specs.rules.Records.{lower, name_key}
use Rattle.model.specs.rules.Report.{MAXRECORD}
use Rattle.model.specs.rules.Api.{slice}
use Rattle.cell_decoder.specs.declared.source.Source.{Source}
use Rattle.cell_decoder.specs.declared.source.Source.TheVariants.{File, Contents}
use Rattle.cell_decoder.specs.Sources.{content_by}

-- a byte of a name as names are compared: in TDIF upper case equals lower case (§4.10)
abbrev pub folded : (rule : Dialect) → ℕ → ℕ
folded Csvj b = b
folded Tdif b = lower b
folded (CsvPlus s) b = b

-- how long the bytes of a name may be: in a file no longer than a record, as contents of any length
pub data Short : Source → ℕ → Type 0 where
  in_file : {d : Dialect} {n : ℕ} → n ≤ MAXRECORD → Short (File d) n
  as_content : {n : ℕ} → Short Contents n

-- a span of s whose bytes a name may have
pub record NameIn (src : Source) (s : Bytes) (from upto : ℕ) : Type 0 where
  pub forward : from ≤ upto
  pub within : upto ≤ length s
  pub short : Short src (length (slice s from upto))

-- as many ends as starts, and each with its end such a span
pub record NamesIn (src : Source) (s : Bytes) (starts ends : List ℕ) : Type 0 where
  pub paired : length starts ≡ length ends
  pub each : (k : ℕ) → k < length starts → NameIn src s (get_or starts k 0) (get_or ends k 0)

-- the key, by a rule, of the cell that lies in s from `from` up to `upto` (§6.6)
abbrev pub key_at : Source → (rule : Dialect) → (s : Bytes) → (from upto : ℕ) → Bytes
key_at src rule s i j = name_key rule (content_by src (slice s i j))

-- the keys of the first n cells, the latest first
unfoldable pub keys_before : Source → (rule : Dialect) → (s : Bytes) → (starts ends : List ℕ) → (n : ℕ) → List Bytes
keys_before src rule s starts ends zero = []
keys_before src rule s starts ends (suc n) = key_at src rule s (get_or starts n 0) (get_or ends n 0) ∷ keys_before src rule s starts ends n

-- the check result for a repeated name, with the caller's fault
abbrev pub repeated_as : (ℕ → Fault) → Option ℕ → CheckResult
repeated_as fault None = Ok tt
repeated_as fault (Some n) = Err (fault n)
