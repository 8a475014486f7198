-- A record one column at a time: the text of each cell with the delimiter before it, and whether the target can represent it.
use Rattle.std.specs.Prelude.{ℕ, zero, suc, Bool, false, not, ◌&&◌, [], ◌∷◌, ◌++◌}
use Rattle.model.specs.declared.Dialect.{Dialect}
use Rattle.model.specs.declared.Fault.TheVariants.{LacksKind, LoneSurrogate}
use Rattle.model.specs.declared.Kind.{Kind}
use Rattle.model.specs.rules.Types.{CheckResult}
use Rattle.model.specs.rules.Base.{Bytes}
use Rattle.model.specs.rules.Dialect.{is_csvj, delimiter_of}
use Rattle.model.specs.rules.Text.{Value, is_text, cell_text}
use Rattle.model.specs.rules.Utf8.{holds_lone}
use Rattle.model.specs.rules.Records.{◌or_else◌, when, has_kind}

-- what is written before the cell at place n: a delimiter, but nothing before the first (§14.1)
abbrev pub before_cell : Dialect → ℕ → Bytes
before_cell t zero = []
before_cell t (suc n) = delimiter_of t ∷ []

-- whether the cell at place n is the first of a header (§14.7)
abbrev pub is_first : ℕ → (header : Bool) → Bool
is_first zero header = header
is_first (suc n) header = false

-- the text of the cell at place n with the delimiter before it
abbrev pub column_text : Dialect → (n : ℕ) → (only header : Bool) → Value → Bytes
column_text t n only header v = before_cell t n ++ cell_text t only (is_first n header) v

-- the target's check of the cell in column n, by its kind and content (§8.3)
abbrev pub uncarried_cell : (target : Dialect) → (n : ℕ) → Kind → Bytes → CheckResult
uncarried_cell t n k content =
    when (not (has_kind t k)) (LacksKind n)
    or_else when (not (is_csvj t) && is_text k && holds_lone content) (LoneSurrogate n)
