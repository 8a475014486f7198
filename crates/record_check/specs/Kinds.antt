-- The kinds of a header's cells, by their numbers.
use Rattle.std.specs.Prelude.{ℕ, suc, not, List, [], ◌∷◌, Ok}
use Rattle.model.specs.declared.Fault.TheVariants.{HeaderKind}
use Rattle.model.specs.rules.Types.{CheckResult}
use Rattle.model.specs.rules.Text.{is_text}
use Rattle.model.specs.rules.Records.{◌or_else◌, when}
use Rattle.cell_decoder.specs.Sources.{kind_from}

-- the first cell, from column n on, whose number is not that of text (§6.7)
unfoldable pub not_text_from : (n : ℕ) → (kinds : List ℕ) → CheckResult
not_text_from n [] = Ok tt
not_text_from n (k ∷ kinds) = when (not (is_text (kind_from k))) (HeaderKind n) or_else not_text_from (suc n) kinds
