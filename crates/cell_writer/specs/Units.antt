-- The text of a unit of content, and what it begins with.
use Rattle.std.specs.Prelude.{Bool, false, [], ◌∷◌}
use Rattle.model.specs.declared.Dialect.{Dialect}
use Rattle.model.specs.declared.Dialect.TheVariants.{Csvj, Tdif, CsvPlus}
use Rattle.model.specs.rules.Base.{Bytes, QUOTE}
use Rattle.model.specs.rules.Dialect.{quote_of}
use Rattle.model.specs.rules.Utf8.{is_surrogate}
use Rattle.model.specs.rules.Text.{json_body, doubled}

-- content between the quotes of a text (§14.3 §14.4 §14.6 §14.7)
abbrev pub body_text : Dialect → Bytes → Bytes
body_text Csvj bs = json_body bs
body_text Tdif bs = doubled QUOTE bs
body_text (CsvPlus s) bs = doubled (quote_of (CsvPlus s)) bs

-- a unit is a lone surrogate
abbrev pub is_lone : Bytes → Bool
is_lone [] = false
is_lone (a ∷ []) = false
is_lone (a ∷ b ∷ []) = false
is_lone (a ∷ b ∷ c ∷ []) = is_surrogate a b
is_lone (a ∷ b ∷ c ∷ d ∷ bs) = false

-- content begins with a lone surrogate
abbrev pub begins_lone : Bytes → Bool
begins_lone [] = false
begins_lone (a ∷ []) = false
begins_lone (a ∷ b ∷ []) = false
begins_lone (a ∷ b ∷ c ∷ bs) = is_surrogate a b

-- the first two bytes of content are those of a lone surrogate
abbrev pub paired : Bytes → Bool
paired [] = false
paired (a ∷ []) = false
paired (a ∷ b ∷ bs) = is_surrogate a b
