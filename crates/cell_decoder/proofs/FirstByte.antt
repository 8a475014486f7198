-- The encoding that the first byte determines yields the definition's content of the cell.
use mathlib.Core.Path.{◌≡◌, refl, ap, ◌∙◌}
use mathlib.Core.Bool.{Bool, true, false, ◌||◌}
use mathlib.Core.List.{[], ◌∷◌}
use lib.ListN.{get_or}
use Prim.Native.Nat.{ℕ}
use borrow.Author.Tests.{eq-eqb, ne_eqb}
use Rattle.model.specs.declared.Settings.{Settings}
use Rattle.model.specs.declared.Dialect.{Dialect}
use Rattle.model.specs.declared.Dialect.TheVariants.{Csvj, Tdif, CsvPlus}
use Rattle.model.specs.rules.Base.{choose◌then◌else◌, ◌is◌, Bytes, QUOTE}
use Rattle.model.specs.rules.Dialect.{quote_of}
use Rattle.model.specs.rules.Decode.{content_of, undouble, between, units, text_of}
use Rattle.model.specs.rules.Cell.{is_digit}
use Rattle.model.proofs.Tests.{split}
use Rattle.cell_decoder.specs.declared.first_byte.Spelling.{Spelling}
use Rattle.cell_decoder.specs.declared.first_byte.Spelling.TheVariants.{Nothing, AsItStands, Doubled, Escaped}
use Rattle.cell_decoder.specs.FirstByte.{spelling_by, content_in}

plus_none : (s : Settings) → content_in (spelling_by (CsvPlus s) 0) [] ≡ []
unfolding spelling_by undouble
plus_none s = split (λ (k : Spelling). content_in k [] ≡ []) (0 is quote_of (CsvPlus s)) (λ _. refl) λ _. refl

-- a choice of encodings, by a test
in_choice : (t : Bool) (x y : Spelling) (raw : Bytes) → content_in (choose t then x else y) raw ≡ (choose t then content_in x raw else content_in y raw)
unfolding choose◌then◌else◌
in_choice true x y raw = refl
in_choice false x y raw = refl

pub content_first : (d : Dialect) (raw : Bytes) → content_in (spelling_by d (get_or raw 0 0)) raw ≡ content_of d raw
unfolding spelling_by content_of choose◌then◌else◌
content_first Csvj [] = refl
content_first Csvj (b ∷ bs) =
    in_choice (b is QUOTE) Escaped (choose b is 0x2D || is_digit b then AsItStands else Nothing) (b ∷ bs)
    ∙ ap (λ (l : Bytes). choose b is QUOTE then text_of (units between bs) else l) (in_choice (b is 0x2D || is_digit b) AsItStands Nothing (b ∷ bs))
content_first Tdif [] = refl
content_first Tdif (b ∷ bs) = in_choice (b is QUOTE) (Doubled QUOTE) Nothing (b ∷ bs)
content_first (CsvPlus s) [] = plus_none s
content_first (CsvPlus s) (b ∷ bs) = in_choice (b is quote_of (CsvPlus s)) (Doubled (quote_of (CsvPlus s))) AsItStands (b ∷ bs)

-- the encoding in TDIF and CSV+: after the dialect's own quote, and otherwise
pub quoted_first : (d : Dialect) (b : ℕ) → (d ≡ Csvj → ⊥) → b ≡ quote_of d → spelling_by d b ≡ Doubled (quote_of d)
unfolding spelling_by choose◌then◌else◌
quoted_first Csvj b n e = absurd (n refl)
quoted_first Tdif b n e = rw (eq-eqb b QUOTE e)
quoted_first (CsvPlus s) b n e = rw (eq-eqb b (quote_of (CsvPlus s)) e)

pub other_tdif : (d : Dialect) (q b : ℕ) → d ≡ Tdif → (b ≡ q → ⊥) → q ≡ quote_of d → Nothing ≡ spelling_by d b
unfolding spelling_by choose◌then◌else◌
other_tdif d q b e n f = rw (e, ne_eqb b QUOTE (rw (f, e) at n))

pub other_plus : (d : Dialect) (s : Settings) (q b : ℕ) → d ≡ CsvPlus s → (b ≡ q → ⊥) → q ≡ quote_of d → AsItStands ≡ spelling_by d b
unfolding spelling_by choose◌then◌else◌
other_plus d s q b e n f = rw (e, ne_eqb b (quote_of (CsvPlus s)) (rw (f, e) at n))
