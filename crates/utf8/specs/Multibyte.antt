-- Runs of whole non-ASCII characters (§2.11).
use Rattle.std.specs.Prelude.{ℕ, ◌≤◌, ◌<◌, ◌≡◌, Bool, true, ◌&&◌, [], ◌∷◌, leb, Option, Some, None, IfSome}
use Rattle.model.specs.declared.Char.{Char}
use Rattle.model.specs.declared.Char.TheVariants.{Whole}
use Rattle.model.specs.rules.Base.{Bytes}
use Rattle.model.specs.rules.Utf8.{char_step}
use Rattle.model.specs.rules.Api.{slice}

-- the automaton's state after these bytes
unfoldable pub chars_from : Char → Bytes → Option Char
chars_from c [] = Some c
chars_from c (b ∷ bs) = elim (char_step c b) [ Some c' ↦ chars_from c' bs | None ↦ None ]

-- no byte is ASCII
unfoldable pub all_high : Bytes → Bool
all_high [] = true
all_high (b ∷ bs) = leb 0x80 b && all_high bs

pub record WideText (bs : Bytes) : Type 0 where
  pub high : all_high bs ≡ true
  pub whole : chars_from Whole bs ≡ Some Whole

-- whole non-ASCII characters lie from `at` to r, and r is at most `stop`
pub record WideRun (s : Bytes) (at stop r : ℕ) : Type 0 where
  pub from : at ≤ r
  pub upto : r ≤ stop
  pub characters : WideText (slice s at r)

-- the end of the character at i, if it is whole, not ASCII and ends by `stop`
abbrev pub WideEnd : (s : Bytes) (i stop : ℕ) → Option ℕ → Type 0
WideEnd s i stop r = IfSome r (λ e. (i < e) × WideRun s i stop e)
