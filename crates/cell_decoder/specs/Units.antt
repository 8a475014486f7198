-- Content a unit at a time: a byte, a character of more than one byte, or a lone surrogate.
use Rattle.std.specs.Prelude.{ℕ, ◌≤◌, ◌≡◌, [], ◌∷◌}
use Rattle.model.specs.rules.Base.{Bytes}

-- the first byte of a character of two or four bytes
pub record Lead (a : ℕ) : Type 0 where
  pub least : 0x80 ≤ a
  pub other : a ≡ 0xED → ⊥

-- a byte after the first of a character
pub record Later (b : ℕ) : Type 0 where
  pub least : 0x80 ≤ b
  pub most : b ≤ 0xBF

-- a unit of content; a character of three bytes may be a lone surrogate
pub data Unit : Bytes → Type 0 where
  one : (b : ℕ) → Unit (b ∷ [])
  two : (a b : ℕ) → Lead a → Later b → Unit (a ∷ b ∷ [])
  three : (a b c : ℕ) → 0x80 ≤ a → Later b → Later c → Unit (a ∷ b ∷ c ∷ [])
  four : (a b c d : ℕ) → Lead a → Later b → Later c → Later d → Unit (a ∷ b ∷ c ∷ d ∷ [])
