-- Text with doubled quotes, a byte at a time.
use Rattle.std.specs.Prelude.{ℕ, ◌+◌, ◌-◌, ◌<◌, ◌≤◌, ◌≡◌, false, Option, Some, None, [], ◌∷◌, length, drop, get_or}
use Rattle.model.specs.rules.Base.{Bytes}
use Rattle.model.specs.rules.Decode.{undouble}

-- the text at i is the byte b and the text from next on; b is also the raw byte before next
pub record UndoubledThere (q : ℕ) (raw : Bytes) (i b next : ℕ) : Type 0 where
  pub stands : undouble q false (drop i raw) ≡ b ∷ undouble q false (drop next raw)
  pub on : i < next
  pub inside : next ≤ length raw
  pub last : get_or raw (next - 1) 0 ≡ b

-- the byte at i with the offset where the text continues, or none at the end of the text
abbrev pub UndoubledAt : ℕ → Bytes → ℕ → Option (ℕ × ℕ) → Type 0
UndoubledAt q raw i None = undouble q false (drop i raw) ≡ []
UndoubledAt q raw i (Some p) = UndoubledThere q raw i p.0 p.1

-- the text from `at` on is as long as the bytes from there up to `end` and the text from `end` on
pub record RunBefore (q : ℕ) (raw : Bytes) (at end : ℕ) : Type 0 where
  pub from : at ≤ end
  pub upto : at < end → end ≤ length raw
  pub counted : length (undouble q false (drop at raw)) ≡ (end - at) + length (undouble q false (drop end raw))
