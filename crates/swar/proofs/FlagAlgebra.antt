-- Words that have the outcome of a test in the top bit of each byte. The disjunction of two has both outcomes, and masking with 80 hex
-- leaves the flags.
use Prim.Native.Nat.{ℕ, ◌*◌, ◌%◌, ◌^◌, ◌≤◌, ◌<◌, max}
use native.Mathlib.Omega.{arith}
use mathlib.Core.Path.{◌≡◌, refl, ap, ◌∙◌}
use mathlib.Core.Bool.{Bool, true, false, ◌&&◌}
use lib.Dec.{ltb}
use lib.Bits.{bit_and, bit_or, and_high}
use borrow.Author.Tests.{ltb-true, ltb-false}
use Rattle.model.specs.rules.Base.{choose◌then◌else◌}
use Rattle.swar.specs.Words.{bytes_of, flag_of, Flags}
use Rattle.swar.proofs.Bytewise.{all_bytes, itself, eight_times, Bytewise, and_bytes, or_bytes}
use Rattle.swar.proofs.TopDigit.{Top, or_top}
use Rattle.swar.proofs.Flags.{flags_from}

unfoldable pub digit_of : Bool → ℕ
digit_of t = choose t then 0 else 1

-- the top bit of each byte is 1 where the byte does not pass
pub record FlagsBytes (w x : ℕ) (passes : ℕ → Bool) : Type 0 where
  pub each : ℕ → ℕ
  pub word : Bytewise (bytes_of 8 w) x each
  pub told : (b : ℕ) → b < 0x100 → Top (each b) (digit_of (passes b))

both : (s t : Bool) → max (digit_of s) (digit_of t) ≡ digit_of (s && t)
unfolding digit_of choose◌then◌else◌
both true true = refl
both true false = refl
both false true = refl
both false false = refl

pub flag_both : {w x y : ℕ} {t u : ℕ → Bool} → FlagsBytes w x t → FlagsBytes w y u → FlagsBytes w (bit_or x y) (λ b. t b && u b)
flag_both {w} {x} {y} {t} {u} a c =
    record {
      each = λ b. bit_or (a.each b) (c.each b);
      word = or_bytes (all_bytes 8 w) a.word c.word;
      told = λ b h. rw (← both (t b) (u b)) (or_top (a.told b h) (c.told b h));
    }

flag_digit : (t : Bool) → digit_of t % 2 * 0x80 ≡ (choose t then 0 else 0x80)
unfolding digit_of choose◌then◌else◌
flag_digit true = refl
flag_digit false = refl

pub flag_flags : {w x : ℕ} {t : ℕ → Bool} → FlagsBytes w x t → Flags t w (bit_and x 0x8080808080808080)
unfolding flag_of
flag_flags {w} {x} {t} a =
    flags_from (and_bytes (all_bytes 8 w) a.word (eight_times w 0x80 (omega arith)))
    λ b h. and_high (a.each b) 1 7 ∙ ap (λ (n : ℕ). n % 2 * 0x80) (a.told b h).digit ∙ flag_digit (t b)

pub top_by : (n : ℕ) (t : Bool) → n < 0x100 → (t ≡ true → n < 0x80) → (t ≡ false → 0x80 ≤ n) → Top n (digit_of t)
unfolding digit_of choose◌then◌else◌
top_by n true h f g = let k = f refl in record { byte = h; digit = omega arith }
top_by n false h f g = let k = g refl in record { byte = h; digit = omega arith }

pub flag_ascii : (w : ℕ) → w < 0x100 ^ 8 → FlagsBytes w w (λ b. ltb b 0x80)
flag_ascii w h = record { each = λ b. b; word = itself w h; told = λ b l. top_by b (ltb b 0x80) l (ltb-true b 0x80) (ltb-false b 0x80) }
