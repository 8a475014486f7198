-- Laws of flags, over any test of a byte: a word whose bytes are flags is the test of all eight, and two such words combine into a third.
use Prim.Native.Nat.{ℕ, ◌+◌, ◌*◌, ◌<◌}
use native.Mathlib.Omega.{arith}
use mathlib.Core.Path.{◌≡◌, refl, sym, ◌∙◌}
use mathlib.Core.Bool.{Bool, true, false, not, ◌&&◌, ◌||◌}
use mathlib.Core.List.{[], ◌∷◌, map}
use lib.Bits.{bit_and, bit_xor}
use borrow.Author.Tests.{ne_eqb, eq-eqb, eqb-true, eqb-false}
use Rattle.model.proofs.Tests.{split, split_on}
use Rattle.model.specs.rules.Base.{Bytes, choose◌then◌else◌, ◌is◌}
use Rattle.swar.specs.Words.{word_of, bytes_of, flag_of, all_pass, Flags}
use Rattle.swar.proofs.Bytewise.{all_bytes, eight_times, same_bytes, Bytewise, and_bytes, xor_bytes}

none_exact : (passes : ℕ → Bool) (bs : Bytes) → (word_of (map (flag_of passes) bs) is 0) ≡ all_pass passes bs
unfolding word_of flag_of all_pass choose◌then◌else◌
none_exact passes [] = refl
none_exact passes (b ∷ bs) = go (passes b) (none_exact passes bs)
  where
    scaled : (n : ℕ) → ((0 + 0x100 * n) is 0) ≡ (n is 0)
    scaled n =
        split_on (n is 0) (λ t. let e = eqb-true n 0 t in eq-eqb (0 + 0x100 * n) 0 (omega arith) ∙ sym t)
        λ t. let e = eqb-false n 0 t in ne_eqb (0 + 0x100 * n) 0 (omega arith) ∙ sym t

    go : (t : Bool) → (word_of (map (flag_of passes) bs) is 0) ≡ all_pass passes bs
        → (((choose t then 0 else 0x80) + 0x100 * word_of (map (flag_of passes) bs)) is 0) ≡ (t && all_pass passes bs)
    go true ih = scaled (word_of (map (flag_of passes) bs)) ∙ ih
    go false ih = ne_eqb (0x80 + 0x100 * word_of (map (flag_of passes) bs)) 0 (omega arith)

pub flag_byte : (passes : ℕ → Bool) (b : ℕ) → flag_of passes b < 0x100
unfolding flag_of
flag_byte passes b = split (λ (n : ℕ). n < 0x100) _ (λ _. omega arith) λ _. omega arith

-- from the bytes to the word, and back
pub flags_from : {passes : ℕ → Bool} {w flags : ℕ} {f : ℕ → ℕ} → Bytewise (bytes_of 8 w) flags f
    → ((b : ℕ) → b < 0x100 → f b ≡ flag_of passes b) → Flags passes w flags
flags_from {passes} {w} {flags} {f} x same =
    let bytewise : flags ≡ word_of (map (flag_of passes) (bytes_of 8 w)) = x.word ∙ rw (same_bytes f (flag_of passes) same (all_bytes 8 w)) in
    record { bytewise = bytewise; exact = rw bytewise (none_exact passes (bytes_of 8 w)) }

flags_each : {passes : ℕ → Bool} {w flags : ℕ} → Flags passes w flags → Bytewise (bytes_of 8 w) flags (flag_of passes)
flags_each {passes} x = record { word = x.bytewise; byte = λ b h. flag_byte passes b }

pub flags_same : {t u : ℕ → Bool} {w flags : ℕ} → Flags t w flags → ((b : ℕ) → t b ≡ u b) → Flags u w flags
unfolding flag_of
flags_same {t} {u} x same = flags_from (flags_each x) λ b h. rw (same b)

-- a byte flagged in both words passes neither test
pub flags_both : {t u : ℕ → Bool} {w x y : ℕ} → Flags t w x → Flags u w y → Flags (λ b. t b || u b) w (bit_and x y)
unfolding flag_of choose◌then◌else◌
flags_both {t} {u} {w} a b = flags_from (and_bytes (all_bytes 8 w) (flags_each a) (flags_each b)) λ c h. byte c
  where
    bits : (p q : Bool) → bit_and (choose p then 0 else 0x80) (choose q then 0 else 0x80) ≡ (choose p || q then 0 else 0x80)
    bits true true = refl
    bits true false = refl
    bits false true = refl
    bits false false = refl

    byte : (c : ℕ) → bit_and (flag_of t c) (flag_of u c) ≡ flag_of (λ b. t b || u b) c
    byte c = bits (t c) (u c)

-- a byte that is not flagged passes
pub flags_other : {t : ℕ → Bool} {w x : ℕ} → Flags t w x → Flags (λ b. not (t b)) w (bit_xor x 0x8080808080808080)
unfolding flag_of choose◌then◌else◌
flags_other {t} {w} a = flags_from (xor_bytes (all_bytes 8 w) (flags_each a) (eight_times w 0x80 (omega arith))) λ c h. byte c
  where
    bits : (p : Bool) → bit_xor (choose p then 0 else 0x80) 0x80 ≡ (choose not p then 0 else 0x80)
    bits true = refl
    bits false = refl

    byte : (c : ℕ) → bit_xor (flag_of t c) 0x80 ≡ flag_of (λ b. not (t b)) c
    byte c = bits (t c)
