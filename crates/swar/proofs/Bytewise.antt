-- Words as lists of bytes. An operation on two words in which no byte leaves the range below 100 hex is done on each byte alone:
-- `Bytewise` states it of a number, with one law for each operation.
use Prim.Native.Nat.{ℕ, zero, suc, ◌+◌, ◌*◌, ◌-◌, ◌/◌, ◌%◌, ◌^◌, ◌≤◌, ◌<◌}
use native.Mathlib.Omega.{arith}
use mathlib.Core.Path.{◌≡◌, refl, sym, ap, ap₂, ◌∙◌}
use mathlib.Core.List.{[], ◌∷◌, map}
use lib.ListN.{length}
use lib.Bits.{bit_and, bit_or, bit_xor, and_block, or_block, xor_block, and_lt, or_lt, xor_lt}
use Rattle.model.specs.rules.Base.{Bytes}
use Rattle.swar.specs.Words.{ONES, word_of, bytes_of}

-- ---- bytes and the number that they form

pub data AllBytes : Bytes → Type 0 where
  no_bytes : AllBytes []
  and_byte : {b : ℕ} {bs : Bytes} → b < 0x100 → AllBytes bs → AllBytes (b ∷ bs)

pub bytes_back : {bs : Bytes} → AllBytes bs → bytes_of (length bs) (word_of bs) ≡ bs
unfolding word_of bytes_of
bytes_back no_bytes = refl
bytes_back (and_byte {b} {bs} h hs) =
    let low : (b + 0x100 * word_of bs) % 0x100 ≡ b = omega arith in
    let high : (b + 0x100 * word_of bs) / 0x100 ≡ word_of bs = omega arith in
    rw (low, high) (ap (λ (l : Bytes). b ∷ l) (bytes_back hs))

pub word_back : (n w : ℕ) → w < 0x100 ^ n → word_of (bytes_of n w) ≡ w
unfolding word_of bytes_of
word_back zero w h = omega arith
word_back (suc n) w h =
    let back : word_of (bytes_of n (w / 0x100)) ≡ w / 0x100 = word_back n (w / 0x100) (omega arith) in
    rw back (omega arith)

pub all_bytes : (n w : ℕ) → AllBytes (bytes_of n w)
unfolding bytes_of
all_bytes zero w = no_bytes
all_bytes (suc n) w = let h : w % 0x100 < 0x100 = omega arith in and_byte h (all_bytes n (w / 0x100))

-- ---- operations on each byte

pub record Bytewise (bs : Bytes) (w : ℕ) (f : ℕ → ℕ) : Type 0 where
  pub word : w ≡ word_of (map f bs)
  pub byte : (b : ℕ) → b < 0x100 → f b < 0x100

-- the bytes of a word, and one byte repeated eight times
pub itself : (w : ℕ) → w < 0x100 ^ 8 → Bytewise (bytes_of 8 w) w (λ b. b)
unfolding bytes_of
itself w h = record { word = sym (word_back 8 w h); byte = λ b k. k }

pub eight_times : (w c : ℕ) → c < 0x100 → Bytewise (bytes_of 8 w) (c * ONES) (λ b. c)
unfolding bytes_of word_of
eight_times w c k = record { word = omega arith; byte = λ b l. k }

pub same_bytes : (f g : ℕ → ℕ) → ((b : ℕ) → b < 0x100 → f b ≡ g b) → {bs : Bytes} → AllBytes bs → map f bs ≡ map g bs
same_bytes f g e no_bytes = refl
same_bytes f g e (and_byte {b} {bs} h hs) = λ i. e b h i ∷ same_bytes f g e hs i

sums : (f g : ℕ → ℕ) (bs : Bytes) → word_of (map f bs) + word_of (map g bs) ≡ word_of (map (λ b. f b + g b) bs)
unfolding word_of
sums f g [] = refl
sums f g (b ∷ bs) = let ih = sums f g bs in omega arith

module _ (op : ℕ → ℕ → ℕ) (at_zero : op 0 0 ≡ 0)
    (block : (k a b r s : ℕ) → r < 2 ^ k → s < 2 ^ k → op (a * 2 ^ k + r) (b * 2 ^ k + s) ≡ op a b * 2 ^ k + op r s)
    (bound : (k a b : ℕ) → a < 2 ^ k → b < 2 ^ k → op a b < 2 ^ k) where
  on_bytes : (f g : ℕ → ℕ) → ((b : ℕ) → b < 0x100 → f b < 0x100) → ((b : ℕ) → b < 0x100 → g b < 0x100)
      → {bs : Bytes} → AllBytes bs → op (word_of (map f bs)) (word_of (map g bs)) ≡ word_of (map (λ b. op (f b) (g b)) bs)
  unfolding word_of
  on_bytes f g hf hg no_bytes = at_zero
  on_bytes f g hf hg (and_byte {b} {bs} h hs) =
      let F = word_of (map f bs) in
      let G = word_of (map g bs) in
      let left : f b + 0x100 * F ≡ F * 2 ^ 8 + f b = omega arith in
      let right : g b + 0x100 * G ≡ G * 2 ^ 8 + g b = omega arith in
      let ih : op F G ≡ word_of (map (λ c. op (f c) (g c)) bs) = on_bytes f g hf hg hs in
      let both : op F G * 2 ^ 8 + op (f b) (g b) ≡ op (f b) (g b) + 0x100 * word_of (map (λ c. op (f c) (g c)) bs) = omega arith in
      ap₂ op left right ∙ block 8 F G (f b) (g b) (hf b h) (hg b h) ∙ both

  bytewise : {bs : Bytes} {v w : ℕ} {f g : ℕ → ℕ} → AllBytes bs → Bytewise bs v f → Bytewise bs w g → Bytewise bs (op v w) (λ b. op (f b) (g b))
  bytewise {bs} {v} {w} {f} {g} hs x y =
      record { word = ap₂ op x.word y.word ∙ on_bytes f g x.byte y.byte hs; byte = λ b h. bound 8 (f b) (g b) (x.byte b h) (y.byte b h) }

pub and_bytes : {bs : Bytes} {v w : ℕ} {f g : ℕ → ℕ} → AllBytes bs → Bytewise bs v f → Bytewise bs w g → Bytewise bs (bit_and v w) (λ b. bit_and (f b) (g b))
and_bytes = bytewise bit_and refl and_block and_lt

pub or_bytes : {bs : Bytes} {v w : ℕ} {f g : ℕ → ℕ} → AllBytes bs → Bytewise bs v f → Bytewise bs w g → Bytewise bs (bit_or v w) (λ b. bit_or (f b) (g b))
or_bytes = bytewise bit_or refl or_block or_lt

pub xor_bytes : {bs : Bytes} {v w : ℕ} {f g : ℕ → ℕ} → AllBytes bs → Bytewise bs v f → Bytewise bs w g → Bytewise bs (bit_xor v w) (λ b. bit_xor (f b) (g b))
xor_bytes = bytewise bit_xor refl xor_block xor_lt

-- no sum carries
pub add_bytes : {bs : Bytes} {v w : ℕ} {f g : ℕ → ℕ} → Bytewise bs v f → Bytewise bs w g
    → ((b : ℕ) → b < 0x100 → f b + g b < 0x100) → Bytewise bs (v + w) (λ b. f b + g b)
add_bytes {bs} {v} {w} {f} {g} x y fits = record { word = ap₂ ◌+◌ x.word y.word ∙ sums f g bs; byte = fits }

differences : (f g : ℕ → ℕ) → ((b : ℕ) → b < 0x100 → g b ≤ f b) → {bs : Bytes} → AllBytes bs
    → word_of (map (λ b. f b - g b) bs) + word_of (map g bs) ≡ word_of (map f bs)
unfolding word_of
differences f g le no_bytes = refl
differences f g le (and_byte {b} {bs} h hs) =
    let ih : word_of (map (λ b. f b - g b) bs) + word_of (map g bs) ≡ word_of (map f bs) = differences f g le hs in
    let k : g b ≤ f b = le b h in
    omega arith

-- no difference borrows
pub sub_bytes : {bs : Bytes} {v w : ℕ} {f g : ℕ → ℕ} → AllBytes bs → Bytewise bs v f → Bytewise bs w g
    → ((b : ℕ) → b < 0x100 → g b ≤ f b) → Bytewise bs (v - w) (λ b. f b - g b)
sub_bytes {bs} {v} {w} {f} {g} hs x y le =
    let e : word_of (map (λ b. f b - g b) bs) + word_of (map g bs) ≡ word_of (map f bs) = differences f g le hs in
    let a : v ≡ word_of (map f bs) = x.word in
    let c : w ≡ word_of (map g bs) = y.word in
    record { word = omega arith; byte = λ b h. less b (x.byte b h) }
  where
    less : (b : ℕ) → f b < 0x100 → f b - g b < 0x100
    less b h = omega arith
