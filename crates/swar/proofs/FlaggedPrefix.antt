-- Flags and the longest prefix that passes, over any test: a word without a flag extends it by eight bytes, and otherwise it ends before
-- the first flag.
use Prim.Native.Nat.{ℕ, suc, ◌+◌, ◌-◌, ◌≤◌, ◌<◌}
use native.Mathlib.Omega.{arith}
use mathlib.Core.Path.{◌≡◌, refl, sym, ap, ◌∙◌}
use mathlib.Core.Bool.{Bool, true, false, ◌&&◌}
use mathlib.Core.List.{[], ◌∷◌, ◌++◌, map}
use lib.ListN.{length, drop, length-map, take-append-drop}
use lib.Seq.{take-add, drop-drop}
use borrow.Author.Tests.{eq-eqb, ne_eqb}
use Rattle.model.specs.rules.Base.{Bytes, choose◌then◌else◌, ◌is◌}
use Rattle.model.specs.rules.Api.{slice}
use Rattle.model.proofs.Tests.{split, impossible}
use Rattle.swar.specs.Words.{word_of, bytes_of, Word, flag_of, all_pass, Flags, zero_bytes, passing}
use Rattle.swar.proofs.Bytewise.{AllBytes, no_bytes, and_byte, bytes_back}
use Rattle.swar.proofs.Flags.{flag_byte}

module _ (passes : ℕ → Bool) where
  flag_bytes : (bs : Bytes) → AllBytes (map (flag_of passes) bs)
  flag_bytes [] = no_bytes
  flag_bytes (b ∷ bs) = and_byte (flag_byte passes b) (flag_bytes bs)

  zeros_pass : (bs : Bytes) → zero_bytes (map (flag_of passes) bs) ≡ passing passes bs
  unfolding zero_bytes flag_of passing choose◌then◌else◌
  zeros_pass [] = refl
  zeros_pass (b ∷ bs) = go (passes b) (zeros_pass bs)
    where
      go : (t : Bool) → zero_bytes (map (flag_of passes) bs) ≡ passing passes bs
          → (choose (choose t then 0 else 0x80) is 0 then suc (zero_bytes (map (flag_of passes) bs)) else 0) ≡ (choose t then suc (passing passes bs) else 0)
      go true ih = ap suc ih
      go false ih = refl

  -- it is no longer than the list
  pub passing_short : (bs : Bytes) → passing passes bs ≤ length bs
  unfolding passing
  passing_short [] = omega arith
  passing_short (b ∷ bs) =
      let h : passing passes bs ≤ length bs = passing_short bs in
      split (λ (n : ℕ). n ≤ suc (length bs)) _ (λ _. omega arith) λ _. omega arith

  module _ (cs : Bytes) where
    -- it continues after bytes that all pass
    pub all_pass_lem : (bs : Bytes) → all_pass passes bs ≡ true → passing passes (bs ++ cs) ≡ length bs + passing passes cs
    unfolding all_pass passing choose◌then◌else◌
    all_pass_lem [] e = omega arith
    all_pass_lem (b ∷ bs) e = go (passes b) e (all_pass_lem bs)
      where
        go : (t : Bool) → (t && all_pass passes bs) ≡ true → (all_pass passes bs ≡ true → passing passes (bs ++ cs) ≡ length bs + passing passes cs)
            → (choose t then suc (passing passes (bs ++ cs)) else 0) ≡ suc (length bs) + passing passes cs
        go true h ih = let k = ih h in omega arith
        go false h ih = impossible h

    -- it ends among bytes that do not all pass
    some_pass : (bs : Bytes) → all_pass passes bs ≡ false → (passing passes (bs ++ cs) ≡ passing passes bs) × (passing passes bs < length bs)
    unfolding all_pass passing choose◌then◌else◌
    some_pass [] e = impossible (sym e)
    some_pass (b ∷ bs) e = go (passes b) e (some_pass bs)
      where
        go : (t : Bool) → (t && all_pass passes bs) ≡ false
            → (all_pass passes bs ≡ false → (passing passes (bs ++ cs) ≡ passing passes bs) × (passing passes bs < length bs))
            → ((choose t then suc (passing passes (bs ++ cs)) else 0) ≡ (choose t then suc (passing passes bs) else 0)) ×
            ((choose t then suc (passing passes bs) else 0) < suc (length bs))
        go true h ih = let k = ih h in let l : passing passes bs < length bs = k.1 in (ap suc k.0, omega arith)
        go false h ih = (refl, omega arith)

-- a word, its flags, and the bytes after it
module _ {passes : ℕ → Bool} {bs : Bytes} {w flags : ℕ} (is_word : Word bs w) (told : Flags passes w flags) (cs : Bytes) where
  eight : length bs ≡ 8
  unfolding bytes_of
  eight = ap length (sym is_word.bytes)

  flags_of : flags ≡ word_of (map (flag_of passes) bs)
  flags_of = told.bytewise ∙ rw is_word.bytes

  all_told : (flags is 0) ≡ all_pass passes bs
  all_told = told.exact ∙ rw is_word.bytes

  -- no flag: all eight pass
  pub word_passes : flags ≡ 0 → passing passes (bs ++ cs) ≡ 8 + passing passes cs
  word_passes e = all_pass_lem passes cs bs (sym all_told ∙ eq-eqb flags 0 e) ∙ rw eight

  -- a flag: the prefix ends before it
  pub word_stops : ¬ (flags ≡ 0) → (zero_bytes (bytes_of 8 flags) ≡ passing passes (bs ++ cs)) × (passing passes (bs ++ cs) < 8)
  word_stops e =
      let some : all_pass passes bs ≡ false = sym all_told ∙ ne_eqb flags 0 e in
      let l : length bs ≡ 8 = eight in
      let m : length (map (flag_of passes) bs) ≡ 8 = length-map bs (flag_of passes) ∙ l in
      let back : bytes_of 8 flags ≡ map (flag_of passes) bs = ap (bytes_of 8) flags_of ∙ rw m at (bytes_back (flag_bytes passes bs)) in
      let here = some_pass passes cs bs some in
      let ends : passing passes (bs ++ cs) ≡ passing passes bs = here.0 in
      let less : passing passes bs < length bs = here.1 in
      (ap zero_bytes back ∙ zeros_pass passes bs ∙ sym ends, omega arith)

-- ---- the word at i of a list, and the rest of the list up to `stop` or to its end

slice_word : (s : Bytes) (i stop : ℕ) → i + 8 ≤ stop → slice s i stop ≡ slice s i (i + 8) ++ slice s (i + 8) stop
slice_word s i stop h =
    let n : stop - i ≡ 8 + (stop - (i + 8)) = omega arith in
    let m : i + 8 - i ≡ 8 = omega arith in
    rw (n, m) (take-add 8 (stop - (i + 8)) (drop i s) ∙ rw drop-drop)

rest_word : (s : Bytes) (i : ℕ) → drop i s ≡ slice s i (i + 8) ++ drop (i + 8) s
rest_word s i = let m : i + 8 - i ≡ 8 = omega arith in sym (take-append-drop 8 (drop i s)) ∙ rw (m, drop-drop)

module _ {passes : ℕ → Bool} (s : Bytes) (i : ℕ) {w flags : ℕ} (is_word : Word (slice s i (i + 8)) w) (told : Flags passes w flags) where
  pub slice_passes : (stop : ℕ) → i + 8 ≤ stop → flags ≡ 0 → passing passes (slice s i stop) ≡ 8 + passing passes (slice s (i + 8) stop)
  slice_passes stop h e = rw (slice_word s i stop h) (word_passes is_word told (slice s (i + 8) stop) e)

  pub slice_stops : (stop : ℕ) → i + 8 ≤ stop → ¬ (flags ≡ 0)
      → (zero_bytes (bytes_of 8 flags) ≡ passing passes (slice s i stop)) × (passing passes (slice s i stop) < 8)
  slice_stops stop h e = rw (slice_word s i stop h) (word_stops is_word told (slice s (i + 8) stop) e)

  pub rest_passes : flags ≡ 0 → passing passes (drop i s) ≡ 8 + passing passes (drop (i + 8) s)
  rest_passes e = rw (rest_word s i) (word_passes is_word told (drop (i + 8) s) e)

  pub rest_stops : ¬ (flags ≡ 0) → (zero_bytes (bytes_of 8 flags) ≡ passing passes (drop i s)) × (passing passes (drop i s) < 8)
  rest_stops e = rw (rest_word s i) (word_stops is_word told (drop (i + 8) s) e)
