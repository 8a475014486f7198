-- Whether a byte is among others, by a byte and by a word.
use mathlib.Core.Path.{◌≡◌, refl, sym, ◌∙◌}
use mathlib.Core.Bool.{Bool, true, false, not}
use mathlib.Core.List.{[], ◌∷◌, ◌++◌}
use Prim.Native.Nat.{ℕ, suc, ◌+◌, ◌-◌, ◌≤◌, ◌<◌}
use native.Mathlib.Omega.{arith}
use lib.Bits.{bit_xor}
use lib.ListN.{length, drop, get_or, drop_of_length-le, take-append-drop}
use lib.Seq.{drop-drop}
use borrow.Author.Tests.{eq-eqb, ne_eqb}
use Rattle.model.specs.rules.Base.{Bytes, ◌is◌, holds, is_empty}
use Rattle.model.specs.rules.Api.{slice}
use Rattle.model.proofs.Tests.{split_on, impossible}
use Rattle.swar.specs.Words.{Word, Flags, is_byte, all_pass}
use Rattle.swar.proofs.Flags.{flags_other}
use Rattle.buffer.proofs.WriteProgress.{drop_next}
use Rattle.record_writer.specs.CleanCellText.{needs_quotes}

module _ (p : ℕ) where
  -- ---- bytes of which none is p, or some

  none_held : (bs cs : Bytes) → all_pass (λ b. not (is_byte p b)) bs ≡ true → holds (is_byte p) (bs ++ cs) ≡ holds (is_byte p) cs
  unfolding all_pass holds
  none_held [] cs e = refl
  none_held (b ∷ bs) cs e = split_on (b is p) (λ f. impossible (rw f at e)) λ f. rw f (none_held bs cs (rw f at e))

  some_held : (bs cs : Bytes) → all_pass (λ b. not (is_byte p b)) bs ≡ false → holds (is_byte p) (bs ++ cs) ≡ true
  unfolding all_pass holds
  some_held [] cs e = impossible (sym e)
  some_held (b ∷ bs) cs e = split_on (b is p) (λ f. rw f) λ f. rw f (some_held bs cs (rw f at e))

  module _ (bs : Bytes) (i : ℕ) where
    -- ---- a byte

    pub held_here : i < length bs → get_or bs i 0 ≡ p → holds (is_byte p) (drop i bs) ≡ true
    unfolding holds
    held_here h e = rw (drop_next bs i (i + 1) h refl, eq-eqb (get_or bs i 0) p e)

    pub held_on : i < length bs → (get_or bs i 0 ≡ p → ⊥) → holds (is_byte p) (drop i bs) ≡ holds (is_byte p) (drop (i + 1) bs)
    unfolding holds
    held_on h e = rw (drop_next bs i (i + 1) h refl, ne_eqb (get_or bs i 0) p e)

    pub held_end : length bs ≤ i → holds (is_byte p) (drop i bs) ≡ false
    unfolding holds
    held_end h = rw (drop_of_length-le bs h)

    -- ---- a word, of whose bytes each other than p is flagged

    module _ {w flags : ℕ} (is_word : Word (slice bs i (i + 8)) w) (told : Flags (is_byte p) w flags) where
      word_next : drop i bs ≡ slice bs i (i + 8) ++ drop (i + 8) bs
      word_next = let m : i + 8 - i ≡ 8 = omega arith in sym (take-append-drop 8 (drop i bs)) ∙ rw (m, drop-drop)

      other_told : (bit_xor flags 0x8080808080808080 is 0) ≡ all_pass (λ b. not (is_byte p b)) (slice bs i (i + 8))
      other_told = (flags_other told).exact ∙ rw is_word.bytes

      pub word_held : (bit_xor flags 0x8080808080808080 ≡ 0 → ⊥) → holds (is_byte p) (drop i bs) ≡ true
      word_held h = rw word_next (some_held (slice bs i (i + 8)) (drop (i + 8) bs) (sym other_told ∙ ne_eqb _ 0 h))

      pub word_on : bit_xor flags 0x8080808080808080 ≡ 0 → holds (is_byte p) (drop i bs) ≡ holds (is_byte p) (drop (i + 8) bs)
      word_on h = rw word_next (none_held (slice bs i (i + 8)) (drop (i + 8) bs) (sym other_told ∙ eq-eqb _ 0 h))

  -- ---- whether a content needs marks

  pub needs_held : (only : Bool) (bs : Bytes) → holds (is_byte p) bs ≡ true → needs_quotes p only bs ≡ true
  needs_held only bs e = rw e

  empty_by : (bs : Bytes) → is_empty bs ≡ (length bs is 0)
  empty_by [] = refl
  empty_by (b ∷ bs) = sym (ne_eqb (suc (length bs)) 0 (λ e. omega arith))

  pub needs_only : {only : Bool} (bs : Bytes) → holds (is_byte p) bs ≡ false → only ≡ true → needs_quotes p only bs ≡ (length bs is 0)
  needs_only bs e f = rw (e, f) (empty_by bs)

  pub needs_none : {only : Bool} (bs : Bytes) → holds (is_byte p) bs ≡ false → only ≡ false → needs_quotes p only bs ≡ false
  needs_none bs e f = rw (e, f)
