-- Laws of the steps of a run, by a byte and by a word, and of the word test.
use mathlib.Core.Path.{◌≡◌, refl, sym, ap, ◌∙◌}
use mathlib.Core.Bool.{Bool, true, false, not, ◌&&◌, ◌||◌}
use mathlib.Core.List.{[], ◌∷◌}
use Prim.Native.Nat.{ℕ, ◌+◌, ◌≤◌, ◌<◌}
use native.Mathlib.Omega.{arith}
use lib.Bits.{bit_and, bit_xor}
use lib.Dec.{ltb, leb}
use lib.ListN.{length, drop, get_or, drop_of_length-le}
use borrow.Author.Tests.{le-leb, lt-leb, ltb-true, ltb-false}
use Rattle.model.specs.rules.Api.{slice}
use Rattle.model.specs.rules.Base.{Bytes, choose◌then◌else◌, ◌is◌, BACKSLASH}
use Rattle.model.proofs.Tests.{split_on}
use Rattle.swar.specs.Words.{bytes_of, Word, Flags, zero_bytes, is_byte, is_below}
use Rattle.swar.proofs.Flags.{flags_same, flags_both, flags_other}
use Rattle.swar.proofs.FlaggedPrefix.{rest_passes, rest_stops}
use Rattle.buffer.proofs.WriteProgress.{drop_next}
use Rattle.cell_writer.specs.PlainRuns.{is_plain, plain_run}

-- ---- the word test

not_either : (x y : Bool) → not (x || y) ≡ (not x && not y)
not_either true y = refl
not_either false y = refl

not_below : (n b : ℕ) → not (is_below n b) ≡ leb n b
not_below n b = split_on (ltb b n) (λ t. rw (t, lt-leb n b (ltb-true b n t))) λ t. rw (t, le-leb n b (ltb-false b n t))

and_again : (x y : Bool) → (x && y) ≡ (x && y && y)
and_again true true = refl
and_again true false = refl
and_again false y = refl

module _ (p q : ℕ) where
  plain_none : (b : ℕ) → not (is_below 0x20 b || is_byte BACKSLASH b || is_byte 0xED b || is_byte p b || is_byte q b) ≡ is_plain p q q b
  unfolding is_plain
  plain_none b = simp (not_either, not_below) (and_again (leb 0x20 b && not (b is BACKSLASH) && not (b is 0xED) && not (b is p)) (not (b is q)))

  -- a byte that each of these words flags is plain
  pub plain_flags : {w from_20 no_backslash no_ed no_first no_second : ℕ} → Flags (is_below 0x20) w from_20
      → Flags (is_byte BACKSLASH) w no_backslash → Flags (is_byte 0xED) w no_ed
      → Flags (is_byte p) w no_first → Flags (is_byte q) w no_second
      → Flags (is_plain p q q) w (bit_xor (bit_and (bit_and (bit_and (bit_and from_20 no_backslash) no_ed) no_first) no_second) 0x8080808080808080)
  plain_flags a b c d e = flags_same (flags_other (flags_both (flags_both (flags_both (flags_both a b) c) d) e)) plain_none

-- ---- equal quotes

plain_same : (p r b : ℕ) → is_plain p p r b ≡ is_plain p r r b
unfolding is_plain
plain_same p r b =
    let x : Bool = leb 0x20 b && not (b is BACKSLASH) && not (b is 0xED) in
    ap (λ (t : Bool). t && not (b is r)) (sym (and_again x (not (b is p)))) ∙ and_again (x && not (b is p)) (not (b is r))

pub same_run : (p r : ℕ) (bs : Bytes) → plain_run p p r bs ≡ plain_run p r r bs
unfolding plain_run
same_run p r [] = refl
same_run p r (b ∷ bs) = rw (plain_same p r b, same_run p r bs)

-- ---- a step

module _ (p q r : ℕ) (s : Bytes) (i : ℕ) where
  pub run_on : i < length s → is_plain p q r (get_or s i 0) ≡ true → i + plain_run p q r (drop i s) ≡ (i + 1) + plain_run p q r (drop (i + 1) s)
  unfolding plain_run choose◌then◌else◌
  run_on h e = rw (drop_next s i (i + 1) h refl, e) (omega arith)

  pub run_stops : i < length s → is_plain p q r (get_or s i 0) ≡ false → i + plain_run p q r (drop i s) ≡ i
  unfolding plain_run choose◌then◌else◌
  run_stops h e = rw (drop_next s i (i + 1) h refl, e) (omega arith)

  pub run_ends : length s ≤ i → i + plain_run p q r (drop i s) ≡ i
  unfolding plain_run
  run_ends h = rw (drop_of_length-le s h) (omega arith)

  -- the word at i, and its flags
  module _ {w flags : ℕ} (is_word : Word (slice s i (i + 8)) w) (told : Flags (is_plain p q r) w flags) where
    -- no flag: the run passes the word
    pub word_on : flags ≡ 0 → i + plain_run p q r (drop i s) ≡ (i + 8) + plain_run p q r (drop (i + 8) s)
    unfolding plain_run
    word_on e = let on = rest_passes s i is_word told e in omega arith

    -- a flag: the run ends before it
    pub word_ends : ¬ (flags ≡ 0) → (zero_bytes (bytes_of 8 flags) ≡ plain_run p q r (drop i s)) × (plain_run p q r (drop i s) < 8)
    unfolding plain_run
    word_ends e = rest_stops s i is_word told e
