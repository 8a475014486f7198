-- The letters A to Z, and what else has one byte; and a folded byte by what its neighbours are.
-- Assumes nothing.
use mathlib.Core.Path.{◌≡◌, ◌∙◌}
use mathlib.Core.Bool.{true, false, and-false}
use mathlib.Core.List.{List}
use Prim.Native.Nat.{ℕ, ◌+◌, ◌<◌, ◌≤◌}
use native.Mathlib.Omega.{arith}
use lib.ListN.{get_or}
use lib.Dec.{leb}
use borrow.Author.Tests.{ne_eqb, le-leb, lt-leb, leb-true, leb-false}
use Rattle.model.specs.rules.Base.{choose◌then◌else◌, within}
use Rattle.model.specs.rules.Names.{fold_point, is_pair, pair_point, fold_byte, fold_name}
use Rattle.model.specs.laws.Folding.{first_of, second_of, fold_at, byte_before}
use Rattle.model.proofs.Tests.{split_on}
use Rattle.model.proofs.name_laws.Folding.{small_stays, latin, byte_stays, fold_at_lem}

below : (lo hi u : ℕ) → u < lo → within lo hi u ≡ false
below lo hi u h = rw (lt-leb lo u h)

pub low_stays : (u : ℕ) → u < 0x41 → fold_byte u ≡ u
unfolding fold_point choose◌then◌else◌
low_stays u h =
    rw (
      le-leb u 0x7F (omega arith),
      below 0x41 0x5A u h,
      ne_eqb u 0xD7 (λ e. omega arith),
      below 0xC0 0xDE u (omega arith),
      ne_eqb u 0x3A2 (λ e. omega arith),
      below 0x391 0x3A9 u (omega arith),
      ne_eqb u 0x3C2 (λ e. omega arith),
      below 0x400 0x40F u (omega arith),
      below 0x410 0x42F u (omega arith),
    )

pub letter_falls : (u : ℕ) → 0x41 ≤ u → u ≤ 0x5A → fold_byte u ≡ u + 0x20
unfolding fold_point choose◌then◌else◌
letter_falls u h k = rw (le-leb u 0x7F (omega arith), le-leb 0x41 u h, le-leb u 0x5A k)

pub high_stays : (u : ℕ) → 0x5A < u → fold_byte u ≡ u
unfolding choose◌then◌else◌
high_stays u h =
    split_on (leb u 0x7F) (λ p. let k : u ≤ 0x7F = leb-true u 0x7F p in rw p (small_stays u (latin h (omega arith)))) λ p. byte_stays u (leb-false u 0x7F p)

-- ---- a byte and its neighbours

module _ (a b c : ℕ) where
  pub at_second : is_pair a b ≡ true → fold_at a b c ≡ second_of (fold_point (pair_point a b))
  unfolding fold_at choose◌then◌else◌
  at_second e = rw e

  pub at_first : is_pair a b ≡ false → is_pair b c ≡ true → fold_at a b c ≡ first_of (fold_point (pair_point b c))
  unfolding fold_at choose◌then◌else◌
  at_first e k = rw (e, k)

  pub at_alone : is_pair a b ≡ false → is_pair b c ≡ false → fold_at a b c ≡ fold_byte b
  unfolding fold_at choose◌then◌else◌
  at_alone e k = rw (e, k)

-- ---- bytes of ASCII

-- an ASCII byte folds by itself, whatever its neighbours
pub ascii_at : (s : List ℕ) (i : ℕ) → get_or s i 0 ≤ 0x7F → get_or (fold_name s) i 0 ≡ fold_byte (get_or s i 0)
ascii_at s i h =
    let b = get_or s i 0 in
    let c = get_or s (i + 1) 0 in
    let no_second : is_pair (byte_before s i) b ≡ false = rw (below 0x80 0xBF b (omega (arith, h))) (and-false (within 0xC2 0xDF (byte_before s i))) in
    let no_first : is_pair b c ≡ false = rw (below 0xC2 0xDF b (omega (arith, h))) in
    fold_at_lem s i ∙ at_alone (byte_before s i) b c no_second no_first
