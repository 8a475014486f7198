-- Ranges of bytes as the grammars write them, and the tests that model makes of a byte.
use Prim.Native.Nat.{ℕ, ◌≤◌, ◌<◌}
use mathlib.Core.Path.{◌≡◌, refl}
use mathlib.Core.Bool.{Bool, true, false, ◌&&◌}
use lib.Dec.{leb}
use borrow.Author.Tests.{le-leb, lt-leb}
use Rattle.model.specs.rules.Base.{within}
use Rattle.model.proofs.Tests.{within_true}
use Rattle.grammar.specs.rfc.Rfc5234.{◌from◌to◌}

pub range : {b lo hi : ℕ} → lo ≤ b → b ≤ hi → b from lo to hi
range h k = record { low = h; high = k }

-- the test holds exactly in the range
pub within_range : (lo hi b : ℕ) → within lo hi b ≡ true → b from lo to hi
within_range lo hi b e = let w = within_true lo hi b e in range w.0 w.1

pub range_within : {b lo hi : ℕ} → b from lo to hi → within lo hi b ≡ true
range_within {b} {lo} {hi} r = rw (le-leb lo b r.low, le-leb b hi r.high)

pub below_within : (lo hi b : ℕ) → b < lo → within lo hi b ≡ false
below_within lo hi b h = rw (lt-leb lo b h)

pub above_within : (lo hi b : ℕ) → hi < b → within lo hi b ≡ false
above_within lo hi b h = go (leb lo b)
  where
    go : (t : Bool) → (t && leb b hi) ≡ false
    go true = rw (lt-leb b hi h)
    go false = refl
