-- A CSVJ line's terminator is of two bytes at most, and ends with LF. What rests on these two laws stands in other files, so that a
-- terminator that is widened is refused here, at the law of that name.
use Prim.Native.Nat.{ℕ, ◌≤◌}
use native.Mathlib.Omega.{arith}
use mathlib.Core.Path.{◌≡◌, refl}
use mathlib.Core.List.{[], ◌∷◌, ◌++◌}
use lib.ListN.{length}
use Rattle.model.specs.rules.Base.{Bytes}
use Rattle.grammar.specs.rfc.Rfc5234.{LF}
use Rattle.grammar.specs.dialects.Csvj as csvj

-- a terminator has two bytes at most
pub terminator_short : {es : Bytes} → csvj.Line-terminator es → length es ≤ 2
terminator_short csvj.lf = omega arith
terminator_short csvj.crlf = omega arith

-- the last byte, or b where there is none
unfoldable pub last_of : ℕ → Bytes → ℕ
last_of b [] = b
last_of b (c ∷ cs) = last_of c cs

-- a terminator's last byte is LF, whatever byte is before it
pub terminator_last : {es : Bytes} (b : ℕ) → csvj.Line-terminator es → last_of b es ≡ LF
unfolding last_of
terminator_last b csvj.lf = refl
terminator_last b csvj.crlf = refl

-- the last byte of two parts, one after the other
pub last_on : (b : ℕ) (xs ys : Bytes) → last_of b (xs ++ ys) ≡ last_of (last_of b xs) ys
unfolding last_of
last_on b [] ys = refl
last_on b (c ∷ cs) ys = last_on c cs ys
