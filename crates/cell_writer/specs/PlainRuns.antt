-- Runs of plain bytes, which are verbatim in source and target.
use Rattle.std.specs.Prelude.{ℕ, Bool, not, ◌&&◌, leb}
use Rattle.model.specs.rules.Base.{Bytes, ◌is◌, BACKSLASH}
use Rattle.swar.specs.Words.{passing}

-- a plain byte, in a source and a target whose quotes are among these three: at least 20 hex, no backslash, not ED hex, which may begin a
-- lone surrogate, and none of the three
unfoldable pub is_plain : (p q r b : ℕ) → Bool
is_plain p q r b = leb 0x20 b && not (b is BACKSLASH) && not (b is 0xED) && not (b is p) && not (b is q) && not (b is r)

-- the length of the longest prefix of plain bytes
unfoldable pub plain_run : (p q r : ℕ) → Bytes → ℕ
unfolding passing
plain_run p q r bs = passing (is_plain p q r) bs
