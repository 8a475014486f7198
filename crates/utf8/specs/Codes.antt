-- What the functions on code points return, also for numbers that are not code points.
use Rattle.std.specs.Prelude.{ℕ, ◌+◌, ◌*◌, ◌%◌, ◌≡◌, true, [], leb}
use Rattle.model.specs.rules.Base.{choose◌then◌else◌, Bytes}
use Rattle.model.specs.rules.Utf8.{pack, is_high, is_low, joined}

-- the bytes of a code point; a number above the last code point has none (§2.10)
unfoldable pub packed : ℕ → Bytes
packed u = choose leb u 0x10FFFF then pack u else []

-- ten bits of each number, plus 0x10000
abbrev pub ten_bits : ℕ → ℕ → ℕ
ten_bits high low = 0x10000 + high % 0x400 * 0x400 + low % 0x400

-- the code point of a surrogate pair; for any other numbers, ten bits of each (§2.8)
pub record Joins (high low r : ℕ) : Type 0 where
  pub bits : r ≡ ten_bits high low
  pub joins : is_high high ≡ true → is_low low ≡ true → r ≡ joined high low
