-- A buffer with a text written over it.
use Rattle.std.specs.Prelude.{ℕ, ◌+◌, ◌++◌, length, take, drop}
use Rattle.model.specs.rules.Base.{Bytes}

-- old with w over it from offset at
abbrev pub written : Bytes → ℕ → Bytes → Bytes
written old at w = take at old ++ (w ++ drop (at + length w) old)
