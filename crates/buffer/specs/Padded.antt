-- A short text in an array.
use Rattle.std.specs.Prelude.{ℕ, ◌-◌, ◌++◌, length, replicate}
use Rattle.model.specs.rules.Base.{Bytes}

-- a text in an array of n bytes, with zeros after it
abbrev pub padded : ℕ → Bytes → Bytes
padded n text = text ++ replicate (n - length text) 0
