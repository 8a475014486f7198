-- Upper and lower case of names: what a code point is folded to, and a name folded one code point at a time. It is the fold that is
-- meant for TDIF (§4.10), where names are compared by `lower` of Records.antt so far: no call uses it yet.
use Rattle.std.specs.Prelude.{ℕ, ◌+◌, ◌-◌, ◌*◌, Bool, ◌&&◌, [], ◌∷◌, ◌++◌, leb}
use Rattle.model.specs.rules.Base.{choose◌then◌else◌, ◌is◌, within, Bytes}
use Rattle.model.specs.rules.Utf8.{pack, is_later}

-- a code point as names are compared: capital letters of Latin, Greek and Cyrillic as small ones, and the final sigma as a sigma
-- (§4.10)
unfoldable pub fold_point : ℕ → ℕ
fold_point u =
    choose within 0x41 0x5A u then u + 32
    else choose u is 0xD7 then u
    else choose within 0xC0 0xDE u then u + 32
    else choose u is 0x3A2 then u
    else choose within 0x391 0x3A9 u then u + 32
    else choose u is 0x3C2 then 0x3C3
    else choose within 0x400 0x40F u then u + 80
    else choose within 0x410 0x42F u then u + 32
    else u

-- two bytes that are a character (§2.11)
abbrev pub is_pair : ℕ → ℕ → Bool
is_pair a b = within 0xC2 0xDF a && is_later b

-- the code point of such a character (§2.10)
abbrev pub pair_point : ℕ → ℕ → ℕ
pair_point a b = (a - 0xC0) * 0x40 + (b - 0x80)

-- a byte that is no part of such a character: itself a character, or of a longer one, whose code point stays (§2.11 §4.10)
abbrev pub fold_byte : ℕ → ℕ
fold_byte b = choose leb b 0x7F then fold_point b else b

-- a name with each of its code points folded. Those that may change have one byte or two, and keep their number (§4.10)
unfoldable pub fold_name : Bytes → Bytes
fold_name [] = []
fold_name (a ∷ []) = fold_byte a ∷ []
fold_name (a ∷ b ∷ bs) =
    choose is_pair a b then pack (fold_point (pair_point a b)) ++ fold_name bs else fold_byte a ∷ fold_name (b ∷ bs)

-- helper: `unfolding names_compute` opens every definition of this module
unfoldable pub names_compute : Type 0
unfolding fold_point fold_name
names_compute = Unit {0}
