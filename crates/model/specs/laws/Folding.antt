-- Folding a name by Names.antt, which no call uses yet, as laws: one code point at a time, once for all, and byte for byte, as the code
-- goes; and what a table of folded code points has to be. They are proved in proofs/AllFolding.antt.
use Rattle.std.specs.Prelude.{ℕ, suc, ◌+◌, ◌<◌, ◌≤◌, ◌≡◌, Bool, true, ◌&&◌, List, [], ◌∷◌, map, length, get_or, T}
use Rattle.model.specs.rules.Base.{choose◌then◌else◌, ◌is◌, Bytes}
use Rattle.model.specs.rules.Utf8.{pack, packed, is_content}
use Rattle.model.specs.rules.Names.{fold_point, is_pair, pair_point, fold_byte, fold_name}
use Rattle.model.specs.laws.Laws.{All}

-- numbers that a code point can have, a surrogate's too (§2.6 §2.10)
abbrev pub Points : List ℕ → Type 0
Points us = All (λ (u : ℕ). u ≤ 0x10FFFF) us

-- bytes of content are code points one after another (§2.6 §2.10)
pub record PointsOf (bs : Bytes) : Type 0 where
  pub points : List ℕ
  pub known : Points points
  pub packs : bs ≡ packed points

-- the first byte of a code point that has two (§2.10)
abbrev pub first_of : ℕ → ℕ
first_of u = get_or (pack u) 0 0

-- the second one (§2.10)
abbrev pub second_of : ℕ → ℕ
second_of u = get_or (pack u) 1 0

-- a byte of a folded name, by the byte and its neighbours in the name (§4.10)
unfoldable pub fold_at : (before here after : ℕ) → ℕ
fold_at a b c =
    choose is_pair a b then second_of (fold_point (pair_point a b))
    else choose is_pair b c then first_of (fold_point (pair_point b c))
    else fold_byte b

-- the byte before a place, and none before the first (§4.10)
abbrev pub byte_before : Bytes → ℕ → ℕ
byte_before bs i = get_or (0 ∷ bs) i 0

-- ---- the table

-- what the entry of a table says of a code point, and that folding it again changes nothing (§4.10)
abbrev pub is_fold : (point entry : ℕ) → Bool
is_fold u x = x is fold_point u && fold_point x is x

-- the entries of a table from code point u on are all right: a test that computes, once for the whole table (§4.10)
abbrev pub folds_from : ℕ → List ℕ → Bool
folds_from u [] = true
folds_from u (x ∷ xs) = is_fold u x && folds_from (suc u) xs

-- a table of the code points up to U+04FF that follows the rule throughout (§4.10)
pub record FoldTable (table : List ℕ) : Type 0 where
  pub entries : length table ≡ 1280
  pub follows : (u : ℕ) → u < 1280 → get_or table u 0 ≡ fold_point u
  pub settles : (u : ℕ) → u < 1280 → fold_point (get_or table u 0) ≡ get_or table u 0

-- ---- laws

-- a name is folded one code point at a time, and what that comes to for each of its bytes (§4.10)
pub record FoldLaws : Type 0 where
  -- what names are made of: code points, and nothing else
  pub content_points : (bs : Bytes) → is_content bs ≡ true → PointsOf bs
  -- folding a name is folding each of its code points
  pub each_point : (us : List ℕ) → fold_name (packed us) ≡ packed (map fold_point us)
  -- no two lists of code points have the same bytes
  pub packed_apart : (us vs : List ℕ) → packed us ≡ packed vs → us ≡ vs
  -- so two names fold to the same exactly when their code points do
  pub same_name :
      (us vs : List ℕ)
      → (fold_name (packed us) ≡ fold_name (packed vs) → map fold_point us ≡ map fold_point vs)
      × (map fold_point us ≡ map fold_point vs → fold_name (packed us) ≡ fold_name (packed vs))
  -- folding twice is folding once
  pub point_twice : (u : ℕ) → fold_point (fold_point u) ≡ fold_point u
  pub twice : (bs : Bytes) → fold_name (fold_name bs) ≡ fold_name bs
  -- a folded name is as long as the name, byte for byte
  pub fold_length : (bs : Bytes) → length (fold_name bs) ≡ length bs
  pub fold_at_lem : (bs : Bytes) (i : ℕ) → get_or (fold_name bs) i 0 ≡ fold_at (byte_before bs i) (get_or bs i 0) (get_or bs (i + 1) 0)
  -- past the table every code point stays
  pub stays_above : (u : ℕ) → 0x500 ≤ u → fold_point u ≡ u
  -- a table that passes the test follows the rule throughout
  pub table : (xs : List ℕ) → length xs ≡ 1280 → T (folds_from 0 xs) → FoldTable xs
