-- A key is the name with each byte folded, so two keys can be compared byte by byte.
use mathlib.Core.Path.{◌≡◌, refl, sym, ap, ◌∙◌}
use mathlib.Core.Bool.{Bool, true, false, ◌&&◌, and-false}
use mathlib.Core.List.{List, [], ◌∷◌, map}
use Prim.Native.Nat.{ℕ, zero, suc, ◌-◌, ◌<◌, ◌≤◌}
use native.Mathlib.Omega.{arith}
use lib.ListN.{length, get_or, length-map}
use lib.Dec.{eqb}
use Rattle.std.specs.List.{list_all, zip}
use Rattle.model.specs.declared.Dialect.{Dialect}
use Rattle.model.specs.declared.Dialect.TheVariants.{Csvj, Tdif, CsvPlus}
use Rattle.model.specs.rules.Base.{choose◌then◌else◌, Bytes, same}
use Rattle.model.specs.rules.Records.{lower, name_key, among}
use Rattle.model.specs.rules.Report.{MAXRECORD}
use Rattle.model.specs.declared.Kind.{Kind}
use Rattle.cell_decoder.specs.declared.source.Source.{Source}
use Rattle.cell_decoder.specs.declared.source.Source.TheVariants.{File}
use Rattle.cell_decoder.specs.Sources.{Encoded, in_file, as_content, Cells}
use Rattle.record_check.specs.Keys.{folded, Short, NamesIn, key_at, keys_before}
use Rattle.record_check.specs.Keys as names

-- the key is the name with each byte folded
pub key_folds : (d : Dialect) (bs : Bytes) → name_key d bs ≡ map (folded d) bs
unfolding name_key
key_folds Csvj [] = refl
key_folds Csvj (b ∷ bs) = ap (λ (l : Bytes). b ∷ l) (key_folds Csvj bs)
key_folds Tdif [] = refl
key_folds Tdif (b ∷ bs) = ap (λ (l : Bytes). lower b ∷ l) (key_folds Tdif bs)
key_folds (CsvPlus s) [] = refl
key_folds (CsvPlus s) (b ∷ bs) = ap (λ (l : Bytes). b ∷ l) (key_folds (CsvPlus s) bs)

-- a key is as long as its name
pub key_length : (d : Dialect) (bs : Bytes) → length (name_key d bs) ≡ length bs
key_length d bs = ap length (key_folds d bs) ∙ length-map bs (folded d)

-- ---- two keys

-- lists of different lengths are different
pub same_lengths : (a b : Bytes) → (length a ≡ length b → ⊥) → same a b ≡ false
unfolding same
same_lengths [] [] h = absurd (h refl)
same_lengths [] (y ∷ b) h = refl
same_lengths (x ∷ a) [] h = refl
same_lengths (x ∷ a) (y ∷ b) h = rw (same_lengths a b (λ e. h (omega arith))) (and-false (eqb x y))

module _ (rule : Dialect) (a b : Bytes) where
  -- names of different lengths are different
  pub different_lengths : (length a ≡ length b → ⊥) → same (name_key rule a) (name_key rule b) ≡ false
  different_lengths h = same_lengths (name_key rule a) (name_key rule b) (λ e. h (sym (key_length rule a) ∙ e ∙ key_length rule b))

  -- and those of one length the same where each two bytes are
  pub same_pairs : length a ≡ length b → list_all (λ (p : ℕ × ℕ). eqb (folded rule p.0) (folded rule p.1)) (zip a b) ≡ same (name_key rule a) (name_key rule b)
  unfolding same
  same_pairs h = rw (key_folds rule a, key_folds rule b) (each a b h)
    where
      each : (a b : Bytes) → length a ≡ length b
          → list_all (λ (p : ℕ × ℕ). eqb (folded rule p.0) (folded rule p.1)) (zip a b) ≡ same (map (folded rule) a) (map (folded rule) b)
      each [] [] h = refl
      each [] (y ∷ b) h = absurd (omega arith)
      each (x ∷ a) [] h = absurd (omega arith)
      each (x ∷ a) (y ∷ b) h = ap (λ (r : Bool). eqb (folded rule x) (folded rule y) && r) (each a b (omega arith))

-- ---- spans

pub short_in_file : {src : Source} {n : ℕ} (d : Dialect) → src ≡ File d → Short src n → n ≤ MAXRECORD
short_in_file {src} {n} d e h = in_a_file d n (rw e at h)
  where
    in_a_file : (d : Dialect) (n : ℕ) → Short (File d) n → n ≤ MAXRECORD
    in_a_file d n (names.in_file k) = k

pub names_as : {src to : Source} {s : Bytes} {starts ends : List ℕ} → src ≡ to → NamesIn src s starts ends → NamesIn to s starts ends
names_as e p = rw e at p

encoded_short : {src : Source} {k : Kind} {raw : Bytes} → Encoded src k raw → Short src (length raw)
encoded_short (in_file short sound kind) = names.in_file short
encoded_short as_content = names.as_content

-- the cells of a record are names, whatever their kinds
pub cells_named : {src : Source} {s : Bytes} {starts ends kinds : List ℕ} → Cells src s starts ends kinds → NamesIn src s starts ends
cells_named c =
    record {
      paired = c.with_ends;
      each = λ k h. record { forward = (c.each k h).forward; within = (c.each k h).within; short = encoded_short (c.each k h).spelt };
    }

-- ---- the names before a place

module _ (src : Source) (rule : Dialect) (s : Bytes) (starts ends : List ℕ) where
  -- the key of the cell at a place
  abbrev pub key_of : ℕ → Bytes
  key_of n = key_at src rule s (get_or starts n 0) (get_or ends n 0)

  keys_last : (n : ℕ) → 0 < n → keys_before src rule s starts ends n ≡ key_of (n - 1) ∷ keys_before src rule s starts ends (n - 1)
  unfolding keys_before
  keys_last zero h = absurd (omega arith)
  keys_last (suc n) h = let e : suc n - 1 ≡ n = omega arith in rw e

  module _ (key : Bytes) where
    pub among_none : among key (keys_before src rule s starts ends 0) ≡ false
    unfolding among keys_before
    among_none = refl

    pub among_last : (n : ℕ) → 0 < n → same key (key_of (n - 1)) ≡ true → among key (keys_before src rule s starts ends n) ≡ true
    unfolding among choose◌then◌else◌
    among_last n h e = rw (keys_last n h, e)

    pub among_before : (n : ℕ) → 0 < n → same key (key_of (n - 1)) ≡ false
        → among key (keys_before src rule s starts ends n) ≡ among key (keys_before src rule s starts ends (n - 1))
    unfolding among choose◌then◌else◌
    among_before n h e = rw (keys_last n h, e)
