-- A name folded code point by code point is folded byte for byte by its neighbours (`fold_places`), from which its length, its bytes
-- and that folding twice is folding once are read off.
use Prim.Native.Nat.{ℕ, zero, suc, ◌+◌, ◌/◌, ◌%◌, ◌<◌, ◌≤◌}
use native.Mathlib.Omega.{arith}
use native.Mathlib.Numerals.{add-one}
use native.Mathlib.Nat.{add-zero, zero-add, add-suc, suc-add, le_of_suc-le-suc, not-suc-le-zero}
use mathlib.Core.Path.{◌≡◌, refl, sym, ap, ◌∙◌}
use mathlib.Core.Bool.{Bool, true, false, ◌&&◌}
use mathlib.Core.List.{List, [], ◌∷◌, ◌++◌, map}
use lib.ListN.{length, get_or}
use lib.Dec.{leb, T, eqb→eq}
use borrow.Author.Tests.{ne_eqb, le-leb, lt-leb, leb-true, leb-false, eqb-false}
use Rattle.model.specs.rules.Base.{choose◌then◌else◌, ◌is◌, within, Bytes}
use Rattle.model.specs.rules.Utf8.{pack, packed, is_later}
use Rattle.model.specs.rules.Names.{fold_point, is_pair, pair_point, fold_byte, fold_name}
use Rattle.model.specs.laws.Folding.{first_of, second_of, fold_at, byte_before, is_fold, folds_from, FoldTable}
use Rattle.model.proofs.Tests.{split, split_on, impossible, and_true, is→eq, within_true}

-- ---- ranges

below : (lo hi u : ℕ) → u < lo → within lo hi u ≡ false
below lo hi u h = rw (lt-leb lo u h)

above : (lo hi u : ℕ) → hi < u → within lo hi u ≡ false
above lo hi u h = split_on (leb lo u) (λ p. rw (p, lt-leb u hi h)) λ p. rw p

inside : (lo hi u : ℕ) → lo ≤ u → u ≤ hi → within lo hi u ≡ true
inside lo hi u h k = rw (le-leb lo u h, le-leb u hi k)

-- ---- one code point

-- a code point that is no capital, by where it lies between them
pub data Small (u : ℕ) : Type 0 where
  latin : 0x5A < u → u < 0xC0 → Small u
  latin_1 : 0xDE < u → u < 0x391 → Small u
  greek : 0x3A9 < u → u < 0x400 → (u ≡ 0x3C2 → ⊥) → Small u
  past : 0x42F < u → Small u

pub small_stays : (u : ℕ) → Small u → fold_point u ≡ u
unfolding fold_point choose◌then◌else◌
small_stays u (latin h k) =
    rw (
      above 0x41 0x5A u h,
      ne_eqb u 0xD7 (λ e. omega arith),
      below 0xC0 0xDE u k,
      ne_eqb u 0x3A2 (λ e. omega arith),
      below 0x391 0x3A9 u (omega arith),
      ne_eqb u 0x3C2 (λ e. omega arith),
      below 0x400 0x40F u (omega arith),
      below 0x410 0x42F u (omega arith),
    )
small_stays u (latin_1 h k) =
    rw (
      above 0x41 0x5A u (omega arith),
      ne_eqb u 0xD7 (λ e. omega arith),
      above 0xC0 0xDE u h,
      ne_eqb u 0x3A2 (λ e. omega arith),
      below 0x391 0x3A9 u k,
      ne_eqb u 0x3C2 (λ e. omega arith),
      below 0x400 0x40F u (omega arith),
      below 0x410 0x42F u (omega arith),
    )
small_stays u (greek h k n) =
    rw (
      above 0x41 0x5A u (omega arith),
      ne_eqb u 0xD7 (λ e. omega arith),
      above 0xC0 0xDE u (omega arith),
      ne_eqb u 0x3A2 (λ e. omega arith),
      above 0x391 0x3A9 u h,
      ne_eqb u 0x3C2 n,
      below 0x400 0x40F u k,
      below 0x410 0x42F u (omega arith),
    )
small_stays u (past h) =
    rw (
      above 0x41 0x5A u (omega arith),
      ne_eqb u 0xD7 (λ e. omega arith),
      above 0xC0 0xDE u (omega arith),
      ne_eqb u 0x3A2 (λ e. omega arith),
      above 0x391 0x3A9 u (omega arith),
      ne_eqb u 0x3C2 (λ e. omega arith),
      above 0x400 0x40F u (omega arith),
      above 0x410 0x42F u h,
    )

-- what folding does to a code point: it stays, or it becomes one that stays, of as many bytes
pub data Folds (u : ℕ) : ℕ → Type 0 where
  folds_none : Folds u u
  folds_short : {v : ℕ} → u ≤ 0x7F → v ≤ 0x7F → Small v → Folds u v
  folds_pair : {v : ℕ} → 0x80 ≤ u → u ≤ 0x7FF → 0x80 ≤ v → v ≤ 0x7FF → Small v → Folds u v

pub folds : (u : ℕ) → Folds u (fold_point u)
unfolding fold_point
folds u =
    split (Folds u) (within 0x41 0x5A u)
    (λ p. let w = within_true 0x41 0x5A u p in let a : 0x41 ≤ u = w.0 in let b : u ≤ 0x5A = w.1 in folds_short (omega arith) (omega arith)
    (latin (omega arith) (omega arith))) λ _.
    split (Folds u) (u is 0xD7) (λ _. folds_none) λ _.
    split (Folds u) (within 0xC0 0xDE u)
    (λ p. let w = within_true 0xC0 0xDE u p in let a : 0xC0 ≤ u = w.0 in let b : u ≤ 0xDE = w.1 in folds_pair (omega arith) (omega arith) (omega arith)
    (omega arith) (latin_1 (omega arith) (omega arith))) λ _.
    split (Folds u) (u is 0x3A2) (λ _. folds_none) λ n.
    split (Folds u) (within 0x391 0x3A9 u)
    (λ p. let w = within_true 0x391 0x3A9 u p in let a : 0x391 ≤ u = w.0 in let b : u ≤ 0x3A9 = w.1 in folds_pair (omega arith) (omega arith)
    (omega arith) (omega arith) (greek (omega arith) (omega arith) (λ e. eqb-false u 0x3A2 n (omega arith)))) λ _.
    split (Folds u) (u is 0x3C2)
    (λ p. let q : u ≡ 0x3C2 = is→eq u 0x3C2 p in folds_pair (omega arith) (omega arith) (omega arith) (omega arith)
    (greek (omega arith) (omega arith) (λ e. omega arith))) λ _.
    split (Folds u) (within 0x400 0x40F u)
    (λ p. let w = within_true 0x400 0x40F u p in let a : 0x400 ≤ u = w.0 in let b : u ≤ 0x40F = w.1 in folds_pair (omega arith) (omega arith)
    (omega arith) (omega arith) (past (omega arith))) λ _.
    split (Folds u) (within 0x410 0x42F u)
    (λ p. let w = within_true 0x410 0x42F u p in let a : 0x410 ≤ u = w.0 in let b : u ≤ 0x42F = w.1 in folds_pair (omega arith) (omega arith)
    (omega arith) (omega arith) (past (omega arith))) λ _.
    folds_none

pub point_twice : (u : ℕ) → fold_point (fold_point u) ≡ fold_point u
point_twice u = go (fold_point u) (folds u) refl
  where
    go : (v : ℕ) → Folds u v → fold_point u ≡ v → fold_point v ≡ v
    go v folds_none e = e
    go v (folds_short a b s) e = small_stays v s
    go v (folds_pair a b c d s) e = small_stays v s

pub stays_above : (u : ℕ) → 0x500 ≤ u → fold_point u ≡ u
stays_above u h = small_stays u (past (omega arith))

-- ---- its bytes

pub pack_short : (u : ℕ) → u ≤ 0x7F → pack u ≡ u ∷ []
unfolding pack choose◌then◌else◌
pack_short u h = rw (le-leb u 0x7F h)

pub pack_pair : (u : ℕ) → 0x80 ≤ u → u ≤ 0x7FF → pack u ≡ (0xC0 + u / 0x40) ∷ (0x80 + u % 0x40) ∷ []
unfolding pack choose◌then◌else◌
pack_pair u h k = rw (lt-leb u 0x7F (omega arith), le-leb u 0x7FF k)

-- two bytes of a code point are a pair, and the pair's code point is that one
pub pair_of : (u : ℕ) → 0x80 ≤ u → u ≤ 0x7FF → is_pair (0xC0 + u / 0x40) (0x80 + u % 0x40) ≡ true
pair_of u h k =
    rw (inside 0xC2 0xDF (0xC0 + u / 0x40) (omega arith) (omega arith), inside 0x80 0xBF (0x80 + u % 0x40) (omega arith) (omega arith))

pub pair_back : (u : ℕ) → 0x80 ≤ u → u ≤ 0x7FF → pair_point (0xC0 + u / 0x40) (0x80 + u % 0x40) ≡ u
pair_back u h k = omega arith

-- what is known of a pair
pub record Pair (a b : ℕ) : Type 0 where
  pub low : 0xC2 ≤ a
  pub high : a ≤ 0xDF
  pub later_low : 0x80 ≤ b
  pub later_high : b ≤ 0xBF

pub a_pair : (a b : ℕ) → is_pair a b ≡ true → Pair a b
a_pair a b e =
    let x = and_true (within 0xC2 0xDF a) (is_later b) e in
    let p = within_true 0xC2 0xDF a x.0 in
    let q = within_true 0x80 0xBF b x.1 in
    record { low = p.0; high = p.1; later_low = q.0; later_high = q.1 }

pub pair_low : (a b : ℕ) → Pair a b → 0x80 ≤ pair_point a b
pair_low a b p = omega arith

pub pair_high : (a b : ℕ) → Pair a b → pair_point a b ≤ 0x7FF
pair_high a b p = omega arith

-- a folded pair is a pair
pub record FoldedPair (u : ℕ) : Type 0 where
  pub low : 0x80 ≤ fold_point u
  pub high : fold_point u ≤ 0x7FF

pub folded_pair : (u : ℕ) → 0x80 ≤ u → u ≤ 0x7FF → FoldedPair u
folded_pair u h k = go (fold_point u) (folds u) refl
  where
    made : (v : ℕ) → fold_point u ≡ v → 0x80 ≤ v → v ≤ 0x7FF → FoldedPair u
    made v e l m = record { low = omega arith; high = omega arith }

    go : (v : ℕ) → Folds u v → fold_point u ≡ v → FoldedPair u
    go v folds_none e = made v e h k
    go v (folds_short a b s) e = absurd (omega arith)
    go v (folds_pair a b c d s) e = made v e c d

pub folded_short : (u : ℕ) → u ≤ 0x7F → fold_point u ≤ 0x7F
folded_short u h = go (fold_point u) (folds u)
  where
    go : (v : ℕ) → Folds u v → v ≤ 0x7F
    go v folds_none = h
    go v (folds_short a b s) = b
    go v (folds_pair a b c d s) = absurd (omega arith)

-- ---- a name by its places

-- the first byte, and 0 where there is none
abbrev head : Bytes → ℕ
head bs = get_or bs 0 0

-- each byte by itself and its neighbours
fold_from : (before : ℕ) → Bytes → Bytes
fold_from a [] = []
fold_from a (b ∷ bs) = fold_at a b (head bs) ∷ fold_from b bs

-- a later byte begins no pair, and no byte is a pair with 0
later_first : (a b c : ℕ) → Pair a b → is_pair b c ≡ false
later_first a b c p = rw (below 0xC2 0xDF b (omega (arith, p.later_high)))

pair_none : (a : ℕ) → is_pair a 0 ≡ false
pair_none a = split_on (within 0xC2 0xDF a) (λ p. rw p) λ p. rw p

at_second : (a b c : ℕ) → is_pair a b ≡ true → fold_at a b c ≡ second_of (fold_point (pair_point a b))
unfolding fold_at choose◌then◌else◌
at_second a b c e = rw e

at_first : (a b c : ℕ) → is_pair a b ≡ false → is_pair b c ≡ true → fold_at a b c ≡ first_of (fold_point (pair_point b c))
unfolding fold_at choose◌then◌else◌
at_first a b c e k = rw (e, k)

at_alone : (a b c : ℕ) → is_pair a b ≡ false → is_pair b c ≡ false → fold_at a b c ≡ fold_byte b
unfolding fold_at choose◌then◌else◌
at_alone a b c e k = rw (e, k)

-- the two bytes of a folded pair
two_bytes : (u : ℕ) → 0x80 ≤ u → u ≤ 0x7FF → pack u ≡ first_of u ∷ second_of u ∷ []
two_bytes u h k = rw (pack_pair u h k)

fold_pair : (a b : ℕ) → is_pair a b ≡ true → pack (fold_point (pair_point a b)) ≡ first_of (fold_point (pair_point a b)) ∷ second_of (fold_point (pair_point a b)) ∷ []
fold_pair a b e =
    let p = a_pair a b e in
    let f = folded_pair (pair_point a b) (pair_low a b p) (pair_high a b p) in
    two_bytes (fold_point (pair_point a b)) f.low f.high

fold_places : (p : ℕ) (bs : Bytes) → is_pair p (head bs) ≡ false → fold_name bs ≡ fold_from p bs
unfolding fold_name fold_from choose◌then◌else◌
fold_places p [] h = refl
fold_places p (a ∷ []) h = rw (at_alone p a 0 h (pair_none a))
fold_places p (a ∷ b ∷ bs) h = go (is_pair a b) refl (λ k. fold_places b bs k) (λ k. fold_places a (b ∷ bs) k)
  where
    go : (t : Bool) → is_pair a b ≡ t → (is_pair b (head bs) ≡ false → fold_name bs ≡ fold_from b bs)
        → (is_pair a b ≡ false → fold_name (b ∷ bs) ≡ fold_from a (b ∷ bs)) → fold_name (a ∷ b ∷ bs) ≡ fold_from p (a ∷ b ∷ bs)
    go true e after next =
        rw (e, fold_pair a b e, at_first p a b h e, at_second a b (head bs) e)
        (ap (λ (l : Bytes). first_of (fold_point (pair_point a b)) ∷ second_of (fold_point (pair_point a b)) ∷ l) (after (later_first a b (head bs) (a_pair a b e))))
    go false e after next = rw (e, at_alone p a b h e) (ap (λ (l : Bytes). fold_byte a ∷ l) (next e))

zero_first : (b : ℕ) → is_pair 0 b ≡ false
zero_first b = refl

by_places : (bs : Bytes) → fold_name bs ≡ fold_from 0 bs
by_places bs = fold_places 0 bs (zero_first (head bs))

pub fold_length : (bs : Bytes) → length (fold_name bs) ≡ length bs
unfolding fold_from
fold_length bs = ap length (by_places bs) ∙ go 0 bs
  where
    go : (a : ℕ) (bs : Bytes) → length (fold_from a bs) ≡ length bs
    go a [] = refl
    go a (b ∷ bs) = ap suc (go b bs)

at_none : (a : ℕ) → fold_at a 0 0 ≡ 0
unfolding fold_point choose◌then◌else◌
at_none a = at_alone a 0 0 (pair_none a) refl

pub fold_at_lem : (bs : Bytes) (i : ℕ) → get_or (fold_name bs) i 0 ≡ fold_at (byte_before bs i) (get_or bs i 0) (get_or bs (i + 1) 0)
unfolding fold_from
fold_at_lem bs i = ap (λ (l : Bytes). get_or l i 0) (by_places bs) ∙ rw (add-one i) (go 0 bs i)
  where
    go : (a : ℕ) (bs : Bytes) (i : ℕ) → get_or (fold_from a bs) i 0 ≡ fold_at (get_or (a ∷ bs) i 0) (get_or bs i 0) (get_or bs (suc i) 0)
    go a [] i = sym (at_none (get_or (a ∷ []) i 0))
    go a (b ∷ bs) zero = refl
    go a (b ∷ bs) (suc i) = go b bs i

-- ---- twice

-- a folded byte is of the kind that the byte is: one that begins a pair, a later one, or neither
abbrev is_first : ℕ → Bool
is_first b = within 0xC2 0xDF b

data Buffered (b r : ℕ) : Type 0 where
  buffered_first : is_first b ≡ true → is_first r ≡ true → is_later b ≡ false → is_later r ≡ false → Buffered b r
  buffered_later : is_first b ≡ false → is_first r ≡ false → is_later b ≡ true → is_later r ≡ true → Buffered b r
  buffered_short : is_first b ≡ false → is_first r ≡ false → is_later b ≡ false → is_later r ≡ false → Buffered b r
  buffered_same : b ≡ r → Buffered b r

first_of_pair : (a b : ℕ) → is_pair a b ≡ true → Buffered a (first_of (fold_point (pair_point a b)))
first_of_pair a b e =
    let p = a_pair a b e in
    let f = folded_pair (pair_point a b) (pair_low a b p) (pair_high a b p) in
    let l : 0x80 ≤ fold_point (pair_point a b) = f.low in
    let h : fold_point (pair_point a b) ≤ 0x7FF = f.high in
    rw (pack_pair (fold_point (pair_point a b)) l h)
    (buffered_first (inside 0xC2 0xDF a p.low p.high) (inside 0xC2 0xDF (0xC0 + fold_point (pair_point a b) / 0x40) (omega arith) (omega arith))
    (above 0x80 0xBF a (omega arith)) (above 0x80 0xBF (0xC0 + fold_point (pair_point a b) / 0x40) (omega arith)))

second_of_pair : (a b : ℕ) → is_pair a b ≡ true → Buffered b (second_of (fold_point (pair_point a b)))
second_of_pair a b e =
    let p = a_pair a b e in
    let f = folded_pair (pair_point a b) (pair_low a b p) (pair_high a b p) in
    let l : 0x80 ≤ fold_point (pair_point a b) = f.low in
    let h : fold_point (pair_point a b) ≤ 0x7FF = f.high in
    rw (pack_pair (fold_point (pair_point a b)) l h)
    (buffered_later (below 0xC2 0xDF b (omega (arith, p.later_high))) (below 0xC2 0xDF (0x80 + fold_point (pair_point a b) % 0x40) (omega arith))
    (inside 0x80 0xBF b p.later_low p.later_high) (inside 0x80 0xBF (0x80 + fold_point (pair_point a b) % 0x40) (omega arith) (omega arith)))

byte_buffered : (b : ℕ) → Buffered b (fold_byte b)
byte_buffered b =
    split (Buffered b) (leb b 0x7F)
    (λ p.
    let h : b ≤ 0x7F = leb-true b 0x7F p in
    let k : fold_point b ≤ 0x7F = folded_short b h in
    buffered_short (below 0xC2 0xDF b (omega arith)) (below 0xC2 0xDF (fold_point b) (omega arith)) (below 0x80 0xBF b (omega arith))
    (below 0x80 0xBF (fold_point b) (omega arith))) λ _.
    buffered_same refl

at_buffered : (a b c : ℕ) → Buffered b (fold_at a b c)
unfolding fold_at
at_buffered a b c =
    split (Buffered b) (is_pair a b) (λ p. second_of_pair a b p) λ _.
    split (Buffered b) (is_pair b c) (λ p. first_of_pair b c p) λ _. byte_buffered b

buffered_is_first : {b r : ℕ} → Buffered b r → is_first r ≡ is_first b
buffered_is_first (buffered_first x y z w) = rw (x, y)
buffered_is_first (buffered_later x y z w) = rw (x, y)
buffered_is_first (buffered_short x y z w) = rw (x, y)
buffered_is_first (buffered_same e) = rw e

buffered_is_later : {b r : ℕ} → Buffered b r → is_later r ≡ is_later b
buffered_is_later (buffered_first x y z w) = rw (z, w)
buffered_is_later (buffered_later x y z w) = rw (z, w)
buffered_is_later (buffered_short x y z w) = rw (z, w)
buffered_is_later (buffered_same e) = rw e

buffered_pair : {a x b y : ℕ} → Buffered a x → Buffered b y → is_pair x y ≡ is_pair a b
buffered_pair {a} {x} {b} {y} h k = ap (λ (t : Bool). t && is_later y) (buffered_is_first h) ∙ ap (λ (t : Bool). is_first a && t) (buffered_is_later k)

-- a pair that was folded is folded to itself
pair_settled : (a b : ℕ) → is_pair a b ≡ true
    → fold_point (pair_point (first_of (fold_point (pair_point a b))) (second_of (fold_point (pair_point a b)))) ≡ fold_point (pair_point a b)
pair_settled a b e =
    let p = a_pair a b e in
    let f = folded_pair (pair_point a b) (pair_low a b p) (pair_high a b p) in
    rw (pack_pair (fold_point (pair_point a b)) f.low f.high, pair_back (fold_point (pair_point a b)) f.low f.high) (point_twice (pair_point a b))

byte_settled : (b : ℕ) → fold_byte (fold_byte b) ≡ fold_byte b
unfolding choose◌then◌else◌
byte_settled b = split_on (leb b 0x7F) (λ p. rw (p, le-leb (fold_point b) 0x7F (folded_short b (leb-true b 0x7F p))) (point_twice b)) λ p. rw (p, p)

-- a byte that begins a pair is later to none
first_not_later : (a b c : ℕ) → is_pair b c ≡ true → is_pair a b ≡ false
first_not_later a b c e =
    let p = a_pair b c e in
    split_on (within 0xC2 0xDF a) (λ q. rw (q, above 0x80 0xBF b (omega arith))) λ q. rw q

-- the byte in the middle, folded again between its folded neighbours; y is what its right one came to
twice_at : (z a b c y : ℕ) → (is_pair b c ≡ true → y ≡ second_of (fold_point (pair_point b c))) → is_later y ≡ is_later c
    → fold_at (fold_at z a b) (fold_at a b c) y ≡ fold_at a b c
twice_at z a b c y second later =
    split_on (is_pair a b)
    (λ e.
    let first : fold_at z a b ≡ first_of (fold_point (pair_point a b)) = at_first z a b (first_not_later z a b e) e in
    let here : fold_at a b c ≡ second_of (fold_point (pair_point a b)) = at_second a b c e in
    rw (
      first,
      here,
      at_second (first_of (fold_point (pair_point a b))) (second_of (fold_point (pair_point a b))) y
          (buffered_pair (first_of_pair a b e) (second_of_pair a b e) ∙ e),
      pair_settled a b e,
    )) λ n.
    split_on (is_pair b c)
    (λ e.
    let here : fold_at a b c ≡ first_of (fold_point (pair_point b c)) = at_first a b c n e in
    let apart : is_pair (fold_at z a b) (first_of (fold_point (pair_point b c))) ≡ false = buffered_pair (at_buffered z a b) (first_of_pair b c e) ∙ n in
    rw (
      here,
      second e,
      at_first (fold_at z a b) (first_of (fold_point (pair_point b c))) (second_of (fold_point (pair_point b c))) apart
          (buffered_pair (first_of_pair b c e) (second_of_pair b c e) ∙ e),
      pair_settled b c e,
    )) λ m.
    let here : fold_at a b c ≡ fold_byte b = at_alone a b c n m in
    let apart : is_pair (fold_at z a b) (fold_byte b) ≡ false = buffered_pair (at_buffered z a b) (byte_buffered b) ∙ n in
    let alone : is_pair (fold_byte b) y ≡ false = ap (λ (t : Bool). is_first (fold_byte b) && t) later
    ∙ ap (λ (t : Bool). t && is_later c) (buffered_is_first (byte_buffered b)) ∙ m in
    rw (here, at_alone (fold_at z a b) (fold_byte b) y apart alone, byte_settled b)

twice_from : (z a : ℕ) (bs : Bytes) → fold_from (fold_at z a (head bs)) (fold_from a bs) ≡ fold_from a bs
unfolding fold_from
twice_from z a [] = refl
twice_from z a (b ∷ []) = ap (λ (x : ℕ). x ∷ []) (twice_at z a b 0 0 (λ e. impossible (sym (pair_none b) ∙ e)) refl)
twice_from z a (b ∷ c ∷ bs) =
    rw (twice_at z a b c (fold_at b c (head bs)) (λ e. at_second b c (head bs) e) (buffered_is_later (at_buffered b c (head bs))))
    (ap (λ (l : Bytes). fold_at a b c ∷ l) (twice_from a b (c ∷ bs)))

pub twice : (bs : Bytes) → fold_name (fold_name bs) ≡ fold_name bs
unfolding fold_point choose◌then◌else◌
twice bs =
    let start : fold_at 0 0 (head bs) ≡ 0 = at_alone 0 0 (head bs) refl refl in
    ap fold_name (by_places bs) ∙ by_places (fold_from 0 bs) ∙ ap (λ (a : ℕ). fold_from a (fold_from 0 bs)) (sym start) ∙ twice_from 0 0 bs ∙ sym (by_places bs)

-- ---- one code point at a time

alone : (a : ℕ) (bs : Bytes) → is_pair a (head bs) ≡ false → fold_name (a ∷ bs) ≡ fold_byte a ∷ fold_name bs
unfolding fold_name choose◌then◌else◌
alone a [] h = refl
alone a (b ∷ bs) h = rw h

-- a byte that begins no pair
alone_low : (a : ℕ) (bs : Bytes) → a < 0xC2 → fold_name (a ∷ bs) ≡ fold_byte a ∷ fold_name bs
alone_low a bs h = alone a bs (rw (below 0xC2 0xDF a h))

alone_high : (a : ℕ) (bs : Bytes) → 0xDF < a → fold_name (a ∷ bs) ≡ fold_byte a ∷ fold_name bs
alone_high a bs h = alone a bs (rw (above 0xC2 0xDF a h))

pub byte_stays : (a : ℕ) → 0x7F < a → fold_byte a ≡ a
unfolding choose◌then◌else◌
byte_stays a h = rw (lt-leb a 0x7F h)

later_stays : (x : ℕ) (bs : Bytes) → fold_name ((0x80 + x % 0x40) ∷ bs) ≡ (0x80 + x % 0x40) ∷ fold_name bs
later_stays x bs = rw (alone_low (0x80 + x % 0x40) bs (omega arith), byte_stays (0x80 + x % 0x40) (omega arith))

lead_stays : (a : ℕ) (bs : Bytes) → 0xE0 ≤ a → fold_name (a ∷ bs) ≡ a ∷ fold_name bs
lead_stays a bs h = rw (alone_high a bs (omega arith), byte_stays a (omega arith))

fold_short : (u : ℕ) (bs : Bytes) → u ≤ 0x7F → fold_name (pack u ++ bs) ≡ pack (fold_point u) ++ fold_name bs
unfolding choose◌then◌else◌
fold_short u bs h = rw (pack_short u h, pack_short (fold_point u) (folded_short u h), alone_low u bs (omega arith), le-leb u 0x7F h)

fold_two : (u : ℕ) (bs : Bytes) → 0x80 ≤ u → u ≤ 0x7FF → fold_name (pack u ++ bs) ≡ pack (fold_point u) ++ fold_name bs
unfolding fold_name choose◌then◌else◌
fold_two u bs h k = rw (pack_pair u h k, pair_of u h k, pair_back u h k)

pub pack_three : (u : ℕ) → 0x800 ≤ u → u ≤ 0xFFFF → pack u ≡ (0xE0 + u / 0x1000) ∷ (0x80 + u / 0x40 % 0x40) ∷ (0x80 + u % 0x40) ∷ []
unfolding pack choose◌then◌else◌
pack_three u h k = rw (lt-leb u 0x7F (omega arith), lt-leb u 0x7FF (omega arith), le-leb u 0xFFFF k)

pub pack_four : (u : ℕ) → 0x10000 ≤ u
    → pack u ≡ (0xF0 + u / 0x40000) ∷ (0x80 + u / 0x1000 % 0x40) ∷ (0x80 + u / 0x40 % 0x40) ∷ (0x80 + u % 0x40) ∷ []
unfolding pack choose◌then◌else◌
pack_four u h = rw (lt-leb u 0x7F (omega arith), lt-leb u 0x7FF (omega arith), lt-leb u 0xFFFF (omega arith))

fold_three : (u : ℕ) (bs : Bytes) → 0x800 ≤ u → u ≤ 0xFFFF → fold_name (pack u ++ bs) ≡ pack (fold_point u) ++ fold_name bs
fold_three u bs h k =
    rw (
      stays_above u (omega arith),
      pack_three u h k,
      lead_stays (0xE0 + u / 0x1000) ((0x80 + u / 0x40 % 0x40) ∷ (0x80 + u % 0x40) ∷ bs) (omega arith),
      later_stays (u / 0x40) ((0x80 + u % 0x40) ∷ bs),
      later_stays u bs,
    )

fold_four : (u : ℕ) (bs : Bytes) → 0x10000 ≤ u → fold_name (pack u ++ bs) ≡ pack (fold_point u) ++ fold_name bs
fold_four u bs h =
    rw (
      stays_above u (omega arith),
      pack_four u h,
      lead_stays (0xF0 + u / 0x40000) ((0x80 + u / 0x1000 % 0x40) ∷ (0x80 + u / 0x40 % 0x40) ∷ (0x80 + u % 0x40) ∷ bs) (omega arith),
      later_stays (u / 0x1000) ((0x80 + u / 0x40 % 0x40) ∷ (0x80 + u % 0x40) ∷ bs),
      later_stays (u / 0x40) ((0x80 + u % 0x40) ∷ bs),
      later_stays u bs,
    )

pub fold_first : (u : ℕ) (bs : Bytes) → fold_name (pack u ++ bs) ≡ pack (fold_point u) ++ fold_name bs
fold_first u bs =
    split_on (leb u 0x7F) (λ p. fold_short u bs (leb-true u 0x7F p)) λ p.
    let h : 0x7F < u = leb-false u 0x7F p in
    split_on (leb u 0x7FF) (λ q. fold_two u bs (omega arith) (leb-true u 0x7FF q)) λ q.
    let k : 0x7FF < u = leb-false u 0x7FF q in
    split_on (leb u 0xFFFF) (λ r. fold_three u bs (omega arith) (leb-true u 0xFFFF r)) λ r.
    let l : 0xFFFF < u = leb-false u 0xFFFF r in
    fold_four u bs (omega arith)

pub each_point : (us : List ℕ) → fold_name (packed us) ≡ packed (map fold_point us)
unfolding packed fold_name
each_point [] = refl
each_point (u ∷ us) = fold_first u (packed us) ∙ ap (λ (l : Bytes). pack (fold_point u) ++ l) (each_point us)

-- ---- the table

both_true : (x y : Bool) → T (x && y) → T x × T y
both_true true y t = (tt, t)
both_true false y t = absurd t

table_from : (i : ℕ) (xs : List ℕ) → T (folds_from i xs) → (k : ℕ) → k < length xs
    → (get_or xs k 0 ≡ fold_point (i + k)) × (fold_point (get_or xs k 0) ≡ get_or xs k 0)
table_from i [] t k h = absurd (not-suc-le-zero h)
table_from i (x ∷ xs) t zero h =
    let a = both_true (is_fold i x) (folds_from (suc i) xs) t in
    let b = both_true (x is fold_point i) (fold_point x is x) a.0 in
    (eqb→eq x (fold_point i) b.0 ∙ ap fold_point (sym (add-zero i)), eqb→eq (fold_point x) x b.1)
table_from i (x ∷ xs) t (suc k) h =
    let a = both_true (is_fold i x) (folds_from (suc i) xs) t in
    let r = table_from (suc i) xs a.1 k (le_of_suc-le-suc h) in
    (r.0 ∙ ap fold_point (suc-add i k ∙ sym (add-suc i k)), r.1)

pub table_follows : (xs : List ℕ) → length xs ≡ 1280 → T (folds_from 0 xs) → FoldTable xs
table_follows xs n t =
    record {
      entries = n;
      follows = λ u h. (table_from 0 xs t u (omega arith)).0 ∙ ap fold_point (zero-add u);
      settles = λ u h. (table_from 0 xs t u (omega arith)).1;
    }
