-- Content is code points one after another: each of its characters, and each lone surrogate, is the bytes of one (`content_points`). The
-- first byte of a code point fixes how many it has, so no two lists of them have the same bytes (`packed_apart`).
use Prim.Native.Nat.{ℕ, zero, suc, ◌+◌, ◌-◌, ◌*◌, ◌/◌, ◌%◌, ◌≤◌, ◌<◌}
use native.Mathlib.Omega.{arith}
use mathlib.Core.Path.{◌≡◌, refl, sym, ap, ap₂, ◌∙◌}
use mathlib.Core.Bool.{Bool, true, false}
use Rattle.std.specs.Prelude.{Option, None, Some}
use mathlib.Core.List.{List, [], ◌∷◌, ◌++◌, map}
use lib.ListN.{length, drop, get_or}
use lib.Dec.{leb}
use borrow.Author.Tests.{leb-true, leb-false}
use Rattle.model.specs.rules.Types.{Lead, C2ToDf, E0, E1ToEc, Ed, EeToEf, F0, F1ToF3, F4, Second, LastTwo, Last}
use Rattle.model.specs.rules.Base.{choose◌then◌else◌, ◌is◌, within, Bytes}
use Rattle.model.specs.rules.Utf8.{row_of, leads, lead_byte, after_second, inner_step, char_step, pack, packed, Wide, gap, ed, lone, inner, settled}
use Rattle.model.specs.rules.Utf8.{settle, wide_step, wide_from, is_content}
use Rattle.model.specs.rules.Names.{fold_point, fold_name}
use Rattle.model.specs.laws.Laws.{all_none, all_cons}
use Rattle.model.specs.laws.Folding.{PointsOf}
use Rattle.model.proofs.Tests.{split_on, impossible, is→eq, within_true}
use Rattle.model.proofs.name_laws.Folding.{pack_short, pack_pair, pack_three, pack_four, each_point}

-- ---- a step of content

data WideOn (w : Wide) (b : ℕ) (bs : Bytes) : Type 0 where
  wide_on : (w' : Wide) → wide_step w b ≡ Some w' → wide_from w' bs ≡ true → WideOn w b bs

steps_on : (w : Wide) (b : ℕ) (bs : Bytes) → wide_from w (b ∷ bs) ≡ true → WideOn w b bs
unfolding wide_from
steps_on w b bs e = go (wide_step w b) refl (by_step w e)
  where
    by_step : (w : Wide) → wide_from w (b ∷ bs) ≡ true → (elim (wide_step w b) as (λ _. Bool) [ None ↦ false | Some w' ↦ wide_from w' bs ]) ≡ true
    by_step (gap h) e = e
    by_step (ed h) e = e
    by_step (lone h) e = e
    by_step (inner i) e = e

    go : (o : Option Wide) → wide_step w b ≡ o → (elim o as (λ _. Bool) [ None ↦ false | Some w' ↦ wide_from w' bs ]) ≡ true → WideOn w b bs
    go None p k = impossible k
    go (Some w') p k = wide_on w' p k

no_step : {A : Type 0} {w : Wide} → None ≡ Some w → A
no_step e = let z : ◌≡◌ {A = ℕ} 0 1 = cc in absurd (omega arith)

same_wide : {x y : Wide} → Some x ≡ Some y → x ≡ y
same_wide e = cc

-- ---- later bytes

-- so many later bytes, and then content
data Later : ℕ → Bytes → Type 0 where
  then_content : (h : Bool) {bs : Bytes} → wide_from (gap h) bs ≡ true → Later 0 bs
  later : {n b : ℕ} {bs : Bytes} → 0x80 ≤ b → b ≤ 0xBF → Later n bs → Later (suc n) (b ∷ bs)

last_byte : (bs : Bytes) → wide_from (inner Last) bs ≡ true → Later 1 bs
unfolding wide_from wide_step char_step inner_step choose◌then◌else◌
last_byte [] e = impossible e
last_byte (b ∷ bs) e = go (steps_on (inner Last) b bs e)
  where
    go : WideOn (inner Last) b bs → Later 1 (b ∷ bs)
    go (wide_on w s k) =
        split_on (within 0x80 0xBF b)
        (λ p. let q : gap false ≡ w = same_wide (rw p at s) in let r = within_true 0x80 0xBF b p in later r.0 r.1
        (then_content false (rw (← q) at k))) λ p.
        no_step (rw p at s)

last_two : (bs : Bytes) → wide_from (inner LastTwo) bs ≡ true → Later 2 bs
unfolding wide_from wide_step char_step inner_step choose◌then◌else◌
last_two [] e = impossible e
last_two (b ∷ bs) e = go (steps_on (inner LastTwo) b bs e)
  where
    go : WideOn (inner LastTwo) b bs → Later 2 (b ∷ bs)
    go (wide_on w s k) =
        split_on (within 0x80 0xBF b)
        (λ p. let q : inner Last ≡ w = same_wide (rw p at s) in let r = within_true 0x80 0xBF b p in later r.0 r.1 (last_byte bs (rw (← q) at k))) λ p.
        no_step (rw p at s)

lone_last : (h : Bool) (bs : Bytes) → wide_from (lone h) bs ≡ true → Later 1 bs
unfolding wide_from wide_step choose◌then◌else◌
lone_last h [] e = impossible e
lone_last h (b ∷ bs) e = go (steps_on (lone h) b bs e)
  where
    go : WideOn (lone h) b bs → Later 1 (b ∷ bs)
    go (wide_on w s k) =
        split_on (within 0x80 0xBF b)
        (λ p. let q : gap h ≡ w = same_wide (rw p at s) in let r = within_true 0x80 0xBF b p in later r.0 r.1 (then_content h (rw (← q) at k))) λ p.
        no_step (rw p at s)

-- ---- the first bytes of a character

-- what content begins with: a code point of one byte to four, and then content
data Begins : Bytes → Type 0 where
  one_byte : {a : ℕ} {bs : Bytes} → a ≤ 0x7F → Later 0 bs → Begins (a ∷ bs)
  two_bytes : {a : ℕ} {bs : Bytes} → 0xC2 ≤ a → a ≤ 0xDF → Later 1 bs → Begins (a ∷ bs)
  three_bytes : {a b : ℕ} {bs : Bytes} → 0xE0 ≤ a → a ≤ 0xEF → 0x80 ≤ b → b ≤ 0xBF → 0x20 ≤ (a - 0xE0) * 0x40 + (b - 0x80) → Later 1 bs → Begins (a ∷ b ∷ bs)
  four_bytes :
      {a b : ℕ} {bs : Bytes} → 0xF0 ≤ a → 0x80 ≤ b → b ≤ 0xBF → 0x10 ≤ (a - 0xF0) * 0x40 + (b - 0x80) → (a - 0xF0) * 0x40 + (b - 0x80) ≤ 0x10F → Later 2 bs →
      Begins (a ∷ b ∷ bs)

-- the second byte of a character of a row
data SecondOn (lo hi : ℕ) (next : Wide) : Bytes → Type 0 where
  second_on : {b : ℕ} {bs : Bytes} → lo ≤ b → b ≤ hi → wide_from next bs ≡ true → SecondOn lo hi next (b ∷ bs)

second_byte : (l : Lead) (bs : Bytes) → wide_from (inner (Second l)) bs ≡ true
    → SecondOn (row_of l).lo2 (row_of l).hi2 (settled (after_second (row_of l).size)) bs
unfolding wide_from wide_step char_step inner_step choose◌then◌else◌
second_byte l [] e = impossible e
second_byte l (b ∷ bs) e = go (steps_on (inner (Second l)) b bs e)
  where
    go : WideOn (inner (Second l)) b bs → SecondOn (row_of l).lo2 (row_of l).hi2 (settled (after_second (row_of l).size)) (b ∷ bs)
    go (wide_on w s k) =
        split_on (within (row_of l).lo2 (row_of l).hi2 b)
        (λ p. let q : settled (after_second (row_of l).size) ≡ w = same_wide (rw p at s) in let r = within_true (row_of l).lo2 (row_of l).hi2 b p in
        second_on r.0 r.1 (rw (← q) at k)) λ p.
        no_step (rw p at s)

row_of_three : (a : ℕ) (lo hi : ℕ) (bs : Bytes) → 0xE0 ≤ a → a ≤ 0xEF → 0x80 ≤ lo → hi ≤ 0xBF → (a ≡ 0xE0 → 0xA0 ≤ lo) → SecondOn lo hi (inner Last) bs
    → Begins (a ∷ bs)
row_of_three a lo hi (b ∷ bs) h k l m x (second_on p q e) = three_bytes {b = b} h k (omega arith) (omega arith) far (last_byte bs e)
  where
    far : 0x20 ≤ (a - 0xE0) * 0x40 + (b - 0x80)
    far = split_on (leb a 0xE0) (λ t. let u : a ≤ 0xE0 = leb-true a 0xE0 t in let v : 0xA0 ≤ lo = x (omega arith) in
        omega arith) λ t. let u : 0xE0 < a = leb-false a 0xE0 t in omega arith
row_of_three a lo hi [] h k l m x x7 = elim x7 [ ]

row_of_four : (a : ℕ) (lo hi : ℕ) (bs : Bytes) → 0xF0 ≤ a → a ≤ 0xF4 → 0x80 ≤ lo → hi ≤ 0xBF → (a ≡ 0xF0 → 0x90 ≤ lo) → (a ≡ 0xF4 → hi ≤ 0x8F)
    → SecondOn lo hi (inner LastTwo) bs → Begins (a ∷ bs)
row_of_four a lo hi (b ∷ bs) h k l m x y (second_on p q e) = four_bytes {b = b} h (omega arith) (omega arith) far near (last_two bs e)
  where
    far : 0x10 ≤ (a - 0xF0) * 0x40 + (b - 0x80)
    far = split_on (leb a 0xF0) (λ t. let u : a ≤ 0xF0 = leb-true a 0xF0 t in let v : 0x90 ≤ lo = x (omega arith) in
        omega arith) λ t. let u : 0xF0 < a = leb-false a 0xF0 t in omega arith

    near : (a - 0xF0) * 0x40 + (b - 0x80) ≤ 0x10F
    near = split_on (leb 0xF4 a) (λ t. let u : 0xF4 ≤ a = leb-true 0xF4 a t in let v : hi ≤ 0x8F = y (omega arith) in
        omega arith) λ t. let u : a < 0xF4 = leb-false 0xF4 a t in omega arith
row_of_four a lo hi [] h k l m x y x8 = elim x8 [ ]

row_begins : (l : Lead) (a : ℕ) (bs : Bytes) → (row_of l).lo ≤ a → a ≤ (row_of l).hi → wide_from (inner (Second l)) bs ≡ true → Begins (a ∷ bs)
unfolding row_of choose◌then◌else◌
row_begins C2ToDf a bs h k e = two_bytes h k (go bs (second_byte C2ToDf bs e))
  where
    go : (bs : Bytes) → SecondOn 0x80 0xBF (gap false) bs → Later 1 bs
    go (b ∷ bs) (second_on p q f) = later p q (then_content false f)
    go [] x4 = elim x4 [ ]
row_begins E0 a bs h k e = row_of_three a 0xA0 0xBF bs (omega arith) (omega arith) (omega arith) (omega arith) (λ _. omega arith) (second_byte E0 bs e)
row_begins E1ToEc a bs h k e = row_of_three a 0x80 0xBF bs (omega arith) (omega arith) (omega arith) (omega arith) (λ z. absurd (omega arith))
    (second_byte E1ToEc bs e)
row_begins Ed a bs h k e = row_of_three a 0x80 0x9F bs (omega arith) (omega arith) (omega arith) (omega arith) (λ z. absurd (omega arith)) (second_byte Ed bs e)
row_begins EeToEf a bs h k e = row_of_three a 0x80 0xBF bs (omega arith) (omega arith) (omega arith) (omega arith) (λ z. absurd (omega arith))
    (second_byte EeToEf bs e)
row_begins F0 a bs h k e = row_of_four a 0x90 0xBF bs (omega arith) (omega arith) (omega arith) (omega arith) (λ _. omega arith) (λ z. absurd (omega arith))
    (second_byte F0 bs e)
row_begins F1ToF3 a bs h k e = row_of_four a 0x80 0xBF bs (omega arith) (omega arith) (omega arith) (omega arith) (λ z. absurd (omega arith))
    (λ z. absurd (omega arith)) (second_byte F1ToF3 bs e)
row_begins F4 a bs h k e = row_of_four a 0x80 0x8F bs (omega arith) (omega arith) (omega arith) (omega arith) (λ z. absurd (omega arith)) (λ _. omega arith)
    (second_byte F4 bs e)

ed_begins : (h : Bool) (bs : Bytes) → wide_from (ed h) bs ≡ true → Begins (0xED ∷ bs)
unfolding wide_from wide_step choose◌then◌else◌
ed_begins h [] e = impossible e
ed_begins h (b ∷ bs) e = go (steps_on (ed h) b bs e)
  where
    made : 0x80 ≤ b → b ≤ 0xBF → Later 1 bs → Begins (0xED ∷ b ∷ bs)
    made x y l = three_bytes {a = 0xED} {b = b} (omega arith) (omega arith) x y (omega arith) l

    go : WideOn (ed h) b bs → Begins (0xED ∷ b ∷ bs)
    go (wide_on w s k) =
        split_on (within 0x80 0x9F b)
        (λ p. let q : inner Last ≡ w = same_wide (rw p at s) in let r = within_true 0x80 0x9F b p in let u : b ≤ 0x9F = r.1 in made r.0 (omega arith)
        (last_byte bs (rw (← q) at k))) λ p.
        split_on (within 0xA0 0xAF b)
        (λ t. let q : lone true ≡ w = same_wide (rw (p, t) at s) in let r = within_true 0xA0 0xAF b t in let u : 0xA0 ≤ b = r.0 in
        let v : b ≤ 0xAF = r.1 in made (omega arith) (omega arith) (lone_last true bs (rw (← q) at k))) λ t.
        split_on (within 0xB0 0xBF b)
        (λ o. let r = within_true 0xB0 0xBF b o in let u : 0xB0 ≤ b = r.0 in low (omega arith) r.1 h (rw (p, t, o) at s) k) λ o.
        no_step (rw (p, t, o) at s)
      where
        low : {w : Wide} → 0x80 ≤ b → b ≤ 0xBF → (g : Bool) → (choose g then None else Some (lone false)) ≡ Some w → wide_from w bs ≡ true → Begins (0xED ∷ b ∷ bs)
        low x y true s k = no_step s
        low x y false s k = let q = same_wide s in made x y (lone_last false bs (rw (← q) at k))

lead_begins : (ls : List Lead) (h : Bool) (a : ℕ) (bs : Bytes) (w : Wide) → settle (lead_byte ls a) ≡ Some w → wide_from w bs ≡ true → Begins (a ∷ bs)
unfolding lead_byte choose◌then◌else◌
lead_begins [] h a bs w s k = no_step s
lead_begins (l ∷ ls) h a bs w s k = go (within (row_of l).lo (row_of l).hi a) refl (lead_begins ls h a bs w)
  where
    go : (t : Bool) → within (row_of l).lo (row_of l).hi a ≡ t → (settle (lead_byte ls a) ≡ Some w → wide_from w bs ≡ true → Begins (a ∷ bs)) → Begins (a ∷ bs)
    go true p ih = let q : inner (Second l) ≡ w = same_wide (rw p at s) in let r = within_true (row_of l).lo (row_of l).hi a p in row_begins l a bs r.0
        r.1 (rw (← q) at k)
    go false p ih = ih (rw p at s) k

content_begins : (h : Bool) (a : ℕ) (bs : Bytes) → wide_from (gap h) (a ∷ bs) ≡ true → Begins (a ∷ bs)
unfolding wide_step char_step choose◌then◌else◌
content_begins h a bs e = go (steps_on (gap h) a bs e)
  where
    go : WideOn (gap h) a bs → Begins (a ∷ bs)
    go (wide_on w s k) =
        split_on (a is 0xED)
        (λ p. let z : a ≡ 0xED = is→eq a 0xED p in let q : ed h ≡ w = same_wide (rw p at s) in rw z (ed_begins h bs (rw (← q) at k))) λ p.
        split_on (within 0x00 0x7F a)
        (λ t. let q : gap false ≡ w = same_wide (rw (p, t) at s) in one_byte (within_true 0x00 0x7F a t).1 (then_content false (rw (← q) at k))) λ t.
        lead_begins leads h a bs w (rw (p, t) at s) k

-- ---- all of it

-- one code point more
more_points : (u : ℕ) (bs xs : Bytes) → u ≤ 0x10FFFF → bs ≡ pack u ++ xs → PointsOf xs → PointsOf bs
unfolding packed
more_points u bs xs h e p = record { points = u ∷ p.points; known = all_cons h p.known; packs = e ∙ ap (λ (l : Bytes). pack u ++ l) p.packs }

-- a code point of four bytes, and what follows it
four : (n : ℕ) → ((h : Bool) (bs : Bytes) → length bs ≤ n → wide_from (gap h) bs ≡ true → PointsOf bs) → (a b c : ℕ) (bs : Bytes)
    → length (a ∷ b ∷ c ∷ bs) ≤ suc n → 0xF0 ≤ a → 0x80 ≤ b → b ≤ 0xBF
    → 0x10 ≤ (a - 0xF0) * 0x40 + (b - 0x80) → (a - 0xF0) * 0x40 + (b - 0x80) ≤ 0x10F → 0x80 ≤ c → c ≤ 0xBF → Later 1 bs → PointsOf (a ∷ b ∷ c ∷ bs)
four n ih a b c (d ∷ bs) l h x y far near v w (later i j (then_content g e)) =
    let u : ℕ = (a - 0xF0) * 0x40000 + (b - 0x80) * 0x1000 + (c - 0x80) * 0x40 + (d - 0x80) in
    let p : 0xF0 + ((a - 0xF0) * 0x40000 + (b - 0x80) * 0x1000 + (c - 0x80) * 0x40 + (d - 0x80)) / 0x40000 ≡ a = omega arith in
    let m : ((a - 0xF0) * 0x40000 + (b - 0x80) * 0x1000 + (c - 0x80) * 0x40 + (d - 0x80)) / 0x1000 ≡ (a - 0xF0) * 0x40 + (b - 0x80) = omega arith in
    let q : 0x80 + ((a - 0xF0) * 0x40000 + (b - 0x80) * 0x1000 + (c - 0x80) * 0x40 + (d - 0x80)) / 0x1000 % 0x40 ≡ b = rw m (omega arith) in
    let o : ((a - 0xF0) * 0x40000 + (b - 0x80) * 0x1000 + (c - 0x80) * 0x40 + (d - 0x80)) / 0x40 ≡ (a - 0xF0) * 0x1000 + (b - 0x80) * 0x40 +
    (c - 0x80) = omega arith in
    let r : 0x80 + ((a - 0xF0) * 0x40000 + (b - 0x80) * 0x1000 + (c - 0x80) * 0x40 + (d - 0x80)) / 0x40 % 0x40 ≡ c = rw o (omega arith) in
    let s : 0x80 + ((a - 0xF0) * 0x40000 + (b - 0x80) * 0x1000 + (c - 0x80) * 0x40 + (d - 0x80)) % 0x40 ≡ d = omega arith in
    more_points u (a ∷ b ∷ c ∷ d ∷ bs) bs (omega arith)
    (rw (pack_four ((a - 0xF0) * 0x40000 + (b - 0x80) * 0x1000 + (c - 0x80) * 0x40 + (d - 0x80)) (omega arith), p, q, r, s)) (ih g bs (omega arith) e)
four n ih a b c [] l h x y far near v w x10 = elim x10 [ ]

begun : (n : ℕ) → ((h : Bool) (bs : Bytes) → length bs ≤ n → wide_from (gap h) bs ≡ true → PointsOf bs) → (bs : Bytes) → length bs ≤ suc n → Begins bs
    → PointsOf bs
begun n ih (a ∷ bs) l (one_byte h (then_content g k)) = more_points a (a ∷ bs) bs (omega arith) (rw (pack_short a h)) (ih g bs (omega arith) k)
begun n ih (a ∷ b ∷ bs) l (two_bytes h k (later x y (then_content g e))) =
    let u : ℕ = (a - 0xC0) * 0x40 + (b - 0x80) in
    let p : (0xC0 + ((a - 0xC0) * 0x40 + (b - 0x80)) / 0x40) ≡ a = omega arith in
    let q : (0x80 + ((a - 0xC0) * 0x40 + (b - 0x80)) % 0x40) ≡ b = omega arith in
    more_points u (a ∷ b ∷ bs) bs (omega arith) (rw (pack_pair ((a - 0xC0) * 0x40 + (b - 0x80)) (omega arith) (omega arith), p, q)) (ih g bs (omega arith) e)
begun n ih (a ∷ b ∷ c ∷ bs) l (three_bytes h k x y far (later v w (then_content g e))) =
    let u : ℕ = (a - 0xE0) * 0x1000 + (b - 0x80) * 0x40 + (c - 0x80) in
    let p : 0xE0 + ((a - 0xE0) * 0x1000 + (b - 0x80) * 0x40 + (c - 0x80)) / 0x1000 ≡ a = omega arith in
    let q : 0x80 + ((a - 0xE0) * 0x1000 + (b - 0x80) * 0x40 + (c - 0x80)) / 0x40 % 0x40 ≡ b = omega arith in
    let r : 0x80 + ((a - 0xE0) * 0x1000 + (b - 0x80) * 0x40 + (c - 0x80)) % 0x40 ≡ c = omega arith in
    more_points u (a ∷ b ∷ c ∷ bs) bs (omega arith)
    (rw (pack_three ((a - 0xE0) * 0x1000 + (b - 0x80) * 0x40 + (c - 0x80)) (omega arith) (omega arith), p, q, r)) (ih g bs (omega arith) e)
begun n ih (a ∷ b ∷ c ∷ bs) l (four_bytes h x y far near (later v w q)) = four n ih a b c bs l h x y far near v w q
begun n ih [] l x'' = elim x'' [ ]
begun n ih (a ∷ []) l (two_bytes h k x8) = elim x8 [ ]
begun n ih (a ∷ (_ ∷ _)) l (three_bytes {b = b} {bs = []} h k x y far x14) = elim x14 [ ]
begun n ih (a ∷ (_ ∷ _)) l (four_bytes {b = b} {bs = []} h x y far near x15) = elim x15 [ ]

points_within : (n : ℕ) (h : Bool) (bs : Bytes) → length bs ≤ n → wide_from (gap h) bs ≡ true → PointsOf bs
unfolding packed
points_within zero h [] l e = record { points = []; known = all_none; packs = refl }
points_within zero h (b ∷ bs) l e = absurd (omega arith)
points_within (suc n) h [] l e = record { points = []; known = all_none; packs = refl }
points_within (suc n) h (b ∷ bs) l e = begun n (λ g xs. points_within n g xs) (b ∷ bs) l (content_begins h b bs e)

pub content_points : (bs : Bytes) → is_content bs ≡ true → PointsOf bs
unfolding is_content
content_points bs e = points_within (length bs) false bs (omega arith) e

-- ---- code points by their bytes

-- what the bytes of a code point are, by its size
data Shape (u : ℕ) : Type 0 where
  of_one : u ≤ 0x7F → pack u ≡ u ∷ [] → Shape u
  of_two : 0x80 ≤ u → u ≤ 0x7FF → pack u ≡ (0xC0 + u / 0x40) ∷ (0x80 + u % 0x40) ∷ [] → Shape u
  of_three : 0x800 ≤ u → u ≤ 0xFFFF → pack u ≡ (0xE0 + u / 0x1000) ∷ (0x80 + u / 0x40 % 0x40) ∷ (0x80 + u % 0x40) ∷ [] → Shape u
  of_four : 0x10000 ≤ u → pack u ≡ (0xF0 + u / 0x40000) ∷ (0x80 + u / 0x1000 % 0x40) ∷ (0x80 + u / 0x40 % 0x40) ∷ (0x80 + u % 0x40) ∷ [] → Shape u

shape_of : (u : ℕ) → Shape u
shape_of u =
    split_on (leb u 0x7F) (λ p. let h : u ≤ 0x7F = leb-true u 0x7F p in of_one h (pack_short u h)) λ p.
    let h : 0x7F < u = leb-false u 0x7F p in
    let h' : 0x80 ≤ u = omega arith in
    split_on (leb u 0x7FF) (λ q. let k : u ≤ 0x7FF = leb-true u 0x7FF q in of_two h' k (pack_pair u h' k)) λ q.
    let k : 0x7FF < u = leb-false u 0x7FF q in
    let k' : 0x800 ≤ u = omega arith in
    split_on (leb u 0xFFFF) (λ r. let l : u ≤ 0xFFFF = leb-true u 0xFFFF r in of_three k' l (pack_three u k' l)) λ r.
    let l : 0xFFFF < u = leb-false u 0xFFFF r in
    let l' : 0x10000 ≤ u = omega arith in
    of_four l' (pack_four u l')

-- the bytes at the first four places, and what follows so many
byte_at : (i : ℕ) {xs ys : Bytes} → xs ≡ ys → get_or xs i 0 ≡ get_or ys i 0
byte_at i e = ap (λ (l : Bytes). get_or l i 0) e

rest_of : (n : ℕ) {xs ys : Bytes} → xs ≡ ys → drop n xs ≡ drop n ys
rest_of n e = ap (drop n) e

-- the same bytes begin with the same code point
first_same : (u v : ℕ) (xs ys : Bytes) → Shape u → Shape v → pack u ++ xs ≡ pack v ++ ys → (u ≡ v) × (xs ≡ ys)
first_same u v xs ys (of_one h p) (of_one k q) e = let f : u ∷ xs ≡ v ∷ ys = rw (p, q) at e in (byte_at 0 f, rest_of 1 f)
first_same u v xs ys (of_one h p) (of_two k l q) e = let z = byte_at 0 (rw (p, q) at e) in absurd (omega arith)
first_same u v xs ys (of_one h p) (of_three k l q) e = let z = byte_at 0 (rw (p, q) at e) in absurd (omega arith)
first_same u v xs ys (of_one h p) (of_four k q) e = let z = byte_at 0 (rw (p, q) at e) in absurd (omega arith)
first_same u v xs ys (of_two h i p) (of_one k q) e = let z = byte_at 0 (rw (p, q) at e) in absurd (omega arith)
first_same u v xs ys (of_two h i p) (of_two k l q) e =
    let f = rw (p, q) at e in
    let a : 0xC0 + u / 0x40 ≡ 0xC0 + v / 0x40 = byte_at 0 f in
    let b : 0x80 + u % 0x40 ≡ 0x80 + v % 0x40 = byte_at 1 f in
    (omega arith, rest_of 2 f)
first_same u v xs ys (of_two h i p) (of_three k l q) e = let z = byte_at 0 (rw (p, q) at e) in absurd (omega arith)
first_same u v xs ys (of_two h i p) (of_four k q) e = let z = byte_at 0 (rw (p, q) at e) in absurd (omega arith)
first_same u v xs ys (of_three h i p) (of_one k q) e = let z = byte_at 0 (rw (p, q) at e) in absurd (omega arith)
first_same u v xs ys (of_three h i p) (of_two k l q) e = let z = byte_at 0 (rw (p, q) at e) in absurd (omega arith)
first_same u v xs ys (of_three h i p) (of_three k l q) e =
    let f = rw (p, q) at e in
    let a : 0xE0 + u / 0x1000 ≡ 0xE0 + v / 0x1000 = byte_at 0 f in
    let b : 0x80 + u / 0x40 % 0x40 ≡ 0x80 + v / 0x40 % 0x40 = byte_at 1 f in
    let c : 0x80 + u % 0x40 ≡ 0x80 + v % 0x40 = byte_at 2 f in
    let m : u / 0x40 ≡ v / 0x40 = middle (u / 0x40) (v / 0x40) (by_part u) (by_part v) a b in
    (omega arith, rest_of 3 f)
  where
    by_part : (n : ℕ) → n / 0x40 / 0x40 ≡ n / 0x1000
    by_part n = omega arith

    middle : (m n : ℕ) → m / 0x40 ≡ u / 0x1000 → n / 0x40 ≡ v / 0x1000 → 0xE0 + u / 0x1000 ≡ 0xE0 + v / 0x1000 → 0x80 + m % 0x40 ≡ 0x80 + n % 0x40 → m ≡ n
    middle m n x y a b = omega arith
first_same u v xs ys (of_three h i p) (of_four k q) e = let z = byte_at 0 (rw (p, q) at e) in absurd (omega arith)
first_same u v xs ys (of_four h p) (of_one k q) e = let z = byte_at 0 (rw (p, q) at e) in absurd (omega arith)
first_same u v xs ys (of_four h p) (of_two k l q) e = let z = byte_at 0 (rw (p, q) at e) in absurd (omega arith)
first_same u v xs ys (of_four h p) (of_three k l q) e = let z = byte_at 0 (rw (p, q) at e) in absurd (omega arith)
first_same u v xs ys (of_four h p) (of_four k q) e =
    let f = rw (p, q) at e in
    let a : 0xF0 + u / 0x40000 ≡ 0xF0 + v / 0x40000 = byte_at 0 f in
    let b : 0x80 + u / 0x1000 % 0x40 ≡ 0x80 + v / 0x1000 % 0x40 = byte_at 1 f in
    let c : 0x80 + u / 0x40 % 0x40 ≡ 0x80 + v / 0x40 % 0x40 = byte_at 2 f in
    let d : 0x80 + u % 0x40 ≡ 0x80 + v % 0x40 = byte_at 3 f in
    let m : u / 0x1000 ≡ v / 0x1000 = joins (u / 0x1000) (v / 0x1000) (u / 0x40000) (v / 0x40000) (omega arith) (omega arith) (omega arith) (omega arith) in
    let n : u / 0x40 ≡ v / 0x40 = joins (u / 0x40) (v / 0x40) (u / 0x1000) (v / 0x1000) (omega arith) (omega arith) m (omega arith) in
    (omega arith, rest_of 4 f)
  where
    joins : (m n x y : ℕ) → m / 0x40 ≡ x → n / 0x40 ≡ y → x ≡ y → m % 0x40 ≡ n % 0x40 → m ≡ n
    joins m n x y p q e k = omega arith

some_byte : (u : ℕ) (xs : Bytes) → Shape u → length (pack u ++ xs) ≡ 0 → ⊥
some_byte u xs (of_one h p) e = let z = rw p at e in omega arith
some_byte u xs (of_two h k p) e = let z = rw p at e in omega arith
some_byte u xs (of_three h k p) e = let z = rw p at e in omega arith
some_byte u xs (of_four h p) e = let z = rw p at e in omega arith

pub packed_apart : (us vs : List ℕ) → packed us ≡ packed vs → us ≡ vs
unfolding packed
packed_apart [] [] e = refl
packed_apart [] (v ∷ vs) e = absurd (some_byte v (packed vs) (shape_of v) (sym (ap length e)))
packed_apart (u ∷ us) [] e = absurd (some_byte u (packed us) (shape_of u) (ap length e))
packed_apart (u ∷ us) (v ∷ vs) e =
    let f = first_same u v (packed us) (packed vs) (shape_of u) (shape_of v) e in
    ap₂ (λ (x : ℕ) (l : List ℕ). x ∷ l) f.0 (packed_apart us vs f.1)

pub same_name :
    (us vs : List ℕ)
    → (fold_name (packed us) ≡ fold_name (packed vs) → map fold_point us ≡ map fold_point vs)
    × (map fold_point us ≡ map fold_point vs → fold_name (packed us) ≡ fold_name (packed vs))
same_name us vs = (
  λ e. packed_apart (map fold_point us) (map fold_point vs) (sym (each_point us) ∙ e ∙ each_point vs),
  λ e. each_point us ∙ ap packed e ∙ sym (each_point vs),
)
