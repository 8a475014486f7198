-- The content of an accepted CSVJ string has the form that the rules give it. A code unit's bytes, and a joined pair's, take content
-- from gap to gap (`unit_run`, `pair_run`); so does every list of code units in which no low surrogate is left after a high one
-- (`good_content`); and the units between the quotes of an accepted string are such a list (`json_units`).
use Prim.Native.Nat.{ℕ, ◌+◌, ◌*◌, ◌/◌, ◌%◌, ◌≤◌, ◌<◌}
use native.Mathlib.Omega.{arith}
use mathlib.Core.Path.{◌≡◌, refl, sym, ap, ◌∙◌}
use mathlib.Core.Bool.{Bool, true, false, ◌&&◌}
use Rattle.std.specs.Prelude.{Some}
use mathlib.Core.List.{List, [], ◌∷◌, ◌++◌, append-nil}
use lib.Dec.{leb, ltb}
use borrow.Author.Tests.{leb-true, leb-false, le-leb, lt-leb, ne_eqb}
use Rattle.model.specs.rules.Types.{Csvj, Lead, C2ToDf, E0, E1ToEc, Ed, EeToEf, F0, F1ToF3, F4, Inner, Second, LastTwo, Last, Char, Whole}
use Rattle.model.specs.rules.Types.{Within, HexLeft, Four, Three, Two, One}
use Rattle.model.specs.rules.Types.{Cell, Quoted, Escape, Hex, Complete, More}
use Rattle.model.specs.rules.Base.{Bytes, QUOTE, BACKSLASH, ◌is◌, choose◌then◌else◌}
use Rattle.model.specs.rules.Utf8.{row_of, leads, lead_byte, inner_step, char_step, Wide, gap, ed, lone, inner, wide_step, wide_from, is_content, pack}
use Rattle.model.specs.rules.Utf8.{is_high, is_low, joined}
use Rattle.model.specs.rules.Cell.{quoted_byte, cell_step, is_whole, is_short, is_hex, after_hex}
use Rattle.model.specs.rules.Decode.{Unit16, byte, unit, between, escape, digits, units, text_of, hex_of}
use Rattle.model.proofs.Tests.{split, split_on, impossible, is→eq, and_true, within_true}
use Rattle.model.proofs.cell_laws.Utf8.{ascii_whole, inner_high, Near, near_gap, near_step, Calm, wide_on}
use Rattle.model.proofs.cell_laws.CellRuns.{Runs, here, there}
use Rattle.model.proofs.cell_laws.CellContent.{CharOn, char_on, same_more, no_more}

-- ---- a code point's bytes

data CharRuns : Char → Bytes → Char → Type 0 where
  c_here : {c : Char} → CharRuns c [] c
  c_there : {c c' c'' : Char} {b : ℕ} {bs : Bytes} → char_step c b ≡ Some c' → CharRuns c' bs c'' → CharRuns c (b ∷ bs) c''

-- these bytes end between characters, not after a high surrogate
record ToGap (w : Wide) (bs : Bytes) : Type 0 where
  run : (xs : Bytes) → wide_from w (bs ++ xs) ≡ wide_from (gap false) xs

calm_gap : (w : Wide) → Near Whole w → Calm w → w ≡ gap false
calm_gap (gap true) near_gap c = absurd c
calm_gap (gap false) near_gap c = refl
calm_gap (ed high) x'' c = elim x'' [ ]
calm_gap (lone high) x3 c = elim x3 [ ]
calm_gap (inner _) x5 c = elim x5 [ ]

near_runs : {c : Char} {w : Wide} {bs : Bytes} → CharRuns c bs Whole → Near c w → Calm w → ToGap w bs
near_runs {w} c_here n k = record { run = λ xs. ap (λ (x : Wide). wide_from x xs) (calm_gap w n k) }
near_runs {w} (c_there {c'} {b} {bs} e r) n k =
    let s = near_step b c' n e in
    let i = near_runs r s.near s.calm in
    record { run = λ xs. wide_on w s.wide b (bs ++ xs) s.step ∙ i.run xs }

char_runs : (h : Bool) (b : ℕ) (c : Char) (bs : Bytes) → char_step Whole b ≡ Some c → CharRuns c bs Whole → ToGap (gap h) (b ∷ bs)
char_runs h b c bs e r =
    let s = near_step b c near_gap e in
    let i = near_runs r s.near s.calm in
    record { run = λ xs. wide_on (gap h) s.wide b (bs ++ xs) s.step ∙ i.run xs }

-- the rows of the table that have more than one first byte
module _ (b : ℕ) where
  row_c2 : 0xC2 ≤ b → b ≤ 0xDF → char_step Whole b ≡ Some (Within (Second C2ToDf))
  unfolding char_step lead_byte leads row_of choose◌then◌else◌
  row_c2 l h = rw (le-leb 0 b (omega arith), lt-leb b 0x7F (omega arith), le-leb 0xC2 b l, le-leb b 0xDF h)

  row_e1 : 0xE1 ≤ b → b ≤ 0xEC → char_step Whole b ≡ Some (Within (Second E1ToEc))
  unfolding char_step lead_byte leads row_of choose◌then◌else◌
  row_e1 l h =
      rw (
        le-leb 0 b (omega arith),
        lt-leb b 0x7F (omega arith),
        le-leb 0xC2 b (omega arith),
        lt-leb b 0xDF (omega arith),
        le-leb 0xE0 b (omega arith),
        lt-leb b 0xE0 (omega arith),
        le-leb 0xE1 b l,
        le-leb b 0xEC h,
      )

  row_ee : 0xEE ≤ b → b ≤ 0xEF → char_step Whole b ≡ Some (Within (Second EeToEf))
  unfolding char_step lead_byte leads row_of choose◌then◌else◌
  row_ee l h =
      rw (
        le-leb 0 b (omega arith),
        lt-leb b 0x7F (omega arith),
        le-leb 0xC2 b (omega arith),
        lt-leb b 0xDF (omega arith),
        le-leb 0xE0 b (omega arith),
        lt-leb b 0xE0 (omega arith),
        le-leb 0xE1 b (omega arith),
        lt-leb b 0xEC (omega arith),
        le-leb 0xED b (omega arith),
        lt-leb b 0xED (omega arith),
        le-leb 0xEE b l,
        le-leb b 0xEF h,
      )

  row_f1 : 0xF1 ≤ b → b ≤ 0xF3 → char_step Whole b ≡ Some (Within (Second F1ToF3))
  unfolding char_step lead_byte leads row_of choose◌then◌else◌
  row_f1 l h =
      rw (
        le-leb 0 b (omega arith),
        lt-leb b 0x7F (omega arith),
        le-leb 0xC2 b (omega arith),
        lt-leb b 0xDF (omega arith),
        le-leb 0xE0 b (omega arith),
        lt-leb b 0xE0 (omega arith),
        le-leb 0xE1 b (omega arith),
        lt-leb b 0xEC (omega arith),
        le-leb 0xED b (omega arith),
        lt-leb b 0xED (omega arith),
        le-leb 0xEE b (omega arith),
        lt-leb b 0xEF (omega arith),
        le-leb 0xF0 b (omega arith),
        lt-leb b 0xF0 (omega arith),
        le-leb 0xF1 b l,
        le-leb b 0xF3 h,
      )

  -- a later byte
  last : 0x80 ≤ b → b ≤ 0xBF → char_step (Within Last) b ≡ Some Whole
  unfolding char_step inner_step choose◌then◌else◌
  last l h = rw (le-leb 0x80 b l, le-leb b 0xBF h)

  last_two : 0x80 ≤ b → b ≤ 0xBF → char_step (Within LastTwo) b ≡ Some (Within Last)
  unfolding char_step inner_step choose◌then◌else◌
  last_two l h = rw (le-leb 0x80 b l, le-leb b 0xBF h)

  -- a second byte
  second_c2 : 0x80 ≤ b → b ≤ 0xBF → char_step (Within (Second C2ToDf)) b ≡ Some Whole
  unfolding char_step inner_step row_of choose◌then◌else◌
  second_c2 l h = rw (le-leb 0x80 b l, le-leb b 0xBF h)

  second_e0 : 0xA0 ≤ b → b ≤ 0xBF → char_step (Within (Second E0)) b ≡ Some (Within Last)
  unfolding char_step inner_step row_of choose◌then◌else◌
  second_e0 l h = rw (le-leb 0xA0 b l, le-leb b 0xBF h)

  second_e1 : 0x80 ≤ b → b ≤ 0xBF → char_step (Within (Second E1ToEc)) b ≡ Some (Within Last)
  unfolding char_step inner_step row_of choose◌then◌else◌
  second_e1 l h = rw (le-leb 0x80 b l, le-leb b 0xBF h)

  second_ed : 0x80 ≤ b → b ≤ 0x9F → char_step (Within (Second Ed)) b ≡ Some (Within Last)
  unfolding char_step inner_step row_of choose◌then◌else◌
  second_ed l h = rw (le-leb 0x80 b l, le-leb b 0x9F h)

  second_ee : 0x80 ≤ b → b ≤ 0xBF → char_step (Within (Second EeToEf)) b ≡ Some (Within Last)
  unfolding char_step inner_step row_of choose◌then◌else◌
  second_ee l h = rw (le-leb 0x80 b l, le-leb b 0xBF h)

  second_f0 : 0x90 ≤ b → b ≤ 0xBF → char_step (Within (Second F0)) b ≡ Some (Within LastTwo)
  unfolding char_step inner_step row_of choose◌then◌else◌
  second_f0 l h = rw (le-leb 0x90 b l, le-leb b 0xBF h)

  second_f1 : 0x80 ≤ b → b ≤ 0xBF → char_step (Within (Second F1ToF3)) b ≡ Some (Within LastTwo)
  unfolding char_step inner_step row_of choose◌then◌else◌
  second_f1 l h = rw (le-leb 0x80 b l, le-leb b 0xBF h)

  second_f4 : 0x80 ≤ b → b ≤ 0x8F → char_step (Within (Second F4)) b ≡ Some (Within LastTwo)
  unfolding char_step inner_step row_of choose◌then◌else◌
  second_f4 l h = rw (le-leb 0x80 b l, le-leb b 0x8F h)

-- the rows of one first byte
row_of_one :
    (char_step Whole 0xE0 ≡ Some (Within (Second E0))) × (char_step Whole 0xED ≡ Some (Within (Second Ed)))
    × (char_step Whole 0xF0 ≡ Some (Within (Second F0))) × (char_step Whole 0xF4 ≡ Some (Within (Second F4)))
unfolding char_step lead_byte leads row_of choose◌then◌else◌
row_of_one = (refl, refl, refl, refl)

-- three bytes and four bytes of a row
three :
    (h : Bool) (l : Lead) (a b c : ℕ) → char_step Whole a ≡ Some (Within (Second l)) → char_step (Within (Second l)) b ≡ Some (Within Last) →
    0x80 ≤ c → c ≤ 0xBF → ToGap (gap h) (a ∷ b ∷ c ∷ [])
three h l a b c e f p q = char_runs h a (Within (Second l)) (b ∷ c ∷ []) e (c_there f (c_there (last c p q) c_here))

four :
    (h : Bool) (l : Lead) (a b c d : ℕ) → char_step Whole a ≡ Some (Within (Second l)) → char_step (Within (Second l)) b ≡ Some (Within LastTwo) →
    0x80 ≤ c → c ≤ 0xBF → 0x80 ≤ d → d ≤ 0xBF → ToGap (gap h) (a ∷ b ∷ c ∷ d ∷ [])
four h l a b c d e f p q r s =
    char_runs h a (Within (Second l)) (b ∷ c ∷ d ∷ []) e (c_there f (c_there (last_two c p q) (c_there (last d r s) c_here)))

-- the code points of three bytes
module _ (h : Bool) (u : ℕ) (l : 0x7FF < u) (m : u ≤ 0xFFFF) where
  abbrev B1 : ℕ
  B1 = 0xE0 + u / 0x1000

  abbrev B2 : ℕ
  B2 = 0x80 + u / 0x40 % 0x40

  abbrev B3 : ℕ
  B3 = 0x80 + u % 0x40

  below_surrogates : (u < 0xD800) → ToGap (gap h) (B1 ∷ B2 ∷ B3 ∷ [])
  below_surrogates n =
      split_on (leb u 0xFFF)
      (λ p.
      let k : u ≤ 0xFFF = leb-true u 0xFFF p in
      let q : B1 ≡ 0xE0 = omega arith in
      three h E0 B1 B2 B3 (rw q row_of_one.0) (second_e0 B2 (omega arith) (omega arith)) (omega arith) (omega arith))
      (λ p.
      let k : 0xFFF < u = leb-false u 0xFFF p in
      split_on (leb u 0xCFFF)
      (λ r.
      let g : u ≤ 0xCFFF = leb-true u 0xCFFF r in
      three h E1ToEc B1 B2 B3 (row_e1 B1 (omega arith) (omega arith)) (second_e1 B2 (omega arith) (omega arith)) (omega arith)
      (omega arith))
      (λ r.
      let g : 0xCFFF < u = leb-false u 0xCFFF r in
      let q : B1 ≡ 0xED = omega arith in
      three h Ed B1 B2 B3 (rw q row_of_one.1) (second_ed B2 (omega arith) (omega arith)) (omega arith) (omega arith)))

  above_surrogates : (0xDFFF < u) → ToGap (gap h) (B1 ∷ B2 ∷ B3 ∷ [])
  above_surrogates n = three h EeToEf B1 B2 B3 (row_ee B1 (omega arith) (omega arith)) (second_ee B2 (omega arith) (omega arith)) (omega arith) (omega arith)

-- a lone surrogate
ed_wide : (h : Bool) (b : ℕ) → b ≡ 0xED → wide_step (gap h) b ≡ Some (ed h)
unfolding wide_step choose◌then◌else◌
ed_wide h b e = rw e

lone_wide : (x : Bool) (b : ℕ) → 0x80 ≤ b → b ≤ 0xBF → wide_step (lone x) b ≡ Some (gap x)
unfolding wide_step choose◌then◌else◌
lone_wide x b p q = rw (le-leb 0x80 b p, le-leb b 0xBF q)

high_wide : (h : Bool) (b : ℕ) → 0xA0 ≤ b → b ≤ 0xAF → wide_step (ed h) b ≡ Some (lone true)
unfolding wide_step choose◌then◌else◌
high_wide h b p q = rw (le-leb 0x80 b (omega arith), lt-leb b 0x9F (omega arith), le-leb 0xA0 b p, le-leb b 0xAF q)

low_wide : (b : ℕ) → 0xB0 ≤ b → b ≤ 0xBF → wide_step (ed false) b ≡ Some (lone false)
unfolding wide_step choose◌then◌else◌
low_wide b p q =
    rw (
      le-leb 0x80 b (omega arith),
      lt-leb b 0x9F (omega arith),
      le-leb 0xA0 b (omega arith),
      lt-leb b 0xAF (omega arith),
      le-leb 0xB0 b p,
      le-leb b 0xBF q,
    )

-- three bytes that are a surrogate, given its second byte
surrogate_run :
    (h x : Bool) (a b c : ℕ) → a ≡ 0xED → wide_step (ed h) b ≡ Some (lone x) → 0x80 ≤ c → c ≤ 0xBF → (xs : Bytes) →
    wide_from (gap h) (a ∷ b ∷ c ∷ xs) ≡ wide_from (gap x) xs
surrogate_run h x a b c e f p q xs =
    wide_on (gap h) (ed h) a (b ∷ c ∷ xs) (ed_wide h a e)
    ∙ wide_on (ed h) (lone x) b (c ∷ xs) f
    ∙ wide_on (lone x) (gap x) c xs (lone_wide x c p q)

pack1 : (u : ℕ) → u ≤ 0x7F → pack u ≡ u ∷ []
unfolding pack choose◌then◌else◌
pack1 u h = rw (le-leb u 0x7F h, pack)

pack2 : (u : ℕ) → 0x7F < u → u ≤ 0x7FF → pack u ≡ (0xC0 + u / 0x40) ∷ (0x80 + u % 0x40) ∷ []
unfolding pack choose◌then◌else◌
pack2 u l h = rw (lt-leb u 0x7F l, le-leb u 0x7FF h, pack)

pack3 : (u : ℕ) → 0x7FF < u → u ≤ 0xFFFF → pack u ≡ (0xE0 + u / 0x1000) ∷ (0x80 + u / 0x40 % 0x40) ∷ (0x80 + u % 0x40) ∷ []
unfolding pack choose◌then◌else◌
pack3 u l h = rw (lt-leb u 0x7F (omega arith), lt-leb u 0x7FF l, le-leb u 0xFFFF h, pack)

pack4 : (u : ℕ) → 0xFFFF < u → pack u ≡ (0xF0 + u / 0x40000) ∷ (0x80 + u / 0x1000 % 0x40) ∷ (0x80 + u / 0x40 % 0x40) ∷ (0x80 + u % 0x40) ∷ []
unfolding pack choose◌then◌else◌
pack4 u l = rw (lt-leb u 0x7F (omega arith), lt-leb u 0x7FF (omega arith), lt-leb u 0xFFFF l, pack)

-- a code unit, joined to nothing
unit_run : (h : Bool) (u : ℕ) → u ≤ 0xFFFF → (is_low u ≡ true → h ≡ false) → (xs : Bytes) → wide_from (gap h) (pack u ++ xs) ≡ wide_from (gap (is_high u)) xs
unit_run h u m f xs =
    split_on (leb u 0x7F)
    (λ a. let k : u ≤ 0x7F = leb-true u 0x7F a in rw (pack1 u k, lt-leb 0xD800 u (omega arith)) ((char_runs h u Whole [] (ascii_whole u k) c_here).run xs))
    (λ a.
    let k : 0x7F < u = leb-false u 0x7F a in
    split_on (leb u 0x7FF)
    (λ b. let n : u ≤ 0x7FF = leb-true u 0x7FF b in
    rw (pack2 u k n, lt-leb 0xD800 u (omega arith))
    ((char_runs h (0xC0 + u / 0x40) (Within (Second C2ToDf)) ((0x80 + u % 0x40) ∷ [])
    (row_c2 (0xC0 + u / 0x40) (omega arith) (omega arith))
    (c_there (second_c2 (0x80 + u % 0x40) (omega arith) (omega arith)) c_here)).run xs))
    (λ b.
    let n : 0x7FF < u = leb-false u 0x7FF b in
    split_on (leb u 0xD7FF)
    (λ c. let o : u ≤ 0xD7FF = leb-true u 0xD7FF c in rw (pack3 u n m, lt-leb 0xD800 u (omega arith)) ((below_surrogates h u n m (omega arith)).run xs))
    (λ c.
    let o : 0xD7FF < u = leb-false u 0xD7FF c in
    split_on (leb u 0xDBFF)
    (λ d. let p : u ≤ 0xDBFF = leb-true u 0xDBFF d in
    rw (pack3 u n m, le-leb 0xD800 u (omega arith), d)
    (surrogate_run h true (0xE0 + u / 0x1000) (0x80 + u / 0x40 % 0x40) (0x80 + u % 0x40) (omega arith)
    (high_wide h (0x80 + u / 0x40 % 0x40) (omega arith) (omega arith)) (omega arith) (omega arith) xs))
    (λ d.
    let p : 0xDBFF < u = leb-false u 0xDBFF d in
    split_on (leb u 0xDFFF)
    (λ e. let q : u ≤ 0xDFFF = leb-true u 0xDFFF e in
    let z : h ≡ false = f (rw (le-leb 0xDC00 u (omega arith), e)) in
    rw (pack3 u n m, le-leb 0xD800 u (omega arith), d, z)
    (surrogate_run false false (0xE0 + u / 0x1000) (0x80 + u / 0x40 % 0x40) (0x80 + u % 0x40) (omega arith)
    (low_wide (0x80 + u / 0x40 % 0x40) (omega arith) (omega arith)) (omega arith) (omega arith) xs))
    (λ e. let q : 0xDFFF < u = leb-false u 0xDFFF e in rw (pack3 u n m, le-leb 0xD800 u (omega arith), d) ((above_surrogates h u n m q).run xs))))))

-- a pair of surrogates
pair_run : (x : Bool) (h l : ℕ) → is_high h ≡ true → is_low l ≡ true → (xs : Bytes) → wide_from (gap x) (pack (joined h l) ++ xs) ≡ wide_from (gap false) xs
pair_run x h l p q xs =
    let a = within_true 0xD800 0xDBFF h p in
    let b = within_true 0xDC00 0xDFFF l q in
    let a₀ : 0xD800 ≤ h = a.0 in
    let a₁ : h ≤ 0xDBFF = a.1 in
    let b₀ : 0xDC00 ≤ l = b.0 in
    let b₁ : l ≤ 0xDFFF = b.1 in
    go (joined h l) (omega arith) (omega arith)
  where
    go : (u : ℕ) → 0xFFFF < u → u ≤ 0x10FFFF → wide_from (gap x) (pack u ++ xs) ≡ wide_from (gap false) xs
    go u m n =
        let B1 : ℕ = 0xF0 + u / 0x40000 in
        let B2 : ℕ = 0x80 + u / 0x1000 % 0x40 in
        let B3 : ℕ = 0x80 + u / 0x40 % 0x40 in
        let B4 : ℕ = 0x80 + u % 0x40 in
        rw (pack4 u m)
        (split_on (leb u 0x3FFFF)
        (λ e.
        let k : u ≤ 0x3FFFF = leb-true u 0x3FFFF e in
        let z : 0xF0 + u / 0x40000 ≡ 0xF0 = omega arith in
        (four x F0 B1 B2 B3 B4 (rw z row_of_one.2) (second_f0 B2 (omega arith) (omega arith)) (omega arith) (omega arith)
        (omega arith) (omega arith)).run xs)
        (λ e.
        let k : 0x3FFFF < u = leb-false u 0x3FFFF e in
        split_on (leb u 0xFFFFF)
        (λ g.
        let o : u ≤ 0xFFFFF = leb-true u 0xFFFFF g in
        (four x F1ToF3 B1 B2 B3 B4 (row_f1 B1 (omega arith) (omega arith)) (second_f1 B2 (omega arith) (omega arith)) (omega arith)
        (omega arith) (omega arith) (omega arith)).run xs)
        (λ g.
        let o : 0xFFFFF < u = leb-false u 0xFFFFF g in
        let z : 0xF0 + u / 0x40000 ≡ 0xF4 = omega arith in
        (four x F4 B1 B2 B3 B4 (rw z row_of_one.3) (second_f4 B2 (omega arith) (omega arith)) (omega arith) (omega arith)
        (omega arith) (omega arith)).run xs)))

-- ---- lists of code units

data Good : Char → List Unit16 → Type 0 where
  g_end : Good Whole []
  g_byte : {c c' : Char} {b : ℕ} {us : List Unit16} → char_step c b ≡ Some c' → Good c' us → Good c (byte b ∷ us)
  g_unit : {u : ℕ} {us : List Unit16} → u ≤ 0xFFFF → Good Whole us → Good Whole (unit u ∷ us)

-- after a high surrogate comes no low one
abbrev Free : Wide → List Unit16 → Type 0
Free w [] = Unit {0}
Free w (byte b ∷ us) = Unit {0}
Free (gap true) (unit l ∷ us) = is_low l ≡ false
Free (gap false) (unit l ∷ us) = Unit {0}
Free (ed h) (unit l ∷ us) = Unit {0}
Free (lone h) (unit l ∷ us) = Unit {0}
Free (inner i) (unit l ∷ us) = Unit {0}

calm_free : (w : Wide) (us : List Unit16) → Calm w → Free w us
calm_free w [] c = tt
calm_free w (byte b ∷ us) c = tt
calm_free (gap true) (unit l ∷ us) c = absurd c
calm_free (gap false) (unit l ∷ us) c = tt
calm_free (ed h) (unit l ∷ us) c = tt
calm_free (lone h) (unit l ∷ us) c = tt
calm_free (inner i) (unit l ∷ us) c = tt

free_low : (h : Bool) (u : ℕ) (us : List Unit16) → Free (gap h) (unit u ∷ us) → is_low u ≡ true → h ≡ false
free_low true u us f e = impossible (sym f ∙ e)
free_low false u us f e = refl

abbrev Fine : List Unit16 → Type 0
Fine us = (h : Bool) → Free (gap h) us → wide_from (gap h) (text_of us) ≡ true

-- a code unit that is joined to nothing, before the rest
alone :
    (h : Bool) (u : ℕ) (us : List Unit16) → u ≤ 0xFFFF → Free (gap h) (unit u ∷ us) → Free (gap (is_high u)) us → Fine us →
    wide_from (gap h) (pack u ++ text_of us) ≡ true
alone h u us m f g ih = unit_run h u m (free_low h u us f) (text_of us) ∙ ih (is_high u) g

free_high : (t : Bool) (l : ℕ) (us : List Unit16) → (t && is_low l) ≡ false → Free (gap t) (unit l ∷ us)
free_high true l us e = e
free_high false l us e = tt

abbrev TailFine : List Unit16 → Type 0
TailFine [] = Unit {0}
TailFine (byte b ∷ us) = Unit {0}
TailFine (unit l ∷ us) = Fine us

unit_fine :
    (h : Bool) (u : ℕ) (us : List Unit16) → u ≤ 0xFFFF → Free (gap h) (unit u ∷ us) → Fine us → TailFine us →
    wide_from (gap h) (text_of (unit u ∷ us)) ≡ true
unfolding text_of
unit_fine h u [] m f ih t = rw (← append-nil (pack u)) (alone h u [] m f tt ih)
unit_fine h u (byte b ∷ us) m f ih t = alone h u (byte b ∷ us) m f tt ih
unit_fine h u (unit l ∷ us) m f ih t =
    split (λ (x : Bytes). wide_from (gap h) x ≡ true) (is_high u && is_low l)
    (λ e. let b = and_true (is_high u) (is_low l) e in pair_run h u l b.0 b.1 (text_of us) ∙ t false (calm_free (gap false) us tt))
    (λ e. alone h u (unit l ∷ us) m f (free_high (is_high u) l us e) ih)

byte_fine :
    {c : Char} {w : Wide} (b : ℕ) (c' : Char) (us : List Unit16) → Near c w → char_step c b ≡ Some c' →
    ((w' : Wide) → Near c' w' → Free w' us → wide_from w' (text_of us) ≡ true) → wide_from w (text_of (byte b ∷ us)) ≡ true
unfolding text_of
byte_fine {w} b c' us n e ih =
    let s = near_step b c' n e in
    wide_on w s.wide b (text_of us) s.step ∙ ih s.wide s.near (calm_free s.wide us s.calm)

good_content : {c : Char} {us : List Unit16} → Good c us → (w : Wide) → Near c w → Free w us → wide_from w (text_of us) ≡ true
unfolding text_of wide_from
good_content g_end w near_gap f = refl
good_content (g_byte {c'} {b} {us} e g) w n f = byte_fine b c' us n e (good_content g)
good_content (g_unit {u} m g_end) w (near_gap {h}) f = unit_fine h u [] m f (λ x y. refl) tt
good_content (g_unit {u} m (g_byte {b} {us} e g)) w (near_gap {h}) f = unit_fine h u (byte b ∷ us) m f (λ x y. good_content (g_byte e g) (gap x) near_gap y) tt
good_content (g_unit {u} m (g_unit {u = l} {us} k g)) w (near_gap {h}) f =
    unit_fine h u (unit l ∷ us) m f (λ x y. good_content (g_unit k g) (gap x) near_gap y) (λ x y. good_content g (gap x) near_gap y)

-- ---- the units between the quotes

-- the value of the digits read so far
data Sofar : HexLeft → ℕ → Type 0 where
  sofar_four : Sofar Four 0
  sofar_three : {u : ℕ} → u < 0x10 → Sofar Three u
  sofar_two : {u : ℕ} → u < 0x100 → Sofar Two u
  sofar_one : {u : ℕ} → u < 0x1000 → Sofar One u

data Unitary : Cell → Bytes → Type 0 where
  u_quoted : {c : Char} {bs : Bytes} → Good c (units between bs) → Unitary (Quoted c) bs
  u_escape : {bs : Bytes} → Good Whole (units escape bs) → Unitary Escape bs
  u_hex : {n : HexLeft} {bs : Bytes} → ((u : ℕ) → Sofar n u → Good Whole (units (digits n u) bs)) → Unitary (Hex n) bs
  u_complete : {bs : Bytes} → Unitary Complete bs

from_quoted : {c : Char} {bs : Bytes} → Unitary (Quoted c) bs → Good c (units between bs)
from_quoted (u_quoted g) = g

from_escape : {bs : Bytes} → Unitary Escape bs → Good Whole (units escape bs)
from_escape (u_escape g) = g

from_hex : {n : HexLeft} {bs : Bytes} → Unitary (Hex n) bs → (u : ℕ) → Sofar n u → Good Whole (units (digits n u) bs)
from_hex (u_hex g) = g

-- the cells of a string
data InJson : Cell → Type 0 where
  j_quoted : {c : Char} → InJson (Quoted c)
  j_escape : InJson Escape
  j_hex : {n : HexLeft} → InJson (Hex n)
  j_complete : InJson Complete

-- what a byte between the quotes does
data Letter (b : ℕ) (bs : Bytes) (c' : Cell) : Type 0 where
  closes : Complete ≡ c' → (b is QUOTE) ≡ true → Letter b bs c'
  escapes : Escape ≡ c' → (b is QUOTE) ≡ false → (b is BACKSLASH) ≡ true → Letter b bs c'
  stands : (c : Char) → Quoted c ≡ c' → (b is QUOTE) ≡ false → (b is BACKSLASH) ≡ false → char_step Whole b ≡ Some c → Letter b bs c'

letter : (b : ℕ) (bs : Bytes) (c' : Cell) → cell_step Csvj (Quoted Whole) b ≡ More c' → Letter b bs c'
unfolding cell_step quoted_byte choose◌then◌else◌
letter b bs c' e = go (b is QUOTE) (b is BACKSLASH) (ltb b 0x20) refl refl refl
  where
    go : (x y z : Bool) → (b is QUOTE) ≡ x → (b is BACKSLASH) ≡ y → ltb b 0x20 ≡ z → Letter b bs c'
    go true y z p q r = closes (same_more (rw p at e)) p
    go false true z p q r = escapes (same_more (rw (p, q) at e)) p q
    go false false true p q r = no_more (rw (p, q, r) at e)
    go false false false p q r = let k = char_on Quoted Whole b c' (rw (p, q, r) at e) in stands k.char k.cell p q k.step

quoted_units : (b : ℕ) (bs : Bytes) (c' : Cell) → Letter b bs c' → Unitary c' bs → Good Whole (units between (b ∷ bs))
unfolding units choose◌then◌else◌
quoted_units b bs c' (closes e p) u = rw (p, units) g_end
quoted_units b bs c' (escapes e p q) u = rw (p, q, units) (from_escape (rw (← e) at u))
quoted_units b bs c' (stands c e p q k) u = rw (p, q, units) (g_byte k (from_quoted (rw (← e) at u)))

letter_in : {b : ℕ} {bs : Bytes} {c' : Cell} → Letter b bs c' → InJson c'
letter_in (closes e p) = rw (← e) j_complete
letter_in (escapes e p q) = rw (← e) j_escape
letter_in (stands c e p q k) = rw (← e) j_quoted

-- inside a character
inner_units : (i : Inner) (b : ℕ) (bs : Bytes) (c' : Cell) → CharOn Quoted (Within i) b c' → Unitary c' bs → Good (Within i) (units between (b ∷ bs))
unfolding units choose◌then◌else◌
inner_units i b bs c' k u =
    let h : 0x80 ≤ b = inner_high i b k.char k.step in
    rw (ne_eqb b QUOTE (omega arith), ne_eqb b BACKSLASH (omega arith), units) (g_byte k.step (from_quoted (rw (← k.cell) at u)))

-- an escape of one letter
data Short : ℕ → Type 0 where
  s_quote : Short 0x22
  s_backslash : Short 0x5C
  s_solidus : Short 0x2F
  s_b : Short 0x62
  s_f : Short 0x66
  s_n : Short 0x6E
  s_r : Short 0x72
  s_t : Short 0x74

short_of : (b : ℕ) → is_short b ≡ true → Short b
short_of b e =
    split_on (b is 0x22) (λ p. rw (is→eq b 0x22 p) s_quote) λ p₁.
    split_on (b is 0x5C) (λ p. rw (is→eq b 0x5C p) s_backslash) λ p₂.
    split_on (b is 0x2F) (λ p. rw (is→eq b 0x2F p) s_solidus) λ p₃.
    split_on (b is 0x62) (λ p. rw (is→eq b 0x62 p) s_b) λ p₄.
    split_on (b is 0x66) (λ p. rw (is→eq b 0x66 p) s_f) λ p₅.
    split_on (b is 0x6E) (λ p. rw (is→eq b 0x6E p) s_n) λ p₆.
    split_on (b is 0x72) (λ p. rw (is→eq b 0x72 p) s_r) λ p₇.
    split_on (b is 0x74) (λ p. rw (is→eq b 0x74 p) s_t) λ p₈.
    impossible (rw (p₁, p₂, p₃, p₄, p₅, p₆, p₇, p₈) at e)

short_units : {b : ℕ} (bs : Bytes) → Short b → Good Whole (units between bs) → Good Whole (units escape (b ∷ bs))
unfolding units char_step choose◌then◌else◌
short_units bs s_quote g = g_byte refl g
short_units bs s_backslash g = g_byte refl g
short_units bs s_solidus g = g_byte refl g
short_units bs s_b g = g_byte refl g
short_units bs s_f g = g_byte refl g
short_units bs s_n g = g_byte refl g
short_units bs s_r g = g_byte refl g
short_units bs s_t g = g_byte refl g

data Escaped (b : ℕ) (c' : Cell) : Type 0 where
  e_short : Short b → Quoted Whole ≡ c' → Escaped b c'
  e_hex : (b is 0x75) ≡ true → Hex Four ≡ c' → Escaped b c'

escape_step : (b : ℕ) (c' : Cell) → cell_step Csvj Escape b ≡ More c' → Escaped b c'
unfolding cell_step choose◌then◌else◌
escape_step b c' e = go (is_short b) (b is 0x75) refl refl
  where
    go : (x y : Bool) → is_short b ≡ x → (b is 0x75) ≡ y → Escaped b c'
    go true y p q = e_short (short_of b p) (same_more (rw p at e))
    go false true p q = e_hex q (same_more (rw (p, q) at e))
    go false false p q = no_more (rw (p, q) at e)

escape_units : (b : ℕ) (bs : Bytes) (c' : Cell) → Escaped b c' → Unitary c' bs → Good Whole (units escape (b ∷ bs))
unfolding units choose◌then◌else◌
escape_units b bs c' (e_short s e) u = short_units bs s (from_quoted (rw (← e) at u))
escape_units b bs c' (e_hex p e) u = rw (p, units) (from_hex (rw (← e) at u) 0 sofar_four)

escape_in : {b : ℕ} {c' : Cell} → Escaped b c' → InJson c'
escape_in (e_short s e) = rw (← e) j_quoted
escape_in (e_hex p e) = rw (← e) j_hex

-- a digit
hex_small : (b : ℕ) → is_hex b ≡ true → hex_of b < 16
unfolding choose◌then◌else◌
hex_small b e =
    split_on (leb b 0x39) (λ p. let k : b ≤ 0x39 = leb-true b 0x39 p in rw p (omega arith)) λ p.
    split_on (leb b 0x46) (λ q. let k : b ≤ 0x46 = leb-true b 0x46 q in rw (p, q) (omega arith)) λ q.
    let m : 0x46 < b = leb-false b 0x46 q in
    split_on (leb b 0x66) (λ r. let k : b ≤ 0x66 = leb-true b 0x66 r in rw (p, q) (omega arith)) λ r.
    let m₂ : 0x66 < b = leb-false b 0x66 r in
    impossible (rw (p, q, r, le-leb 0x30 b (omega arith), le-leb 0x41 b (omega arith), le-leb 0x61 b (omega arith)) at e)

record Digit (n : HexLeft) (b : ℕ) (c' : Cell) : Type 0 where
  hex : hex_of b < 16
  next : after_hex n ≡ c'

digit_step : (n : HexLeft) (b : ℕ) (c' : Cell) → cell_step Csvj (Hex n) b ≡ More c' → Digit n b c'
unfolding cell_step choose◌then◌else◌
digit_step n b c' e = go (is_hex b) refl
  where
    go : (x : Bool) → is_hex b ≡ x → Digit n b c'
    go true p = record { hex = hex_small b p; next = same_more (rw p at e) }
    go false p = no_more (rw p at e)

after_in : (n : HexLeft) → InJson (after_hex n)
after_in Four = j_hex
after_in Three = j_hex
after_in Two = j_hex
after_in One = j_quoted

digit_units : (n : HexLeft) (b u : ℕ) (bs : Bytes) (c' : Cell) → Digit n b c' → Unitary c' bs → Sofar n u → Good Whole (units (digits n u) (b ∷ bs))
unfolding units
digit_units n b u bs c' k v sofar_four = let h = k.hex in from_hex {n = Three} (rw (← k.next) at v) (0 * 0x10 + hex_of b) (sofar_three (omega arith))
digit_units n b u bs c' k v (sofar_three m) = let h = k.hex in from_hex {n = Two} (rw (← k.next) at v) (u * 0x10 + hex_of b) (sofar_two (omega arith))
digit_units n b u bs c' k v (sofar_two m) = let h = k.hex in from_hex {n = One} (rw (← k.next) at v) (u * 0x10 + hex_of b) (sofar_one (omega arith))
digit_units n b u bs c' k v (sofar_one m) = let h = k.hex in g_unit {u = u * 0x10 + hex_of b} (omega arith) (from_quoted (rw (← k.next) at v))

quoted_next : (c : Char) (b : ℕ) (bs : Bytes) (c' : Cell) → cell_step Csvj (Quoted c) b ≡ More c' → (InJson c' → Unitary c' bs) → Unitary (Quoted c) (b ∷ bs)
unfolding cell_step
quoted_next Whole b bs c' x ih = let l = letter b bs c' x in u_quoted (quoted_units b bs c' l (ih (letter_in l)))
quoted_next (Within i) b bs c' x ih =
    let k = char_on Quoted (Within i) b c' x in u_quoted (inner_units i b bs c' k (ih (rw (← k.cell) j_quoted)))

json_next : {c : Cell} (b : ℕ) (bs : Bytes) (c' : Cell) → InJson c → cell_step Csvj c b ≡ More c' → (InJson c' → Unitary c' bs) → Unitary c (b ∷ bs)
json_next b bs c' (j_quoted {c}) x ih = quoted_next c b bs c' x ih
json_next b bs c' j_escape x ih = let k = escape_step b c' x in u_escape (escape_units b bs c' k (ih (escape_in k)))
json_next b bs c' (j_hex {n}) x ih =
    let k = digit_step n b c' x in
    let v : Unitary c' bs = ih (rw (← k.next) (after_in n)) in
    u_hex (λ u m. digit_units n b u bs c' k v m)
json_next b bs c' j_complete x ih = u_complete

json_last : {c : Cell} → InJson c → is_whole Csvj c ≡ true → Unitary c []
unfolding is_whole
json_last j_quoted w = impossible w
json_last j_escape w = impossible w
json_last j_hex w = impossible w
json_last j_complete w = u_complete

json_units : {c e : Cell} {bs : Bytes} → Runs Csvj c bs e → is_whole Csvj e ≡ true → InJson c → Unitary c bs
json_units here w j = json_last j w
json_units (there {c'} {b} {bs} x r) w j = json_next b bs c' j x (json_units r w)

pub string_content : (bs : Bytes) {e : Cell} → Runs Csvj (Quoted Whole) bs e → is_whole Csvj e ≡ true → is_content (text_of (units between bs)) ≡ true
unfolding is_content
string_content bs r w = good_content (from_quoted (json_units r w j_quoted)) (gap false) near_gap (calm_free (gap false) (units between bs) tt)
