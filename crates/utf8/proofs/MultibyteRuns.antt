-- Laws of runs of whole non-ASCII characters: runs join, a character of each length is a run, and so are those of two bytes that begin a
-- word.
use Prim.Native.Nat.{ℕ, suc, ◌+◌, ◌-◌, ◌*◌, ◌/◌, ◌≤◌, ◌<◌}
use native.Mathlib.Omega.{arith}
use mathlib.Core.Path.{◌≡◌, refl, ap, ◌∙◌}
use mathlib.Core.Bool.{true, and-false}
use mathlib.Core.List.{[], ◌∷◌, ◌++◌}
use lib.Dec.{leb}
use lib.ListN.{length, take, drop, get_or}
use lib.Seq.{drop-cons, drop-drop, take-add, take-take}
use borrow.Author.Tests.{le-leb, lt-leb, leb-true, leb-false}
use Rattle.model.specs.declared.Lead.{Lead}
use Rattle.model.specs.declared.Lead.TheVariants.{C2ToDf, E0, E1ToEc, Ed, EeToEf, F0, F1ToF3, F4}
use Rattle.model.specs.declared.Inner.{Inner}
use Rattle.model.specs.declared.Inner.TheVariants.{Second, LastTwo, Last}
use Rattle.model.specs.declared.Char.{Char}
use Rattle.model.specs.declared.Char.TheVariants.{Whole, Within}
use Rattle.std.specs.Prelude.{Option, Some, None}
use Rattle.model.specs.rules.Base.{Bytes, choose◌then◌else◌, within}
use Rattle.model.specs.rules.Utf8.{row_of, leads, lead_byte, after_second, inner_step, char_step, is_later}
use Rattle.model.specs.rules.Api.{slice}
use Rattle.model.proofs.Tests.{split_on, and_true, within_true}
use Rattle.model.proofs.cell_laws.Utf8.{ascii_whole, inner_high, broken_on}
use Rattle.swar.specs.Words.{bytes_of, by_turns, two_byte_prefix, Word}
use Rattle.utf8.specs.declared.Row.{Row}
use Rattle.utf8.specs.Table.{IsRow}
use Rattle.utf8.specs.Multibyte.{chars_from, all_high, WideText, WideRun}

-- ---- slices

part_next : (s : Bytes) (i j stop : ℕ) → j ≡ suc i → i < stop → stop ≤ length s → slice s i stop ≡ get_or s i 0 ∷ slice s j stop
part_next s i j stop e h k =
    let n : stop - i ≡ suc (stop - suc i) = omega arith in
    let l : i < length s = omega arith in
    rw (e, n, drop-cons s i 0)

part_none : (s : Bytes) (i : ℕ) → slice s i i ≡ []
part_none s i = let n : i - i ≡ 0 = omega arith in rw n

pub part_join : (s : Bytes) (i j stop : ℕ) → i ≤ j → j ≤ stop → slice s i stop ≡ slice s i j ++ slice s j stop
part_join s i j stop h k =
    let n : stop - i ≡ (j - i) + (stop - j) = omega arith in
    let m : i + (j - i) ≡ j = omega arith in
    ap (λ (x : ℕ). take x (drop i s)) n ∙ take-add (j - i) (stop - j) (drop i s) ∙ rw (drop-drop, m)

-- ---- runs join

pub chars_on : (c c' : Char) (b : ℕ) (bs : Bytes) → char_step c b ≡ Some c' → chars_from c (b ∷ bs) ≡ chars_from c' bs
unfolding chars_from
chars_on c c' b bs e = rw (e, chars_from)

pub chars_join : (c c' : Char) (xs ys : Bytes) → chars_from c xs ≡ Some c' → chars_from c (xs ++ ys) ≡ chars_from c' ys
unfolding chars_from
chars_join c c' [] ys e = let z : c ≡ c' = cc in rw z
chars_join c c' (b ∷ xs) ys e = go (char_step c b) refl e λ t. chars_join t c' xs ys
  where
    go : (o : Option Char) → char_step c b ≡ o → (elim o as (λ _. Option Char) [ Some t ↦ chars_from t xs | None ↦ None ]) ≡ Some c'
        → ((t : Char) → chars_from t xs ≡ Some c' → chars_from t (xs ++ ys) ≡ chars_from c' ys)
        → chars_from c (b ∷ (xs ++ ys)) ≡ chars_from c' ys
    go (Some t) p k ih = chars_on c t b (xs ++ ys) p ∙ ih t k
    go None p k ih = broken_on k

high_join : (xs ys : Bytes) → all_high xs ≡ true → all_high ys ≡ true → all_high (xs ++ ys) ≡ true
unfolding all_high
high_join [] ys e h = h
high_join (b ∷ xs) ys e h = let k = and_true (leb 0x80 b) (all_high xs) e in rw (k.0, high_join xs ys k.1 h)

text_join : {xs ys : Bytes} → WideText xs → WideText ys → WideText (xs ++ ys)
text_join {xs} {ys} x y = record { high = high_join xs ys x.high y.high; whole = chars_join Whole Whole xs ys x.whole ∙ y.whole }

wide_empty : WideText []
unfolding chars_from all_high
wide_empty = record { high = refl; whole = refl }

pub wide_none : (s : Bytes) (i stop : ℕ) → i ≤ stop → WideRun s i stop i
wide_none s i stop h = record { from = omega arith; upto = h; characters = rw (part_none s i) wide_empty }

pub wide_join : {s : Bytes} {at i stop r : ℕ} → WideRun s at stop i → WideRun s i stop r → WideRun s at stop r
wide_join {s} {at} {i} {stop} {r} x y =
    let h : at ≤ i = x.from in
    let k : i ≤ r = y.from in
    let l : slice s at r ≡ slice s at i ++ slice s i r = part_join s at i r h k in
    record {
      from = omega arith;
      upto = y.upto;
      characters = rw l (text_join x.characters y.characters);
    }

-- ---- one character

-- the first byte of a multibyte character is not ASCII
first_high : (b : ℕ) (i : Inner) → char_step Whole b ≡ Some (Within i) → 0x80 ≤ b
first_high b i e =
    split_on (leb b 0x7F)
    (λ t. let w = ascii_whole b (leb-true b 0x7F t) in let z : ◌≡◌ {A = ℕ} 0 1 = cc in absurd (omega arith))
    λ t. omega (arith, leb-false b 0x7F t)

second_step : (l : Lead) (b : ℕ) → (row_of l).lo2 ≤ b → b ≤ (row_of l).hi2 → char_step (Within (Second l)) b ≡ Some (after_second (row_of l).size)
unfolding char_step inner_step choose◌then◌else◌
second_step l b h k = rw (le-leb (row_of l).lo2 b h, le-leb b (row_of l).hi2 k)

later_step : (b : ℕ) → within 0x80 0xBF b ≡ true → (char_step (Within LastTwo) b ≡ Some (Within Last)) × (char_step (Within Last) b ≡ Some Whole)
unfolding char_step inner_step choose◌then◌else◌
later_step b e = (rw e, rw e)

high_on : (b : ℕ) (bs : Bytes) → 0x80 ≤ b → all_high bs ≡ true → all_high (b ∷ bs) ≡ true
unfolding all_high
high_on b bs h e = rw (le-leb 0x80 b h, e)

module _ (l : Lead) (a b : ℕ) (first : char_step Whole a ≡ Some (Within (Second l))) (low : (row_of l).lo2 ≤ b) (high : b ≤ (row_of l).hi2) where
  wide_two : (row_of l).size ≡ 2 → WideText (a ∷ b ∷ [])
  unfolding chars_from all_high choose◌then◌else◌
  wide_two n =
      let second : char_step (Within (Second l)) b ≡ Some Whole = second_step l b low high ∙ rw n in
      record {
        high = high_on a (b ∷ []) (first_high a (Second l) first) (high_on b [] (inner_high (Second l) b Whole second) refl);
        whole = chars_on Whole (Within (Second l)) a (b ∷ []) first ∙ chars_on (Within (Second l)) Whole b [] second;
      }

  wide_three : (c : ℕ) → (row_of l).size ≡ 3 → within 0x80 0xBF c ≡ true → WideText (a ∷ b ∷ c ∷ [])
  unfolding chars_from all_high choose◌then◌else◌
  wide_three c n later =
      let second : char_step (Within (Second l)) b ≡ Some (Within Last) = second_step l b low high ∙ rw n in
      let last : char_step (Within Last) c ≡ Some Whole = (later_step c later).1 in
      record {
        high =
            high_on a (b ∷ c ∷ []) (first_high a (Second l) first)
            (high_on b (c ∷ []) (inner_high (Second l) b (Within Last) second) (high_on c [] (inner_high Last c Whole last) refl));
        whole =
            chars_on Whole (Within (Second l)) a (b ∷ c ∷ []) first ∙ chars_on (Within (Second l)) (Within Last) b (c ∷ []) second
            ∙ chars_on (Within Last) Whole c [] last;
      }

  wide_four : (c e : ℕ) → (row_of l).size ≡ 4 → within 0x80 0xBF c ≡ true → within 0x80 0xBF e ≡ true → WideText (a ∷ b ∷ c ∷ e ∷ [])
  unfolding chars_from all_high choose◌then◌else◌
  wide_four c e n later end =
      let second : char_step (Within (Second l)) b ≡ Some (Within LastTwo) = second_step l b low high ∙ rw n in
      let third : char_step (Within LastTwo) c ≡ Some (Within Last) = (later_step c later).0 in
      let last : char_step (Within Last) e ≡ Some Whole = (later_step e end).1 in
      record {
        high =
            high_on a (b ∷ c ∷ e ∷ []) (first_high a (Second l) first)
            (high_on b (c ∷ e ∷ []) (inner_high (Second l) b (Within LastTwo) second)
            (high_on c (e ∷ []) (inner_high LastTwo c (Within Last) third) (high_on e [] (inner_high Last e Whole last) refl)));
        whole =
            chars_on Whole (Within (Second l)) a (b ∷ c ∷ e ∷ []) first
            ∙ chars_on (Within (Second l)) (Within LastTwo) b (c ∷ e ∷ []) second
            ∙ chars_on (Within LastTwo) (Within Last) c (e ∷ []) third
            ∙ chars_on (Within Last) Whole e [] last;
      }

beyond_ascii : (b : ℕ) → 0x7F < b → char_step Whole b ≡ lead_byte leads b
unfolding char_step choose◌then◌else◌
beyond_ascii b h = rw (lt-leb b 0x7F h, and-false (leb 0x00 b))

-- ---- characters of two bytes in a word

two_first : (b : ℕ) → within 0xC2 0xDF b ≡ true → char_step Whole b ≡ Some (Within (Second C2ToDf))
unfolding leads lead_byte row_of choose◌then◌else◌
two_first b e = let h = within_true 0xC2 0xDF b e in beyond_ascii b (omega arith) ∙ rw e

-- the characters of the prefix are whole
record WholePairs (bs : Bytes) : Type 0 where
  text : WideText (take (two_byte_prefix bs / 2 * 2) bs)

no_pairs : WholePairs []
unfolding by_turns
no_pairs = record { text = wide_empty }

pairs_on : {a b : ℕ} {bs : Bytes} → WholePairs bs → WholePairs (a ∷ b ∷ bs)
unfolding by_turns row_of choose◌then◌else◌
pairs_on {a} {b} {bs} others =
    record {
      text =
          split_on (within 0xC2 0xDF a)
          (λ t.
          split_on (is_later b)
          (λ u.
          let h = within_true 0x80 0xBF b u in
          let two : suc (suc (two_byte_prefix bs)) / 2 * 2 ≡ suc (suc (two_byte_prefix bs / 2 * 2)) = omega arith in
          rw (t, u, two) (text_join (wide_two C2ToDf a b (two_first a t) h.0 h.1 refl) others.text))
          λ u. rw (t, u) wide_empty)
          λ t. rw t wide_empty;
    }

pub pairs_run : {s : Bytes} {i stop w n : ℕ} → i + 8 ≤ stop → Word (slice s i (i + 8)) w → n ≡ two_byte_prefix (bytes_of 8 w) → n ≤ 8
    → WideRun s i stop (i + n / 2 * 2)
unfolding bytes_of
pairs_run {s} {i} {stop} {w} {n} h is_word e most =
    let m : ℕ = n / 2 * 2 in
    let pairs : WholePairs (bytes_of 8 w) = pairs_on (pairs_on (pairs_on (pairs_on no_pairs))) in
    let word : take m (bytes_of 8 w) ≡ take m (take (i + 8 - i) (drop i s)) = ap (take m) is_word.bytes in
    let part : slice s i (i + m) ≡ take m (bytes_of 8 w) =
    rw (word, take-take m (i + 8 - i) (drop i s) (omega arith)) (ap (λ (k : ℕ). take k (drop i s)) (omega arith)) in
    record { from = omega arith; upto = omega arith; characters = rw (part, e) pairs.text }

-- ---- the character at an offset

longest : (l : Lead) → (row_of l).size ≤ 4
unfolding row_of
longest C2ToDf = omega arith
longest E0 = omega arith
longest E1ToEc = omega arith
longest Ed = omega arith
longest EeToEf = omega arith
longest F0 = omega arith
longest F1ToF3 = omega arith
longest F4 = omega arith

module _ (s : Bytes) (i stop : ℕ) (inside : stop ≤ length s) where
  bytes_two : i + 2 ≤ stop → slice s i (i + 2) ≡ get_or s i 0 ∷ get_or s (i + 1) 0 ∷ []
  bytes_two h =
      part_next s i (i + 1) (i + 2) (omega arith) (omega arith) (omega arith)
      ∙ ap (λ (l : Bytes). get_or s i 0 ∷ l) (part_next s (i + 1) (i + 2) (i + 2) (omega arith) (omega arith) (omega arith) ∙ rw (part_none s (i + 2)))

  bytes_three : i + 3 ≤ stop → slice s i (i + 3) ≡ get_or s i 0 ∷ get_or s (i + 1) 0 ∷ get_or s (i + 2) 0 ∷ []
  bytes_three h =
      let e0 = part_next s i (i + 1) (i + 3) (omega arith) (omega arith) (omega arith) in
      let e1 = part_next s (i + 1) (i + 2) (i + 3) (omega arith) (omega arith) (omega arith) in
      let e2 = part_next s (i + 2) (i + 3) (i + 3) (omega arith) (omega arith) (omega arith) in
      e0 ∙ ap (λ (l : Bytes). get_or s i 0 ∷ l) (e1 ∙ ap (λ (l : Bytes). get_or s (i + 1) 0 ∷ l) (e2 ∙ rw (part_none s (i + 3))))

  bytes_four : i + 4 ≤ stop → slice s i (i + 4) ≡ get_or s i 0 ∷ get_or s (i + 1) 0 ∷ get_or s (i + 2) 0 ∷ get_or s (i + 3) 0 ∷ []
  bytes_four h =
      let e0 = part_next s i (i + 1) (i + 4) (omega arith) (omega arith) (omega arith) in
      let e1 = part_next s (i + 1) (i + 2) (i + 4) (omega arith) (omega arith) (omega arith) in
      let e2 = part_next s (i + 2) (i + 3) (i + 4) (omega arith) (omega arith) (omega arith) in
      let e3 = part_next s (i + 3) (i + 4) (i + 4) (omega arith) (omega arith) (omega arith) in
      e0
      ∙ ap (λ (l : Bytes). get_or s i 0 ∷ l) (e1 ∙ ap (λ (l : Bytes). get_or s (i + 1) 0 ∷ l)
      (e2 ∙ ap (λ (l : Bytes). get_or s (i + 2) 0 ∷ l) (e3 ∙ rw (part_none s (i + 4)))))

  module _ (r : Row) (row : IsRow r.lead r) (first : lead_byte leads (get_or s i 0) ≡ Some (Within (Second r.lead))) (high : 0x80 ≤ get_or s i 0)
      (second : within r.low r.high (get_or s (i + 1) 0) ≡ true) where
    begun : char_step Whole (get_or s i 0) ≡ Some (Within (Second r.lead))
    begun = beyond_ascii (get_or s i 0) (omega arith) ∙ first

    low : (row_of r.lead).lo2 ≤ get_or s (i + 1) 0
    low = omega (arith, row.low, (within_true r.low r.high (get_or s (i + 1) 0) second).0)

    top : get_or s (i + 1) 0 ≤ (row_of r.lead).hi2
    top = omega (arith, row.high, (within_true r.low r.high (get_or s (i + 1) 0) second).1)

    pub run_two : r.length ≡ 2 → i + 2 ≤ stop → WideRun s i stop (i + 2)
    run_two n h =
        let w = wide_two r.lead (get_or s i 0) (get_or s (i + 1) 0) begun low top (omega (arith, row.size)) in
        record { from = omega arith; upto = h; characters = rw (bytes_two h) w }

    pub run_three_bytes : r.length ≡ 3 → i + 3 ≤ stop → is_later (get_or s (i + 2) 0) ≡ true → WideRun s i stop (i + 3)
    run_three_bytes n h third =
        let w = wide_three r.lead (get_or s i 0) (get_or s (i + 1) 0) begun low top (get_or s (i + 2) 0) (omega (arith, row.size)) third in
        record { from = omega arith; upto = h; characters = rw (bytes_three h) w }

    -- the same by the row's length
    pub run_three : r.length ≡ 3 → i + r.length ≤ stop → is_later (get_or s (i + 2) 0) ≡ true → WideRun s i stop (i + r.length)
    run_three n h third = rw n (run_three_bytes n (omega arith) third)

    pub run_four_bytes : 4 ≤ r.length → i + 4 ≤ stop → is_later (get_or s (i + 2) 0) ≡ true → is_later (get_or s (i + 3) 0) ≡ true → WideRun s i stop (i + 4)
    run_four_bytes k h third fourth =
        let size : (row_of r.lead).size ≡ 4 = omega (arith, row.size, longest r.lead) in
        let w = wide_four r.lead (get_or s i 0) (get_or s (i + 1) 0) begun low top (get_or s (i + 2) 0) (get_or s (i + 3) 0) size third fourth in
        record { from = omega arith; upto = h; characters = rw (bytes_four h) w }

    -- the same by the row's length
    pub run_four : 4 ≤ r.length → i + r.length ≤ stop → is_later (get_or s (i + 2) 0) ≡ true → is_later (get_or s (i + 3) 0) ≡ true → WideRun s i stop (i + r.length)
    run_four k h third fourth =
        let n : r.length ≡ 4 = omega (arith, row.size, longest r.lead) in
        rw n (run_four_bytes k (omega arith) third fourth)
