-- Spans whose bytes all pass a test: a word more, the word of the last bytes, and what such a word holds. A loop that tests a span by
-- words needs these laws and no others.
use Prim.Native.Nat.{ℕ, zero, suc, ◌+◌, ◌-◌, ◌/◌, ◌≤◌, ◌<◌}
use native.Mathlib.Nat.{le_refl}
use native.Mathlib.Omega.{arith}
use mathlib.Core.Path.{◌≡◌, refl, sym, ◌∙◌}
use mathlib.Core.Bool.{Bool, true}
use mathlib.Core.List.{[], ◌∷◌, ◌++◌}
use lib.ListN.{length, drop, get_or, length-take, length-drop, take-append-drop}
use lib.Seq.{drop-drop, get_or-drop, get_or-take, take-length}
use borrow.Author.Tests.{eq-eqb, eqb-true, eqb-false, ltb-true, ltb-false}
use lib.Dec.{ltb}
use Rattle.model.specs.rules.Base.{Bytes, ◌is◌}
use Rattle.model.specs.rules.Api.{slice}
use Rattle.model.proofs.Tests.{split_on, and_true}
use Rattle.swar.specs.Words.{bytes_of, Word, Flags, all_pass, passing, AllIn, LastBytes}
use Rattle.swar.proofs.FlaggedPrefix.{all_pass_lem}
use Rattle.swar.proofs.AllPass.{word_all}

-- ---- a byte of a span

part_at : (s : Bytes) (i j k : ℕ) → i + k < j → get_or (slice s i j) k 0 ≡ get_or s (i + k) 0
part_at s i j k h = let l : k < j - i = omega arith in rw (get_or-take, get_or-drop)

part_length : (s : Bytes) (i j : ℕ) → j ≤ length s → length (slice s i j) ≡ j - i
part_length s i j h = simp (length-take, length-drop) (omega arith)

module _ (passes : ℕ → Bool) where
  all_parts : (xs ys : Bytes) → all_pass passes (xs ++ ys) ≡ true → (all_pass passes xs ≡ true) × (all_pass passes ys ≡ true)
  unfolding all_pass
  all_parts [] ys e = (refl, e)
  all_parts (b ∷ xs) ys e =
      let both = and_true (passes b) (all_pass passes (xs ++ ys)) e in
      let parts = all_parts xs ys both.1 in
      (rw (both.0, parts.0), parts.1)

  all_at : (bs : Bytes) → all_pass passes bs ≡ true → (k : ℕ) → k < length bs → passes (get_or bs k 0) ≡ true
  unfolding all_pass
  all_at [] e k h = absurd (omega arith)
  all_at (b ∷ bs) e zero h = (and_true (passes b) (all_pass passes bs) e).0
  all_at (b ∷ bs) e (suc k) h = all_at bs (and_true (passes b) (all_pass passes bs) e).1 k (omega arith)

  all_from : (bs : Bytes) → ((k : ℕ) → k < length bs → passes (get_or bs k 0) ≡ true) → all_pass passes bs ≡ true
  unfolding all_pass
  all_from [] f = refl
  all_from (b ∷ bs) f = rw (f 0 (omega arith), all_from bs λ k h. f (suc k) (omega arith))

  -- from a slice to its bytes
  pub part_all : (s : Bytes) (i j : ℕ) → j ≤ length s → all_pass passes (slice s i j) ≡ true → (k : ℕ) → i ≤ k → k < j → passes (get_or s k 0) ≡ true
  part_all s i j l e k h m =
      let n : i + (k - i) ≡ k = omega arith in
      let len = part_length s i j l in
      rw n at (rw (part_at s i j (k - i) (omega arith)) at (all_at (slice s i j) e (k - i) (omega arith)))

  -- and back
  pub in_all : {s : Bytes} {i j : ℕ} → AllIn passes s i j → j ≤ length s → all_pass passes (slice s i j) ≡ true
  in_all {s} {i} {j} x l =
      all_from (slice s i j) λ k h. let len = part_length s i j l in rw (part_at s i j k (omega arith)) (x.each (i + k) (omega arith) (omega arith))

  -- for the whole list
  pub in_whole : {s : Bytes} → AllIn passes s 0 (length s) → all_pass passes s ≡ true
  in_whole {s} x =
      let n : length s - 0 ≡ length s = omega arith in
      let whole : slice s 0 (length s) ≡ s = rw n (take-length s) in
      rw whole at (in_all x (le_refl (length s)))

  -- the longest prefix that passes is the span, if the next byte does not pass or there is none
  pub in_ends : {s : Bytes} {i j : ℕ} → AllIn passes s i j → i ≤ j → j ≤ length s → passing passes (drop j s) ≡ 0 → passing passes (drop i s) ≡ j - i
  in_ends {s} {i} {j} x h l z =
      let n : i + (j - i) ≡ j = omega arith in
      let whole : drop i s ≡ slice s i j ++ drop j s = sym (take-append-drop (j - i) (drop i s)) ∙ rw (drop-drop, n) in
      let len = part_length s i j l in
      let on = all_pass_lem passes (drop j s) (slice s i j) (in_all x l) in
      rw whole (omega arith)

  -- a weaker test passes too
  pub in_weaker : {s : Bytes} {i j : ℕ} (other : ℕ → Bool) → ((b : ℕ) → passes b ≡ true → other b ≡ true) → AllIn passes s i j → AllIn other s i j
  in_weaker {s} other f x = record { each = λ k h l. f (get_or s k 0) (x.each k h l) }

-- ---- a word more

pub in_none : {passes : ℕ → Bool} (s : Bytes) (at : ℕ) → AllIn passes s at at
in_none s at = record { each = λ k h l. absurd (omega arith) }

module _ {passes : ℕ → Bool} {s : Bytes} {from i w flags : ℕ} (x : AllIn passes s from i) (told : Flags passes w flags) (e : flags ≡ 0) where
  pub in_word : i + 8 ≤ length s → Word (slice s i (i + 8)) w → AllIn passes s from (i + 8)
  in_word h is_word =
      record {
        each =
            λ k l m. split_on (ltb k i) (λ t. x.each k l (ltb-true k i t)) λ t. part_all passes s i (i + 8) h (word_all is_word told e) k (ltb-false k i t) m;
      }

  -- and the last bytes
  pub in_last : {upto : ℕ} → upto ≤ i + 8 → LastBytes s from upto w → AllIn passes s from upto
  in_last {upto} h is_last =
      let all : all_pass passes (bytes_of 8 w) ≡ true = sym told.exact ∙ eq-eqb flags 0 e in
      record {
        each = λ k l m. split_on (ltb k i) (λ t. x.each k l (ltb-true k i t)) λ t. let n = ltb-false k i t in is_last.each passes all k l m (omega arith);
      }

-- ---- a loop that checks a span by words: what it has checked at i, and one law for each step

pub record CheckedTo (passes : ℕ → Bool) (s : Bytes) (from upto i : ℕ) : Type 0 where
  pub begins : from ≤ i
  pub inside : i ≤ upto
  pub each : AllIn passes s from i

pub check_starts : {passes : ℕ → Bool} (s : Bytes) {from upto : ℕ} → from ≤ upto → CheckedTo passes s from upto from
check_starts s {from} h = record { begins = omega arith; inside = h; each = in_none s from }

module _ {passes : ℕ → Bool} {s : Bytes} {from upto i w flags : ℕ} (x : CheckedTo passes s from upto i) (told : Flags passes w flags) where
  pub check_word : upto ≤ length s → i + 8 ≤ upto → Word (slice s i (i + 8)) w → flags ≡ 0 → CheckedTo passes s from upto (i + 8)
  check_word l h is_word e =
      let b : from ≤ i = x.begins in
      record { begins = omega arith; inside = h; each = in_word x.each told e (omega arith) is_word }

  pub check_last : upto ≤ i + 8 → LastBytes s from upto w → (flags is 0) ≡ true → AllIn passes s from upto
  check_last h is_last e = in_last x.each told (eqb-true flags 0 e) h is_last

-- ---- what the word of the last bytes holds

module _ (s : Bytes) (from upto w : ℕ) (o : from ≤ upto) (inside : upto ≤ length s) where
  pub last_eight : 8 ≤ upto - from → Word (slice s (upto - 8) (upto - 8 + 8)) w → LastBytes s from upto w
  last_eight h is_word =
      let n : upto - 8 + 8 ≡ upto = omega arith in
      record {
        each = λ passes e k l m r. part_all passes s (upto - 8) (upto - 8 + 8) (omega arith) (rw is_word.bytes at e) k (omega arith) (omega arith);
      }

  pub last_fours : upto - from < 8 → 4 ≤ upto - from → bytes_of 8 w ≡ slice s from (from + 4) ++ slice s (upto - 4) (upto - 4 + 4) → LastBytes s from upto w
  last_fours h n b =
      let m : upto - 4 + 4 ≡ upto = omega arith in
      record {
        each = λ passes e k l f r.
            let parts = all_parts passes (slice s from (from + 4)) (slice s (upto - 4) (upto - 4 + 4)) (rw b at e) in
            split_on (ltb k (from + 4)) (λ t. part_all passes s from (from + 4) (omega arith) parts.0 k l (ltb-true k (from + 4) t))
            λ t. let g = ltb-false k (from + 4) t in part_all passes s (upto - 4) (upto - 4 + 4) (omega arith) parts.1 k (omega arith) (omega arith);
      }

  pub last_three : {rest : Bytes} → upto - from < 4 → ¬ (upto - from ≡ 0)
      → bytes_of 8 w ≡ get_or s from 0 ∷ get_or s (from + (upto - from) / 2) 0 ∷ get_or s (upto - 1) 0 ∷ rest → LastBytes s from upto w
  unfolding all_pass
  last_three {rest} h n b =
      record {
        each = λ passes e k l m r.
            let all = and_true (passes (get_or s from 0)) _ (rw b at e) in
            let others = and_true (passes (get_or s (from + (upto - from) / 2) 0)) _ all.1 in
            split_on (k is from) (λ t. rw (eqb-true k from t) all.0) λ t.
            split_on (k is (from + (upto - from) / 2)) (λ u. rw (eqb-true k (from + (upto - from) / 2) u) others.0) λ u.
            let p = eqb-false k from t in
            let q = eqb-false k (from + (upto - from) / 2) u in
            let same : k ≡ upto - 1 = omega arith in
            rw same (and_true (passes (get_or s (upto - 1) 0)) (all_pass passes rest) others.1).0;
      }
