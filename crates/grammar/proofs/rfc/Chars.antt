-- The characters of RFC 3629 are exactly the bytes that take the table's automaton from one whole character to the next. A first byte
-- selects a row of the table (`row_first`), the bytes after it finish the character (`Finishes`), and each row is a production of the
-- RFC.
use Prim.Native.Nat.{ℕ, ◌≤◌, ◌<◌}
use native.Mathlib.Omega.{arith}
use mathlib.Core.Path.{◌≡◌, refl, sym}
use mathlib.Core.Bool.{Bool, true, false}
use mathlib.Core.List.{List, [], ◌∷◌}
use Rattle.grammar.specs.rfc.Types.{Lead, C2ToDf, E0, E1ToEc, Ed, EeToEf, F0, F1ToF3, F4, Inner, Second, LastTwo, Last, Char, Whole, Within, Some}
use Rattle.model.specs.rules.Base.{Bytes, within, choose◌then◌else◌}
use Rattle.model.specs.rules.Utf8.{row_of, leads, lead_byte, after_second, inner_step, char_step}
use Rattle.model.proofs.cell_laws.Utf8.{broken_on, same_on}
use Rattle.model.proofs.Tests.{split_on, within_true}
use Rattle.grammar.specs.rfc.Rfc5234.{◌from◌to◌}
use Rattle.grammar.specs.rfc.Rfc3629.{UTF8-tail, tail, c2_df, UTF8-3, e0, e1_ec, ed, ee_ef, UTF8-4, f0, f1_f3, f4, UTF8-data, of_two, of_three, of_four}
use Rattle.grammar.proofs.rfc.Ranges.{range, within_range, range_within, above_within}

-- ---- the steps of a character

-- bytes that finish a character
pub data Finishes : Char → Bytes → Type 0 where
  finished : Finishes Whole []
  finishing : {i : Inner} {c : Char} {b : ℕ} {bs : Bytes} → char_step (Within i) b ≡ Some c → Finishes c bs → Finishes (Within i) (b ∷ bs)

-- a character of more than one byte, as the automaton reads it
pub data Long : Bytes → Type 0 where
  long : {i : Inner} {b : ℕ} {bs : Bytes} → char_step Whole b ≡ Some (Within i) → Finishes (Within i) bs → Long (b ∷ bs)

-- ---- a production is read

row_first : (l : Lead) (b : ℕ) → b from (row_of l).lo to (row_of l).hi → char_step Whole b ≡ Some (Within (Second l))
unfolding char_step lead_byte leads row_of choose◌then◌else◌
row_first l b r = go l r
  where
    over : (lo hi n : ℕ) → n ≤ b → hi < n → within lo hi b ≡ false
    over lo hi n h k = above_within lo hi b (omega arith)

    go : (l : Lead) → b from (row_of l).lo to (row_of l).hi → char_step Whole b ≡ Some (Within (Second l))
    go C2ToDf r = rw (over 0x00 0x7F 0xC2 r.low (omega arith), range_within {b = b} {lo = 0xC2} {hi = 0xDF} r)
    go E0 r = rw (over 0x00 0x7F 0xE0 r.low (omega arith), over 0xC2 0xDF 0xE0 r.low (omega arith), range_within {b = b} {lo = 0xE0} {hi = 0xE0} r)
    go E1ToEc r =
        rw (
          over 0x00 0x7F 0xE1 r.low (omega arith),
          over 0xC2 0xDF 0xE1 r.low (omega arith),
          over 0xE0 0xE0 0xE1 r.low (omega arith),
          range_within {b = b} {lo = 0xE1} {hi = 0xEC} r,
        )
    go Ed r =
        rw (
          over 0x00 0x7F 0xED r.low (omega arith),
          over 0xC2 0xDF 0xED r.low (omega arith),
          over 0xE0 0xE0 0xED r.low (omega arith),
          over 0xE1 0xEC 0xED r.low (omega arith),
          range_within {b = b} {lo = 0xED} {hi = 0xED} r,
        )
    go EeToEf r =
        rw (
          over 0x00 0x7F 0xEE r.low (omega arith),
          over 0xC2 0xDF 0xEE r.low (omega arith),
          over 0xE0 0xE0 0xEE r.low (omega arith),
          over 0xE1 0xEC 0xEE r.low (omega arith),
          over 0xED 0xED 0xEE r.low (omega arith),
          range_within {b = b} {lo = 0xEE} {hi = 0xEF} r,
        )
    go F0 r =
        rw (
          over 0x00 0x7F 0xF0 r.low (omega arith),
          over 0xC2 0xDF 0xF0 r.low (omega arith),
          over 0xE0 0xE0 0xF0 r.low (omega arith),
          over 0xE1 0xEC 0xF0 r.low (omega arith),
          over 0xED 0xED 0xF0 r.low (omega arith),
          over 0xEE 0xEF 0xF0 r.low (omega arith),
          range_within {b = b} {lo = 0xF0} {hi = 0xF0} r,
        )
    go F1ToF3 r =
        rw (
          over 0x00 0x7F 0xF1 r.low (omega arith),
          over 0xC2 0xDF 0xF1 r.low (omega arith),
          over 0xE0 0xE0 0xF1 r.low (omega arith),
          over 0xE1 0xEC 0xF1 r.low (omega arith),
          over 0xED 0xED 0xF1 r.low (omega arith),
          over 0xEE 0xEF 0xF1 r.low (omega arith),
          over 0xF0 0xF0 0xF1 r.low (omega arith),
          range_within {b = b} {lo = 0xF1} {hi = 0xF3} r,
        )
    go F4 r =
        rw (
          over 0x00 0x7F 0xF4 r.low (omega arith),
          over 0xC2 0xDF 0xF4 r.low (omega arith),
          over 0xE0 0xE0 0xF4 r.low (omega arith),
          over 0xE1 0xEC 0xF4 r.low (omega arith),
          over 0xED 0xED 0xF4 r.low (omega arith),
          over 0xEE 0xEF 0xF4 r.low (omega arith),
          over 0xF0 0xF0 0xF4 r.low (omega arith),
          over 0xF1 0xF3 0xF4 r.low (omega arith),
          range_within {b = b} {lo = 0xF4} {hi = 0xF4} r,
        )

second_of : (l : Lead) (b : ℕ) → b from (row_of l).lo2 to (row_of l).hi2 → char_step (Within (Second l)) b ≡ Some (after_second (row_of l).size)
unfolding char_step inner_step choose◌then◌else◌
second_of l b r = rw (range_within r)

tail_of : {b : ℕ} → UTF8-tail b → char_step (Within Last) b ≡ Some Whole
unfolding char_step inner_step choose◌then◌else◌
tail_of (tail r) = rw (range_within r)

tail_of_two : {b : ℕ} → UTF8-tail b → char_step (Within LastTwo) b ≡ Some (Within Last)
unfolding char_step inner_step choose◌then◌else◌
tail_of_two (tail r) = rw (range_within r)

-- a first byte of the row l, a second byte of that row, and what follows
row_long :
    (l : Lead) {a b : ℕ} {bs : Bytes} → a from (row_of l).lo to (row_of l).hi → b from (row_of l).lo2 to (row_of l).hi2 →
    Finishes (after_second (row_of l).size) bs → Long (a ∷ b ∷ bs)
row_long l {a} {b} r s k = long (row_first l a r) (finishing (second_of l b s) k)

one_more_lem : {b : ℕ} → UTF8-tail b → Finishes (Within Last) (b ∷ [])
one_more_lem r = finishing (tail_of r) finished

two_more : {b c : ℕ} → UTF8-tail b → UTF8-tail c → Finishes (Within LastTwo) (b ∷ c ∷ [])
two_more r s = finishing (tail_of_two r) (one_more_lem s)

just : (n : ℕ) → n from n to n
just n = range (omega arith) (omega arith)

pub data_long : {cs : Bytes} → UTF8-data cs → Long cs
unfolding row_of choose◌then◌else◌
data_long (of_two (c2_df a (tail b))) = row_long C2ToDf a b finished
data_long (of_three (e0 b c)) = row_long E0 (just 0xE0) b (one_more_lem c)
data_long (of_three (e1_ec a (tail b) c)) = row_long E1ToEc a b (one_more_lem c)
data_long (of_three (ed b c)) = row_long Ed (just 0xED) b (one_more_lem c)
data_long (of_three (ee_ef a (tail b) c)) = row_long EeToEf a b (one_more_lem c)
data_long (of_four (f0 b c d)) = row_long F0 (just 0xF0) b (two_more c d)
data_long (of_four (f1_f3 a (tail b) c d)) = row_long F1ToF3 a b (two_more c d)
data_long (of_four (f4 b c d)) = row_long F4 (just 0xF4) b (two_more c d)

-- ---- the bytes read are of a production

data Tail : Bytes → Type 0 where
  a_tail : {b : ℕ} → UTF8-tail b → Tail (b ∷ [])

data TwoTails : Bytes → Type 0 where
  tails : {b c : ℕ} → UTF8-tail b → UTF8-tail c → TwoTails (b ∷ c ∷ [])

-- the bytes after the first, by the row
data RowRest (l : Lead) : Bytes → Type 0 where
  row_rest : {b : ℕ} {bs : Bytes} → b from (row_of l).lo2 to (row_of l).hi2 → Finishes (after_second (row_of l).size) bs → RowRest l (b ∷ bs)

finish_none : {bs : Bytes} → Finishes Whole bs → bs ≡ []
finish_none finished = refl

finish_one : {bs : Bytes} → Finishes (Within Last) bs → Tail bs
unfolding char_step inner_step choose◌then◌else◌
finish_one (finishing {c} {b} {bs} e k) =
    split_on (within 0x80 0xBF b)
    (λ p. let w : Whole ≡ c = same_on refl (rw p at e) in rw (finish_none (rw (← w) at k)) (a_tail (tail (within_range 0x80 0xBF b p)))) λ p.
    broken_on (rw p at e)

tail_after : {b : ℕ} {bs : Bytes} → UTF8-tail b → Tail bs → TwoTails (b ∷ bs)
tail_after r (a_tail s) = tails r s

finish_two : {bs : Bytes} → Finishes (Within LastTwo) bs → TwoTails bs
unfolding char_step inner_step choose◌then◌else◌
finish_two (finishing {c} {b} {bs} e k) =
    split_on (within 0x80 0xBF b)
    (λ p. let w : Within Last ≡ c = same_on refl (rw p at e) in tail_after (tail (within_range 0x80 0xBF b p)) (finish_one (rw (← w) at k))) λ p.
    broken_on (rw p at e)

finish_row : (l : Lead) {bs : Bytes} → Finishes (Within (Second l)) bs → RowRest l bs
unfolding char_step inner_step choose◌then◌else◌
finish_row l (finishing {c} {b} {bs} e k) =
    split_on (within (row_of l).lo2 (row_of l).hi2 b)
    (λ p. let w : after_second (row_of l).size ≡ c = same_on refl (rw p at e) in row_rest (within_range (row_of l).lo2 (row_of l).hi2 b p) (rw (← w) at k)) λ p.
    broken_on (rw p at e)

equals : {b n : ℕ} → b from n to n → b ≡ n
equals r = let h = r.low in let k = r.high in omega arith

three : {a b : ℕ} {bs : Bytes} → ((c : ℕ) → UTF8-tail c → UTF8-3 (a ∷ b ∷ c ∷ [])) → Tail bs → UTF8-data (a ∷ b ∷ bs)
three f (a_tail {b = c} t) = of_three (f c t)

four : {a b : ℕ} {bs : Bytes} → ((c d : ℕ) → UTF8-tail c → UTF8-tail d → UTF8-4 (a ∷ b ∷ c ∷ d ∷ [])) → TwoTails bs → UTF8-data (a ∷ b ∷ bs)
four f (tails {b = c} {c = d} t u) = of_four (f c d t u)

row_data : (l : Lead) {a : ℕ} {bs : Bytes} → a from (row_of l).lo to (row_of l).hi → RowRest l bs → UTF8-data (a ∷ bs)
unfolding row_of choose◌then◌else◌
row_data C2ToDf r (row_rest s k) = rw (finish_none k) (of_two (c2_df r (tail s)))
row_data E0 r (row_rest s k) = rw (equals r) (three (λ c t. e0 s t) (finish_one k))
row_data E1ToEc r (row_rest s k) = three (λ c t. e1_ec r (tail s) t) (finish_one k)
row_data Ed r (row_rest s k) = rw (equals r) (three (λ c t. ed s t) (finish_one k))
row_data EeToEf r (row_rest s k) = three (λ c t. ee_ef r (tail s) t) (finish_one k)
row_data F0 r (row_rest s k) = rw (equals r) (four (λ c d t u. f0 s t u) (finish_two k))
row_data F1ToF3 r (row_rest s k) = four (λ c d t u. f1_f3 r (tail s) t u) (finish_two k)
row_data F4 r (row_rest s k) = rw (equals r) (four (λ c d t u. f4 s t u) (finish_two k))

-- a first byte's row
data FirstOf (b : ℕ) (c : Char) : Type 0 where
  of_ascii : b ≤ 0x7F → Whole ≡ c → FirstOf b c
  of_row : (l : Lead) → b from (row_of l).lo to (row_of l).hi → Within (Second l) ≡ c → FirstOf b c

among_rows : (ls : List Lead) (b : ℕ) (c : Char) → lead_byte ls b ≡ Some c → FirstOf b c
unfolding lead_byte choose◌then◌else◌
among_rows [] b c e = broken_on e
among_rows (l ∷ ls) b c e = go (within (row_of l).lo (row_of l).hi b) refl (among_rows ls b c)
  where
    go : (t : Bool) → within (row_of l).lo (row_of l).hi b ≡ t → (lead_byte ls b ≡ Some c → FirstOf b c) → FirstOf b c
    go true p ih = of_row l (within_range (row_of l).lo (row_of l).hi b p) (same_on refl (rw p at e))
    go false p ih = ih (rw p at e)

first_of : (b : ℕ) (c : Char) → char_step Whole b ≡ Some c → FirstOf b c
unfolding char_step choose◌then◌else◌
first_of b c e =
    split_on (within 0x00 0x7F b) (λ p. of_ascii (within_true 0x00 0x7F b p).1 (same_on refl (rw p at e))) λ p.
    among_rows leads b c (rw p at e)

within_whole : {A : Type 0} {i : Inner} → Within i ≡ Whole → A
within_whole e = let z : ◌≡◌ {A = ℕ} 0 1 = cc in absurd (omega arith)

-- a first byte that is a whole character
pub whole_ascii : (b : ℕ) → char_step Whole b ≡ Some Whole → b ≤ 0x7F
whole_ascii b e = go (first_of b Whole e)
  where
    go : FirstOf b Whole → b ≤ 0x7F
    go (of_ascii h w) = h
    go (of_row l r w) = within_whole w

same_within : {i j : Inner} → Within i ≡ Within j → i ≡ j
same_within e = cc

pub long_data : {cs : Bytes} → Long cs → UTF8-data cs
long_data (long {i} {b} {bs} e k) = go (first_of b (Within i) e)
  where
    go : FirstOf b (Within i) → UTF8-data (b ∷ bs)
    go (of_ascii h w) = within_whole (sym w)
    go (of_row l r w) = let z : Second l ≡ i = same_within w in row_data l r (finish_row l (rw (← z) at k))

-- ---- the bytes of a character of more than one byte are from 80 on

lead_low : (l : Lead) → 0x80 ≤ (row_of l).lo
unfolding row_of
lead_low C2ToDf = omega arith
lead_low E0 = omega arith
lead_low E1ToEc = omega arith
lead_low Ed = omega arith
lead_low EeToEf = omega arith
lead_low F0 = omega arith
lead_low F1ToF3 = omega arith
lead_low F4 = omega arith

pub first_high : (b : ℕ) (i : Inner) → char_step Whole b ≡ Some (Within i) → 0x80 ≤ b
first_high b i e = go (first_of b (Within i) e)
  where
    go : FirstOf b (Within i) → 0x80 ≤ b
    go (of_ascii h w) = within_whole (sym w)
    go (of_row l r w) = let h : (row_of l).lo ≤ b = r.low in let k : 0x80 ≤ (row_of l).lo = lead_low l in omega arith
