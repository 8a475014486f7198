-- Laws of unquoted values of CSVJ and TDIF: digits, numbers and words.
use Prim.Native.Nat.{ℕ, ◌+◌, ◌≤◌, ◌<◌}
use native.Mathlib.Omega.{arith}
use mathlib.Core.Path.{◌≡◌, refl, ap, ◌∙◌}
use mathlib.Core.Bool.{true, false}
use mathlib.Core.List.{◌∷◌}
use lib.ListN.{length, get_or}
use borrow.Author.Tests.{eq-eqb, ne_eqb, eqb-true, eqb-false}
use Rattle.model.specs.declared.Dialect.{Dialect}
use Rattle.model.specs.declared.Dialect.TheVariants.{Csvj, Tdif}
use Rattle.model.specs.declared.Numeral.{Numeral}
use Rattle.model.specs.declared.Numeral.TheVariants.{Minus, Zero, Integer, Point, Fraction}
use Rattle.model.specs.declared.Word.{Word}
use Rattle.model.specs.declared.Word.TheVariants.{T, Tr, Tru, F, Fa, Fal, Fals, N, Nu, Nul, Backslash}
use Rattle.model.specs.declared.Cell.{Cell}
use Rattle.model.specs.declared.Cell.TheVariants.{Fresh, InNumber, InWord, Complete}
use Rattle.model.specs.declared.CellStep.TheVariants.{More}
use Rattle.model.specs.rules.Base.{Bytes, choose◌then◌else◌, ◌is◌, QUOTE}
use Rattle.model.specs.rules.Cell.{is_digit, numeral_step, letter_of, after_letter, first_byte, cell_step}
use Rattle.model.specs.rules.Api.{slice}
use Rattle.model.proofs.Tests.{and_true, within_true, split_on}
use Rattle.swar.specs.Words.{all_pass}
use Rattle.cell_scanner.proofs.Runs.{part_next}
use Rattle.cell_fast.specs.TextRuns.{PassRun}
use Rattle.cell_fast.specs.Ends.{EndsBefore}
use Rattle.cell_fast.specs.CellOutcome.{Results}
use Rattle.cell_fast.specs.BareValues.{Digits, is_letter_e, BeginsNumber, unsigned, negative, after_integer, IntegerEnd, Letters}
use Rattle.cell_fast.proofs.CellOutcomes.{results_none, results_on, comes_byte, results_ends, ends_here, text_comes}
use Rattle.cell_fast.proofs.TextRuns.{low_text}
use Rattle.cell_fast.proofs.QuotedCells.{complete_ends}

-- ---- digits

digit_range : (b : ℕ) → is_digit b ≡ true → (0x30 ≤ b) × (b ≤ 0x39)
digit_range b e = within_true 0x30 0x39 b e

-- a state of a number that a digit leaves unchanged
data Proceeds : Numeral → Type 0 where
  integer_proceeds : Proceeds Integer
  fraction_proceeds : Proceeds Fraction

proceeds_on : {n : Numeral} → Proceeds n → (b : ℕ) → is_digit b ≡ true → cell_step Csvj (InNumber n) b ≡ More (InNumber n)
unfolding cell_step numeral_step choose◌then◌else◌
proceeds_on integer_proceeds b e = rw e
proceeds_on fraction_proceeds b e = rw e

module _ {s : Bytes} {stop at r : ℕ} (x : Digits s at stop r) (k : stop ≤ length s) where
  parts : (is_digit (get_or s at 0) ≡ true) × PassRun is_digit s (at + 1) stop r
  unfolding all_pass
  parts =
      let h : at < r = x.some in
      let u : r < stop = x.before in
      let all : all_pass is_digit (get_or s at 0 ∷ slice s (at + 1) r) ≡ true = rw (part_next s at r h (omega arith)) at x.each in
      let y = and_true (is_digit (get_or s at 0)) (all_pass is_digit (slice s (at + 1) r)) all in
      (y.0, record { from = omega arith; upto = omega arith; each = y.1 })

  -- the first digit leads from c to a state of a number, and the others leave it unchanged
  digits_come : {n : Numeral} → Proceeds n → (c : Cell) → cell_step Csvj c (get_or s at 0) ≡ More (InNumber n) → Results Csvj s stop c at (InNumber n) r
  digits_come {n} g c e =
      let h : at < r = x.some in
      let u : r < stop = x.before in
      let low : (b : ℕ) → is_digit b ≡ true → b ≤ 0x7F = λ b f. omega (arith, (digit_range b f).1) in
      let first = comes_byte (results_none Csvj s stop c at (omega arith)) (omega arith) k (InNumber n) (at + 1) refl e in
      results_on first (text_comes Csvj (λ _. InNumber n) is_digit (λ _ _ b f _. proceeds_on g b f) (low_text low parts.1) k)

-- ---- numbers

zero_first : {c : Cell} → BeginsNumber c → (b : ℕ) → b ≡ 0x30 → cell_step Csvj c b ≡ More (InNumber Zero)
unfolding cell_step first_byte numeral_step choose◌then◌else◌
zero_first unsigned b e = rw e
zero_first negative b e = rw e

digit_first : {c : Cell} → BeginsNumber c → (b : ℕ) → ¬ (b ≡ 0x30) → is_digit b ≡ true → cell_step Csvj c b ≡ More (InNumber Integer)
unfolding cell_step first_byte numeral_step choose◌then◌else◌
digit_first unsigned b n e =
    let w = digit_range b e in let l : 0x30 ≤ b = w.0 in rw (ne_eqb b QUOTE (omega arith), ne_eqb b 0x2D (omega arith), ne_eqb b 0x30 n, e)
digit_first negative b n e = rw (ne_eqb b 0x30 n, e)

point_first : (b : ℕ) → is_digit b ≡ true → cell_step Csvj (InNumber Point) b ≡ More (InNumber Fraction)
unfolding cell_step numeral_step choose◌then◌else◌
point_first b e = rw e

module _ (s : Bytes) (stop at : ℕ) (k : stop ≤ length s) where
  pub integer_zero : at + 1 < stop → get_or s at 0 ≡ 0x30 → IntegerEnd s stop at (at + 1)
  unfolding numeral_step after_integer
  integer_zero h e =
      record {
        some = omega arith;
        before = h;
        numeral = Zero;
        comes =
            λ c b.
            comes_byte (results_none Csvj s stop c at (omega arith)) (omega arith) k (InNumber Zero) (at + 1) refl (zero_first b (get_or s at 0) e);
        next = refl;
      }

  pub integer_digits : {r : ℕ} → ¬ (get_or s at 0 ≡ 0x30) → Digits s at stop r → IntegerEnd s stop at r
  unfolding numeral_step after_integer choose◌then◌else◌
  integer_digits n x =
      record {
        some = x.some;
        before = x.before;
        numeral = Integer;
        comes = λ c b. digits_come x k integer_proceeds c (digit_first b (get_or s at 0) n (parts x k).0);
        next = rw x.ends;
      }

  -- a number ends after its integer
  pub number_integer : {i : ℕ} → IntegerEnd s stop at i → ¬ (get_or s i 0 ≡ 0x2E) → is_letter_e (get_or s i 0) ≡ false → (c : Cell) → BeginsNumber c
      → EndsBefore Csvj s stop c at i
  unfolding cell_step after_integer choose◌then◌else◌
  number_integer {i} x p e c b =
      record { before = x.before; ends = ends_here (x.comes c b) x.before k (x.next ∙ rw (ne_eqb (get_or s i 0) 0x2E p, e)) }

  -- or after its fraction
  pub number_fraction : {i r : ℕ} → IntegerEnd s stop at i → get_or s i 0 ≡ 0x2E → Digits s (i + 1) stop r → is_letter_e (get_or s r 0) ≡ false
      → (c : Cell) → BeginsNumber c → EndsBefore Csvj s stop c at r
  unfolding cell_step numeral_step after_integer choose◌then◌else◌
  number_fraction {i} {r} x p z e c b =
      let point = comes_byte (x.comes c b) x.before k (InNumber Point) (i + 1) refl (x.next ∙ rw p) in
      let fraction = digits_come z k fraction_proceeds (InNumber Point) (point_first (get_or s (i + 1) 0) (parts z k).0) in
      record { before = z.before; ends = ends_here (results_on point fraction) z.before k (rw (z.ends, e)) }

  pub minus_ends : {r : ℕ} → at < stop → get_or s at 0 ≡ 0x2D → EndsBefore Csvj s stop (InNumber Minus) (at + 1) r → EndsBefore Csvj s stop Fresh at r
  unfolding cell_step first_byte choose◌then◌else◌
  minus_ends h e x =
      let minus = comes_byte (results_none Csvj s stop Fresh at (omega arith)) h k (InNumber Minus) (at + 1) refl (rw e) in
      record { before = x.before; ends = results_ends minus x.ends }

-- ---- numbers before a comma

module _ (s : Bytes) (stop at : ℕ) (k : stop ≤ length s) (i : ℕ) (h : i < stop) (x : PassRun is_digit s at stop i) (n : ¬ (i ≡ at))
    (zero : get_or s at 0 ≡ 0x30 → i ≤ at + 1) where
  -- an integer with these digits
  integer_of : is_digit (get_or s i 0) ≡ false → IntegerEnd s stop at i
  integer_of e =
      let f : at ≤ i = x.from in
      split_on (get_or s at 0 is 0x30)
      (λ t.
      let b : get_or s at 0 ≡ 0x30 = eqb-true (get_or s at 0) 0x30 t in
      let l : i ≤ at + 1 = zero b in
      let m : i ≡ at + 1 = omega arith in
      rw m (integer_zero s stop at k (omega arith) b))
      λ t. integer_digits s stop at k (eqb-false (get_or s at 0) 0x30 t) (record { some = omega arith; before = h; each = x.each; ends = e })

  pub comma_integer : get_or s i 0 ≡ 0x2C → EndsBefore Csvj s stop Fresh at i
  comma_integer e =
      let point : ¬ (get_or s i 0 ≡ 0x2E) = λ f. omega (arith, e, f) in number_integer s stop at k (integer_of (rw e)) point (rw e) Fresh unsigned

  pub comma_fraction : (end : ℕ) → get_or s i 0 ≡ 0x2E → PassRun is_digit s (i + 1) stop end → ¬ (end ≡ i + 1) → end < stop
      → get_or s end 0 ≡ 0x2C → EndsBefore Csvj s stop Fresh at end
  comma_fraction end p y m l e =
      let f : i + 1 ≤ end = y.from in
      let digits : Digits s (i + 1) stop end = record { some = omega arith; before = l; each = y.each; ends = rw e } in
      number_fraction s stop at k (integer_of (rw p)) p digits (rw e) Fresh unsigned

-- ---- words

letter : (d : Dialect) (w : Word) (b : ℕ) → b ≡ letter_of w → cell_step d (InWord w) b ≡ More (after_letter w)
unfolding cell_step choose◌then◌else◌
letter d w b e = rw (eq-eqb b (letter_of w) e)

module _ {s : Bytes} {stop at : ℕ} (k : stop ≤ length s) where
  -- the state after each of four letters
  letters_come : (d : Dialect) (w0 w1 w2 : Word) (t : Cell) → after_letter w0 ≡ InWord w1 → after_letter w1 ≡ InWord w2 → after_letter w2 ≡ t
      → cell_step d Fresh (get_or s at 0) ≡ More (InWord w0) → Letters s at stop (letter_of w0) (letter_of w1) (letter_of w2)
      → Results d s stop Fresh at t (at + 4)
  letters_come d w0 w1 w2 t e1 e2 e3 e x =
      let h : at + 4 < stop = x.before in
      let c1 = comes_byte (results_none d s stop Fresh at (omega arith)) (omega arith) k (InWord w0) (at + 1) refl e in
      let c2 = comes_byte c1 (omega arith) k (InWord w1) (at + 2) (omega arith) (letter d w0 (get_or s (at + 1) 0) x.letter_second ∙ ap More e1) in
      let c3 = comes_byte c2 (omega arith) k (InWord w2) (at + 3) (omega arith) (letter d w1 (get_or s (at + 2) 0) x.letter_third ∙ ap More e2) in
      comes_byte c3 (omega arith) k t (at + 4) (omega arith) (letter d w2 (get_or s (at + 3) 0) x.letter_fourth ∙ ap More e3)

  pub true_ends : get_or s at 0 ≡ 0x74 → Letters s at stop 0x72 0x75 0x65 → EndsBefore Csvj s stop Fresh at (at + 4)
  unfolding cell_step first_byte choose◌then◌else◌
  true_ends e x =
      record { before = x.before; ends = ends_here (letters_come Csvj T Tr Tru Complete refl refl refl (rw e) x) x.before k (complete_ends Csvj (get_or s (at + 4) 0)) }

  pub null_ends : get_or s at 0 ≡ 0x6E → Letters s at stop 0x75 0x6C 0x6C → EndsBefore Csvj s stop Fresh at (at + 4)
  unfolding cell_step first_byte choose◌then◌else◌
  null_ends e x =
      record { before = x.before; ends = ends_here (letters_come Csvj N Nu Nul Complete refl refl refl (rw e) x) x.before k (complete_ends Csvj (get_or s (at + 4) 0)) }

  pub false_ends : get_or s at 0 ≡ 0x66 → Letters s at stop 0x61 0x6C 0x73 → get_or s (at + 4) 0 ≡ 0x65 → at + 5 < stop
      → EndsBefore Csvj s stop Fresh at (at + 5)
  unfolding cell_step first_byte choose◌then◌else◌
  false_ends e x f h =
      let four = letters_come Csvj F Fa Fal (InWord Fals) refl refl refl (rw e) x in
      let five = comes_byte four x.before k Complete (at + 5) (omega arith) (letter Csvj Fals (get_or s (at + 4) 0) f) in
      record { before = h; ends = ends_here five h k (complete_ends Csvj (get_or s (at + 5) 0)) }

  pub tdif_null_ends : at + 2 < stop → get_or s at 0 ≡ 0x5C → get_or s (at + 1) 0 ≡ 0x4E → EndsBefore Tdif s stop Fresh at (at + 2)
  unfolding cell_step first_byte choose◌then◌else◌
  tdif_null_ends h e f =
      let one = comes_byte (results_none Tdif s stop Fresh at (omega arith)) (omega arith) k (InWord Backslash) (at + 1) refl (rw e) in
      let two = comes_byte one (omega arith) k Complete (at + 2) (omega arith) (letter Tdif Backslash (get_or s (at + 1) 0) f) in
      record { before = h; ends = ends_here two h k (complete_ends Tdif (get_or s (at + 2) 0)) }
