-- Quotation marks: whether a cell has them, and how long it is with them.
use mathlib.Core.Path.{◌≡◌, refl}
use mathlib.Core.Bool.{Bool, true, false}
use mathlib.Core.List.{[], ◌∷◌, ◌++◌}
use Prim.Native.Nat.{ℕ, zero, suc, ◌+◌, ◌-◌, ◌≤◌}
use native.Mathlib.Omega.{arith}
use lib.ListN.{length, get_or, length-append}
use Rattle.model.specs.rules.Base.{Bytes, ◌is◌, begins, QUOTE, COMMA}
use Rattle.model.specs.rules.Api.{slice}
use Rattle.model.proofs.Tests.{split_on}
use Rattle.record_writer.specs.Joined.{before}
use Rattle.record_writer.specs.CleanCellText.{quote_if, quotes_by, quoted_cell, inside_of}

pub begins_none : (raw : Bytes) → length raw ≡ 0 → begins QUOTE raw ≡ false
begins_none [] e = refl
begins_none (b ∷ raw) e = absurd (omega arith)

pub begins_by : (raw : Bytes) → (length raw ≡ 0 → ⊥) → begins QUOTE raw ≡ (get_or raw 0 0 is QUOTE)
begins_by [] h = absurd (h refl)
begins_by (b ∷ raw) h = refl

pub quote_is : {quoted : Bool} → quoted ≡ true → quote_if quoted ≡ QUOTE ∷ []
quote_is e = rw e

pub quote_none : {quoted : Bool} → quoted ≡ false → quote_if quoted ≡ []
quote_none e = rw e

-- with its own, or with two
pub length_own : (raw : Bytes) → begins QUOTE raw ≡ true → length (quoted_cell raw) ≡ length raw
unfolding quoted_cell
length_own raw e = rw e (omega (arith, length-append raw []))

pub length_two : (raw : Bytes) → begins QUOTE raw ≡ false → length (quoted_cell raw) ≡ length raw + 2
unfolding quoted_cell
length_two raw e = rw e (omega (arith, length-append raw (QUOTE ∷ [])))

length_most : (raw : Bytes) (own : Bool) → begins QUOTE raw ≡ own → length (quoted_cell raw) ≤ length raw + 2
length_most raw true e = omega (arith, length_own raw e)
length_most raw false e = omega (arith, length_two raw e)

pub length_cell : (raw : Bytes) → length (quoted_cell raw) ≤ length raw + 2
length_cell raw = length_most raw (begins QUOTE raw) refl

-- with the delimiter before it
pub length_first : (n : ℕ) (bs : Bytes) → n ≡ 0 → length (before COMMA n ++ bs) ≡ length bs
length_first zero bs e = refl
length_first (suc n) bs e = absurd (omega arith)

pub length_later : (n : ℕ) (bs : Bytes) → (n ≡ 0 → ⊥) → length (before COMMA n ++ bs) ≡ length bs + 1
length_later zero bs h = absurd (h refl)
length_later (suc n) bs h = omega arith

-- ---- without them

module _ (raw : Bytes) (m : ℕ) (e : m ≡ quotes_by (begins QUOTE raw)) where
  pub inside_by : slice raw m (length raw - m) ≡ inside_of raw
  unfolding inside_of
  inside_by = rw e

  pub marks_inside : (begins QUOTE raw ≡ true → 2 ≤ length raw) → (m ≤ length raw) × (m ≤ length raw - m)
  marks_inside h =
      split_on (begins QUOTE raw) (λ f. let k : m ≡ 1 = rw f at e in let l : 2 ≤ length raw = h f in (omega arith, omega arith)) λ f. let
      k : m ≡ 0 = rw f at e in (omega arith, omega arith)
