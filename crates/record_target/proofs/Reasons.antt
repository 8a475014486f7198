-- Fault 9 by the outcomes of its tests, in the definition's order.
use mathlib.Core.Path.{◌≡◌, refl, ◌∙◌}
use mathlib.Core.Bool.{Bool, true, false, not, ◌&&◌}
use mathlib.Core.List.{List, [], ◌∷◌, ◌++◌}
use Prim.Native.Nat.{ℕ, ◌+◌, ◌<◌, ◌≤◌}
use native.Mathlib.Omega.{arith}
use lib.ListN.{length, length-append}
use lib.Dec.{leb}
use borrow.Author.Tests.{lt-ltb, le-ltb, leb-true, leb-false}
use Rattle.model.specs.declared.Dialect.{Dialect}
use Rattle.model.specs.declared.Dialect.TheVariants.{Csvj, Tdif, CsvPlus}
use Rattle.model.specs.declared.Fault.{Fault}
use Rattle.model.specs.declared.Fault.TheVariants.{NoCells, TextTooLong, OutputTooLong}
use Rattle.model.specs.rules.Types.{CheckResult}
use Rattle.std.specs.Prelude.{Result, Ok, Err}
use Rattle.std.specs.Result.{result_and}
use Rattle.model.specs.rules.Base.{Bytes, choose◌then◌else◌, is_empty}
use Rattle.model.specs.rules.Dialect.{is_csvj, into}
use Rattle.model.specs.rules.Text.{Value, record_text, ending}
use Rattle.model.specs.rules.Records.{◌or_else◌, when, uncarried_from, clash_fault, target_fault}
use Rattle.model.specs.rules.Report.{MAXFILE, MAXRECORD}
use Rattle.model.proofs.Tests.{split_on, impossible}
use Rattle.buffer.specs.Writes.{measure, Room, WrittenAt}
use Rattle.buffer.proofs.WriteProgress.{measure_within, measure_beyond}
use Rattle.record_target.specs.Sized.{length_fault}

-- ---- lengths

-- a measure within a record is the length itself
pub measure_is : (n end : ℕ) → end ≡ measure n → end ≤ MAXRECORD → end ≡ n
measure_is n end e h =
    split_on (leb MAXFILE n) (λ b. absurd (omega (arith, e, measure_beyond n (leb-true MAXFILE n b))))
    (λ b. e ∙ measure_within n (omega (arith, leb-false MAXFILE n b)))

-- a measure beyond a record is that of a text beyond one
pub measure_over : (n end : ℕ) → end ≡ measure n → MAXRECORD < end → MAXRECORD < n
measure_over n end e h =
    split_on (leb MAXFILE n) (λ b. omega (arith, leb-true MAXFILE n b)) (λ b. omega (arith, e, measure_within n (omega (arith, leb-false MAXFILE n b))))

-- the checks of a length, and the length of the text with its ending
abbrev Sized : Dialect → ℕ → Bytes → Result ℕ Fault
Sized t written text = result_and (length_fault t written text) (Ok (length (text ++ ending t)))

module _ (t : Dialect) (written : ℕ) (text : Bytes) where
  pub text_too_long : MAXRECORD < length text → Err TextTooLong ≡ Sized t written text
  unfolding when ◌or_else◌
  text_too_long h = rw (lt-ltb MAXRECORD (length text) h)

  module _ (short : length text ≤ MAXRECORD) where
    pub output_too_long : MAXFILE < written + (length text + length (ending t)) → Err OutputTooLong ≡ Sized t written text
    unfolding when ◌or_else◌
    output_too_long h =
        let all : length (text ++ ending t) ≡ length text + length (ending t) = length-append text (ending t) in
        rw (le-ltb MAXRECORD (length text) short, lt-ltb MAXFILE (written + length (text ++ ending t)) (omega arith))

    pub fits : (size : ℕ) → size ≡ length text + length (ending t) → written + size ≤ MAXFILE → Ok size ≡ Sized t written text
    unfolding when ◌or_else◌
    fits size n h =
        let all : length (text ++ ending t) ≡ length text + length (ending t) = length-append text (ending t) in
        rw (le-ltb MAXRECORD (length text) short, le-ltb MAXFILE (written + length (text ++ ending t)) (omega arith), all, n)

-- ---- two checks in order

pub or_fault : {e : Fault} {v : CheckResult} (w : CheckResult) → v ≡ Err e → (v or_else w) ≡ Err e
unfolding ◌or_else◌
or_fault w h = rw h

pub or_sound : {v : CheckResult} (w : CheckResult) → v ≡ Ok tt → (v or_else w) ≡ w
unfolding ◌or_else◌
or_sound w h = rw h

-- ---- reason by reason

module _ (t : Dialect) (header : Bool) (written : ℕ) (vs : List Value) where
  pub no_cells : (header && is_empty vs && not (is_csvj t)) ≡ true → target_fault (into t) header written vs ≡ Err NoCells
  unfolding target_fault when ◌or_else◌
  no_cells h = rw h

  module _ (some : (header && is_empty vs && not (is_csvj t)) ≡ false) where
    pub lacks : (e : Fault) → uncarried_from t 1 vs ≡ Err e → target_fault (into t) header written vs ≡ Err e
    unfolding target_fault when ◌or_else◌
    lacks e h = rw (some, h)

    module _ (carries : uncarried_from t 1 vs ≡ Ok tt) where
      pub clashes : (e : Fault) → clash_fault t header vs ≡ Err e → target_fault (into t) header written vs ≡ Err e
      unfolding target_fault when ◌or_else◌
      clashes e h = rw (some, carries, h)

      pub by_length : clash_fault t header vs ≡ Ok tt → target_fault (into t) header written vs ≡ length_fault t written (record_text (into t) header vs)
      unfolding target_fault when ◌or_else◌
      by_length h = rw (some, carries, h)

-- ---- a header without cells

pub no_header : (header csvj : Bool) (vs : List Value) → header ≡ false → false ≡ (header && is_empty vs && not csvj)
no_header header csvj vs e = rw e

pub has_cells_lem : (header csvj : Bool) (vs : List Value) → (length vs ≡ 0 → ⊥) → false ≡ (header && is_empty vs && not csvj)
has_cells_lem header csvj [] h = absurd (h refl)
has_cells_lem true csvj (v ∷ vs) h = refl
has_cells_lem false csvj (v ∷ vs) h = refl

pub empty_header : (header csvj : Bool) (vs : List Value) → header ≡ true → length vs ≡ 0 → not csvj ≡ (header && is_empty vs && not csvj)
empty_header header csvj [] e n = rw e
empty_header header csvj (v ∷ vs) e n = absurd (omega (arith, n))

pub not_csvj : (t : Dialect) → (t ≡ Csvj → ⊥) → is_csvj t ≡ false
not_csvj Csvj h = absurd (h refl)
not_csvj Tdif h = refl
not_csvj (CsvPlus s) h = refl

-- ---- what is only measured

pub place_measured : {old : Bytes} {o : ℕ} {w new : Bytes} {r : ℕ} → WrittenAt false old o w new r → r ≡ measure (o + length w)
unfolding choose◌then◌else◌
place_measured p = p.place

pub room_measured : (o : ℕ) (w out : Bytes) → o ≤ MAXFILE → Room false o w out
room_measured o w out h = record { measured = λ _. h; inside = λ e. impossible e }

pub ending_length : (t : Dialect) → length (ending t) ≤ 2
ending_length Csvj = omega arith
ending_length Tdif = omega arith
ending_length (CsvPlus s) = omega arith
