-- The answer, by the result of the first pass and by the dialects that the numbers name.
use Prim.Native.Nat.{ℕ, ◌≤◌, ◌<◌}
use native.Mathlib.Omega.{arith}
use mathlib.Core.Path.{◌≡◌, refl, sym, ap, ◌∙◌}
use Rattle.std.specs.Prelude.{None, Some, Result, Ok, Err}
use lib.ListN.{length, drop, length-append, length-drop}
use borrow.Author.Tests.{lt-ltb, le-ltb}
use Rattle.model.specs.declared.Dialect.{Dialect}
use Rattle.model.specs.declared.Report.{Report}
use Rattle.model.specs.rules.Base.{Bytes, over, choose◌then◌else◌}
use Rattle.model.specs.rules.Dialect.{dialect_of}
use Rattle.model.specs.rules.Report.{refusal}
use Rattle.model.specs.rules.Records.{fault_report}
use Rattle.model.specs.rules.Api.{Written, unwritten, converter, converter_leaves}
use Rattle.codes.specs.declared.TextAnswer.{TextAnswer}
use Rattle.codes.specs.Named.{text_answer}
use Rattle.file_converter.specs.Converts as converts
use Rattle.file_converter.specs.Converts.{answer_in, text_in, MeasureSound, Accepts}
use Rattle.file_converter.proofs.Passes.{answer_text}

other : {A : Type 0} → ◌≡◌ {A = ℕ} 0 1 → A
other z = absurd (omega arith)

-- an answer, and the room after the call
pub record Leaves (d t : Dialect) (file old : Bytes) (r : TextAnswer) (out : Bytes) : Type 0 where
  pub answer : r ≡ text_answer (answer_in d t file (length old))
  pub left : out ≡ over (answer_in d t file (length old)).text old

-- ---- a file of one dialect into another

module _ (d t : Dialect) (file old : Bytes) {m : Result ℕ Report} (y : MeasureSound d t file m) where
  refused_by : (x : Report) → m ≡ Err x → answer_in d t file (length old) ≡ unwritten x
  refused_by x q = go m y q
    where
      go : (s : Result ℕ Report) → MeasureSound d t file s → s ≡ Err x → answer_in d t file (length old) ≡ unwritten x
      go (Ok n) (converts.accepted r p l) q = other cc
      go (Err z) (converts.refused e r p) q = let w : fault_report e r ≡ x = cc in rw p (ap unwritten w)

  pub conversion_refused : (x : Report) → m ≡ Err x → (r : TextAnswer) → r ≡ text_answer (unwritten x) → Leaves d t file old r old
  conversion_refused x q r e =
      let a : answer_in d t file (length old) ≡ unwritten x = refused_by x q in
      record { answer = e ∙ ap text_answer (sym a); left = rw a refl }

  pub conversion_crowded :
      (n : ℕ) → m ≡ Ok n → length old < n → (x : Report) → x ≡ refusal 10 → (r : TextAnswer) → r ≡ text_answer (unwritten x) →
      Leaves d t file old r old
  unfolding choose◌then◌else◌
  conversion_crowded n q h x ex r e =
      let a : answer_in d t file (length old) ≡ unwritten (refusal 10) = go m y q in
      record { answer = e ∙ ap (λ (x : Report). text_answer (unwritten x)) ex ∙ ap text_answer (sym a); left = rw a refl }
    where
      go : (s : Result ℕ Report) → MeasureSound d t file s → s ≡ Ok n → answer_in d t file (length old) ≡ unwritten (refusal 10)
      go (Ok k) (converts.accepted r p l) q =
          let w : k ≡ n = cc in
          rw (p, lt-ltb (length old) (length (text_in t r)) (omega (arith, l)))
      go (Err z) (converts.refused e r p) q = other cc

  pub conversion_accepts : (n : ℕ) → m ≡ Ok n → n ≤ length old → Accepts d t file (length old)
  conversion_accepts n q h = go m y q
    where
      go : (s : Result ℕ Report) → MeasureSound d t file s → s ≡ Ok n → Accepts d t file (length old)
      go (Ok k) (converts.accepted r p l) q = let w : k ≡ n = cc in record { r = r; reads = p; fits = omega (arith, l) }
      go (Err z) (converts.refused e r p) q = other cc

  pub conversion_roomy :
      (n : ℕ) → m ≡ Ok n → n ≤ length old → (x : Report) → x ≡ refusal 0 →
      record { report = x; length = n } ≡ text_answer (answer_in d t file (length old))
  unfolding choose◌then◌else◌
  conversion_roomy n q h x e = go m y q
    where
      go : (s : Result ℕ Report) → MeasureSound d t file s → s ≡ Ok n → record { report = x; length = n } ≡ text_answer (answer_in d t file (length old))
      go (Ok k) (converts.accepted r p l) q =
          let w : k ≡ n = cc in
          rw (p, le-ltb (length old) (length (text_in t r)) (omega (arith, l)), e, ← w, ← l) refl
      go (Err z) (converts.refused e r p) q = other cc

-- the room stays as long as it was
pub long_filled :
    (d t : Dialect) (file old : Bytes) → Accepts d t file (length old) → (out : Bytes) →
    out ≡ over (answer_in d t file (length old)).text old → length out ≡ length old
long_filled d t file old a out e =
    let w : (answer_in d t file (length old)).text ≡ text_in t a.r = answer_text a in
    let x : out ≡ over (text_in t a.r) old = e ∙ ap (λ (w : Bytes). over w old) w in
    ap length x ∙ length-append (text_in t a.r) (drop (length (text_in t a.r)) old) ∙ omega (arith, length-drop (length (text_in t a.r)) old, a.fits)

-- ---- by number

converter_known :
    (m n : ℕ) (d t : Dialect) (file : Bytes) (room : ℕ) → dialect_of m ≡ Some d → dialect_of n ≡ Some t →
    converter m n file room ≡ answer_in d t file room
unfolding converter
converter_known m n d t file room e k = rw (e, converter, k)

converter_source : (m n : ℕ) (file : Bytes) (room : ℕ) → dialect_of m ≡ None → converter m n file room ≡ unwritten (refusal 11)
unfolding converter
converter_source m n file room e = rw (e, converter)

converter_target :
    (m n : ℕ) (d : Dialect) (file : Bytes) (room : ℕ) → dialect_of m ≡ Some d → dialect_of n ≡ None →
    converter m n file room ≡ unwritten (refusal 11)
unfolding converter
converter_target m n d file room e k = rw (e, converter, k)

-- the call, by what the converter says
by_converter :
    (m n : ℕ) (file old : Bytes) (w : Written) (r : TextAnswer) (out : Bytes) → converter m n file (length old) ≡ w → r ≡ text_answer w →
    out ≡ over w.text old → (r ≡ text_answer (converter m n file (length old))) × (out ≡ converter_leaves m n file old)
unfolding converter_leaves
by_converter m n file old w r out e a l = (a ∙ ap text_answer (sym e), l ∙ ap (λ (w : Written). over w.text old) (sym e))

pub both_known :
    (m n : ℕ) (d t : Dialect) (file old : Bytes) (r : TextAnswer) (out : Bytes) → dialect_of m ≡ Some d → dialect_of n ≡ Some t →
    r ≡ text_answer (answer_in d t file (length old)) → out ≡ over (answer_in d t file (length old)).text old →
    (r ≡ text_answer (converter m n file (length old))) × (out ≡ converter_leaves m n file old)
both_known m n d t file old r out e k a l = by_converter m n file old (answer_in d t file (length old)) r out (converter_known m n d t file (length old) e k) a l

unknown :
    (m n : ℕ) (file old : Bytes) (x : Report) (r : TextAnswer) → converter m n file (length old) ≡ unwritten (refusal 11) → x ≡ refusal 11 →
    r ≡ text_answer (unwritten x) → (r ≡ text_answer (converter m n file (length old))) × (old ≡ converter_leaves m n file old)
unknown m n file old x r e ex h = by_converter m n file old (unwritten (refusal 11)) r old e (h ∙ ap (λ (x : Report). text_answer (unwritten x)) ex) refl

pub source_unknown :
    (m n : ℕ) (file old : Bytes) (x : Report) (r : TextAnswer) → dialect_of m ≡ None → x ≡ refusal 11 → r ≡ text_answer (unwritten x) →
    (r ≡ text_answer (converter m n file (length old))) × (old ≡ converter_leaves m n file old)
source_unknown m n file old x r e = unknown m n file old x r (converter_source m n file (length old) e)

pub target_unknown :
    (m n : ℕ) (d : Dialect) (file old : Bytes) (x : Report) (r : TextAnswer) → dialect_of m ≡ Some d → dialect_of n ≡ None → x ≡ refusal 11 →
    r ≡ text_answer (unwritten x) → (r ≡ text_answer (converter m n file (length old))) × (old ≡ converter_leaves m n file old)
target_unknown m n d file old x r e k = unknown m n file old x r (converter_target m n d file (length old) e k)
