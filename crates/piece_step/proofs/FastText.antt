-- The text that the fast path wrote, by its result: the record has no fault, and the text fits.
use Prim.Native.Nat.{ℕ, ◌+◌, ◌-◌, ◌≤◌}
use native.Mathlib.Omega.{arith}
use mathlib.Core.Path.{◌≡◌, refl, sym, ap, subst, ◌∙◌}
use mathlib.Core.Bool.{false}
use mathlib.Core.List.{List, ◌++◌}
use lib.ListN.{length}
use borrow.Author.Tests.{ne_eqb}
use Rattle.model.specs.declared.Dialect.{Dialect}
use Rattle.model.specs.declared.FileState.{FileState}
use Rattle.std.specs.Prelude.{Option, None, Some, Result, Ok, Err}
use Rattle.std.specs.Result.{result_and, result_ok}
use Rattle.model.specs.declared.Fault.{Fault}
use Rattle.model.specs.rules.Types.{CheckResult}
use Rattle.model.specs.rules.Base.{choose◌then◌else◌}
use Rattle.model.specs.rules.Dialect.{into}
use Rattle.model.specs.rules.Text.{Value, record_text, ending}
use Rattle.model.specs.rules.Report.{MAXFILE, MAXCOLUMNS}
use Rattle.model.specs.rules.Records.{data_fault, target_fault}
use Rattle.model.proofs.file_laws.CheckResults.{target_sound}
use Rattle.buffer.specs.Writes.{written}
use Rattle.piece_state.specs.declared.place.Place.{Place}
use Rattle.piece_state.specs.Sound.{columns_with, place_after}
use Rattle.piece_step.specs.FastSteps.{next_step, FastTextSound, up_to, no_text, FastStepWrites, at_next}

other : {A : Type 0} → ◌≡◌ {A = ℕ} 0 1 → A
other z = absurd (omega arith)

-- ---- checks that fall back

pub sound_if : (v : CheckResult) {o : Option (Unit {0})} {u : Unit {0}} → o ≡ result_ok v → o ≡ Some u → v ≡ Ok tt
sound_if (Ok _) e f = refl
sound_if (Err x) {u = u} e f = let z : ◌≡◌ {A = Option (Unit {0})} None (Some u) = sym e ∙ f in other cc

pub length_if :
    (v : CheckResult) (n : ℕ) {r : Result ℕ Fault} {o : Option ℕ} {x : ℕ} → r ≡ result_and v (Ok n) → o ≡ result_ok r → o ≡ Some x → (v ≡ Ok tt) × (x ≡ n)
length_if (Ok _) n {x = x} e h f = let z : ◌≡◌ {A = Option ℕ} (Some x) (Some n) = sym f ∙ h ∙ ap result_ok e in (refl, cc)
length_if (Err y) n {x = x} e h f = let z : ◌≡◌ {A = Option ℕ} None (Some x) = sym (h ∙ ap result_ok e) ∙ f in other cc

-- ---- the text

pub record UpTo (t : Dialect) (columns before : ℕ) (vs : List Value) (o : ℕ) (out out' : List ℕ) (end : ℕ) : Type 0 where
  pub source : data_fault columns vs ≡ Ok tt
  pub target : target_fault (into t) false before vs ≡ Ok tt
  pub room : o + length (record_text (into t) false vs ++ ending t) ≤ length out
  pub text : out' ≡ written out o (record_text (into t) false vs ++ ending t)
  pub place : end ≡ o + length (record_text (into t) false vs ++ ending t)

module _ {t : Dialect} {columns before : ℕ} {vs : List Value} {o : ℕ} {out out' : List ℕ} where
  pub put_to : {r : Option ℕ} {end : ℕ} → FastTextSound t columns before vs o out out' r → r ≡ Some end → UpTo t columns before vs o out out' end
  put_to {end = end} (up_to {end = e} a b l w y) q =
      let z : e ≡ end = cc in
      subst (λ (x : ℕ). UpTo t columns before vs o out out' x) z (record { source = a; target = b; room = l; text = w; place = y })
  put_to (no_text w) q = other cc

  pub put_nowhere : {r : Option ℕ} → FastTextSound t columns before vs o out out' r → r ≡ None → out' ≡ out
  put_nowhere (up_to a b l w y) q = other cc
  put_nowhere (no_text w) q = w

-- the text fits into the file, and ends after o
pub written_fits :
    {t : Dialect} {columns before : ℕ} {vs : List Value} {o : ℕ} {out out' : List ℕ} {end : ℕ} → UpTo t columns before vs o out out' end →
    (o ≤ end) × (before + (end - o) ≤ MAXFILE)
written_fits {t} {columns} {before} {vs} {o} {out} {out'} {end} y =
    let f = target_sound (into t) false before vs y.target in
    let l : before + length (record_text (into t) false vs ++ ending t) ≤ MAXFILE = f.fits in
    let e : end ≡ o + length (record_text (into t) false vs ++ ending t) = y.place in
    (omega arith, omega arith)

-- the place after it
pub written_place :
    {t : Dialect} {p : Place} {vs : List Value} {o : ℕ} {out out' : List ℕ} {end : ℕ} (n next : ℕ) (f : FileState) (cells : ℕ) →
    (p.records ≡ 0 → ⊥) → cells ≤ MAXCOLUMNS →
    UpTo t p.columns p.written vs o out out' end →
    FastStepWrites t p n next f cells vs o out out'
    (Some (next_step (place_after p cells (end - o) f (n + next)) next end))
unfolding choose◌then◌else◌
written_place {t} {p} {vs} {o} {out} {out'} {end} n next f cells l few y =
    let c : columns_with p (length vs) ≡ columns_with p cells = rw (ne_eqb p.records 0 l) in
    subst (λ (m : ℕ). FastStepWrites t p n next f cells vs o out out'
    (Some (next_step (record {
      state = f;
      offset = n + next;
      start = n + next;
      size = 0;
      fill = 0;
      cells = 0;
      columns = m;
      records = p.records + 1;
      written = p.written + (end - o);
    }) next end))) c
    (at_next few y.source y.target y.room y.text y.place)
