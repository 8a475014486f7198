-- A check result without a fault: each of its checks holds, and so do the limits of a record that the target can represent.
use Prim.Native.Nat.{ℕ, ◌+◌, ◌≤◌}
use native.Mathlib.Omega.{arith}
use mathlib.Core.Path.{◌≡◌, refl}
use mathlib.Core.Bool.{Bool, true, false, not, ◌&&◌}
use mathlib.Core.List.{List, ◌++◌}
use lib.ListN.{length}
use lib.Dec.{ltb}
use borrow.Author.Tests.{ltb-false}
use Rattle.model.specs.rules.Types.{Target, Fault, NoCells, TextTooLong, CheckResult, Result, Ok, Err}
use Rattle.model.specs.rules.Base.{is_empty}
use Rattle.model.specs.rules.Dialect.{is_csvj}
use Rattle.model.specs.rules.Text.{Value, carried, record_text, ending}
use Rattle.model.specs.rules.Report.{MAXFILE, MAXRECORD}
use Rattle.model.specs.rules.Records.{◌or_else◌, when, uncarried_from, clash_fault, target_fault}

pub fault_sound : {A T E : Type 0} {e : E} {x : T} → ◌≡◌ {A = Result T E} (Err e) (Ok x) → A
fault_sound x = let z : ◌≡◌ {A = ℕ} 0 1 = cc in absurd (omega arith)

pub else_assoc : (u v w : CheckResult) → ((u or_else v) or_else w) ≡ (u or_else (v or_else w))
unfolding ◌or_else◌
else_assoc (Ok _) v w = refl
else_assoc (Err e) v w = refl

pub else_sound : (x y : CheckResult) → (x or_else y) ≡ Ok tt → (x ≡ Ok tt) × (y ≡ Ok tt)
unfolding ◌or_else◌
else_sound (Ok _) y e = (refl, e)
else_sound (Err f) y e = fault_sound e

pub when_sound : (b : Bool) (f : Fault) → when b f ≡ Ok tt → b ≡ false
unfolding when
when_sound true f e = fault_sound e
when_sound false f e = refl

pub both_sound : {x y : CheckResult} → x ≡ Ok tt → y ≡ Ok tt → (x or_else y) ≡ Ok tt
unfolding ◌or_else◌
both_sound e k = rw (e, k)

pub not_when : {b : Bool} (f : Fault) → b ≡ false → when b f ≡ Ok tt
unfolding when
not_when f e = rw e

-- fault 9 has none of its reasons
pub record TargetSound (t : Target) (header : Bool) (written : ℕ) (vs : List Value) : Type 0 where
  pub filled : (header && is_empty vs && not (is_csvj t.dialect)) ≡ false
  pub carries : uncarried_from t.dialect 1 (carried t vs) ≡ Ok tt
  pub clash : clash_fault t.dialect header (carried t vs) ≡ Ok tt
  pub short : length (record_text t header vs) ≤ MAXRECORD
  pub fits : written + length (record_text t header vs ++ ending t.dialect) ≤ MAXFILE

pub target_sound : (t : Target) (header : Bool) (written : ℕ) (vs : List Value) → target_fault t header written vs ≡ Ok tt → TargetSound t header written vs
unfolding target_fault
target_sound t header written vs e =
    let a = else_sound (when (header && is_empty vs && not (is_csvj t.dialect)) NoCells) _ e in
    let b = else_sound (uncarried_from t.dialect 1 (carried t vs)) _ a.1 in
    let c = else_sound (clash_fault t.dialect header (carried t vs)) _ b.1 in
    let f = else_sound (when (ltb MAXRECORD (length (record_text t header vs))) TextTooLong) _ c.1 in
    record {
      filled = when_sound _ _ a.0;
      carries = b.0;
      clash = c.0;
      short = ltb-false MAXRECORD (length (record_text t header vs)) (when_sound _ _ f.0);
      fits = ltb-false MAXFILE (written + length (record_text t header vs ++ ending t.dialect)) (when_sound _ _ f.1);
    }
