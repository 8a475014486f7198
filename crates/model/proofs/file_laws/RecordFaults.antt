-- The offset of every fault of a complete record is the record's start: faults at a byte are of form alone.
use Prim.Native.Nat.{ℕ, suc}
use native.Mathlib.Omega.{arith}
use mathlib.Core.Path.{◌≡◌, refl}
use mathlib.Core.Bool.{Bool, true, false, not}
use Rattle.std.specs.Prelude.{Option, None, Some}
use mathlib.Core.List.{List, [], ◌∷◌}
use lib.ListN.{length}
use Rattle.model.specs.rules.Types.{Dialect, Target, Fault, CellCount, RepeatedName, HeaderKind, TooManyColumns, NoCells, LacksKind}
use Rattle.model.specs.rules.Types.{LoneSurrogate, Clash, TextTooLong, OutputTooLong, CheckResult, Ok, Err}
use Rattle.model.specs.rules.Base.{Bytes}
use Rattle.model.specs.rules.Text.{Value, is_text, carried}
use Rattle.model.specs.rules.Report.{is_at_byte}
use Rattle.model.specs.rules.Records.{Rec, ◌or_else◌, when, name_key, repeat_from, repeat_fault, header_kind_from, header_fault, data_fault, has_kind}
use Rattle.model.specs.rules.Records.{loses_surrogate, uncarried_from, clash_fault, target_fault, converting, record_fault}
use Rattle.model.proofs.Tests.{split}

-- a check result without a fault, or with one whose offset is the record's start
pub data OfRecord : CheckResult → Type 0 where
  of_sound : OfRecord (Ok tt)
  of_fault : {e : Fault} → is_at_byte e ≡ false → OfRecord (Err e)

pub fault_start : {e : Fault} (v : CheckResult) → v ≡ Err e → OfRecord v → is_at_byte e ≡ false
fault_start v h of_sound = let z : ◌≡◌ {A = ℕ} 0 1 = cc in absurd (omega arith)
fault_start {e} (Err f) h (of_fault k) = let z : f ≡ e = cc in rw z at k

when_record : (t : Bool) (e : Fault) → is_at_byte e ≡ false → OfRecord (when t e)
unfolding when
when_record true e h = of_fault h
when_record false e h = of_sound

else_record : {v w : CheckResult} → OfRecord v → OfRecord w → OfRecord (v or_else w)
unfolding ◌or_else◌
else_record of_sound k = k
else_record (of_fault h) k = of_fault h

repeat_record :
    (d : Dialect) (fault : ℕ → Fault) (seen : List Bytes) (n : ℕ) (vs : List Value) → ((c : ℕ) → is_at_byte (fault c) ≡ false) →
    OfRecord (repeat_from d fault seen n vs)
unfolding repeat_from
repeat_record d fault seen n [] h = of_sound
repeat_record d fault seen n (v ∷ vs) h =
    split OfRecord _ (λ _. of_fault (h n)) λ _. repeat_record d fault (name_key d v.content ∷ seen) (suc n) vs h

not_text_record : (n : ℕ) (vs : List Value) → OfRecord (header_kind_from n vs)
unfolding header_kind_from
not_text_record n [] = of_sound
not_text_record n (v ∷ vs) = else_record (when_record (not (is_text v.kind)) (HeaderKind n) refl) (not_text_record (suc n) vs)

uncarried_record : (t : Dialect) (n : ℕ) (vs : List Value) → OfRecord (uncarried_from t n vs)
unfolding uncarried_from
uncarried_record t n [] = of_sound
uncarried_record t n (v ∷ vs) =
    else_record (when_record (not (has_kind t v.kind)) (LacksKind n) refl)
    (else_record (when_record (loses_surrogate t v) (LoneSurrogate n) refl) (uncarried_record t (suc n) vs))

header_record : (d : Dialect) (vs : List Value) → OfRecord (header_fault d vs)
unfolding header_fault repeat_fault
header_record d vs =
    else_record (when_record _ TooManyColumns refl) (else_record (not_text_record 1 vs) (repeat_record d RepeatedName [] 1 vs (λ c. refl)))

data_record : (n : ℕ) (vs : List Value) → OfRecord (data_fault n vs)
unfolding data_fault
data_record n vs = else_record (when_record _ TooManyColumns refl) (when_record _ CellCount refl)

clash_record : (t : Dialect) (header : Bool) (vs : List Value) → OfRecord (clash_fault t header vs)
unfolding repeat_fault
clash_record t true vs = repeat_record t Clash [] 1 vs (λ c. refl)
clash_record t false vs = of_sound

pub target_record : (t : Target) (header : Bool) (written : ℕ) (vs : List Value) → OfRecord (target_fault t header written vs)
unfolding target_fault
target_record t header written vs =
    else_record (when_record _ NoCells refl)
    (else_record (uncarried_record t.dialect 1 (carried t vs))
    (else_record (clash_record t.dialect header (carried t vs)) (else_record (when_record _ TextTooLong refl) (when_record _ OutputTooLong refl))))

converting_record : (target : Option Target) (f : Target → CheckResult) → ((t : Target) → OfRecord (f t)) → OfRecord (converting target f)
converting_record None f h = of_sound
converting_record (Some t) f h = h t

pub fault_record : (d : Dialect) (target : Option Target) (done : List Rec) (vs : List Value) → OfRecord (record_fault d target done vs)
unfolding record_fault
fault_record d target [] vs = else_record (header_record d vs) (converting_record target _ (λ t. target_record t true _ vs))
fault_record d target (h ∷ rs) vs =
    else_record (data_record (length h.cells) vs) (converting_record target _ (λ t. target_record t false _ vs))
