-- Induction over the records that are read: a property that every record preserves holds of all, and an accepted file has a header.
use Prim.Native.Nat.{ℕ, suc}
use native.Mathlib.Omega.{arith}
use mathlib.Core.Path.{◌≡◌, refl}
use mathlib.Core.Bool.{true}
use Rattle.std.specs.Prelude.{Option}
use mathlib.Core.List.{List, [], ◌∷◌, ◌++◌}
use Rattle.model.specs.rules.Types.{Dialect, Target, FileState, Begin, Outside, Passed, OfCell, Between, Tail, Ends, Step, Ok, Err, Ending}
use Rattle.model.specs.rules.Types.{Clean, Final, Cut, Fault, CheckResult}
use Rattle.model.specs.rules.Base.{Bytes}
use Rattle.model.specs.rules.File.{file_step, file_end}
use Rattle.model.specs.rules.Text.{Value}
use Rattle.model.specs.rules.Records.{Rec, Read, Progress, going, stopped, nothing_read, read_byte, read_from, read_bytes, read_end, read_file}
use Rattle.model.specs.rules.Records.{records_of, record_fault, move, complete, validated, closing, end_between, end_at}
use Rattle.model.proofs.Tests.{split}

-- ---- a property that every record preserves

module _ (d : Dialect) (target : Option Target) (B : List Rec → Type 0)
    (one_more_lem : (ds : List Rec) (x : Rec) → B ds → record_fault d target ds x.cells ≡ Ok tt → B (ds ++ (x ∷ []))) where
  validated_keeps : (r next : Read) (v : CheckResult) → (v ≡ Ok tt → B next.done) → B r.done → B (records_of (validated r next v))
  validated_keeps r next (Ok _) f k = f refl
  validated_keeps r next (Err e) f k = k

  complete_keeps : (r : Read) (vs : List Value) (f : FileState) (o : ℕ) → B r.done → B (records_of (complete d target r vs f o))
  unfolding complete
  complete_keeps r vs f o k =
      validated_keeps r _ (record_fault d target r.done vs)
      (λ s. one_more_lem r.done (record { start = r.start; size = r.size; cells = vs }) k s) k

  move_keeps : (r : Read) (b : ℕ) (s : Step) → B r.done → B (records_of (move d target r b s))
  unfolding move
  move_keeps r b (Err e) k = k
  move_keeps r b (Ok (f, Outside)) k = k
  move_keeps r b (Ok (f, Passed)) k = k
  move_keeps r b (Ok (f, OfCell)) k = k
  move_keeps r b (Ok (f, Between c)) k = k
  move_keeps r b (Ok (f, Tail c)) k = k
  move_keeps r b (Ok (f, Ends c)) k = complete_keeps r (closing d c r) f (suc r.offset) k

  byte_keeps : (r : Read) (b : ℕ) → B r.done → B (records_of (read_byte d target r b))
  unfolding read_byte
  byte_keeps r b k =
      let P : Progress → Type 0 = λ p. B (records_of p) in
      split P _ (λ _. k) λ _. split P _ (λ _. k) λ _. move_keeps r b (file_step d r.state b) k

  read_keeps : (p : Progress) (xs : Bytes) → B (records_of p) → B (records_of (read_from d target p xs))
  unfolding read_from
  read_keeps p [] k = k
  read_keeps (stopped e r) (x ∷ xs) k = k
  read_keeps (going r) (x ∷ xs) k = read_keeps (read_byte d target r x) xs (byte_keeps r x k)

  between_keeps : (r : Read) (rs : List Rec) → B r.done → B (records_of (end_between r rs))
  between_keeps r [] k = k
  between_keeps r (x ∷ rs) k = k

  at_end : (r : Read) (x : Ending) → B r.done → B (records_of (end_at d target r x))
  at_end r Clean k = between_keeps r r.done k
  at_end r Final k = complete_keeps r (closing d true r) Begin r.offset k
  at_end r Cut k = k

  end_keeps : (p : Progress) → B (records_of p) → B (records_of (read_end d target p))
  unfolding read_end
  end_keeps (stopped e r) k = k
  end_keeps (going r) k = at_end r (file_end d r.state) k

  pub file_keeps : B [] → (xs : Bytes) → B (records_of (read_file d target xs))
  unfolding read_file read_bytes nothing_read
  file_keeps k xs = end_keeps (read_bytes d target xs) (read_keeps (going nothing_read) xs k)

-- ---- an accepted file has a header

data HasRecord : Progress → Type 0 where
  has_record : {r : Read} (h : Rec) (rs : List Rec) → r.done ≡ h ∷ rs → HasRecord (going r)
  has_fault : {e : Fault} {r : Read} → HasRecord (stopped e r)

snoc_record : (ds : List Rec) (x : Rec) (r : Read) → r.done ≡ ds ++ (x ∷ []) → HasRecord (going r)
snoc_record [] x r e = has_record x [] e
snoc_record (h ∷ ds) x r e = has_record h (ds ++ (x ∷ [])) e

between_has : (r : Read) (rs : List Rec) → r.done ≡ rs → HasRecord (end_between r rs)
between_has r [] e = has_fault
between_has r (h ∷ rs) e = has_record h rs e

validated_has : (r next : Read) (v : CheckResult) → HasRecord (going next) → HasRecord (validated r next v)
validated_has r next (Ok _) h = h
validated_has r next (Err e) h = has_fault

end_has : (d : Dialect) (T : Option Target) (p : Progress) → HasRecord (read_end d T p)
unfolding read_end complete
end_has d T (stopped e r) = has_fault
end_has d T (going r) = at (file_end d r.state)
  where
    at : (x : Ending) → HasRecord (end_at d T r x)
    at Clean = between_has r r.done refl
    at Final =
        validated_has r _ (record_fault d T r.done (closing d true r))
        (snoc_record r.done (record { start = r.start; size = r.size; cells = closing d true r }) _ refl)
    at Cut = has_fault

pub record Header (r : Read) : Type 0 where
  pub header : Rec
  pub rest : List Rec
  pub done : r.done ≡ header ∷ rest

open_has : {p : Progress} (r : Read) → HasRecord p → p ≡ going r → Header r
open_has r (has_record {r = q} h rs k) e = let s : q ≡ r = same e in record { header = h; rest = rs; done = rw s at k }
  where
    same : {x y : Read} → going x ≡ going y → x ≡ y
    same e = cc
open_has r has_fault e = let z : ◌≡◌ {A = ℕ} 0 1 = cc in absurd (omega arith)

pub file_header : (d : Dialect) (T : Option Target) (xs : Bytes) (r : Read) → read_file d T xs ≡ going r → Header r
unfolding read_file
file_header d T xs r e = open_has r (end_has d T (read_bytes d T xs)) e
