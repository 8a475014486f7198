-- Each byte that is read moves the offset by one, so it is the number of bytes read.
use Prim.Native.Nat.{ℕ, suc, ◌+◌}
use native.Mathlib.Omega.{arith}
use mathlib.Core.Path.{◌≡◌, refl, subst}
use Rattle.std.specs.Prelude.{Option}
use mathlib.Core.List.{List, [], ◌∷◌}
use lib.ListN.{length}
use Rattle.model.specs.declared.Dialect.{Dialect}
use Rattle.model.specs.declared.Target.{Target}
use Rattle.model.specs.declared.Fault.{Fault}
use Rattle.model.specs.declared.FileState.{FileState}
use Rattle.model.specs.rules.Types.{CheckResult}
use Rattle.std.specs.Prelude.{Ok, Err}
use Rattle.model.specs.rules.Types.{Step}
use Rattle.model.specs.declared.ByteRole.TheVariants.{Outside, Passed, OfCell, Between, Tail, Ends}
use Rattle.model.specs.rules.Base.{Bytes}
use Rattle.model.specs.rules.File.{file_step}
use Rattle.model.specs.rules.Text.{Value}
use Rattle.model.specs.rules.Records.{Read, Progress, going, stopped, nothing_read, complete, validated, closing, move, read_byte, read_from, read_bytes}
use Rattle.model.specs.rules.Records.{record_fault}
use Rattle.model.proofs.Tests.{split}

-- reading that continues is at this offset
data LiesAt (n : ℕ) : Progress → Type 0 where
  at_offset : {r : Read} → r.offset ≡ n → LiesAt n (going r)
  at_fault : {e : Fault} {r : Read} → LiesAt n (stopped e r)

module _ (d : Dialect) (target : Option Target) where
  validated_at : (before next : Read) (v : CheckResult) → LiesAt next.offset (validated before next v)
  validated_at before next (Ok _) = at_offset refl
  validated_at before next (Err e) = at_fault

  complete_at : (r : Read) (vs : List Value) (f : FileState) (o : ℕ) → LiesAt o (complete d target r vs f o)
  unfolding complete
  complete_at r vs f o = validated_at r _ (record_fault d target r.done vs)

  move_at : (r : Read) (b : ℕ) (s : Step) → LiesAt (suc r.offset) (move d target r b s)
  unfolding move
  move_at r b (Err e) = at_fault
  move_at r b (Ok (f, Outside)) = at_offset refl
  move_at r b (Ok (f, Passed)) = at_offset refl
  move_at r b (Ok (f, OfCell)) = at_offset refl
  move_at r b (Ok (f, Between k)) = at_offset refl
  move_at r b (Ok (f, Tail k)) = at_offset refl
  move_at r b (Ok (f, Ends k)) = complete_at r (closing d k r) f (suc r.offset)

  byte_at : (r : Read) (b : ℕ) → LiesAt (suc r.offset) (read_byte d target r b)
  unfolding read_byte
  byte_at r b =
      let P : Progress → Type 0 = LiesAt (suc r.offset) in
      split P _ (λ _. at_fault) λ _. split P _ (λ _. at_fault) λ _. move_at r b (file_step d r.state b)

  read_at : (n : ℕ) (p : Progress) (bs : Bytes) → LiesAt n p → LiesAt (n + length bs) (read_from d target p bs)
  unfolding read_from
  read_at n p [] a = let e : n ≡ n + 0 = omega arith in subst (λ (x : ℕ). LiesAt x p) e a
  read_at n (stopped e r) (b ∷ bs) a = at_fault
  read_at n (going r) (b ∷ bs) (at_offset e) =
      let sum : suc r.offset + length bs ≡ n + suc (length bs) = omega arith in
      subst (λ (x : ℕ). LiesAt x (read_from d target (read_byte d target r b) bs)) sum (read_at (suc r.offset) (read_byte d target r b) bs (byte_at r b))

  -- the offset is the number of bytes read
  pub offset_is : (bs : Bytes) (r : Read) → read_bytes d target bs ≡ going r → r.offset ≡ length bs
  unfolding read_bytes nothing_read
  offset_is bs r e = go (subst (LiesAt (0 + length bs)) e (read_at 0 (going nothing_read) bs (at_offset refl)))
    where
      go : LiesAt (0 + length bs) (going r) → r.offset ≡ length bs
      go (at_offset h) = omega arith
