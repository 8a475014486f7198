-- Reading continues from its state (the append law), a fault stays whatever follows, and complete records stay.
use Prim.Native.Nat.{ℕ, suc}
use mathlib.Core.Path.{◌≡◌, refl, sym, ap, ◌∙◌}
use mathlib.Core.Bool.{true}
use Rattle.std.specs.Prelude.{Option}
use mathlib.Core.List.{List, [], ◌∷◌, ◌++◌, append_assoc, append-nil}
use Rattle.model.specs.rules.Types.{Dialect, Target, Fault, FileState, Begin, Outside, Passed, OfCell, Between, Tail, Ends, Step, Ok, Err}
use Rattle.model.specs.rules.Types.{CheckResult, Ending, Clean, Final, Cut}
use Rattle.model.specs.rules.Base.{Bytes}
use Rattle.model.specs.rules.File.{file_step, file_end}
use Rattle.model.specs.rules.Text.{Value}
use Rattle.model.specs.rules.Records.{Rec, Read, Progress, going, stopped, nothing_read, read_byte, read_from, read_bytes, read_end, read_file}
use Rattle.model.specs.rules.Records.{records_of, record_fault, move, complete, validated, closing, end_between, end_at}
use Rattle.model.specs.laws.Laws.{Grows}
use Rattle.model.proofs.Tests.{split}

module _ (d : Dialect) (target : Option Target) where
  -- reading xs and then ys is reading xs ++ ys
  pub read_append : (p : Progress) (xs ys : Bytes) → read_from d target p (xs ++ ys) ≡ read_from d target (read_from d target p xs) ys
  unfolding read_from
  read_append p [] ys = refl
  read_append (stopped e r) (x ∷ xs) [] = refl
  read_append (stopped e r) (x ∷ xs) (y ∷ ys) = refl
  read_append (going r) (x ∷ xs) ys = read_append (read_byte d target r x) xs ys

  -- nothing is read after a fault
  pub read_stopped : (e : Fault) (r : Read) (ys : Bytes) → read_from d target (stopped e r) ys ≡ stopped e r
  unfolding read_from
  read_stopped e r [] = refl
  read_stopped e r (y ∷ ys) = refl

  -- a fault found in xs, with the records before it, is that of every file that begins with xs, cut or whole
  pub fault_stays : (e : Fault) (r : Read) (xs ys : Bytes) → read_bytes d target xs ≡ stopped e r → read_bytes d target (xs ++ ys) ≡ stopped e r
  unfolding read_bytes
  fault_stays e r xs ys h = rw (read_append, h, read_stopped)

  pub fault_stays_file : (e : Fault) (r : Read) (xs ys : Bytes) → read_bytes d target xs ≡ stopped e r → read_file d target (xs ++ ys) ≡ stopped e r
  unfolding read_file read_end
  fault_stays_file e r xs ys h = rw (fault_stays e r xs ys h)

-- ---- complete records stay

pub grows_refl {ℓ} : {A : Type ℓ} (a : List A) → Grows a a
grows_refl a = record { added = []; sum = sym (append-nil a) }

pub grows_trans {ℓ} : {A : Type ℓ} {a b c : List A} → Grows a b → Grows b c → Grows a c
grows_trans {a} g h =
    record {
      added = g.added ++ h.added;
      sum = h.sum ∙ ap (λ l. l ++ h.added) g.sum ∙ append_assoc a g.added h.added;
    }

module _ (d : Dialect) (target : Option Target) where
  validated_grows : (r next : Read) (v : CheckResult) → Grows r.done next.done → Grows r.done (records_of (validated r next v))
  validated_grows r next (Ok _) g = g
  validated_grows r next (Err e) g = grows_refl r.done

  complete_grows : (r : Read) (vs : List Value) (f : FileState) (o : ℕ) → Grows r.done (records_of (complete d target r vs f o))
  unfolding complete
  complete_grows r vs f o = validated_grows r _ (record_fault d target r.done vs) (record { added = _; sum = refl })

  move_grows : (r : Read) (b : ℕ) (s : Step) → Grows r.done (records_of (move d target r b s))
  unfolding move
  move_grows r b (Err e) = grows_refl r.done
  move_grows r b (Ok (f, Outside)) = grows_refl r.done
  move_grows r b (Ok (f, Passed)) = grows_refl r.done
  move_grows r b (Ok (f, OfCell)) = grows_refl r.done
  move_grows r b (Ok (f, Between c)) = grows_refl r.done
  move_grows r b (Ok (f, Tail c)) = grows_refl r.done
  move_grows r b (Ok (f, Ends c)) = complete_grows r (closing d c r) f (suc r.offset)

  byte_grows : (r : Read) (b : ℕ) → Grows r.done (records_of (read_byte d target r b))
  unfolding read_byte
  byte_grows r b =
      let P : Progress → Type 0 = λ p. Grows r.done (records_of p) in
      split P _ (λ _. grows_refl r.done) λ _. split P _ (λ _. grows_refl r.done) λ _. move_grows r b (file_step d r.state b)

  -- a record once complete stays, with all before it
  pub read_grows : (p : Progress) (xs : Bytes) → Grows (records_of p) (records_of (read_from d target p xs))
  unfolding read_from
  read_grows p [] = grows_refl (records_of p)
  read_grows (stopped e r) (x ∷ xs) = grows_refl r.done
  read_grows (going r) (x ∷ xs) = grows_trans (byte_grows r x) (read_grows (read_byte d target r x) xs)

  pub records_stay : (xs ys : Bytes) → Grows (records_of (read_bytes d target xs)) (records_of (read_bytes d target (xs ++ ys)))
  unfolding read_bytes
  records_stay xs ys = rw (read_append d target (going nothing_read) xs ys) (read_grows (read_from d target (going nothing_read) xs) ys)

  between_grows : (r : Read) (rs : List Rec) → Grows r.done (records_of (end_between r rs))
  between_grows r [] = grows_refl r.done
  between_grows r (h ∷ rs) = grows_refl r.done

  at_end_grows : (r : Read) (x : Ending) → Grows r.done (records_of (end_at d target r x))
  at_end_grows r Clean = between_grows r r.done
  at_end_grows r Final = complete_grows r (closing d true r) Begin r.offset
  at_end_grows r Cut = grows_refl r.done

  pub end_grows : (p : Progress) → Grows (records_of p) (records_of (read_end d target p))
  unfolding read_end
  end_grows (stopped e r) = grows_refl r.done
  end_grows (going r) = at_end_grows r (file_end d r.state)
