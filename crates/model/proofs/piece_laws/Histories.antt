-- A history with more calls appended, and the ledger's answer by each of the four checks.
use Prim.Native.Nat.{ℕ}
use native.Mathlib.Omega.{arith}
use mathlib.Core.Path.{◌≡◌, refl, sym, ap, ◌∙◌}
use mathlib.Core.Bool.{Bool, true, false, ◌&&◌, ◌||◌}
use Rattle.std.specs.Prelude.{None, Some}
use mathlib.Core.List.{List, [], ◌∷◌, ◌++◌, append_assoc, append-nil}
use Rattle.model.specs.rules.Types.{Report, Dialect, Target, Encoding, Syntax, Fault, NoRecord, Byte, CutShort, CellCount, RepeatedName}
use Rattle.model.specs.rules.Types.{HeaderKind, FileTooLong, RecordTooLong, TooManyColumns, NoCells, LacksKind, LoneSurrogate, Clash}
use Rattle.model.specs.rules.Types.{TextTooLong, OutputTooLong}
use Rattle.model.specs.rules.Base.{choose◌then◌else◌, within}
use Rattle.model.specs.rules.Report.{refusal, number_of}
use Rattle.model.specs.rules.Api.{unwritten}
use Rattle.model.specs.rules.Ledger.{Call, Entry, bytes_of, is_finish, is_accepted, is_file_fault, fault_in, ended_in, consumed_in, closed_in, written_in}
use Rattle.model.specs.rules.Ledger.{too_small, taken, seen_by, answer_to}
use Rattle.model.proofs.Tests.{split_on}

-- ---- numbers of faults

pub fault_number : (e : Fault) → within 1 9 (number_of e) ≡ true
fault_number NoRecord = refl
fault_number (Byte Encoding) = refl
fault_number (Byte Syntax) = refl
fault_number CutShort = refl
fault_number CellCount = refl
fault_number (RepeatedName c) = refl
fault_number (HeaderKind c) = refl
fault_number FileTooLong = refl
fault_number RecordTooLong = refl
fault_number TooManyColumns = refl
fault_number NoCells = refl
fault_number (LacksKind c) = refl
fault_number (LoneSurrogate c) = refl
fault_number (Clash c) = refl
fault_number TextTooLong = refl
fault_number OutputTooLong = refl

-- ---- a history and more calls

none_some : {A B : Type 0} {x : A} → Some x ≡ None → B
none_some e = let z : ◌≡◌ {A = ℕ} 0 1 = cc in absurd (omega arith)

module _ (ys : List Entry) where
  pub fault_none : (xs : List Entry) → fault_in xs ≡ None → fault_in (xs ++ ys) ≡ fault_in ys
  unfolding fault_in choose◌then◌else◌
  fault_none [] k = refl
  fault_none (x ∷ xs) k =
      split_on (is_file_fault x.answer.report) (λ h. none_some (rw h at k)) λ h. rw h (fault_none xs (rw h at k))

  pub fault_some : (e : Report) (xs : List Entry) → fault_in xs ≡ Some e → fault_in (xs ++ ys) ≡ Some e
  unfolding fault_in choose◌then◌else◌
  fault_some e [] k = none_some (sym k)
  fault_some e (x ∷ xs) k =
      split_on (is_file_fault x.answer.report) (λ h. rw h (rw h at k)) λ h. rw h (fault_some e xs (rw h at k))

  pub consumed_none : (xs : List Entry) → fault_in xs ≡ None → consumed_in (xs ++ ys) ≡ consumed_in xs ++ consumed_in ys
  unfolding fault_in consumed_in choose◌then◌else◌
  consumed_none [] k = refl
  consumed_none (x ∷ xs) k =
      split_on (is_file_fault x.answer.report) (λ h. none_some (rw h at k)) λ h.
      rw h
      (ap (λ l. (choose is_accepted x.answer.report then bytes_of x.call else []) ++ l) (consumed_none xs (rw h at k))
      ∙ sym (append_assoc (choose is_accepted x.answer.report then bytes_of x.call else []) (consumed_in xs) (consumed_in ys)))

  pub consumed_some : (e : Report) (xs : List Entry) → fault_in xs ≡ Some e → consumed_in (xs ++ ys) ≡ consumed_in xs
  unfolding fault_in consumed_in choose◌then◌else◌
  consumed_some e [] k = none_some (sym k)
  consumed_some e (x ∷ xs) k =
      split_on (is_file_fault x.answer.report) (λ h. rw h) λ h.
      rw h (ap (λ l. (choose is_accepted x.answer.report then bytes_of x.call else []) ++ l) (consumed_some e xs (rw h at k)))

  pub written_append : (xs : List Entry) → written_in (xs ++ ys) ≡ written_in xs ++ written_in ys
  unfolding written_in
  written_append [] = refl
  written_append (x ∷ xs) = ap (λ l. x.answer.text ++ l) (written_append xs) ∙ sym (append_assoc x.answer.text (written_in xs) (written_in ys))

  or_assoc : (a b c : Bool) → (a || (b || c)) ≡ (a || b || c)
  or_assoc true b c = refl
  or_assoc false b c = refl

  pub ended_append : (xs : List Entry) → ended_in (xs ++ ys) ≡ (ended_in xs || ended_in ys)
  unfolding ended_in
  ended_append [] = refl
  ended_append (x ∷ xs) =
      ap (λ b. is_finish x.call && is_accepted x.answer.report || b) (ended_append xs)
      ∙ or_assoc (is_finish x.call && is_accepted x.answer.report) (ended_in xs) (ended_in ys)

  pub closed_none : (xs : List Entry) → fault_in xs ≡ None → closed_in (xs ++ ys) ≡ (ended_in xs || closed_in ys)
  unfolding fault_in ended_in closed_in choose◌then◌else◌
  closed_none [] k = refl
  closed_none (x ∷ xs) k =
      split_on (is_file_fault x.answer.report) (λ h. none_some (rw h at k)) λ h.
      rw h
      (ap (λ b. is_finish x.call && is_accepted x.answer.report || b) (closed_none xs (rw h at k))
      ∙ or_assoc (is_finish x.call && is_accepted x.answer.report) (ended_in xs) (closed_in ys))

  pub closed_some : (e : Report) (xs : List Entry) → fault_in xs ≡ Some e → closed_in (xs ++ ys) ≡ closed_in xs
  unfolding fault_in closed_in choose◌then◌else◌
  closed_some e [] k = none_some (sym k)
  closed_some e (x ∷ xs) k =
      split_on (is_file_fault x.answer.report) (λ h. rw h) λ h.
      rw h (ap (λ b. is_finish x.call && is_accepted x.answer.report || b) (closed_some e xs (rw h at k)))

-- without a fault an end call was taken exactly when one was accepted
or_none : (b : Bool) → (b || false) ≡ b
or_none true = refl
or_none false = refl

pub closed_ended : (xs : List Entry) → fault_in xs ≡ None → closed_in xs ≡ ended_in xs
unfolding closed_in
closed_ended xs k = ap closed_in (sym (append-nil xs)) ∙ closed_none [] xs k ∙ or_none (ended_in xs)

-- ---- the four checks and the answer

module _ (d : Dialect) (t : Target) (past : List Entry) (c : Call) where
  pub answer_failed : (e : Report) → fault_in past ≡ Some e → answer_to d t past c ≡ unwritten e
  unfolding answer_to
  answer_failed e k = rw (k, answer_to)

  pub answer_ended : fault_in past ≡ None → ended_in past ≡ true → answer_to d t past c ≡ unwritten (refusal 11)
  unfolding answer_to choose◌then◌else◌
  answer_ended k h = rw (k, answer_to, h)

  pub answer_small : fault_in past ≡ None → ended_in past ≡ false → too_small c ≡ true → answer_to d t past c ≡ unwritten (refusal 10)
  unfolding answer_to choose◌then◌else◌
  answer_small k h s = rw (k, answer_to, h, s)

  pub answer_taken :
      fault_in past ≡ None → ended_in past ≡ false → too_small c ≡ false →
      answer_to d t past c ≡ taken t (written_in past) (seen_by d t c (consumed_in past ++ bytes_of c))
  unfolding answer_to choose◌then◌else◌
  answer_taken k h s = rw (k, answer_to, h, s)
