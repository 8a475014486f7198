-- How much a call can write. The current record was checked, so its text is at most 4,096 bytes and its ending 2; every other record
-- that a call completes lies in its bytes and is written as at most 6 for each. So `cost`, what is written and at most 6 for each
-- byte of the current record, but no more than 4,098, grows by at most 6 with each byte: 4,098 + 6 × 4,096 is under 49,152. And all
-- that is written stays within the limit of a file.
use Prim.Native.Nat.{ℕ, suc, ◌+◌, ◌*◌, ◌≤◌, min}
use native.Mathlib.Omega.{arith}
use mathlib.Core.Path.{◌≡◌, refl, ap, ◌∙◌}
use mathlib.Core.Bool.{true}
use Rattle.std.specs.Prelude.{Some}
use mathlib.Core.List.{List, [], ◌∷◌, ◌++◌}
use lib.ListN.{length, length-append}
use Rattle.model.specs.rules.Types.{Dialect, Csvj, Tdif, CsvPlus, Target, CheckResult, Ok, Err, FileState, Begin, Outside, Passed, OfCell}
use Rattle.model.specs.rules.Types.{Between, Tail, Ends, Step, Ending, Clean, Final, Cut}
use Rattle.model.specs.rules.Base.{Bytes, is_empty}
use Rattle.model.specs.rules.File.{file_step, file_end}
use Rattle.model.specs.rules.Text.{Value, record_text, table_text, ending}
use Rattle.model.specs.rules.Report.{MAXFILE}
use Rattle.model.specs.rules.Records.{Rec, rows, Read, Progress, going, stopped, between_records, nothing_read, read_byte, read_from, read_bytes}
use Rattle.model.specs.rules.Records.{read_end, read_file, records_of, record_fault, move, complete, validated, closing, end_between, end_at}
use Rattle.model.specs.laws.Laws.{All, all_none, all_cons, BoundedRecord}
use Rattle.model.proofs.Tests.{split}
use Rattle.model.proofs.file_laws.ReadAppend.{read_append, read_grows}
use Rattle.model.proofs.file_laws.Bound.{records_bounded, records_bounded_file}
use Rattle.model.proofs.round_trip.TableText.{table_snoc}
use Rattle.model.proofs.TargetLaws.{record_carried}
use Rattle.model.proofs.file_laws.RecordInduction.{file_keeps}

all_left : {A : Type 0} {P : A → Type 0} (xs ys : List A) → All P (xs ++ ys) → All P xs
all_left [] ys h = all_none
all_left (x ∷ xs) ys (all_cons p h) = all_cons p (all_left xs ys h)

all_last : {A : Type 0} {P : A → Type 0} (xs : List A) (x : A) → All P (xs ++ (x ∷ [])) → P x
all_last [] x (all_cons p h) = p
all_last (y ∷ xs) x (all_cons p h) = all_last xs x h

ending_length : (t : Dialect) → length (ending t) ≤ 2
ending_length Csvj = omega arith
ending_length Tdif = omega arith
ending_length (CsvPlus s) = omega arith

module _ (d : Dialect) (t : Target) where
  -- how much is written for these records
  abbrev pub written_for : List Rec → ℕ
  written_for done = length (table_text t (rows done))

  writes :
      (done : List Rec) (x : Rec) →
      written_for (done ++ (x ∷ [])) ≡ written_for done + length (record_text t (is_empty done) x.cells ++ ending t.dialect)
  writes done x = ap length (table_snoc t done x) ∙ length-append (table_text t (rows done)) (record_text t (is_empty done) x.cells ++ ending t.dialect)

  -- ---- the cost

  abbrev pub cost : Progress → ℕ
  cost (going r) = written_for r.done + min 4098 (6 * r.size)
  cost (stopped e r) = written_for r.done

  pub written_cost : (p : Progress) → written_for (records_of p) ≤ cost p
  written_cost (going r) = omega arith
  written_cost (stopped e r) = omega arith

  complete_cost :
      (r : Read) (vs : List Value) (f : FileState) (o : ℕ) → All BoundedRecord (records_of (complete d (Some t) r vs f o)) →
      cost (complete d (Some t) r vs f o) ≤ cost (going r) + 6
  unfolding complete
  complete_cost r vs f o = go (record_fault d (Some t) r.done vs) refl
    where
      x : Rec
      x = record { start = r.start; size = r.size; cells = vs }

      go :
          (v : CheckResult) → record_fault d (Some t) r.done vs ≡ v →
          All BoundedRecord (records_of (validated r (between_records (r.done ++ (x ∷ [])) f o) v)) →
          cost (validated r (between_records (r.done ++ (x ∷ [])) f o) v) ≤ cost (going r) + 6
      go (Ok _) e all =
          let c = record_carried d t r.done vs e in
          let text : length (record_text t (is_empty r.done) vs) ≤ 4096 = c.short in
          let len : length (record_text t (is_empty r.done) vs ++ ending t.dialect)
          ≡ length (record_text t (is_empty r.done) vs) + length (ending t.dialect)
          = length-append (record_text t (is_empty r.done) vs) (ending t.dialect) in
          let two : length (ending t.dialect) ≤ 2 = ending_length t.dialect in
          let six : length (record_text t (is_empty r.done) vs ++ ending t.dialect) ≤ 6 * (r.size + 1) = all_last r.done x all t (is_empty r.done) in
          let sum : written_for (r.done ++ (x ∷ []))
          ≡ written_for r.done + length (record_text t (is_empty r.done) vs ++ ending t.dialect)
          = writes r.done x in
          omega arith
      go (Err e) k all = omega arith

  move_cost : (r : Read) (b : ℕ) (s : Step) → All BoundedRecord (records_of (move d (Some t) r b s)) → cost (move d (Some t) r b s) ≤ cost (going r) + 6
  unfolding move
  move_cost r b (Err e) all = omega arith
  move_cost r b (Ok (f, Outside)) all = omega arith
  move_cost r b (Ok (f, Passed)) all = omega arith
  move_cost r b (Ok (f, OfCell)) all = omega arith
  move_cost r b (Ok (f, Between k)) all = omega arith
  move_cost r b (Ok (f, Tail k)) all = omega arith
  move_cost r b (Ok (f, Ends k)) all = complete_cost r (closing d k r) f (suc r.offset) all

  byte_cost : (r : Read) (b : ℕ) → All BoundedRecord (records_of (read_byte d (Some t) r b)) → cost (read_byte d (Some t) r b) ≤ cost (going r) + 6
  unfolding read_byte
  byte_cost r b =
      let P : Progress → Type 0 = λ p. All BoundedRecord (records_of p) → cost p ≤ cost (going r) + 6 in
      split P _ (λ _ _. omega arith) λ _. split P _ (λ _ _. omega arith) λ _. move_cost r b (file_step d r.state b)

  read_cost : (p : Progress) (xs : Bytes) → All BoundedRecord (records_of (read_from d (Some t) p xs)) → cost (read_from d (Some t) p xs) ≤ cost p + 6 * length xs
  unfolding read_from
  read_cost p [] all = omega arith
  read_cost (stopped e r) (x ∷ xs) all = omega arith
  read_cost (going r) (x ∷ xs) all =
      let q : Progress = read_byte d (Some t) r x in
      let g = read_grows d (Some t) q xs in
      let first : All BoundedRecord (records_of q) = all_left (records_of q) g.added (rw g.sum at all) in
      let a : cost (read_from d (Some t) q xs) ≤ cost q + 6 * length xs = read_cost q xs all in
      let b : cost q ≤ cost (going r) + 6 = byte_cost r x first in
      omega arith

  between_cost : (r : Read) (rs : List Rec) → cost (end_between r rs) ≤ cost (going r) + 6
  between_cost r [] = omega arith
  between_cost r (h ∷ rs) = omega arith

  at_end_cost : (r : Read) (x : Ending) → All BoundedRecord (records_of (end_at d (Some t) r x)) → cost (end_at d (Some t) r x) ≤ cost (going r) + 6
  at_end_cost r Clean all = between_cost r r.done
  at_end_cost r Final all = complete_cost r (closing d true r) Begin r.offset all
  at_end_cost r Cut all = omega arith

  -- after a piece
  pub piece_writes :
      (xs bs : Bytes) (r : Read) → read_bytes d (Some t) xs ≡ going r → length bs ≤ 4096 →
      written_for (records_of (read_bytes d (Some t) (xs ++ bs))) ≤ written_for r.done + 49152
  unfolding read_bytes
  piece_writes xs bs r e h =
      let q : Progress = read_from d (Some t) (going r) bs in
      let to : read_bytes d (Some t) (xs ++ bs) ≡ q = read_append d (Some t) (going nothing_read) xs bs ∙ ap (λ p. read_from d (Some t) p bs) e in
      let all : All BoundedRecord (records_of (read_bytes d (Some t) (xs ++ bs))) = records_bounded d (Some t) (xs ++ bs) in
      let a : cost q ≤ cost (going r) + 6 * length bs = read_cost (going r) bs (rw to at all) in
      let b : written_for (records_of q) ≤ cost q = written_cost q in
      rw to (omega arith)

  -- at the end
  pub end_writes : (xs : Bytes) (r : Read) → read_bytes d (Some t) xs ≡ going r → written_for (records_of (read_file d (Some t) xs)) ≤ written_for r.done + 49152
  unfolding read_file read_end
  end_writes xs r e =
      let q : Progress = end_at d (Some t) r (file_end d r.state) in
      let to : read_file d (Some t) xs ≡ q = ap (read_end d (Some t)) e in
      let all : All BoundedRecord (records_of (read_file d (Some t) xs)) = records_bounded_file d (Some t) xs in
      let a : cost q ≤ cost (going r) + 6 = at_end_cost r (file_end d r.state) (rw to at all) in
      let b : written_for (records_of q) ≤ cost q = written_cost q in
      rw to (omega arith)

  -- ---- the whole output

  -- one record more has room
  record_output : (ds : List Rec) (x : Rec) → written_for ds ≤ MAXFILE → record_fault d (Some t) ds x.cells ≡ Ok tt → written_for (ds ++ (x ∷ [])) ≤ MAXFILE
  record_output ds x h e =
      let all : written_for ds + length (record_text t (is_empty ds) x.cells ++ ending t.dialect) ≤ MAXFILE = (record_carried d t ds x.cells e).fits in
      let sum : written_for (ds ++ (x ∷ [])) ≡ written_for ds + length (record_text t (is_empty ds) x.cells ++ ending t.dialect) = writes ds x in
      omega arith

  -- what a whole file is converted to has room in a file
  pub file_output : (xs : Bytes) → written_for (records_of (read_file d (Some t) xs)) ≤ MAXFILE
  unfolding table_text rows
  file_output xs = file_keeps d (Some t) (λ (ds : List Rec). written_for ds ≤ MAXFILE) record_output (omega arith) xs

  -- six bytes for each byte of a file, and six more, are room enough for what it is converted to
  pub file_room : (xs : Bytes) → written_for (records_of (read_file d (Some t) xs)) ≤ 6 * (length xs + 1)
  unfolding read_file read_bytes read_end nothing_read table_text rows
  file_room xs =
      by_end (read_from d (Some t) (going nothing_read) xs) (records_bounded_file d (Some t) xs)
      (read_cost (going nothing_read) xs (records_bounded d (Some t) xs))
    where
      by_end :
          (q : Progress) → All BoundedRecord (records_of (read_end d (Some t) q)) → cost q ≤ cost (going nothing_read) + 6 * length xs →
          written_for (records_of (read_end d (Some t) q)) ≤ 6 * (length xs + 1)
      by_end (stopped e r) all h = omega arith
      by_end (going r) all h =
          let q : Progress = end_at d (Some t) r (file_end d r.state) in
          let a : cost q ≤ cost (going r) + 6 = at_end_cost r (file_end d r.state) all in
          let b : written_for (records_of q) ≤ cost q = written_cost q in
          omega arith
