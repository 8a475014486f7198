-- Reading a file is a sequence of next records.
use Prim.Native.Nat.{ℕ, ◌+◌, ◌≤◌}
use native.Mathlib.Numerals.{add-one}
use native.Mathlib.Omega.{arith}
use mathlib.Core.Path.{◌≡◌, refl, sym, ap, subst, ◌∙◌}
use mathlib.Core.Bool.{Bool, true, false, ◌&&◌}
use Rattle.std.specs.Prelude.{Option, Ok, Err}
use mathlib.Core.List.{List, [], ◌∷◌}
use lib.ListN.{length, drop, length-drop}
use lib.Seq.{drop-drop}
use lib.Dec.{leb}
use Rattle.model.specs.rules.Base.{choose◌then◌else◌, Bytes}
use Rattle.model.specs.rules.File.{file_step, file_end, counts}
use Rattle.model.specs.rules.Report.{MAXFILE, MAXRECORD, is_at_byte}
use Rattle.model.specs.rules.Records.{Rec, Read, between_records, Progress, going, stopped, closing, move, file_full, record_full, read_byte, read_from}
use Rattle.model.specs.rules.Records.{read_end, end_at}
use Rattle.model.proofs.Tests.{impossible}
use Rattle.model.specs.declared.Dialect.{Dialect}
use Rattle.model.specs.declared.Target.{Target}
use Rattle.model.specs.declared.FileState.{FileState}
use Rattle.model.specs.declared.ByteRole.{ByteRole}
use Rattle.model.specs.declared.ByteRole.TheVariants.{Outside, Passed, OfCell, Between, Tail, Ends}
use Rattle.model.specs.rules.Types.{Step}
use Rattle.model.specs.declared.Ending.{Ending}
use Rattle.model.specs.declared.Ending.TheVariants.{Clean, Final, Cut}
use Rattle.model.specs.declared.Fault.{Fault}
use Rattle.model.specs.declared.Fault.TheVariants.{Byte, CutShort, FileTooLong, RecordTooLong}
use Rattle.record_scanner.specs.CurrentRecord.{ends_record}
use Rattle.file_cursor.specs.Next.{read_after, failed, ended, stepped, next_record}
use Rattle.file_cursor.specs.FileOutcome.{redone, ReadsAs, after_record, after_last, after_fault, after_all}

-- what is left after one more byte
pub next_drop : (xs : Bytes) (n b : ℕ) (bs : Bytes) → b ∷ bs ≡ drop n xs → bs ≡ drop (n + 1) xs
next_drop xs n b bs e = ap (drop 1) e ∙ drop-drop 1 n xs

-- a fault stays
pub stays : (d : Dialect) (target : Option Target) (e : Fault) (r : Read) (bs : Bytes) → stopped e r ≡ read_end d target (read_from d target (stopped e r) bs)
unfolding read_from read_end
stays d target e r [] = refl
stays d target e r (b ∷ bs) = refl

module _ (d : Dialect) (target : Option Target) (file : Bytes) (rs : List Rec) where
  abbrev Rest : Progress → Bytes → Progress
  Rest p bs = read_end d target (read_from d target p bs)

  -- the end of the file
  at_end : (r : Read) (x : Ending) → r.offset ≡ length file → ReadsAs d target file rs (ended d r x) (end_at d target (redone rs r) x)
  at_end r Clean l = after_all (redone rs r) refl
  at_end r Final l = after_last (redone rs r) (closing d true r) refl l
  at_end r Cut l = after_fault CutShort (redone rs r) r.cells refl refl

  faulty : (e : Fault) (r : Read) (bs : Bytes) → is_at_byte e ≡ true → ReadsAs d target file rs (failed e r) (Rest (stopped e (redone rs r)) bs)
  faulty e r bs q =
      subst (λ (p : Progress). ReadsAs d target file rs (failed e r) p) (stays d target e (redone rs r) bs)
      (after_fault e (redone rs r) r.cells refl q)

  -- a byte within its record
  within_record :
      (r : Read) (b : ℕ) (f : FileState) (p : ByteRole) → ends_record p ≡ false →
      move d target (redone rs r) b (Ok (f, p)) ≡ going (redone rs (read_after d r b f p))
  unfolding move
  within_record r b f Outside e = rw (add-one r.offset)
  within_record r b f Passed e = rw (add-one r.offset)
  within_record r b f OfCell e = rw (add-one r.offset, add-one r.size)
  within_record r b f (Between true) e = rw (add-one r.offset, add-one r.size)
  within_record r b f (Between false) e = rw (add-one r.offset, add-one r.size)
  within_record r b f (Tail true) e = rw (add-one r.offset)
  within_record r b f (Tail false) e = rw (add-one r.offset)
  within_record r b f (Ends k) e = impossible (sym e)

  -- the byte that ends its record
  at_ending :
      (r : Read) (b : ℕ) (f : FileState) (k : Bool) (bs : Bytes) → bs ≡ drop (r.offset + 1) file →
      ReadsAs d target file rs (stepped d r b (λ r'. next_record d r' bs) (Ok (f, Ends k)))
      (Rest (move d target (redone rs r) b (Ok (f, Ends k))) bs)
  unfolding stepped move choose◌then◌else◌
  at_ending r b f true bs e =
      rw (e, ← add-one r.offset) (after_record (redone rs r) (closing d true r) f (r.offset + 1) refl)
  at_ending r b f false bs e =
      rw (e, ← add-one r.offset) (after_record (redone rs r) (closing d false r) f (r.offset + 1) refl)

  abbrev Ih : Bytes → Type 0
  Ih bs =
      (r : Read) → bs ≡ drop r.offset file → r.offset + length bs ≡ length file →
      ReadsAs d target file rs (next_record d r bs) (Rest (going (redone rs r)) bs)

  on_byte :
      (r : Read) (b : ℕ) (bs : Bytes) → bs ≡ drop (r.offset + 1) file → r.offset + 1 + length bs ≡ length file → Ih bs → (s : Step) →
      ReadsAs d target file rs (stepped d r b (λ r'. next_record d r' bs) s) (Rest (move d target (redone rs r) b s) bs)
  unfolding stepped choose◌then◌else◌ move
  on_byte r b bs e l ih (Err x) = faulty (Byte x) r bs refl
  on_byte r b bs e l ih (Ok (f, Outside)) = rw (within_record r b f Outside refl) (ih (read_after d r b f Outside) e l)
  on_byte r b bs e l ih (Ok (f, Passed)) = rw (within_record r b f Passed refl) (ih (read_after d r b f Passed) e l)
  on_byte r b bs e l ih (Ok (f, OfCell)) = rw (within_record r b f OfCell refl) (ih (read_after d r b f OfCell) e l)
  on_byte r b bs e l ih (Ok (f, Between k)) = rw (within_record r b f (Between k) refl) (ih (read_after d r b f (Between k)) e l)
  on_byte r b bs e l ih (Ok (f, Tail k)) = rw (within_record r b f (Tail k) refl) (ih (read_after d r b f (Tail k)) e l)
  on_byte r b bs e l ih (Ok (f, Ends k)) = at_ending r b f k bs e

  by_limits :
      (r : Read) (b : ℕ) (bs : Bytes) → bs ≡ drop (r.offset + 1) file → r.offset + 1 + length bs ≡ length file → Ih bs →
      (x y : Bool) (s : Step) →
      ReadsAs d target file rs
      (choose x then failed FileTooLong r else choose y then failed RecordTooLong r else stepped d r b (λ r'. next_record d r' bs) s)
      (Rest
      (choose x then stopped FileTooLong (redone rs r)
      else choose y then stopped RecordTooLong (redone rs r) else move d target (redone rs r) b s) bs)
  unfolding choose◌then◌else◌
  by_limits r b bs e l ih true y s = faulty FileTooLong r bs refl
  by_limits r b bs e l ih false true s = faulty RecordTooLong r bs refl
  by_limits r b bs e l ih false false s = on_byte r b bs e l ih s

  -- after the records rs, the next event and the result of reading on
  pub reads_as : (bs : Bytes) → Ih bs
  unfolding next_record read_from read_end read_byte file_full record_full
  reads_as [] r e l = at_end r (file_end d r.state) (omega arith)
  reads_as (b ∷ bs) r e l =
      by_limits r b bs (next_drop file r.offset b bs e) (omega arith) (reads_as bs) (leb MAXFILE r.offset)
      (leb MAXRECORD r.size && counts r.state b) (file_step d r.state b)

  -- the same from between records
  pub reads_on :
      (f : FileState) (o : ℕ) → o ≤ length file →
      ReadsAs d target file rs (next_record d (between_records [] f o) (drop o file)) (Rest (going (between_records rs f o)) (drop o file))
  reads_on f o h = reads_as (drop o file) (between_records [] f o) refl (omega (arith, length-drop o file))
