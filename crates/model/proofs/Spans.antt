-- The span of every cell that was read holds its raw bytes: the decoder returns for it the kind and content that reading gave. The
-- file is the bytes before the current cell, its bytes, and the bytes left (`At`).
use Prim.Native.Nat.{ℕ, suc, ◌+◌, ◌-◌}
use native.Mathlib.Omega.{arith}
use native.Mathlib.Nat.{add-zero}
use mathlib.Core.Path.{◌≡◌, refl, sym, ap, ◌∙◌}
use mathlib.Core.Bool.{Bool, true, false}
use Rattle.std.specs.Prelude.{Option, None, Some}
use mathlib.Core.List.{List, [], ◌∷◌, ◌++◌, append_assoc}
use lib.Seq.{take-append_seam, drop-append_seam}
use lib.ListN.{length, length-append}
use lib.Dec.{ltb}
use borrow.Author.Tests.{le-ltb}
use Rattle.model.specs.rules.Types.{Dialect, Target, Fresh, FileState, Outside, Passed, OfCell, Between, Tail, Ends, Step, Ok, Err, Ending}
use Rattle.model.specs.rules.Types.{Clean, Final, Cut, Fault, CheckResult}
use Rattle.model.specs.rules.Base.{Bytes, concat, choose◌then◌else◌}
use Rattle.model.specs.rules.Dialect.{dialect_of}
use Rattle.model.specs.rules.File.{file_step, file_end}
use Rattle.model.specs.rules.Decode.{kind_of, content_of, validate_cell}
use Rattle.model.specs.rules.Text.{Value}
use Rattle.model.specs.rules.Report.{refusal}
use Rattle.model.specs.rules.Records.{Rec, Read, rows, Progress, going, stopped, nothing_read, read_byte, read_from, read_bytes, read_end, read_file}
use Rattle.model.specs.rules.Records.{records_of, record_fault, move, complete, validated, closing, end_between, end_at}
use Rattle.model.specs.rules.Api.{Answer, answered, read_answer, no_answer, reader, slice, decoder}
use Rattle.model.specs.laws.Laws.{All, all_none, all_cons, SoundCell, SoundRecord}
use Rattle.model.specs.laws.RoundTrips.{Decodes, ReaderDecodes}
use Rattle.model.proofs.Tests.{split}
use Rattle.model.proofs.cell_laws.CellRuns.{Runs, here, snoc, runs_sound, all_snoc}
use Rattle.model.proofs.cell_laws.Cells.{cell_at, Closes, Fits, rejects, leaves, passes, adds, parts, turns, completes, step_fits, EndsAfter}
use Rattle.model.proofs.cell_laws.Cells.{ends_clean, ends_final, ends_cut, file_ends}

-- ---- a part of a list

pub part_is : (pre raw xs : Bytes) (s e : ℕ) → length pre ≡ s → s + length raw ≡ e → slice (pre ++ (raw ++ xs)) s e ≡ raw
part_is pre raw xs s e h k =
    let n : e - s ≡ length raw = omega arith in
    rw (n, ← h, drop-append_seam pre (raw ++ xs)) (take-append_seam raw xs)

-- ---- cells by their spans

-- the span of a cell holds a cell that the decoder accepts, with its kind and content
pub record Stretched (d : Dialect) (file : Bytes) (v : Value) : Type 0 where
  pub sound : validate_cell d (slice file v.from v.upto) ≡ Ok tt
  pub kind : v.kind ≡ kind_of d (slice file v.from v.upto)
  pub content : v.content ≡ content_of d (slice file v.from v.upto)

abbrev pub StretchedRecord : Dialect → Bytes → Rec → Type 0
StretchedRecord d file r = All (Stretched d file) r.cells

module _ (d : Dialect) (target : Option Target) (file : Bytes) where
  -- the reading state, with the bytes that are left of the file: the current cell lies right before them
  record At (r : Read) (left : Bytes) : Type 0 where
    pre : Bytes
    whole : file ≡ pre ++ (r.raw ++ left)
    opened : length pre ≡ r.opened
    offset : r.opened + length r.raw ≡ r.offset
    runs : Runs d Fresh r.raw (cell_at r.state)
    cells : All (Stretched d file) r.cells
    done : All (StretchedRecord d file) r.done

  data Good : Progress → Bytes → Type 0 where
    good_going : {r : Read} {left : Bytes} → At r left → Good (going r) left
    good_stopped : {e : Fault} {r : Read} {left : Bytes} → All (StretchedRecord d file) r.done → Good (stopped e r) left

  in_hand : (r : Read) (left : Bytes) → At r left → slice file r.opened r.offset ≡ r.raw
  in_hand r left a = rw a.whole (part_is a.pre r.raw left r.opened r.offset a.opened a.offset)

  closed_cells : (r : Read) (left : Bytes) (k : Bool) → At r left → Closes d (cell_at r.state) k → All (Stretched d file) (closing d k r)
  unfolding validate_cell
  closed_cells r left true a w =
      let p : slice file r.opened r.offset ≡ r.raw = in_hand r left a in
      all_snoc a.cells
      (record { sound = rw p (runs_sound 0 a.runs w); kind = rw p; content = rw p })
  closed_cells r left false a w = a.cells

  taken : (pre raw left : Bytes) (b : ℕ) → pre ++ (raw ++ (b ∷ left)) ≡ (pre ++ (raw ++ (b ∷ []))) ++ left
  taken pre raw left b = sym (append_assoc pre (raw ++ (b ∷ [])) left ∙ ap (λ (l : Bytes). pre ++ l) (append_assoc raw (b ∷ []) left))

  -- a byte after which no cell is current
  moved :
      (r next : Read) (b : ℕ) (left : Bytes) → At r (b ∷ left) → next.raw ≡ [] → next.opened ≡ suc r.offset →
      next.offset ≡ suc r.offset → cell_at next.state ≡ Fresh → All (Stretched d file) next.cells →
      All (StretchedRecord d file) next.done → At next left
  moved r next b left a e o u c cs ds =
      let n : length (a.pre ++ (r.raw ++ (b ∷ []))) ≡ length a.pre + length (r.raw ++ (b ∷ [])) = length-append a.pre (r.raw ++ (b ∷ [])) in
      let m : length (r.raw ++ (b ∷ [])) ≡ length r.raw + 1 = length-append r.raw (b ∷ []) in
      let p : length a.pre ≡ r.opened = a.opened in
      let q : r.opened + length r.raw ≡ r.offset = a.offset in
      record {
        pre = a.pre ++ (r.raw ++ (b ∷ []));
        whole = rw e (a.whole ∙ taken a.pre r.raw left b);
        opened = rw o (omega arith);
        offset = rw (e, o, u) (add-zero (suc r.offset));
        runs = rw (e, c) here;
        cells = cs;
        done = ds;
      }

  -- a byte of the current cell
  added :
      (r : Read) (b : ℕ) (left : Bytes) (f : FileState) (z : ℕ) → At r (b ∷ left) → Runs d Fresh (r.raw ++ (b ∷ [])) (cell_at f) →
      At (record {
        done = r.done;
        state = f;
        offset = suc r.offset;
        start = r.start;
        size = z;
        opened = r.opened;
        raw = r.raw ++ (b ∷ []);
        cells = r.cells;
      }) left
  added r b left f z a k =
      let m : length (r.raw ++ (b ∷ [])) ≡ length r.raw + 1 = length-append r.raw (b ∷ []) in
      let q : r.opened + length r.raw ≡ r.offset = a.offset in
      record {
        pre = a.pre;
        whole = a.whole ∙ ap (λ (l : Bytes). a.pre ++ l) (sym (append_assoc r.raw (b ∷ []) left));
        opened = a.opened;
        offset = omega arith;
        runs = k;
        cells = a.cells;
        done = a.done;
      }

  validated_good : (r next : Read) (left : Bytes) (v : CheckResult) → All (StretchedRecord d file) r.done → At next left → Good (validated r next v) left
  validated_good r next left (Ok _) h i = good_going i
  validated_good r next left (Err e) h i = good_stopped h

  complete_good :
      (r : Read) (b : ℕ) (left : Bytes) (vs : List Value) (f : FileState) → At r (b ∷ left) → All (Stretched d file) vs → cell_at f ≡ Fresh →
      Good (complete d target r vs f (suc r.offset)) left
  unfolding complete
  complete_good r b left vs f a s e =
      validated_good r _ left (record_fault d target r.done vs) a.done (moved r _ b left a refl refl refl e all_none (all_snoc a.done s))

  move_good : (r : Read) (b : ℕ) (left : Bytes) (s : Step) → At r (b ∷ left) → Fits d (cell_at r.state) b s → Good (move d target r b s) left
  unfolding move
  move_good r b left (Err e) a rejects = good_stopped a.done
  move_good r b left (Ok (f, Outside)) a (leaves e) = good_going (moved r _ b left a refl refl refl e all_none a.done)
  move_good r b left (Ok (f, Passed)) a (passes e) = good_going (moved r _ b left a refl refl refl e all_none a.done)
  move_good r b left (Ok (f, OfCell)) a (adds e) = good_going (added r b left f (suc r.size) a (snoc b a.runs e))
  move_good r b left (Ok (f, Between k)) a (parts e w) = good_going (moved r _ b left a refl refl refl e (closed_cells r (b ∷ left) k a w) a.done)
  move_good r b left (Ok (f, Tail k)) a (turns e w) = good_going (moved r _ b left a refl refl refl e (closed_cells r (b ∷ left) k a w) a.done)
  move_good r b left (Ok (f, Ends k)) a (completes e w) = complete_good r b left (closing d k r) f a (closed_cells r (b ∷ left) k a w) e

  byte_good : (r : Read) (b : ℕ) (left : Bytes) → At r (b ∷ left) → Good (read_byte d target r b) left
  unfolding read_byte
  byte_good r b left a =
      let P : Progress → Type 0 = λ p. Good p left in
      split P _ (λ _. good_stopped a.done) λ _. split P _ (λ _. good_stopped a.done) λ _.
      move_good r b left (file_step d r.state b) a (step_fits d r.state b)

  read_good : (p : Progress) (xs : Bytes) → Good p xs → Good (read_from d target p xs) []
  unfolding read_from
  read_good p [] g = g
  read_good (stopped e r) (x ∷ xs) (good_stopped h) = good_stopped h
  read_good (going r) (x ∷ xs) (good_going a) = read_good (read_byte d target r x) xs (byte_good r x xs a)

  between_good : (r : Read) (rs : List Rec) → All (StretchedRecord d file) r.done → All (StretchedRecord d file) (records_of (end_between r rs))
  between_good r [] h = h
  between_good r (x ∷ rs) h = h

  validated_done :
      (r next : Read) (v : CheckResult) → All (StretchedRecord d file) r.done → All (StretchedRecord d file) next.done →
      All (StretchedRecord d file) (records_of (validated r next v))
  validated_done r next (Ok _) h k = k
  validated_done r next (Err e) h k = h

  at_end : (r : Read) (x : Ending) → At r [] → EndsAfter d (cell_at r.state) x → All (StretchedRecord d file) (records_of (end_at d target r x))
  unfolding complete
  at_end r Clean a ends_clean = between_good r r.done a.done
  at_end r Final a (ends_final w) =
      validated_done r _ (record_fault d target r.done (closing d true r)) a.done (all_snoc a.done (closed_cells r [] true a w))
  at_end r Cut a ends_cut = a.done

  end_good : (p : Progress) → Good p [] → All (StretchedRecord d file) (records_of (read_end d target p))
  unfolding read_end
  end_good (stopped e r) (good_stopped h) = h
  end_good (going r) (good_going a) = at_end r (file_end d r.state) a (file_ends d r.state)

  bytes_good : Good (read_bytes d target file) []
  unfolding read_bytes nothing_read cell_at
  bytes_good =
      read_good (going nothing_read) file
      (good_going (record { pre = []; whole = refl; opened = refl; offset = refl; runs = here; cells = all_none; done = all_none }))

  -- every cell of every record that was read, without the file's end and with it
  stretches_bytes : All (StretchedRecord d file) (records_of (read_bytes d target file))
  stretches_bytes = go (read_bytes d target file) bytes_good
    where
      go : (p : Progress) → Good p [] → All (StretchedRecord d file) (records_of p)
      go (going r) (good_going a) = a.done
      go (stopped e r) (good_stopped h) = h

  pub stretches : All (StretchedRecord d file) (records_of (read_file d target file))
  unfolding read_file
  stretches = end_good (read_bytes d target file) bytes_good

-- ---- the decoder accepts the cells

sound_records : {d : Dialect} {file : Bytes} {rs : List Rec} → All (StretchedRecord d file) rs → All (SoundRecord d) rs
sound_records {d} {file} all_none = all_none
sound_records {d} {file} (all_cons s ss) = all_cons (sound s) (sound_records ss)
  where
    sound : {vs : List Value} → All (Stretched d file) vs → All (SoundCell d) vs
    sound all_none = all_none
    sound (all_cons {x} k ks) = all_cons (record { raw = slice file x.from x.upto; sound = k.sound; kind = k.kind; content = k.content }) (sound ks)

pub cells_sound : (d : Dialect) (target : Option Target) (xs : Bytes) → All (SoundRecord d) (records_of (read_bytes d target xs))
cells_sound d target xs = sound_records (stretches_bytes d target xs)

pub cells_sound_file : (d : Dialect) (target : Option Target) (xs : Bytes) → All (SoundRecord d) (records_of (read_file d target xs))
cells_sound_file d target xs = sound_records (stretches d target xs)

-- ---- the decoder on a span

decodes : (n : ℕ) (d : Dialect) (file : Bytes) (v : Value) → dialect_of n ≡ Some d → Stretched d file v → Decodes n file v
unfolding decoder choose◌then◌else◌
decodes n d file v e s =
    rw (e, decoder) (rw (s.sound, ← s.kind, ← s.content, le-ltb (length v.content) (length v.content) (omega arith)))

all_append {ℓ} : {A : Type 0} {P : A → Type ℓ} {xs ys : List A} → All P xs → All P ys → All P (xs ++ ys)
all_append all_none k = k
all_append (all_cons p ps) k = all_cons p (all_append ps k)

concat_decodes :
    (n : ℕ) (d : Dialect) (file : Bytes) → dialect_of n ≡ Some d → {ds : List Rec} → All (StretchedRecord d file) ds →
    All (Decodes n file) (concat (rows ds))
unfolding concat rows
concat_decodes n d file e all_none = all_none
concat_decodes n d file e (all_cons s ss) = all_append (cells s) (concat_decodes n d file e ss)
  where
    cells : {vs : List Value} → All (Stretched d file) vs → All (Decodes n file) vs
    cells all_none = all_none
    cells (all_cons {x} k ks) = all_cons (decodes n d file x e k) (cells ks)

answered_decodes :
    (n : ℕ) (file : Bytes) (ds : List Rec) (vs : List Value) (room : ℕ) → All (Decodes n file) vs →
    All (Decodes n file) (answered ds vs room).cells
answered_decodes n file [] vs room k = all_none
answered_decodes n file (h ∷ rs) vs room k = split (λ (a : Answer). All (Decodes n file) a.cells) (ltb room (length vs)) (λ _. all_none) λ _. k

answer_decodes :
    (n : ℕ) (d : Dialect) (file : Bytes) (room : ℕ) (p : Progress) → dialect_of n ≡ Some d → All (StretchedRecord d file) (records_of p) →
    All (Decodes n file) (read_answer p room).cells
answer_decodes n d file room (stopped e r) k s = all_none
answer_decodes n d file room (going r) k s = answered_decodes n file r.done (concat (rows r.done)) room (concat_decodes n d file k s)

-- every cell that the reader returns
pub reader_decodes : ReaderDecodes
unfolding reader
reader_decodes n file room = go (dialect_of n) refl
  where
    go :
        (o : Option Dialect) → dialect_of n ≡ o →
        All (Decodes n file)
        (elim o as (λ _. Answer) [ None ↦ no_answer (refusal 11) | Some d ↦ read_answer (read_file d None file) room ]).cells
    go None e = all_none
    go (Some d) e = answer_decodes n d file room (read_file d None file) e (stretches d None file)
