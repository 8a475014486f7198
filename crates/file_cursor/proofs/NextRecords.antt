-- The cursor's result for each event of the next record.
use Prim.Native.Nat.{ℕ, suc, ◌+◌, ◌≤◌, ◌<◌}
use native.Mathlib.Omega.{arith}
use mathlib.Core.Path.{◌≡◌, refl, sym, ap, subst, ◌∙◌}
use mathlib.Core.Bool.{true}
use Rattle.std.specs.Prelude.{Option, None, Some, Result, Ok, Err}
use mathlib.Core.List.{List, [], ◌∷◌, ◌++◌}
use lib.ListN.{length, take, drop, length-append, drop_of_length-le}
use lib.Dec.{ltb}
use borrow.Author.Tests.{ltb-true, ltb-false}
use Rattle.model.specs.declared.Dialect.{Dialect}
use Rattle.model.specs.declared.Target.{Target}
use Rattle.model.specs.declared.FileState.{FileState}
use Rattle.model.specs.declared.FileState.TheVariants.{Top, Begin, Ended, Bom1, Bom2, PlainBom1, PlainBom2, Comment, Blanks, ExpectCell, Inside, After, Cr}
use Rattle.model.specs.declared.Fault.{Fault}
use Rattle.model.specs.declared.Fault.TheVariants.{NoRecord}
use Rattle.model.specs.declared.Report.{Report}
use Rattle.model.specs.rules.Base.{Bytes, is_empty}
use Rattle.model.specs.rules.File.{file_end}
use Rattle.model.specs.laws.Laws.{All}
use Rattle.model.specs.rules.Report.{report, number_of, column_of, MAXFILE, MAXCOLUMNS}
use Rattle.model.specs.rules.Records.{Rec, Read, between_records, Progress, going, stopped, complete, read_from, read_end, end_between, record_fault, fault_report}
use Rattle.model.specs.rules.Api.{starts_of, ends_of, kinds_of}
use Rattle.model.proofs.Tests.{split_on, impossible}
use Rattle.cell_decoder.specs.declared.source.Source.TheVariants.{File}
use Rattle.cell_decoder.specs.Sources.{Cells}
use Rattle.file_cursor.specs.Next.{Next, next_record, ended, EventInBounds}
use Rattle.record_scanner.specs.Stored.{stored_from}
use Rattle.record_fast.specs.CellLists.{LiesIn}
use Rattle.file_cursor.specs.FileOutcome.{rest_of, ReadsAs}
use Rattle.record_scanner.specs.Tokens.{outer}
use Rattle.file_cursor.specs.declared.scan.FileScan.{FileScan}
use Rattle.file_cursor.specs.declared.scan.FileScan.TheVariants.{Completed, LastRecord, Failed, End}
use Rattle.file_cursor.proofs.RecordByRecord.{stays, reads_on}
use Rattle.file_cursor.proofs.Events.{on_record, on_last, on_fault, on_finish}
use Rattle.file_cursor.proofs.Complete.{report_start, report_byte, rec_of, complete_sound, complete_faulty}
use Rattle.file_cursor.proofs.Spans.{cells_lie, EndsOuter, record_outer}
use Rattle.file_cursor.specs.declared.Cursor.{Cursor}
use Rattle.file_cursor.specs.NextRecord.{target_of, text_of, text_next, cursor_of, RecordChecked, sound, faulty, FileEnded, no_record, at_end}
use Rattle.file_cursor.specs.NextRecord.{NextRecordSound, read, finished, refused}
use Rattle.record_fast.specs.CellLists.{Long, SameLengths, Shows}
use Rattle.record_fast.proofs.CellLists.{still_kept, still_long, stand_there, shows}
use Rattle.file_cursor.proofs.RecordChecks.{text_snoc, columns_snoc}

-- ---- the end of the file

-- after a record, the end of the file ends reading
end_after :
    (d : Dialect) (target : Option Target) (file : Bytes) (rs : List Rec) (x : Rec) →
    rest_of d target file (rs ++ (x ∷ [])) Begin (length file) ≡ going (between_records (rs ++ (x ∷ [])) Begin (length file))
unfolding read_from read_end file_end
end_after d target file rs x = let l : length file ≤ length file = omega arith in rw (drop_of_length-le file l) (go rs)
  where
    go :
        (rs : List Rec) →
        end_between (between_records (rs ++ (x ∷ [])) Begin (length file)) (rs ++ (x ∷ []))
        ≡ going (between_records (rs ++ (x ∷ [])) Begin (length file))
    go [] = refl
    go (y ∷ rs) = refl

-- between records, the end of the file completes none
none_at_end : (d : Dialect) (f : FileState) (i s n : ℕ) → outer f ≡ true → (ended d (between_records [] f i) (file_end d f)).event ≡ LastRecord s n → ⊥
unfolding file_end
none_at_end d Top i s n o e = let z : ◌≡◌ {A = ℕ} 0 1 = cc in omega arith
none_at_end d Begin i s n o e = let z : ◌≡◌ {A = ℕ} 0 1 = cc in omega arith
none_at_end d Ended i s n o e = let z : ◌≡◌ {A = ℕ} 0 1 = cc in omega arith
none_at_end d Bom1 i s n o e = let z : ◌≡◌ {A = ℕ} 0 1 = cc in omega arith
none_at_end d Bom2 i s n o e = let z : ◌≡◌ {A = ℕ} 0 1 = cc in omega arith
none_at_end d PlainBom1 i s n o e = impossible o
none_at_end d PlainBom2 i s n o e = impossible o
none_at_end d (Comment c) i s n o e = let z : ◌≡◌ {A = ℕ} 0 1 = cc in omega arith
none_at_end d Blanks i s n o e = let z : ◌≡◌ {A = ℕ} 0 1 = cc in omega arith
none_at_end d ExpectCell i s n o e = impossible o
none_at_end d (Inside c) i s n o e = impossible o
none_at_end d After i s n o e = impossible o
none_at_end d Cr i s n o e = impossible o

last_inside :
    (d : Dialect) (file : Bytes) (f : FileState) (i s n : ℕ) → outer f ≡ true →
    (next_record d (between_records [] f i) (drop i file)).event ≡ LastRecord s n → i < length file
unfolding next_record
last_inside d file f i s n o e =
    split_on (ltb i (length file)) (λ t. ltb-true i (length file) t) λ t.
    let l : length file ≤ i = ltb-false i (length file) t in
    let z : drop i file ≡ [] = drop_of_length-le file l in
    absurd (none_at_end d f i s n o (ap (λ (l : Bytes). (next_record d (between_records [] f i) l).event) (sym z) ∙ e))

-- ---- the next record

-- what the cursor is given, and what the scanner returned and stored
pub record Met (d : Dialect) (file : Bytes) (f : FileState) (i : ℕ) (s₀ e₀ k₀ s e k : List ℕ) (v : FileScan) : Type 0 where
  pub between : outer f ≡ true
  pub inside : i ≤ length file
  pub long : Long s₀ e₀ k₀
  pub event : v ≡ (next_record d (between_records [] f i) (drop i file)).event
  pub at_starts : s ≡ stored_from MAXCOLUMNS 0 (starts_of (next_record d (between_records [] f i) (drop i file)).cells) s₀
  pub at_ends : e ≡ stored_from MAXCOLUMNS 0 (ends_of (next_record d (between_records [] f i) (drop i file)).cells) e₀
  pub at_kinds : k ≡ stored_from MAXCOLUMNS 0 (kinds_of (next_record d (between_records [] f i) (drop i file)).cells) k₀
  pub bounds : EventInBounds (length file) i 0 v

pub met : {d : Dialect} {file : Bytes} {f : FileState} {i : ℕ} {s₀ e₀ k₀ s e k : List ℕ} {v : FileScan} → outer f ≡ true → i ≤ length file → Long s₀ e₀ k₀
    → v ≡ (next_record d (between_records [] f i) (drop i file)).event
    → s ≡ stored_from MAXCOLUMNS 0 (starts_of (next_record d (between_records [] f i) (drop i file)).cells) s₀
    → e ≡ stored_from MAXCOLUMNS 0 (ends_of (next_record d (between_records [] f i) (drop i file)).cells) e₀
    → k ≡ stored_from MAXCOLUMNS 0 (kinds_of (next_record d (between_records [] f i) (drop i file)).cells) k₀ → EventInBounds (length file) i 0 v
    → Met d file f i s₀ e₀ k₀ s e k v
met b l m x ys ye yk z = record { between = b; inside = l; long = m; event = x; at_starts = ys; at_ends = ye; at_kinds = yk; bounds = z }

module _ {d : Dialect} {file : Bytes} {f : FileState} {i : ℕ} {s₀ e₀ k₀ s e k : List ℕ} {v : FileScan} (m : Met d file f i s₀ e₀ k₀ s e k v) where
  abbrev Here : Next
  Here = next_record d (between_records [] f i) (drop i file)

  all_stand : All (LiesIn d file) Here.cells
  all_stand = cells_lie d file f i m.between m.inside

  pub now_long : Long s e k
  now_long = still_long d file Here.cells all_stand s₀ e₀ k₀ s e k m.long m.at_starts m.at_ends m.at_kinds

  pub now_kept : SameLengths s₀ e₀ k₀ s e k
  now_kept = still_kept d file Here.cells all_stand s₀ e₀ k₀ s e k m.long m.at_starts m.at_ends m.at_kinds

  follows : (target : Option Target) (rs : List Rec) → ReadsAs d target file rs Here (rest_of d target file rs f i)
  follows target rs = reads_on d target file rs f i m.inside

  -- the lists, where n cells were found
  pub now_stand : (n : ℕ) → length Here.cells ≡ n → n ≤ MAXCOLUMNS → Cells (File d) file (take n s) (take n e) (take n k)
  now_stand n c h = stand_there d file Here.cells all_stand s₀ e₀ k₀ s e k m.long m.at_starts m.at_ends m.at_kinds n c h

  pub now_shown : (n : ℕ) → length Here.cells ≡ n → Shows d file Here.cells n s e k
  now_shown n c = shows d file Here.cells all_stand s₀ e₀ k₀ s e k m.long m.at_starts m.at_ends m.at_kinds n c

  pub record_counts : {start n : ℕ} {g : FileState} {o : ℕ} → v ≡ Completed start n g o → length Here.cells ≡ n
  record_counts {start} {n} {g} {o} w = (on_record d None file [] Here _ (follows None []) start n g o (sym m.event ∙ w)).counts

  pub last_counts : {start n : ℕ} → v ≡ LastRecord start n → length Here.cells ≡ n
  last_counts {start} {n} w = (on_last d None file [] Here _ (follows None []) start n (sym m.event ∙ w)).counts

  module _ (target : Option Dialect) (rs : List Rec) where
    abbrev Rest : Progress
    Rest = rest_of d (target_of target) file rs f i

    -- a record that is sound
    next_record_lem :
        (r : Read) (g : FileState) (o m n w : ℕ) → r.done ≡ rs →
        Rest ≡ rest_of d (target_of target) file (rs ++ (rec_of r Here.cells ∷ [])) g o →
        record_fault d (target_of target) rs Here.cells ≡ Ok tt → length rs + 1 ≡ m → length Here.cells ≡ n → n ≤ MAXCOLUMNS →
        length (text_of target rs) + length (text_next target (is_empty rs) Here.cells) ≡ w → w ≤ MAXFILE → i < o → o ≤ length file →
        o ≤ MAXFILE → outer g ≡ true → NextRecordSound d target file rs f i s e k (Ok (Some (cursor_of m n w o g)))
    next_record_lem r g o m n w done rest fault counted c few text short onward inside under between =
        let x : Rec = rec_of r Here.cells in
        read
        (record {
          rec = x;
          found = refl;
          rest = rest;
          after =
              record {
                count = length-append rs (x ∷ []) ∙ counted;
                headed = columns_snoc d (target_of target) rs x n fault c;
                text = text_snoc target rs x ∙ text;
              };
          few = few;
          stand = now_stand n c few;
          values = (now_shown n c).values few;
          short = short;
          onward = onward;
          inside = inside;
          under = under;
          between = between;
        })

    -- the same place of reading, by the records that were read
    sound_rest :
        (r : Read) (g : FileState) (o : ℕ) → r.done ≡ rs → record_fault d (target_of target) rs Here.cells ≡ Ok tt →
        complete d (target_of target) r Here.cells g o ≡ going (between_records (rs ++ (rec_of r Here.cells ∷ [])) g o)
    sound_rest r g o done fault =
        complete_sound d (target_of target) r Here.cells g o (ap (λ (l : List Rec). record_fault d (target_of target) l Here.cells) done ∙ fault)
        ∙ ap (λ (l : List Rec). going (between_records (l ++ (rec_of r Here.cells ∷ [])) g o)) done

    refused_record :
        (r : Read) (start : ℕ) (x : Fault) → r.done ≡ rs → r.start ≡ start → record_fault d (target_of target) rs Here.cells ≡ Err x →
        Rest ≡ stopped x r → NextRecordSound d target file rs f i s e k (Err (report (number_of x) (suc (length rs)) (column_of x) start))
    refused_record r start x done starts fault rest =
        let q : report (number_of x) (suc (length rs)) (column_of x) r.start ≡ fault_report x r
        = report_start d (target_of target) r Here.cells x (length rs)
        (ap (λ (l : List Rec). record_fault d (target_of target) l Here.cells) done ∙ fault) (ap length done) in
        let p : report (number_of x) (suc (length rs)) (column_of x) start ≡ fault_report x r
        = ap (λ (n : ℕ). report (number_of x) (suc (length rs)) (column_of x) n) (sym starts) ∙ q in
        subst (λ (t : Report). NextRecordSound d target file rs f i s e k (Err t)) (sym p) (refused x r rest)

    faulty_rest :
        (r : Read) (g : FileState) (o : ℕ) (x : Fault) → r.done ≡ rs → record_fault d (target_of target) rs Here.cells ≡ Err x →
        complete d (target_of target) r Here.cells g o ≡ stopped x r
    faulty_rest r g o x done fault =
        complete_faulty d (target_of target) r Here.cells g o x
        (ap (λ (l : List Rec). record_fault d (target_of target) l Here.cells) done ∙ fault)

    -- ---- each event

    pub record_visited :
        {start n : ℕ} {g : FileState} {o : ℕ} {r : Result (Option Cursor) Report} → v ≡ Completed start n g o →
        RecordChecked d target rs Here.cells start g o r → NextRecordSound d target file rs f i s e k r
    record_visited {start} {n} {g} {o} w (sound {m = m'} {n = c} {w = t} fault counted l few text short) =
        let at = on_record d (target_of target) file rs Here _ (follows (target_of target) rs) start n g o (sym m.event ∙ w) in
        let b : (i < o) × (o ≤ length file) × (o ≤ MAXFILE) × (0 + n ≤ o) = subst (EventInBounds (length file) i 0) w m.bounds in
        let u : outer g ≡ true = subst EndsOuter (sym m.event ∙ w) (record_outer d (drop i file) (between_records [] f i)) in
        next_record_lem at.r g o m' c t at.done
        (at.rest ∙ ap (λ (p : Progress). read_end d (target_of target) (read_from d (target_of target) p (drop o file))) (sound_rest at.r g o at.done fault))
        fault counted l few text short b.0 b.1 b.2 u
    record_visited {start} {n} {g} {o} w (faulty x fault) =
        let at = on_record d (target_of target) file rs Here _ (follows (target_of target) rs) start n g o (sym m.event ∙ w) in
        refused_record at.r start x at.done at.starts fault
        (at.rest
        ∙ ap (λ (p : Progress). read_end d (target_of target) (read_from d (target_of target) p (drop o file)))
        (faulty_rest at.r g o x at.done fault) ∙ sym (stays d (target_of target) x at.r (drop o file)))

    pub last_visited :
        {start n : ℕ} {r : Result (Option Cursor) Report} → v ≡ LastRecord start n → RecordChecked d target rs Here.cells start Begin (length file) r →
        NextRecordSound d target file rs f i s e k r
    last_visited {start} {n} w (sound {m = m'} {n = c} {w = t} fault counted l few text short) =
        let at = on_last d (target_of target) file rs Here _ (follows (target_of target) rs) start n (sym m.event ∙ w) in
        let b : (length file ≤ MAXFILE) × (0 + n ≤ length file + 1) = subst (EventInBounds (length file) i 0) w m.bounds in
        next_record_lem at.r Begin (length file) m' c t at.done
        (at.rest ∙ sound_rest at.r Begin (length file) at.done fault ∙ sym (end_after d (target_of target) file rs (rec_of at.r Here.cells)))
        fault counted l few text short (last_inside d file f i start n m.between (sym m.event ∙ w)) (omega arith) b.0 refl
    last_visited {start} {n} w (faulty x fault) =
        let at = on_last d (target_of target) file rs Here _ (follows (target_of target) rs) start n (sym m.event ∙ w) in
        refused_record at.r start x at.done at.starts fault (at.rest ∙ faulty_rest at.r Begin (length file) x at.done fault)

    pub fault_visited :
        {x : Fault} {o : ℕ} (done : ℕ) → v ≡ Failed x o → length rs ≡ done → (t : Report) →
        t ≡ report (number_of x) (done + 1) (column_of x) o → NextRecordSound d target file rs f i s e k (Err t)
    fault_visited {x} {o} done w l t te =
        let at = on_fault d (target_of target) file rs Here _ (follows (target_of target) rs) x o (sym m.event ∙ w) in
        let n : done + 1 ≡ suc (length rs) = omega arith in
        let q : t ≡ fault_report x at.r =
        te ∙ ap (λ (n : ℕ). report (number_of x) n (column_of x) o) n
        ∙ ap (λ (n : ℕ). report (number_of x) (suc (length rs)) (column_of x) n) (sym at.place)
        ∙ report_byte x at.r (length rs) at.byte (ap length at.done) in
        subst (λ (t : Report). NextRecordSound d target file rs f i s e k (Err t)) (sym q) (refused x at.r at.rest)

  pub end_visited : (target : Option Dialect) (rs : List Rec) {o : ℕ} {r : Result (Option Cursor) Report} → v ≡ End o → FileEnded rs o r → NextRecordSound d target file rs f i s e k r
  end_visited target [] {o} w no_record =
      let at = on_finish d (target_of target) file [] Here _ (follows (target_of target) []) o (sym m.event ∙ w) in
      let q : report (number_of NoRecord) 1 (column_of NoRecord) o ≡ fault_report NoRecord at.r
      = ap (λ (n : ℕ). report (number_of NoRecord) 1 (column_of NoRecord) n) (sym at.place)
      ∙ report_byte NoRecord at.r 0 refl (ap length at.done) in
      subst (λ (t : Report). NextRecordSound d target file [] f i s e k (Err t)) (sym q) (refused NoRecord at.r at.rest)
  end_visited target (h ∷ rs) {o} w at_end =
      let at = on_finish d (target_of target) file (h ∷ rs) Here _ (follows (target_of target) (h ∷ rs)) o (sym m.event ∙ w) in
      finished at.r at.rest at.done
