-- The contract of the cursor in terms of reading: from a place between two records to the next such place, with the record between
-- them; or to the file's end; or to a fault.
use Rattle.std.specs.Prelude.{ℕ, suc, ◌+◌, ◌≤◌, ◌<◌, ◌≡◌, Bool, true, List, [], ◌∷◌, ◌++◌, length, take, drop, Option, None, Some, Result, Ok, Err}
use Rattle.std.specs.Result.{result_and, IfOk}
use Rattle.model.specs.declared.Dialect.{Dialect}
use Rattle.model.specs.declared.Target.{Target}
use Rattle.model.specs.declared.FileState.{FileState}
use Rattle.model.specs.declared.FileState.TheVariants.{Top}
use Rattle.model.specs.declared.Fault.{Fault}
use Rattle.model.specs.declared.Fault.TheVariants.{NoRecord}
use Rattle.model.specs.declared.Report.{Report}
use Rattle.model.specs.rules.Base.{Bytes, is_empty}
use Rattle.model.specs.rules.Dialect.{into}
use Rattle.model.specs.rules.Text.{Value, record_text, table_text, ending}
use Rattle.model.specs.rules.Report.{report, number_of, column_of, MAXFILE, MAXCOLUMNS}
use Rattle.model.specs.rules.Records.{Rec, rows, Read, between_records, going, stopped, record_fault, fault_report}
use Rattle.cell_decoder.specs.declared.source.Source.TheVariants.{File}
use Rattle.cell_decoder.specs.Sources.{cells_in, Cells}
use Rattle.file_cursor.specs.Next.{next_record}
use Rattle.file_cursor.specs.FileOutcome.{rest_of}
use Rattle.record_scanner.specs.Tokens.{outer}
use Rattle.file_cursor.specs.declared.Cursor.{Cursor}

-- ---- what the records are read for, a target or none

-- the target of a conversion into a dialect, and none where records are only read
abbrev pub target_of : Option Dialect → Option Target
target_of None = None
target_of (Some t) = Some (into t)

-- the text of these records in the target, and none where there is no target
abbrev pub text_of : Option Dialect → List Rec → Bytes
text_of None rs = []
text_of (Some t) rs = table_text (into t) (rows rs)

-- the text of one record more
abbrev pub text_next : Option Dialect → (header : Bool) → List Value → Bytes
text_next None header vs = []
text_next (Some t) header vs = record_text (into t) header vs ++ ending t

-- ---- what has been read

-- the first of these records, if there is one, has n cells
abbrev pub Columns : List Rec → ℕ → Type 0
Columns [] n = Unit {0}
Columns (h ∷ rs) n = length h.cells ≡ n

abbrev pub cursor_of : (done columns written offset : ℕ) → FileState → Cursor
cursor_of done columns written offset f = record { done = done; columns = columns; written = written; offset = offset; state = f }

-- the cursor before the first record
abbrev pub at_start : Cursor
at_start = cursor_of 0 0 0 0 Top

-- the cursor counts the records that were read, the cells of the first, and the bytes of their text
pub record After (target : Option Dialect) (c : Cursor) (rs : List Rec) : Type 0 where
  pub count : length rs ≡ c.done
  pub headed : Columns rs c.columns
  pub text : length (text_of target rs) ≡ c.written

-- ---- a complete record

-- the check result of the record with these cells, and the length of its text if it is sound
pub record CheckSound (d : Dialect) (target : Option Dialect) (c : Cursor) (vs : List Value) (r : Result ℕ Fault) : Type 0 where
  pub checked : (rs : List Rec) → After target c rs → r ≡ result_and (record_fault d (target_of target) rs vs) (Ok (length (text_next target (is_empty rs) vs)))
  pub fits : IfOk r (λ n. c.written + n ≤ MAXFILE)

-- the cursor's result for the record with these cells after the records rs, by the check result
pub data RecordChecked (d : Dialect) (target : Option Dialect) (rs : List Rec) (vs : List Value) (start : ℕ) (f : FileState) (o : ℕ) : Result (Option Cursor) Report → Type 0 where
  sound :
      {m n w : ℕ} → record_fault d (target_of target) rs vs ≡ Ok tt → length rs + 1 ≡ m → length vs ≡ n → n ≤ MAXCOLUMNS →
      length (text_of target rs) + length (text_next target (is_empty rs) vs) ≡ w → w ≤ MAXFILE →
      RecordChecked d target rs vs start f o (Ok (Some (cursor_of m n w o f)))
  faulty :
      (e : Fault) → record_fault d (target_of target) rs vs ≡ Err e →
      RecordChecked d target rs vs start f o (Err (report (number_of e) (suc (length rs)) (column_of e) start))

-- the cursor's result at the end of the file, at this offset after the records rs
pub data FileEnded : (rs : List Rec) → (offset : ℕ) → Result (Option Cursor) Report → Type 0 where
  no_record : {o : ℕ} → FileEnded [] o (Err (report (number_of NoRecord) 1 (column_of NoRecord) o))
  at_end : {h : Rec} {rs : List Rec} {o : ℕ} → FileEnded (h ∷ rs) o (Ok None)

-- ---- the next record

-- one record more was read: its cells are those that the scanner finds, the lists show them, and v is the place after it
pub record Next (d : Dialect) (target : Option Dialect) (file : Bytes) (rs : List Rec) (f : FileState) (i : ℕ) (starts ends kinds : List ℕ) (v : Cursor) : Type 0 where
  pub rec : Rec
  pub found : rec.cells ≡ (next_record d (between_records [] f i) (drop i file)).cells
  pub rest : rest_of d (target_of target) file rs f i ≡ rest_of d (target_of target) file (rs ++ (rec ∷ [])) v.state v.offset
  pub after : After target v (rs ++ (rec ∷ []))
  pub few : v.columns ≤ MAXCOLUMNS
  pub stand : Cells (File d) file (take v.columns starts) (take v.columns ends) (take v.columns kinds)
  pub values : cells_in (File d) file (take v.columns starts) (take v.columns ends) (take v.columns kinds) ≡ rec.cells
  pub short : v.written ≤ MAXFILE
  pub onward : i < v.offset
  pub inside : v.offset ≤ length file
  pub under : v.offset ≤ MAXFILE
  pub between : outer v.state ≡ true

-- the cursor's result from i on, after the records rs
pub data NextRecordSound (d : Dialect) (target : Option Dialect) (file : Bytes) (rs : List Rec) (f : FileState) (i : ℕ) (starts ends kinds : List ℕ) :
    Result (Option Cursor) Report → Type 0 where
  read : {v : Cursor} → Next d target file rs f i starts ends kinds v → NextRecordSound d target file rs f i starts ends kinds (Ok (Some v))
  finished : (r : Read) → rest_of d (target_of target) file rs f i ≡ going r → r.done ≡ rs → NextRecordSound d target file rs f i starts ends kinds (Ok None)
  refused :
      (e : Fault) (r : Read) → rest_of d (target_of target) file rs f i ≡ stopped e r →
      NextRecordSound d target file rs f i starts ends kinds (Err (fault_report e r))
