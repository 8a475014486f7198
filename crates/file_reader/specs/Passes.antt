-- The contract of a pass over the data records, in terms of reading.
use Rattle.std.specs.Prelude.{ℕ, ◌+◌, ◌≤◌, ◌≡◌, true, false, List, [], ◌∷◌, length, None, Result, Ok, Err}
use Rattle.model.specs.declared.Report.{Report}
use Rattle.model.specs.declared.Dialect.{Dialect}
use Rattle.model.specs.declared.FileState.{FileState}
use Rattle.model.specs.declared.FileState.TheVariants.{Begin}
use Rattle.model.specs.declared.Fault.{Fault}
use Rattle.model.specs.rules.Base.{Bytes, concat}
use Rattle.model.specs.rules.Text.{Value}
use Rattle.model.specs.rules.Report.{MAXFILE}
use Rattle.model.specs.rules.Records.{Rec, rows, Read, Progress, going, stopped, fault_report}
use Rattle.model.specs.rules.Api.{starts_of, ends_of, kinds_of}
use Rattle.record_scanner.specs.Stored.{stored_from}
use Rattle.file_cursor.specs.FileOutcome.{rest_of}
use Rattle.file_cursor.specs.declared.scan.FileScan.{FileScan}
use Rattle.file_cursor.specs.declared.scan.FileScan.TheVariants.{Completed, LastRecord, Failed, End}
use Rattle.file_reader.specs.declared.pass.DataScan.{DataScan}
use Rattle.file_reader.specs.declared.pass.DataScan.TheVariants as next
use Rattle.file_reader.specs.declared.pass.Counts.{Counts}

-- the next event of reading, with a last record as a record that ends where the file does
abbrev pub data_scan : (file_length : ℕ) → FileScan → DataScan
data_scan n (Completed start cells f o) = next.Record start cells f o false
data_scan n (LastRecord start cells) = next.Record start cells Begin n true
data_scan n (Failed e o) = next.Failed e o
data_scan n (End o) = next.End

-- lists that hold these cells, as far as there is room
pub record Holds (room : ℕ) (vs : List Value) (starts₀ ends₀ kinds₀ starts ends kinds : List ℕ) : Type 0 where
  pub at_starts : starts ≡ stored_from room 0 (starts_of vs) starts₀
  pub at_ends : ends ≡ stored_from room 0 (ends_of vs) ends₀
  pub at_kinds : kinds ≡ stored_from room 0 (kinds_of vs) kinds₀

-- the result of a pass after the header h; `vs` are the cells that were found
pub data PassOutcome (h : Rec) (vs : List Value) : Progress → Result Counts Report → Type 0 where
  accepted :
      (r : Read) (ds : List Rec) → r.done ≡ h ∷ ds → concat (rows ds) ≡ vs → PassOutcome h vs (going r) (Ok (record { records = length ds; cells = length vs }))
  refused : (e : Fault) (r : Read) → PassOutcome h vs (stopped e r) (Err (fault_report e r))

-- there are no more cells than a file has bytes, and one
abbrev pub Few : Result Counts Report → Type 0
Few (Ok counts) = counts.cells ≤ MAXFILE + 1
Few (Err e) = Unit {0}

pub record PassSound (d : Dialect) (file : Bytes) (from : ℕ) (f : FileState) (columns room : ℕ) (starts₀ ends₀ kinds₀ : List ℕ)
    (p : Result Counts Report) (starts ends kinds : List ℕ) : Type 0 where
  pub vs : List Value
  pub lists : Holds room vs starts₀ ends₀ kinds₀ starts ends kinds
  pub outcome : (h : Rec) → length h.cells ≡ columns → PassOutcome h vs (rest_of d None file (h ∷ []) f from) p
  pub few : Few p
