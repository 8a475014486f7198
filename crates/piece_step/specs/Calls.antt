-- What a call begins with, over a piece or at the end, and what the end results in.
use Rattle.std.specs.Prelude.{ℕ, ◌+◌, ◌≤◌, ◌≡◌, List, [], ◌∷◌, length}
use Rattle.std.specs.Prelude.{Some}
use Rattle.model.specs.rules.Base.{Bytes, over}
use Rattle.model.specs.rules.Report.{report, number_of, column_of, MAXRECORD, MAXCOLUMNS, MAXPIECE, LEASTOUTPUT}
use Rattle.model.specs.rules.Records.{Rec, Read, going, read_bytes, read_end, report_of, records_of}
use Rattle.model.specs.laws.Scans.{Buffered}
use Rattle.model.specs.laws.Places.{ScanIn}
use Rattle.model.specs.laws.Machine.{new_text}
use Rattle.piece_state.specs.declared.place.Place.{Place}
use Rattle.piece_step.specs.Types.{Dialect, Target, Fault}
use Rattle.piece_step.specs.declared.CallResult.{CallResult}
use Rattle.piece_step.specs.Invariant.{scan_at, read_at, columns_of, StateInvariant}
use Rattle.piece_step.specs.Steps.{InBounds, current_in, EncodedInFile}

-- reading some bytes results in this
pub record Reached (d : Dialect) (t : Target) (r : Read) : Type 0 where
  pub consumed : Bytes
  pub reads : read_bytes d (Some t) consumed ≡ going r

-- a call begins where earlier calls ended, with a piece and an output of allowed sizes
pub record CallStart (d : Dialect) (t : Target) (piece : Bytes) (p : Place) (bytes ends out : List ℕ) (done : List Rec) (k : Buffered) : Type 0 where
  pub hold : StateInvariant d t p bytes ends done k
  pub reached : Reached d t (read_at d p done k)
  pub short : length piece ≤ MAXPIECE
  pub room : LEASTOUTPUT ≤ length out

-- ---- the header's names

-- the first record is the header: these arrays hold its names as they are encoded in the file (§15.2)
abbrev pub Named : (file : Bytes) → (names name_ends : List ℕ) → List Rec → Type 0
Named file names ends [] = Unit {0}
Named file names ends (h ∷ rs) = EncodedInFile file names 0 ends h.cells

-- the names once the header is complete, and before that its cells so far; `file` is all that was consumed (§15.2)
pub record Heads (file : Bytes) (p : Place) (names name_ends : List ℕ) (done : List Rec) (k : Buffered) : Type 0 where
  pub named : Named file names name_ends done
  pub kept : length done ≡ 0 → ScanIn file (scan_at p k)

-- the place counts these records, and the columns of their header (§15.2)
pub record CountsRecords (p : Place) (done : List Rec) : Type 0 where
  pub records : p.records ≡ length done
  pub columns : p.columns ≡ columns_of done

-- what a call requires: a run from this place stays in bounds
pub record ReadyPiece (p : Place) (names name_ends bytes ends : List ℕ) : Type 0 where
  pub bounds : InBounds p (current_in p name_ends ends)
  pub long_names : length names ≡ MAXRECORD
  pub long_name_ends : length name_ends ≡ MAXCOLUMNS
  pub long_bytes : length bytes ≡ MAXRECORD
  pub long_ends : length ends ≡ MAXCOLUMNS

-- a call begins after the bytes `before`, with the header's cells in the first two arrays, and those of another record in the other two
pub record Begun (d : Dialect) (t : Target) (before piece : Bytes) (p : Place) (names name_ends bytes ends out : List ℕ) (done : List Rec)
    (k : Buffered) : Type 0 where
  pub begins : CallStart d t piece p (current_in p names bytes) (current_in p name_ends ends) out done k
  pub offset : p.offset ≡ length before
  pub heads : Heads before p names name_ends done k

-- ---- the end

-- the result of a fault at offset `at`
abbrev pub failed_as : Place → Fault → (at : ℕ) → CallResult
failed_as p e at = record { place = p; report = report (number_of e) (p.records + 1) (column_of e) at; length = 0 }

-- the report on the file's end, and the text of a last record; the place does not change
pub record Finished (d : Dialect) (t : Target) (p : Place) (done : List Rec) (k : Buffered) (out out' : List ℕ) (r : CallResult) : Type 0 where
  pub place : r.place ≡ p
  pub reports : r.report ≡ report_of (read_end d (Some t) (going (read_at d p done k)))
  pub text : out' ≡ over (new_text t done (records_of (read_end d (Some t) (going (read_at d p done k))))) out
  pub long : r.length ≡ length (new_text t done (records_of (read_end d (Some t) (going (read_at d p done k)))))
