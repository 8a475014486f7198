-- The round trips, written and read back, as statements over any dialect. Proved in proofs/round_trip/AllTrips.antt.
use Rattle.std.specs.Prelude.{ℕ, suc, ◌+◌, ◌≤◌, ◌≡◌, Bool, true, false, not, ◌&&◌, List, [], ◌∷◌, ◌++◌, map, length, Option, None, Some}
use Rattle.model.specs.rules.Types.{Kind, Dialect, Target, FileState, Top, Begin, Ok}
use Rattle.model.specs.rules.Base.{Bytes, is_empty, concat}
use Rattle.model.specs.rules.Dialect.{into, is_csvj}
use Rattle.model.specs.rules.Decode.{kind_number, kind_of, content_of, validate_cell}
use Rattle.model.specs.rules.Text.{Value, cell_text, record_text, table_text, ending}
use Rattle.model.specs.rules.Report.{accepted, MAXFILE, MAXRECORD}
use Rattle.model.specs.rules.Records.{Rec, Read, rows, has_kind, loses_surrogate, record_fault, between_records, going, read_from, read_file}
use Rattle.model.specs.rules.Api.{Answer, reader, decoder, Table, is_value, slice, rows_in, rows_fault, converter, writer}
use Rattle.model.specs.laws.Laws.{All}

-- ---- terms

-- all of a cell but its place (§2.3)
abbrev pub meaning : Value → Kind × Bytes
meaning v = (v.kind, v.content)

-- the same kind and content, wherever they lie (§2.3)
pub record Same (v w : Value) : Type 0 where
  pub kind : v.kind ≡ w.kind
  pub content : v.content ≡ w.content

-- records of which each cell is the same (§2.3)
pub data SameCells : List Value → List Value → Type 0 where
  no_cells : SameCells [] []
  and_cell : {v w : Value} {vs ws : List Value} → Same v w → SameCells vs ws → SameCells (v ∷ vs) (w ∷ ws)

-- tables of which each record is the same (§2.3)
pub data SameRows : List (List Value) → List (List Value) → Type 0 where
  no_rows : SameRows [] []
  and_row : {r q : List Value} {rs qs : List (List Value)} → SameCells r q → SameRows rs qs → SameRows (r ∷ rs) (q ∷ qs)

-- a cell that a table given to the writer may hold, and that the target can represent (§8.3 §13.2)
pub record Carried (t : Dialect) (v : Value) : Type 0 where
  pub value : is_value v.kind v.content ≡ true
  pub has_kind_lem : has_kind t v.kind ≡ true
  pub keeps_text : loses_surrogate t v ≡ false

-- these raw bytes are a cell that the decoder accepts, with this cell's kind and content (§11.1)
pub record Back (d : Dialect) (raw : Bytes) (v : Value) : Type 0 where
  pub sound : validate_cell d raw ≡ Ok tt
  pub kind : kind_of d raw ≡ v.kind
  pub content : content_of d raw ≡ v.content

-- a record without cells has a text in CSVJ alone (§8.2)
abbrev pub has_cells : Dialect → List Value → Bool
has_cells d vs = not (is_empty vs && not (is_csvj d))

-- where a record begins: the header at the file's start, others after a record's ending (§6.20)
abbrev pub start_of : List Rec → FileState
start_of [] = Top
start_of (h ∷ rs) = Begin

-- the text of vs, with its ending, completes one record more: it starts at o, its text counts, and its cells mean vs (§19.3)
pub record Completed (d : Dialect) (target : Option Target) (done : List Rec) (o : ℕ) (vs : List Value) : Type 0 where
  pub cells : List Value
  pub same : map meaning cells ≡ map meaning vs
  pub run :
      (xs : Bytes) →
      read_from d target (going (between_records done (start_of done) o)) (record_text (into d) (is_empty done) vs ++ ending d ++ xs)
      ≡ read_from d target
      (going
      (between_records (done ++ (record { start = o; size = length (record_text (into d) (is_empty done) vs); cells = cells } ∷ []))
      Begin (o + length (record_text (into d) (is_empty done) vs) + length (ending d))))
      xs

-- rows that the writer accepts: at least one, all of one length, of cells that a table may hold, without a fault in the target (§13.2 §13.11)
pub data Writable (t : Dialect) : List (List Value) → Type 0 where
  writable :
      {h : List Value} {rs : List (List Value)} →
      All (All (λ (v : Value). is_value v.kind v.content ≡ true)) (h ∷ rs) →
      All (λ (r : List Value). length r ≡ length h) rs → rows_fault (into t) (h ∷ rs) ≡ None → Writable t (h ∷ rs)

-- the file is accepted, and its records mean these rows (§19.3)
pub record ReadAs (d : Dialect) (target : Option Target) (text : Bytes) (rs : List (List Value)) : Type 0 where
  pub end : Read
  pub run : read_file d target text ≡ going end
  pub same : map (map meaning) (rows end.done) ≡ map (map meaning) rs

-- the decoder gives for a cell's span what the reader's definition says of the cell (§10.3 §11.1)
abbrev pub Decodes : (dialect : ℕ) → (file : Bytes) → Value → Type 0
Decodes n file v =
    decoder n (slice file v.from v.upto) (length v.content)
    ≡ record { report = accepted; kind = kind_number v.kind; content = v.content }

-- the reader's answer on the text that the writer made of a table (§19.3)
pub record ReadsBack (n : ℕ) (table : Table) (rs : List (List Value)) (text : Bytes) (a : Answer) : Type 0 where
  pub report : a.report ≡ accepted
  pub columns : a.columns ≡ table.columns
  pub records : suc a.records ≡ table.records
  pub cells : map meaning a.cells ≡ map meaning (concat rs)
  pub decoded : All (Decodes n text) a.cells

-- two answers of the reader that differ at most in where the cells lie (§19.3)
pub record SameAnswer (a b : Answer) : Type 0 where
  pub report : a.report ≡ b.report
  pub columns : a.columns ≡ b.columns
  pub records : a.records ≡ b.records
  pub cells : map meaning a.cells ≡ map meaning b.cells

-- ---- laws

-- a cell's canonical text, alone: `only` and `first` are as its place in the table has it (§19.3)
abbrev pub CellTrip : Type 0
CellTrip = (t : Dialect) (only first : Bool) (v : Value) → Carried t v → Back t (cell_text t only first v) v

-- a record's canonical text with its ending, after the records `done` (§19.3)
abbrev pub RecordTrip : Type 0
RecordTrip =
    (d : Dialect) (target : Option Target) (done : List Rec) (o : ℕ) (vs : List Value) →
    All (Carried d) vs → has_cells d vs ≡ true → record_fault d target done vs ≡ Ok tt →
    length (record_text (into d) (is_empty done) vs) ≤ MAXRECORD →
    o + length (record_text (into d) (is_empty done) vs) + length (ending d) ≤ MAXFILE → Completed d target done o vs

-- a table's canonical text, read alone and read for conversion into its own dialect (§19.3)
abbrev pub TableTrip : Type 0
TableTrip =
    (d : Dialect) (rs : List (List Value)) → Writable d rs →
    ReadAs d None (table_text (into d) rs) rs × ReadAs d (Some (into d)) (table_text (into d) rs) rs

-- what the writer accepted is read back by the reader, and each span decodes to the cell that was written (§19.3)
abbrev pub RoundTrip : Type 0
RoundTrip =
    (n : ℕ) (table : Table) (rs : List (List Value)) (room places : ℕ) (text : Bytes) → rows_in table ≡ Some rs →
    writer n table room ≡ record { report = accepted; text = text } → length (concat rs) ≤ places →
    ReadsBack n table rs text (reader n text places)

-- canonical text converted to its own dialect is the same text (§14.1)
abbrev pub SameText : Type 0
SameText =
    (n : ℕ) (table : Table) (room : ℕ) (text : Bytes) → writer n table room ≡ record { report = accepted; text = text } →
    converter n n text room ≡ record { report = accepted; text = text }

-- what a file was converted to is read, in the target, as the file is read in its own dialect (§12.1 §19.3)
abbrev pub ConvertedBack : Type 0
ConvertedBack =
    (m n : ℕ) (file text : Bytes) (room places : ℕ) → converter m n file room ≡ record { report = accepted; text = text } →
    SameAnswer (reader n text places) (reader m file places)

-- what a file was converted to is canonical: converted again, to its own dialect, it is the same text (§14.1)
abbrev pub ConvertedOnce : Type 0
ConvertedOnce =
    (m n : ℕ) (file text : Bytes) (room : ℕ) → converter m n file room ≡ record { report = accepted; text = text } →
    converter n n text room ≡ record { report = accepted; text = text }

-- every cell that the reader returns decodes, from its span of the file, to what the reader says of it (§10.3 §11.1)
abbrev pub ReaderDecodes : Type 0
ReaderDecodes = (n : ℕ) (file : Bytes) (places : ℕ) → All (Decodes n file) (reader n file places).cells

-- the laws of cells, records and tables, over the dialect, and of the calls over them (§19.3)
pub record Trips : Type 0 where
  pub cell : CellTrip
  pub record_text_lem : RecordTrip
  pub table : TableTrip
  pub reader_decodes : ReaderDecodes
  pub round_trip : RoundTrip
  pub same_text : SameText
  pub converted_back : ConvertedBack
  pub converted_once : ConvertedOnce
