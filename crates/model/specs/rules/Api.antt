-- The reader, the decoder, the whole converter and the writer. Each takes dialect numbers and defines the report and the content of
-- every lent list or buffer afterwards.
use Rattle.std.specs.Prelude.{min, ℕ, zero, suc, ◌-◌, ◌*◌, Bool, true, false, ◌&&◌, List, [], ◌∷◌, ◌++◌, map, length, take, drop, leb, ltb, eqb}
use Rattle.std.specs.Prelude.{Option, None, Some}
use Rattle.model.specs.rules.Types.{Report, Kind, Text, Number, True, False, Null, Dialect, Csvj, Target, CheckResult, Ok, Err, CellCheck}
use Rattle.model.specs.rules.Base.{choose◌then◌else◌, ◌is◌, Bytes, is_empty, concat, over}
use Rattle.model.specs.rules.Dialect.{dialect_of, into}
use Rattle.model.specs.rules.Utf8.{is_content}
use Rattle.model.specs.rules.Decode.{kind_number, kind_of, content_of, validate_cell}
use Rattle.model.specs.rules.Text.{Value, table_text}
use Rattle.model.specs.rules.Report.{report, accepted, refusal, number_of, column_of}
use Rattle.model.specs.rules.Records.{Rec, rows, ◌or_else◌, Progress, going, stopped, read_file, fault_report, header_fault, target_next}
use Rattle.model.specs.rules.Types.{cell_fault}

-- ---- the reader

-- the reader's answer: its report, columns, data records, and cells with the header's (§10.1)
pub record Answer : Type 0 where
  pub report : Report
  pub columns : ℕ
  pub records : ℕ
  pub cells : List Value

-- a reader's refusal: no columns, no data records, no cells (§9.2)
abbrev pub no_answer : Report → Answer
no_answer e = record { report = e; columns = 0; records = 0; cells = [] }

-- the answer on a file that the rules accept: 10 exactly when it has more cells than the shortest list has places. (No file without a
-- header is accepted: that is fault 1.) (§10.1 §10.5)
abbrev pub answered : List Rec → List Value → (room : ℕ) → Answer
answered [] vs room = no_answer accepted
answered (h ∷ rs) vs room =
    choose ltb room (length vs) then no_answer (refusal 10)
    else record { report = accepted; columns = length h.cells; records = length rs; cells = vs }

-- the reader's answer on what was read of a file and its end: the fault, if there was one (§10.1 §10.5)
abbrev pub read_answer : Progress → (room : ℕ) → Answer
read_answer (stopped e r) room = no_answer (fault_report e r)
read_answer (going r) room = answered r.done (concat (rows r.done)) room

-- the reader, with its cells in place of the lists. `room`: how many places the shortest list has (§1.7 §9.1 §10.1)
unfoldable pub reader : (dialect : ℕ) → Bytes → (room : ℕ) → Answer
reader n bs room = elim (dialect_of n) [ None ↦ no_answer (refusal 11) | Some d ↦ read_answer (read_file d None bs) room ]

-- what the list of starts is filled with (§10.2)
abbrev pub starts_of : List Value → List ℕ
starts_of = map (λ (v : Value). v.from)

-- what the list of ends is filled with (§10.2)
abbrev pub ends_of : List Value → List ℕ
ends_of = map (λ (v : Value). v.upto)

-- what the list of kinds is filled with, by number (§2.3 §10.2)
abbrev pub kinds_of : List Value → List ℕ
kinds_of = map (λ (v : Value). kind_number v.kind)

-- the result of a call of the reader: its answer, and the three lent lists afterwards (§10.1 §10.2)
pub record ReadCall : Type 0 where
  pub report : Report
  pub columns : ℕ
  pub records : ℕ
  pub cells : ℕ
  pub starts : List ℕ
  pub ends : List ℕ
  pub kinds : List ℕ

-- a call of the reader: each list is filled from its first place on, and all past the cells, or all on refusal, is as it was
-- (§9.3 §9.4 §10.2)
unfoldable pub read_call : (dialect : ℕ) → Bytes → (starts ends kinds : List ℕ) → ReadCall
read_call n bs starts ends kinds =
    let a : Answer = reader n bs (min (length starts) (min (length ends) (length kinds))) in
    record {
      report = a.report;
      columns = a.columns;
      records = a.records;
      cells = length a.cells;
      starts = over (starts_of a.cells) starts;
      ends = over (ends_of a.cells) ends;
      kinds = over (kinds_of a.cells) kinds;
    }

-- ---- the decoder

-- the decoder's answer, with the content itself in place of its length (§11.1)
pub record Decoded : Type 0 where
  pub report : Report
  pub kind : ℕ
  pub content : Bytes

-- a decoder's refusal: length and kind are 0 (§9.2)
abbrev pub not_decoded : Report → Decoded
not_decoded e = record { report = e; kind = 0; content = [] }

-- the answer on a cell that was checked: its fault with record and column 0, or 10 for too little room, or its kind and content
-- (§11.2 §11.6)
abbrev pub decoded_as : Dialect → Bytes → (room : ℕ) → CellCheck → Decoded
decoded_as d bs room (Err u) = not_decoded (report (number_of u.fault) 0 0 u.offset)
decoded_as d bs room (Ok _) =
    choose ltb room (length (content_of d bs)) then not_decoded (refusal 10)
    else record { report = accepted; kind = kind_number (kind_of d bs); content = content_of d bs }

-- the decoder: 11 first, then the check of the raw cell (§1.7 §9.1 §11.1)
unfoldable pub decoder : (dialect : ℕ) → Bytes → (room : ℕ) → Decoded
decoder n bs room = elim (dialect_of n) [ None ↦ not_decoded (refusal 11) | Some d ↦ decoded_as d bs room (validate_cell d bs) ]

-- the lent room after the call: the content, and then what was there before (§9.3 §9.4 §11.1)
unfoldable pub decoder_leaves : (dialect : ℕ) → Bytes → (room : List ℕ) → List ℕ
decoder_leaves n bs room = over (decoder n bs (length room)).content room

-- ---- the whole converter

-- the answer of a converter or of the writer, with the text itself in place of its length (§12.1 §13.1)
pub record Written : Type 0 where
  pub report : Report
  pub text : Bytes

-- a refusal, with length 0 (§9.2)
abbrev pub unwritten : Report → Written
unwritten e = record { report = e; text = [] }

-- a text for this room: 10 exactly when it is longer (§12.3 §13.13)
abbrev pub fitted : (room : ℕ) → Bytes → Written
fitted room bs = choose ltb room (length bs) then unwritten (refusal 10) else record { report = accepted; text = bs }

-- the canonical text of the records that were read for this target, or the fault found (§12.1 §12.2)
abbrev pub converted_as : (target : Target) → (room : ℕ) → Progress → Written
converted_as t room (stopped e r) = unwritten (fault_report e r)
converted_as t room (going r) = fitted room (table_text t (rows r.done))

-- the whole converter: 11 first, for either number (§1.7 §9.1 §12.1 §12.2)
unfoldable pub converter : (source target : ℕ) → Bytes → (room : ℕ) → Written
converter m n bs room =
    elim (dialect_of m) [
      | None ↦ unwritten (refusal 11)
      | Some d ↦ elim (dialect_of n) [
        | None ↦ unwritten (refusal 11)
        | Some t ↦ converted_as (into t) room (read_file d (Some (into t)) bs)
      ]
    ]

-- the lent output after the call: the text, and then what was there before (§9.3 §9.4 §12.1)
unfoldable pub converter_leaves : (source target : ℕ) → Bytes → (out : List ℕ) → List ℕ
converter_leaves m n bs out = over (converter m n bs (length out)).text out

-- ---- the writer

-- what the writer is given: content, and a span and a kind for each cell, record by record. `records` counts the header (§13.1)
pub record Table : Type 0 where
  pub content : Bytes
  pub starts : List ℕ
  pub ends : List ℕ
  pub kinds : List ℕ
  pub columns : ℕ
  pub records : ℕ

-- the kind of a number, or none (§2.3 §13.6)
unfoldable pub kind_named : ℕ → Option Kind
kind_named n =
    choose n is 1 then Some Text
    else choose n is 2 then Some Number
    else choose n is 3 then Some True
    else choose n is 4 then Some False
    else choose n is 5 then Some Null
    else None

-- the kind and the check of bytes, as a cell of CSVJ, are those of a number (§13.7)
abbrev pub is_number : Kind → CellCheck → Bool
is_number Text j = false
is_number Number (Ok _) = true
is_number Number (Err u) = false
is_number True j = false
is_number False j = false
is_number Null j = false

-- bytes can be the content of this kind (§13.5 §13.7 §13.8)
abbrev pub is_value : Kind → Bytes → Bool
is_value Text bs = is_content bs
is_value Number bs = is_number (kind_of Csvj bs) (validate_cell Csvj bs)
is_value True bs = is_empty bs
is_value False bs = is_empty bs
is_value Null bs = is_empty bs

-- the bytes of a span (§10.3 §13.4)
abbrev pub slice : Bytes → (from upto : ℕ) → Bytes
slice bs s e = take (e - s) (drop s bs)

-- one cell of a table, or none: its kind is known, its span lies in the content, its bytes can be of its kind (§13.4 §13.6)
unfoldable pub table_cell : (content : Bytes) (from upto kind : ℕ) → Option Value
table_cell bs s e n =
    elim (kind_named n) [
      | None ↦ None
      | Some k ↦
          choose leb s e && leb e (length bs) && is_value k (slice bs s e) then Some (record { from = s; upto = e; kind = k; content = slice bs s e })
          else None
    ]

-- one cell more, or none where it or another is none: one unsound cell makes the table none (§13.2)
abbrev pub cons : Option Value → Option (List Value) → Option (List Value)
cons None vs = None
cons (Some v) None = None
cons (Some v) (Some vs) = Some (v ∷ vs)

-- the cells of a table, or none where one of them is none or the lists differ in length (§13.2 §13.3)
unfoldable pub table_cells : (content : Bytes) (starts ends kinds : List ℕ) → Option (List Value)
table_cells bs [] [] [] = Some []
table_cells bs [] [] (k ∷ ks) = None
table_cells bs [] (e ∷ es) ks = None
table_cells bs (s ∷ ss) [] ks = None
table_cells bs (s ∷ ss) (e ∷ es) [] = None
table_cells bs (s ∷ ss) (e ∷ es) (k ∷ ks) = cons (table_cell bs s e k) (table_cells bs ss es ks)

-- cells as rows: this number of records, each of this number of columns (§13.1)
unfoldable pub rows_of : (records columns : ℕ) → List Value → List (List Value)
rows_of zero columns vs = []
rows_of (suc n) columns vs = take columns vs ∷ rows_of n columns (drop columns vs)

-- the records of a table, given its cells: none where their number is not columns times records, or there is no record (§13.9 §13.10)
abbrev pub table_rows : (columns records : ℕ) → Option (List Value) → Option (List (List Value))
table_rows columns records None = None
table_rows columns records (Some vs) =
    choose eqb (length vs) (columns * records) && ltb 0 records then Some (rows_of records columns vs) else None

-- the records of a table, or none where what was given is no table, which is 12 (§6.12 §13.2)
unfoldable pub rows_in : Table → Option (List (List Value))
rows_in t = table_rows t.columns t.records (table_cells t.content t.starts t.ends t.kinds)

-- the fault of record n, with offset 0, or what follows it if it has none (§13.11)
abbrev pub or_next : (n : ℕ) → CheckResult → Option Report → Option Report
or_next n (Ok _) next = next
or_next n (Err e) next = Some (report (number_of e) n (column_of e) 0)

-- the fault of the row that follows the rows `done`. 8, 7 and 6 are the header's, since all rows have its count of cells; names
-- go by the target's rule, so what would clash there is 6 (§13.11 §13.12)
abbrev pub row_fault : Target → (done : List (List Value)) → List Value → CheckResult
row_fault t [] r = header_fault t.dialect r or_else target_next t [] r
row_fault t (h ∷ rs) r = target_next t (h ∷ rs) r

-- the first fault of the rows that follow `done` (§13.11)
unfoldable pub rows_from : Target → (done : List (List Value)) → List (List Value) → Option Report
rows_from t done [] = None
rows_from t done (r ∷ rs) =
    let next : Option Report = rows_from t (done ++ (r ∷ [])) rs in
    or_next (suc (length done)) (row_fault t done r) next

-- the first fault of a table (§13.11)
unfoldable pub rows_fault : Target → List (List Value) → Option Report
rows_fault t rs = rows_from t [] rs

-- the fault, or the text if it has room (§13.13)
abbrev pub written_rows : Target → (room : ℕ) → List (List Value) → Option Report → Written
written_rows t room rs (Some e) = unwritten e
written_rows t room rs None = fitted room (table_text t rs)

-- the writer: 11, then 12, then the records' faults, then 10 (§1.7 §9.1 §13.1 §13.2 §13.11)
unfoldable pub writer : (target : ℕ) → Table → (room : ℕ) → Written
writer n table room =
    elim (dialect_of n) [
      | None ↦ unwritten (refusal 11)
      | Some t ↦ elim (rows_in table) [ None ↦ unwritten (refusal 12) | Some rs ↦ written_rows (into t) room rs (rows_fault (into t) rs) ]
    ]

-- the lent output after the call: the text, and then what was there before (§9.3 §9.4 §13.1)
unfoldable pub writer_leaves : (target : ℕ) → Table → (out : List ℕ) → List ℕ
writer_leaves n table out = over (writer n table (length out)).text out

-- helper: `unfolding api_computes` opens every definition of this module
unfoldable pub api_computes : Type 0
unfolding reader read_call decoder decoder_leaves converter converter_leaves kind_named table_cell table_cells rows_of rows_in rows_from rows_fault writer writer_leaves
api_computes = Unit {0}
