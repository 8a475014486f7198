-- Demands 1 and 2 over the definitions of the public calls: `read_call`, `decoder`, `converter` and `writer` of model's Api, to which
-- the calls' contracts are equations. Demand 3 over the contract of the piece and end calls, `CallContract` of piece_converter's
-- Contract, and the ledger of model. Nothing else is here.
use Rattle.std.specs.Prelude.{ℕ, suc, ◌+◌, ◌*◌, ◌<◌, ◌≤◌, ◌≡◌, ◌≢◌, ◌↔◌, true, false, length, take, drop, Option, None, Some, Ok, Err}
use mathlib.Core.List.{List, [], ◌∷◌, ◌++◌, map, zip_with}
use Rattle.model.specs.declared.Report.{Report}
use Rattle.model.specs.declared.Dialect.{Dialect}
use Rattle.model.specs.declared.Kind.TheVariants.{Text}
use Rattle.model.specs.declared.Fault.{Fault}
use Rattle.model.specs.declared.Target.{Target}
use Rattle.model.specs.rules.Types.{CellCheck}
use Rattle.model.specs.rules.Base.{Bytes, concat}
use Rattle.model.specs.rules.Dialect.{dialect_of, into}
use Rattle.model.specs.rules.Decode.{kind_number, content_of, validate_cell}
use Rattle.model.specs.rules.Text.{Value, record_text, table_text}
use Rattle.model.specs.rules.Report.{report, accepted, refusal, number_of, column_of, MAXFILE, MAXRECORD, MAXCOLUMNS}
use Rattle.model.specs.rules.Records.{name_key, has_kind, loses_surrogate, Rec, rows, Read, Progress, going, stopped, file_full, record_full, read_bytes}
use Rattle.model.specs.rules.Records.{read_file, records_of, place_of, fault_report}
use Rattle.model.specs.rules.Api.{Answer, ReadCall, reader, read_call, decoder, decoder_leaves, converter, converter_leaves, Table, is_value, slice}
use Rattle.model.specs.rules.Api.{rows_in, rows_fault, writer, writer_leaves}
use Rattle.model.specs.laws.Laws.{All}
use Rattle.model.specs.rules.Ledger.{Call, piece, finish, Entry, room_of, is_file_fault, fault_in, ended_in, consumed_in, too_small, checked, history}
use Rattle.model.specs.rules.Ledger.{ledger, call_leaves}
use Rattle.model.specs.laws.Demands.{seen_in}
use Rattle.model.specs.laws.RoundTrips.{meaning, SameRows, has_cells, Decodes, ReadsBack, RoundTrip, SameText, ConvertedBack, ConvertedOnce, ReaderDecodes}
use Rattle.codes.specs.Named.{text_answer}
use Rattle.codes.specs.declared.TextAnswer.{TextAnswer}
use Rattle.piece_converter.specs.Representation.{StateShows}
use Rattle.piece_converter.specs.Contract.{new_converter, CallContract}
use Rattle.piece_converter.specs.declared.Converter.{Converter}
use Rattle.grammar.specs.rfc.Derived.{Derived, kind_in, content_in, Line, cells_in, Each}
use Rattle.grammar.specs.dialects.Derives.{Derives}
use Rattle.grammar.specs.dialects.Spans.{Span, stretches, span_of}
use Rattle.grammar.specs.Accepted.{Acceptable, cell_count}
use Rattle.grammar.specs.NextByte.{NextByte}
use Rattle.model.specs.rules.Types.{cell_fault}

-- ---- demand 1

-- a lent list or buffer after a call: as long as it was, on refusal as it was, and past what was written as it was (§9.3 §9.4)
pub record Leaves (told : Report) (written : ℕ) (old new : List ℕ) : Type 0 where
  pub as_long : length new ≡ length old
  pub on_refusal : told ≢ accepted → new ≡ old
  pub past_written : drop written new ≡ drop written old

-- the report on a file: the fault at which reading stopped, by its row of the table; 10 if the answer has no room; acceptance (§6.14
-- §6.15)
pub data ReportsFile (needs : List Rec → ℕ) (room : ℕ) : Progress → Report → Type 0 where
  fault : {e : Fault} {r : Read} → ReportsFile needs room (stopped e r) (report (number_of e) (suc (length r.done)) (column_of e) (place_of e r))
  no_room : {r : Read} → room < needs r.done → ReportsFile needs room (going r) (refusal 10)
  accepts : {r : Read} → needs r.done ≤ room → ReportsFile needs room (going r) accepted

-- the same of a raw cell, which is in no record (§11.2 §11.6)
pub data ReportsCell (needs room : ℕ) : CellCheck → Report → Type 0 where
  fault : {e : Fault} {o : ℕ} → ReportsCell needs room (Err (cell_fault e o)) (report (number_of e) 0 0 o)
  no_room : room < needs → ReportsCell needs room (Ok tt) (refusal 10)
  accepts : needs ≤ room → ReportsCell needs room (Ok tt) accepted

-- the same of a table: 12 if it is none (§13.2 §13.11 §13.13)
pub data ReportsTable (t : Target) (room : ℕ) : Option (List (List Value)) → Report → Type 0 where
  no_table : ReportsTable t room None (refusal 12)
  fault : {rs : List (List Value)} {e : Report} → rows_fault t rs ≡ Some e → ReportsTable t room (Some rs) e
  no_room : {rs : List (List Value)} → rows_fault t rs ≡ None → room < length (table_text t rs) → ReportsTable t room (Some rs) (refusal 10)
  accepts : {rs : List (List Value)} → rows_fault t rs ≡ None → length (table_text t rs) ≤ room → ReportsTable t room (Some rs) accepted

pub record Demand1 : Type 0 where
  -- each lent list or buffer after the call
  pub reader_leaves :
      (n : ℕ) (file : Bytes) (starts ends kinds : List ℕ) (c : ReadCall) → c ≡ read_call n file starts ends kinds →
      Leaves c.report c.cells starts c.starts × Leaves c.report c.cells ends c.ends × Leaves c.report c.cells kinds c.kinds
  pub decoder_leaves_lem :
      (n : ℕ) (raw : Bytes) (room : List ℕ) →
      Leaves (decoder n raw (length room)).report (length (decoder n raw (length room)).content) room (decoder_leaves n raw room)
  pub converter_leaves_lem :
      (m n : ℕ) (file : Bytes) (room : List ℕ) →
      Leaves (converter m n file (length room)).report (length (converter m n file (length room)).text) room (converter_leaves m n file room)
  pub writer_leaves_lem :
      (n : ℕ) (table : Table) (room : List ℕ) →
      Leaves (writer n table (length room)).report (length (writer n table (length room)).text) room (writer_leaves n table room)
  -- 11 for a number that is no dialect's, before all else
  pub unknown :
      (n : ℕ) → dialect_of n ≡ None →
      ((file : Bytes) (room : ℕ) → (reader n file room).report ≡ refusal 11)
      × ((raw : Bytes) (room : ℕ) → (decoder n raw room).report ≡ refusal 11)
      × ((m : ℕ) (file : Bytes) (room : ℕ) → ((converter n m file room).report ≡ refusal 11) × ((converter m n file room).report ≡ refusal 11))
      × ((table : Table) (room : ℕ) → (writer n table room).report ≡ refusal 11)
  -- otherwise the report that the table of faults gives
  pub reader_tells :
      (n : ℕ) (d : Dialect) (file : Bytes) (room : ℕ) → dialect_of n ≡ Some d →
      ReportsFile (λ rs. length (concat (rows rs))) room (read_file d None file) (reader n file room).report
  pub decoder_tells :
      (n : ℕ) (d : Dialect) (raw : Bytes) (room : ℕ) → dialect_of n ≡ Some d →
      ReportsCell (length (content_of d raw)) room (validate_cell d raw) (decoder n raw room).report
  pub converter_tells :
      (m n : ℕ) (d t : Dialect) (file : Bytes) (room : ℕ) → dialect_of m ≡ Some d → dialect_of n ≡ Some t →
      ReportsFile (λ rs. length (table_text (into t) (rows rs))) room (read_file d (Some (into t)) file) (converter m n file room).report
  pub writer_tells :
      (n : ℕ) (t : Dialect) (table : Table) (room : ℕ) → dialect_of n ≡ Some t →
      ReportsTable (into t) room (rows_in table) (writer n table room).report

-- ---- demand 2

-- no two names are the same, by the dialect's rule (§3.11 §4.10 §5.10)
pub data DistinctNames (d : Dialect) : List Value → Type 0 where
  no_names : DistinctNames d []
  a_name :
      {v : Value} {vs : List Value} → All (λ (w : Value). name_key d w.content ≢ name_key d v.content) vs → DistinctNames d vs →
      DistinctNames d (v ∷ vs)

-- a table that the dialect can represent within the limits, by its cells, its names and its text, whatever the order of the checks
-- (§2.5 §3.10 §4.9 §7.1 §7.2 §7.3 §8.2 §8.3 §8.4 §8.5 §8.6)
pub record CarriedTable (t : Dialect) (h : List Value) (rs : List (List Value)) : Type 0 where
  pub columns : length h ≤ MAXCOLUMNS
  pub has_cells_lem : has_cells t h ≡ true
  pub texts : All (λ (v : Value). v.kind ≡ Text) h
  pub names : DistinctNames t h
  pub kinds : All (All (λ (v : Value). has_kind t v.kind ≡ true)) (h ∷ rs)
  pub lossless : All (All (λ (v : Value). loses_surrogate t v ≡ false)) (h ∷ rs)
  pub short_header : length (record_text (into t) true h) ≤ MAXRECORD
  pub short_records : All (λ (r : List Value). length (record_text (into t) false r) ≤ MAXRECORD) rs
  pub short_file : length (table_text (into t) (h ∷ rs)) ≤ MAXFILE

-- rows of values: a header and data rows of as many cells, and each cell's content has the form of its kind: a text of the content form, a
-- number as JSON has it, nothing for true, false and null. Where a content lies is no part of it (§2.2 §2.6 §2.9 §13.5 §13.7 §13.8)
pub record ValueRows (h : List Value) (rs : List (List Value)) : Type 0 where
  pub contents : All (All (λ (v : Value). is_value v.kind v.content ≡ true)) (h ∷ rs)
  pub counts : All (λ (r : List Value). length r ≡ length h) rs

-- a table with these kinds and contents, row by row, wherever they lie in it (§13.1 §13.2)
abbrev pub TableOf : List Value → List (List Value) → Table → Type 0
TableOf h rs table = (qs : List (List Value)) × (rows_in table ≡ Some qs) × SameRows qs (h ∷ rs)

-- a text that the reader accepts as these rows: the columns, the row count, each kind and content, and each span decodes to its cell (§10.1
-- §10.2 §10.3 §19.3)
pub record ReadAsRows (n : ℕ) (h : List Value) (rs : List (List Value)) (text : Bytes) (a : Answer) : Type 0 where
  pub report : a.report ≡ accepted
  pub columns : a.columns ≡ length h
  pub records : a.records ≡ length rs
  pub cells : map meaning a.cells ≡ map meaning (concat (h ∷ rs))
  pub decoded : All (Decodes n text) a.cells

-- the columns of a derivation: the cells of its header (§10.1)
abbrev pub columns_in : List (Line Derived) → ℕ
columns_in [] = 0
columns_in (l ∷ ls) = length (cells_in l)

-- a derived cell as a value, of its kind and content; where it lies is no matter (§2.3)
abbrev pub value_in : Derived → Value
value_in c = record { from = 0; upto = 0; kind = kind_in c; content = content_in c }

-- the row of a derived record (§2.2)
abbrev pub row_in : Line Derived → List Value
row_in l = map value_in (cells_in l)

-- an answer of the reader with the counts, kinds and contents that are derived (§10.1 §10.2)
pub record AsDerived (ls : List (Line Derived)) (a : Answer) : Type 0 where
  pub columns : a.columns ≡ columns_in ls
  pub records : suc a.records ≡ length ls
  pub kinds : map (λ (v : Value). v.kind) a.cells ≡ map kind_in (concat (map cells_in ls))
  pub contents : map (λ (v : Value). v.content) a.cells ≡ map content_in (concat (map cells_in ls))

-- each of the three lists has a place for every cell (§10.5)
pub record HasPlaces (cells : ℕ) (starts ends kinds : List ℕ) : Type 0 where
  pub for_starts : cells ≤ length starts
  pub for_ends : cells ≤ length ends
  pub for_kinds : cells ≤ length kinds

-- a call of the reader with the counts that are derived, and lists that begin with the starts, the ends and the kinds of the derived cells, in
-- file order (§2.3 §10.1 §10.2 §10.3)
pub record FilledAsDerived (d : Dialect) (file : Bytes) (ls : List (Line Derived)) (k : Derives d file ls) (c : ReadCall) : Type 0 where
  pub columns : c.columns ≡ columns_in ls
  pub records : suc c.records ≡ length ls
  pub cells : c.cells ≡ cell_count ls
  pub starts : take c.cells c.starts ≡ map (λ (s : Span). s.from) (concat (stretches d file ls k))
  pub ends : take c.cells c.ends ≡ map (λ (s : Span). s.upto) (concat (stretches d file ls k))
  pub kinds : take c.cells c.kinds ≡ map (λ (x : Derived). kind_number (kind_in x)) (concat (map cells_in ls))

-- the decoder makes of a span of the file the kind and the content of a derived cell (§10.3 §11.1)
abbrev pub DecodesTo : (dialect : ℕ) → (file : Bytes) → Span → Derived → Type 0
DecodesTo n file s c =
    decoder n (slice file s.from s.upto) (length (content_in c))
    ≡ record { report = accepted; kind = kind_number (kind_in c); content = content_in c }

pub record Demand2 : Type 0 where
  -- a call of the reader accepts exactly what the grammar, the limits and the record checks accept, if each of the three lists has a place
  -- for every cell (§10.5 §19.2)
  pub accepted_exactly :
      (n : ℕ) (d : Dialect) (file : Bytes) (starts ends kinds : List ℕ) → dialect_of n ≡ Some d →
      ((read_call n file starts ends kinds).report ≡ accepted)
      ↔ ((ls : List (Line Derived)) × Acceptable d file ls × HasPlaces (cell_count ls) starts ends kinds)
  -- and reports 10 exactly when these accept it and one of the lists has too few places (§10.5)
  pub too_few_places :
      (n : ℕ) (d : Dialect) (file : Bytes) (starts ends kinds : List ℕ) → dialect_of n ≡ Some d →
      ((read_call n file starts ends kinds).report ≡ refusal 10)
      ↔ ((ls : List (Line Derived)) × Acceptable d file ls × (¬ HasPlaces (cell_count ls) starts ends kinds))
  -- accepting, it counts and fills the lists as the grammar derives (§10.1 §10.2)
  pub filled_as_derived :
      (n : ℕ) (d : Dialect) (file : Bytes) (starts ends kinds : List ℕ) (ls : List (Line Derived)) (a : Acceptable d file ls) → dialect_of n ≡ Some d →
      HasPlaces (cell_count ls) starts ends kinds → FilledAsDerived d file ls a.derived (read_call n file starts ends kinds)
  -- each span decodes to the kind and the content that are derived there (§10.3 §11.1)
  pub decoded_as_derived :
      (n : ℕ) (d : Dialect) (file : Bytes) (ls : List (Line Derived)) (a : Acceptable d file ls) → dialect_of n ≡ Some d →
      Each (DecodesTo n file) (concat (stretches d file ls a.derived)) (concat (map cells_in ls))
  -- the same of the reader's answer before it is written into the lists: its cells have the kinds and contents that are derived
  pub as_derived :
      (n : ℕ) (d : Dialect) (file : Bytes) (room : ℕ) (ls : List (Line Derived)) → dialect_of n ≡ Some d → Acceptable d file ls → cell_count ls ≤ room →
      AsDerived ls (reader n file room)
  -- each where the grammar has it
  pub places :
      (n : ℕ) (d : Dialect) (file : Bytes) (room : ℕ) (ls : List (Line Derived)) (k : Derives d file ls) → dialect_of n ≡ Some d →
      (reader n file room).report ≡ accepted → map span_of (reader n file room).cells ≡ concat (stretches d file ls k)
  -- and each decodes from there to its kind and content
  pub decodes : ReaderDecodes
  -- the converter accepts exactly the files that are acceptable in the source and whose rows the target can represent within the
  -- limits, if the text has room (§8.1 §12.1 §12.2 §12.3)
  pub converted_exactly :
      (m n : ℕ) (d t : Dialect) (file : Bytes) (room : ℕ) → dialect_of m ≡ Some d → dialect_of n ≡ Some t →
      ((converter m n file room).report ≡ accepted)
      ↔ ((l : Line Derived) × (ls : List (Line Derived)) × Acceptable d file (l ∷ ls) × CarriedTable t (row_in l) (map row_in ls)
      × (length (table_text (into t) (map row_in (l ∷ ls))) ≤ room))
  -- and writes these rows
  pub converted_text :
      (m n : ℕ) (d t : Dialect) (file : Bytes) (room : ℕ) (ls : List (Line Derived)) → dialect_of m ≡ Some d → dialect_of n ≡ Some t →
      Acceptable d file ls → (converter m n file room).report ≡ accepted → (converter m n file room).text ≡ table_text (into t) (map row_in ls)
  -- a fault found in the first bytes of a file is the file's: no later one is reported in its place
  pub first_fault :
      (d : Dialect) (target : Option Target) (e : Fault) (r : Read) (xs ys : Bytes) → read_bytes d target xs ≡ stopped e r →
      read_file d target (xs ++ ys) ≡ stopped e r
  -- in the terms of the grammar: within the limits, a byte is fault 2 or 3 exactly when no derivation's text begins with the bytes
  -- before it and then this byte (§6.2 §6.3)
  pub next_byte :
      (d : Dialect) (target : Option Target) (xs : Bytes) (r : Read) (b : ℕ) → read_bytes d target xs ≡ going r → file_full r ≡ false →
      record_full r b ≡ false → NextByte d target xs r b
  -- the writer accepts exactly the tables that the dialect can represent within the limits, if the text has room (§13.2 §13.11
  -- §13.13)
  pub written_exactly :
      (n : ℕ) (t : Dialect) (table : Table) (room : ℕ) → dialect_of n ≡ Some t →
      ((writer n table room).report ≡ accepted)
      ↔ ((h : List Value) × (rs : List (List Value)) × (rows_in table ≡ Some (h ∷ rs)) × CarriedTable t h rs × (length (table_text (into t) (h ∷ rs)) ≤ room))
  -- from the table's side: given room, each table that the dialect can represent within the limits is written, and read back the same
  -- (§19.3)
  pub carried_comes_back :
      (n : ℕ) (t : Dialect) (table : Table) (h : List Value) (rs : List (List Value)) (room places : ℕ) → dialect_of n ≡ Some t →
      rows_in table ≡ Some (h ∷ rs) → CarriedTable t h rs → length (table_text (into t) (h ∷ rs)) ≤ room → length (concat (h ∷ rs)) ≤ places →
      (writer n table room ≡ record { report = accepted; text = table_text (into t) (h ∷ rs) })
      × ReadsBack n table (h ∷ rs) (table_text (into t) (h ∷ rs)) (reader n (table_text (into t) (h ∷ rs)) places)
  -- any rows of values, and no others, are those of a table, up to where the contents lie: nothing hides in how its lists are laid out (§13.1
  -- §13.2)
  pub every_table : (h : List Value) (rs : List (List Value)) → ValueRows h rs ↔ ((table : Table) × TableOf h rs table)
  -- so rows of values that the dialect can represent within the limits have a table; each table of them is written, as the same text;
  -- and the text is read back as these rows (§19.3)
  pub rows_come_back :
      (n : ℕ) (t : Dialect) (h : List Value) (rs : List (List Value)) (room places : ℕ) → dialect_of n ≡ Some t → ValueRows h rs → CarriedTable t h rs →
      length (table_text (into t) (h ∷ rs)) ≤ room → length (concat (h ∷ rs)) ≤ places →
      ((table : Table) × TableOf h rs table)
      × ((table : Table) → TableOf h rs table → writer n table room ≡ record { report = accepted; text = table_text (into t) (h ∷ rs) })
      × ReadAsRows n h rs (table_text (into t) (h ∷ rs)) (reader n (table_text (into t) (h ∷ rs)) places)
  -- written and read back: the same columns, row count, kinds and contents (§19.3)
  pub round_trip : RoundTrip
  -- canonical text is canonical, and what was converted is read in the target as the file is in its source
  pub same_text : SameText
  pub converted_once : ConvertedOnce
  pub converted_back : ConvertedBack
  -- a text that was accepted is no longer than a file may be (§8.6)
  pub converted_limit : (m n : ℕ) (file : Bytes) (room : ℕ) → length (converter m n file room).text ≤ MAXFILE
  pub written_limit : (n : ℕ) (table : Table) (room : ℕ) → length (writer n table room).text ≤ MAXFILE
  -- six bytes for each byte of a file, and six more, are room enough for any conversion of it (§15.10)
  pub converted_room : (m n : ℕ) (file : Bytes) (room : ℕ) → 6 * (length file + 1) ≤ room → (converter m n file room).report ≢ refusal 10

-- ---- demand 3

-- a call as it was made on the code: its lent output before it, what it returned, and its output after it (§15.1 §15.3)
pub record MadeCall : Type 0 where
  pub call : Call
  pub before : List ℕ
  pub told : TextAnswer
  pub after : List ℕ

-- any list of calls, refused ones too, on a new converter, and the state that it led to; of a call only its contract is known (§15.1 §16.1)
pub data LedTo (m n : ℕ) : List MadeCall → Converter → Type 0 where
  fresh : LedTo m n [] (new_converter m n)
  one_more_lem :
      {made : List MadeCall} {s next : Converter} {x : MadeCall} → LedTo m n made s → room_of x.call ≡ length x.before →
      CallContract s x.call x.before x.told next x.after → LedTo m n (made ++ (x ∷ [])) next

-- the calls as the ledger sees them (§16.2)
abbrev pub calls_of : List MadeCall → List Call
calls_of made = map (λ (x : MadeCall). x.call) made

-- its own answers to them, by which it knows what came before a call (§16.3)
abbrev pub entries_of : (source target : ℕ) → List MadeCall → List Entry
entries_of m n made = history m n (calls_of made)

-- the bytes consumed (§16.4)
abbrev pub consumed_by : (source target : ℕ) → List MadeCall → Bytes
consumed_by m n made = consumed_in (entries_of m n made)

-- the outputs joined: of each call the bytes that it says it wrote (§15.3)
abbrev pub joined_outputs : List MadeCall → Bytes
joined_outputs made = concat (map (λ (x : MadeCall). take x.told.length x.after) made)

pub record Demand3 : Type 0 where
  -- in every list each report and length is the ledger's, and each byte of an output is the ledger's or as it was (§16.1 §19.4)
  pub every_list :
      (m n : ℕ) (made : List MadeCall) (s : Converter) → LedTo m n made s →
      (map (λ (x : MadeCall). x.told) made ≡ map text_answer (ledger m n (calls_of made)))
      × (map (λ (x : MadeCall). x.after) made ≡ zip_with call_leaves (ledger m n (calls_of made)) (map (λ (x : MadeCall). x.before) made))
  -- a call that one of the four checks refuses changes neither the state nor its output (§15.8)
  pub refused :
      (m n : ℕ) (made : List MadeCall) (s next : Converter) (c : Call) (out out' : List ℕ) (told : TextAnswer) → LedTo m n made s →
      CallContract s c out told next out' → checked m n (entries_of m n made) c ≡ true → (next ≡ s) × (out' ≡ out)
  -- the outputs joined are the canonical text of the records completed in the bytes consumed before any fault (§16.7 §19.4)
  pub joined :
      (m n : ℕ) (d t : Dialect) (made : List MadeCall) (s : Converter) → dialect_of m ≡ Some d → dialect_of n ≡ Some t → LedTo m n made s →
      joined_outputs made ≡ table_text (into t) (rows (records_of (seen_in d (into t) (entries_of m n made))))
  -- once an end call was accepted, the whole converter accepts the bytes consumed too, and its text is the outputs joined (§16.6 §19.4)
  pub whole_text :
      (m n : ℕ) (made : List MadeCall) (s : Converter) → LedTo m n made s → ended_in (entries_of m n made) ≡ true →
      converter m n (consumed_by m n made) MAXFILE ≡ record { report = accepted; text = joined_outputs made }
  -- an end call that no check refuses reports what the whole converter does for the bytes consumed (§16.6)
  pub end_is_whole :
      (m n : ℕ) (made : List MadeCall) (s next : Converter) (out out' : List ℕ) (told : TextAnswer) → LedTo m n made s →
      CallContract s (finish (length out)) out told next out' → checked m n (entries_of m n made) (finish (length out)) ≡ false →
      told.report ≡ (converter m n (consumed_by m n made) MAXFILE).report
  -- and so does any call, of a piece too, that reports a file fault (§15.5 §16.5 §16.6)
  pub fault_is_whole :
      (m n : ℕ) (made : List MadeCall) (s : Converter) → LedTo m n made s →
      All (λ (x : MadeCall). is_file_fault x.told.report ≡ true → x.told.report ≡ (converter m n (consumed_by m n made) MAXFILE).report) made
  -- a fault that a piece call finds, and the records before it, are those of every file that begins with the bytes consumed (§16.5
  -- §16.7)
  pub fault_of_every_file :
      (m n : ℕ) (d t : Dialect) (made : List MadeCall) (s next : Converter) (bs out out' : List ℕ) (told : TextAnswer) → dialect_of m ≡ Some d →
      dialect_of n ≡ Some t → LedTo m n made s → fault_in (entries_of m n made) ≡ None → CallContract s (piece bs (length out)) out told next out' →
      is_file_fault told.report ≡ true →
      (e : Fault) × (r : Read) × (told.report ≡ fault_report e r)
      × ((rest : Bytes) →
      (read_file d (Some (into t)) (consumed_by m n made ++ bs ++ rest) ≡ stopped e r)
      × ((converter m n (consumed_by m n made ++ bs ++ rest) MAXFILE).report ≡ told.report))
  -- no call writes past its output, which is as long as it was: 49,152 bytes are always enough (§15.11)
  pub room :
      (m n : ℕ) (made : List MadeCall) (s : Converter) → LedTo m n made s →
      All (λ (x : MadeCall). (x.told.length ≤ length x.before) × (length x.after ≡ length x.before)) made
  -- 10 is for the sizes alone, and never for a call that was taken (§15.7)
  pub ten :
      (m n : ℕ) (made : List MadeCall) (s : Converter) → LedTo m n made s →
      All (λ (x : MadeCall). x.told.report.number ≡ 10 → too_small x.call ≡ true) made
  -- the state shows the records that the bytes consumed complete before any fault, after a fault and an accepted end too: how many
  -- they are, the header's columns, and the raw bytes of its names. A last record that only the end completes is not counted (§15.2)
  pub shown :
      (m n : ℕ) (d t : Dialect) (made : List MadeCall) (s : Converter) → dialect_of m ≡ Some d → dialect_of n ≡ Some t → LedTo m n made s →
      StateShows d t (consumed_by m n made) s
  -- and how many bytes were consumed, as long as no fault was found (§15.2)
  pub counted :
      (m n : ℕ) (made : List MadeCall) (s : Converter) → LedTo m n made s → fault_in (entries_of m n made) ≡ None →
      s.offset ≡ length (consumed_by m n made)
  -- from any state, made by calls or not, the length is within the output, which is as long as it was (§15.9)
  pub any_state :
      (s next : Converter) (c : Call) (out out' : List ℕ) (told : TextAnswer) → CallContract s c out told next out' →
      (told.length ≤ length out) × (length out' ≡ length out)

pub record Demands : Type 0 where
  pub one : Demand1
  pub two : Demand2
  pub three : Demand3
