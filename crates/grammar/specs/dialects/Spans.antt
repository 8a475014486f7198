-- Where each cell of a derivation lies in the file. One position runs through the derivation's texts, in their order: the byte order
-- mark, comments, blanks, cells, what separates them, and the endings of records.
use Rattle.std.specs.Prelude.{ℕ, suc, List, [], ◌∷◌, map}
use Rattle.grammar.specs.rfc.Types.{Settings, Dialect, Csvj, Tdif, CsvPlus}
use Rattle.model.specs.rules.Base.{Bytes}
use Rattle.model.specs.rules.Text.{Value}
use Rattle.model.specs.rules.Records.{Rec}
use Rattle.grammar.specs.rfc.Derived.{Derived, Line}
use Rattle.grammar.specs.dialects.Derives.{Derives}
use Rattle.grammar.specs.dialects.Csvj as csvj
use Rattle.grammar.specs.dialects.Tdif as tdif
use Rattle.grammar.specs.dialects.CsvPlus as plus

-- from the offset of its first byte up to the offset after its last one
pub record Span : Type 0 where
  pub from : ℕ
  pub upto : ℕ

abbrev pub span : (from upto : ℕ) → Span
span from upto = record { from = from; upto = upto }

-- the offset after these bytes, the first of which is at o
abbrev pub past : Bytes → ℕ → ℕ
past [] o = o
past (b ∷ bs) o = past bs (suc o)

-- a raw cell that begins at o
abbrev pub cell_at : ℕ → Bytes → Span
cell_at o raw = span o (past raw o)

-- ---- CSVJ

abbrev pub csvj_values : ℕ → {text : Bytes} {cells : List Derived} → csvj.Values text cells → List Span
csvj_values o (csvj.value {raw} v) = cell_at o raw ∷ []
csvj_values o (csvj.values {raw} {cs} v c vs) = cell_at o raw ∷ csvj_values (past cs (past raw o)) vs

abbrev pub csvj_text : ℕ → {text : Bytes} {cells : List Derived} → csvj.Line-text text cells → List Span
csvj_text o (csvj.empty w v) = []
csvj_text o (csvj.filled {ws} w vs v) = csvj_values (past ws o) vs

abbrev pub csvj_line : ℕ → {bs : Bytes} {l : Line Derived} → csvj.Line bs l → List Span
csvj_line o (csvj.ended t e) = csvj_text o t

abbrev pub csvj_lines : ℕ → {xs : Bytes} {ls : List (Line Derived)} → csvj.Data-lines xs ls → List (List Span)
csvj_lines o csvj.no_line = []
csvj_lines o (csvj.a_line {bs} (csvj.data_line l) ls) = csvj_line o l ∷ csvj_lines (past bs o) ls

abbrev pub csvj_table : ℕ → {xs : Bytes} {ls : List (Line Derived)} → csvj.Csvj-file xs ls → List (List Span)
csvj_table o (csvj.csvj_file_lem {bs} (csvj.header_line l) ls) = csvj_line o l ∷ csvj_lines (past bs o) ls

-- the byte order mark has three bytes
abbrev pub csvj_file : {xs : Bytes} {ls : List (Line Derived)} → csvj.File xs ls → List (List Span)
csvj_file (csvj.unmarked t) = csvj_table 0 t
csvj_file (csvj.marked t) = csvj_table 3 t

-- ---- TDIF

abbrev pub tdif_fields : ℕ → {text : Bytes} {cells : List Derived} → tdif.Fields text cells → List Span
tdif_fields o (tdif.field {raw} f) = cell_at o raw ∷ []
tdif_fields o (tdif.fields {raw} f c fs) = cell_at o raw ∷ tdif_fields (suc (past raw o)) fs

abbrev pub tdif_record : ℕ → {bs : Bytes} {l : Line Derived} → tdif.Record bs l → List Span
tdif_record o (tdif.ended fs e) = tdif_fields o fs

abbrev pub tdif_lines : ℕ → {xs : Bytes} {ls : List (Line Derived)} → tdif.Lines xs ls → List (List Span)
tdif_lines o tdif.no_line = []
tdif_lines o (tdif.a_comment {cs} c ls) = tdif_lines (past cs o) ls
tdif_lines o (tdif.a_record {bs} r ls) = tdif_record o r ∷ tdif_lines (past bs o) ls

-- comments before the header are no records
abbrev pub tdif_file : ℕ → {xs : Bytes} {ls : List (Line Derived)} → tdif.File xs ls → List (List Span)
tdif_file o (tdif.comment_first {cs} c f) = tdif_file (past cs o) f
tdif_file o (tdif.header_first {bs} (tdif.header r) ls) = tdif_record o r ∷ tdif_lines (past bs o) ls

-- ---- CSV+

module _ (s : Settings) where
  abbrev pub plus_header : ℕ → {text : Bytes} {cells : List Derived} → plus.Header s text cells → List Span
  plus_header o (plus.a_name {raw} n) = cell_at o raw ∷ []
  plus_header o (plus.names {raw} n c ns) = cell_at o raw ∷ plus_header (suc (past raw o)) ns

  abbrev pub plus_record : ℕ → {text : Bytes} {cells : List Derived} → plus.Record s text cells → List Span
  plus_record o (plus.field {raw} f) = cell_at o raw ∷ []
  plus_record o (plus.fields {raw} f c fs) = cell_at o raw ∷ plus_record (suc (past raw o)) fs

  abbrev pub plus_records : ℕ → {xs : Bytes} {ls : List (Line Derived)} → plus.Records s xs ls → List (List Span)
  plus_records o (plus.unended r) = plus_record o r ∷ []
  plus_records o (plus.last r e) = plus_record o r ∷ []
  plus_records o (plus.next {text} {es} r e rs) = plus_record o r ∷ plus_records (past es (past text o)) rs

  abbrev pub plus_table : ℕ → {xs : Bytes} {ls : List (Line Derived)} → plus.Table s xs ls → List (List Span)
  plus_table o (plus.header_unended h) = plus_header o h ∷ []
  plus_table o (plus.header_alone h e) = plus_header o h ∷ []
  plus_table o (plus.header_then {text} {es} h e rs) = plus_header o h ∷ plus_records (past es (past text o)) rs

  abbrev pub plus_file : {xs : Bytes} {ls : List (Line Derived)} → plus.File s xs ls → List (List Span)
  plus_file (plus.file n t) = plus_table 0 t

-- ---- over the dialect

-- the spans of a derivation's cells, record by record
abbrev pub stretches : (d : Dialect) (xs : Bytes) (ls : List (Line Derived)) → Derives d xs ls → List (List Span)
stretches Csvj xs ls k = csvj_file k
stretches Tdif xs ls k = tdif_file 0 k
stretches (CsvPlus s) xs ls k = plus_file s k

-- the spans of the cells that were read, record by record
abbrev pub span_of : Value → Span
span_of v = span v.from v.upto

abbrev pub shown : List Rec → List (List Span)
shown = map (λ (r : Rec). map span_of r.cells)
