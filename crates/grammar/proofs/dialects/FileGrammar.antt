-- The grammars and reading by form, over the dialect. A derivation is read with its raw cells; each of its cells is derived, so kind and
-- content are the decoder's (`lines_decoded`); it has a record; and what is read is derived.
use mathlib.Core.Path.{◌≡◌, refl, sym, ap, ◌∙◌}
use mathlib.Core.Logic.{◌↔◌}
use mathlib.Core.List.{List, ◌∷◌, map}
use Rattle.grammar.specs.rfc.Types.{Dialect, Csvj, Tdif, CsvPlus, Settings, Top}
use Rattle.model.specs.rules.Base.{Bytes}
use Rattle.grammar.specs.rfc.Derived.{Derived, raw_of, Line, line, spelling, Every, every_none, every_cons}
use Rattle.grammar.specs.dialects.Derives.{DerivesCell, Derives}
use Rattle.grammar.specs.dialects.FormReads.{Reads, decoded, decoded_line, ReadByForm, read_by_form}
use Rattle.grammar.specs.dialects.Spans.{stretches}
use Rattle.grammar.specs.dialects.Csvj as csvj
use Rattle.grammar.specs.dialects.Tdif as tdif
use Rattle.grammar.specs.dialects.CsvPlus as plus
use Rattle.grammar.proofs.dialects.CellGrammar.{derived_content}
use Rattle.grammar.proofs.dialects.FormSteps.{reads_once}
use Rattle.grammar.proofs.dialects.ReadsWithSpans.{Runs, reads}
use Rattle.grammar.proofs.dialects.CsvjFiles as csvj-files
use Rattle.grammar.proofs.dialects.TdifFiles as tdif-files
use Rattle.grammar.proofs.dialects.PlusFiles as plus-files

-- ---- every cell of a derivation is derived

pub data CellsDerived (d : Dialect) : Line Derived → Type 0 where
  cells_derived : {text : Bytes} {cells : List Derived} → Every (DerivesCell d) cells → CellsDerived d (line text cells)

-- a derivation has a record, and its cells are derived
pub data LinesDerived (d : Dialect) : List (Line Derived) → Type 0 where
  lines_derived : {l : Line Derived} {ls : List (Line Derived)} → CellsDerived d l → Every (CellsDerived d) ls → LinesDerived d (l ∷ ls)

csvj_values : {text : Bytes} {cells : List Derived} → csvj.Values text cells → Every (DerivesCell Csvj) cells
csvj_values (csvj.value v) = every_cons v every_none
csvj_values (csvj.values v c k) = every_cons v (csvj_values k)

csvj_text : {text : Bytes} {cells : List Derived} → csvj.Line-text text cells → Every (DerivesCell Csvj) cells
csvj_text (csvj.empty a b) = every_none
csvj_text (csvj.filled a k b) = csvj_values k

csvj_line : {bs : Bytes} {l : Line Derived} → csvj.Line bs l → CellsDerived Csvj l
csvj_line (csvj.ended t e) = cells_derived (csvj_text t)

csvj_lines : {xs : Bytes} {ls : List (Line Derived)} → csvj.Data-lines xs ls → Every (CellsDerived Csvj) ls
csvj_lines csvj.no_line = every_none
csvj_lines (csvj.a_line (csvj.data_line l) k) = every_cons (csvj_line l) (csvj_lines k)

csvj_first : {xs : Bytes} {ls : List (Line Derived)} → csvj.Csvj-file xs ls → LinesDerived Csvj ls
csvj_first (csvj.csvj_file_lem (csvj.header_line l) k) = lines_derived (csvj_line l) (csvj_lines k)

csvj_file_lem : {xs : Bytes} {ls : List (Line Derived)} → csvj.File xs ls → LinesDerived Csvj ls
csvj_file_lem (csvj.unmarked k) = csvj_first k
csvj_file_lem (csvj.marked k) = csvj_first k

tdif_fields : {text : Bytes} {cells : List Derived} → tdif.Fields text cells → Every (DerivesCell Tdif) cells
tdif_fields (tdif.field v) = every_cons v every_none
tdif_fields (tdif.fields v c k) = every_cons v (tdif_fields k)

tdif_record : {bs : Bytes} {l : Line Derived} → tdif.Record bs l → CellsDerived Tdif l
tdif_record (tdif.ended f b) = cells_derived (tdif_fields f)

tdif_lines : {xs : Bytes} {ls : List (Line Derived)} → tdif.Lines xs ls → Every (CellsDerived Tdif) ls
tdif_lines tdif.no_line = every_none
tdif_lines (tdif.a_comment c k) = tdif_lines k
tdif_lines (tdif.a_record r k) = every_cons (tdif_record r) (tdif_lines k)

tdif_file : {xs : Bytes} {ls : List (Line Derived)} → tdif.File xs ls → LinesDerived Tdif ls
tdif_file (tdif.comment_first c k) = tdif_file k
tdif_file (tdif.header_first (tdif.header r) k) = lines_derived (tdif_record r) (tdif_lines k)

module _ (s : Settings) where
  plus_record : {text : Bytes} {cells : List Derived} → plus.Record s text cells → Every (DerivesCell (CsvPlus s)) cells
  plus_record (plus.field v) = every_cons v every_none
  plus_record (plus.fields v c k) = every_cons v (plus_record k)

  some_lines : {ls : List (Line Derived)} → LinesDerived (CsvPlus s) ls → Every (CellsDerived (CsvPlus s)) ls
  some_lines (lines_derived l k) = every_cons l k

  plus_records : {xs : Bytes} {ls : List (Line Derived)} → plus.Records s xs ls → LinesDerived (CsvPlus s) ls
  plus_records (plus.unended r) = lines_derived (cells_derived (plus_record r)) every_none
  plus_records (plus.last r e) = lines_derived (cells_derived (plus_record r)) every_none
  plus_records (plus.next r e k) = lines_derived (cells_derived (plus_record r)) (some_lines (plus_records k))

  plus_file : {xs : Bytes} {ls : List (Line Derived)} → plus.File s xs ls → LinesDerived (CsvPlus s) ls
  plus_file (plus.file n k) = plus_records (plus-files.table_records s k)

pub file_derived : (d : Dialect) (xs : Bytes) (ls : List (Line Derived)) → Derives d xs ls → LinesDerived d ls
file_derived Csvj xs ls k = csvj_file_lem k
file_derived Tdif xs ls k = tdif_file k
file_derived (CsvPlus s) xs ls k = plus_file s k

-- ---- so kind and content are the decoder's

cells_decoded : (d : Dialect) {cells : List Derived} → Every (DerivesCell d) cells → map (decoded d) (map raw_of cells) ≡ cells
cells_decoded d every_none = refl
cells_decoded d (every_cons {x = c} {xs} v k) = rw (← (derived_content d c v), cells_decoded d k)

line_decoded : {d : Dialect} {l : Line Derived} → CellsDerived d l → decoded_line d (spelling l) ≡ l
unfolding decoded_line spelling
line_decoded {d} (cells_derived {text} k) = ap (line text) (cells_decoded d k)

lines_decoded : (d : Dialect) {ls : List (Line Derived)} → Every (CellsDerived d) ls → map (decoded_line d) (map spelling ls) ≡ ls
lines_decoded d every_none = refl
lines_decoded d (every_cons {x = l} {xs = ls} v k) = rw (line_decoded v, lines_decoded d k)

-- ---- the theorem

-- a derived file is read, and each cell lies where the derivation has it
pub derived_runs : (d : Dialect) (xs : Bytes) (ls : List (Line Derived)) (k : Derives d xs ls) → Runs d Top 0 0 xs (map spelling ls) (stretches d xs ls k)
derived_runs Csvj xs ls k = csvj-files.file_reads k
derived_runs Tdif xs ls k = tdif-files.file_reads k
derived_runs (CsvPlus s) xs ls k = plus-files.file_reads s k

pub derived_reads : (d : Dialect) (xs : Bytes) (ls : List (Line Derived)) → Derives d xs ls → Reads d Top xs (map spelling ls)
derived_reads d xs ls k = reads (derived_runs d xs ls k)

pub reads_derived : (d : Dialect) {xs : Bytes} {l : Line Bytes} {ls : List (Line Bytes)} → Reads d Top xs (l ∷ ls) → Derives d xs (map (decoded_line d) (l ∷ ls))
reads_derived Csvj r = csvj-files.reads_file r
reads_derived Tdif r = tdif-files.reads_file r
reads_derived (CsvPlus s) r = plus-files.reads_file s r

derived_form : (d : Dialect) {xs : Bytes} {ls : List (Line Derived)} → LinesDerived d ls → Reads d Top xs (map spelling ls) → ReadByForm d xs ls
derived_form d (lines_derived {l} {ls} v k) r = rw (← (lines_decoded d (every_cons v k))) (read_by_form (spelling l) (map spelling ls) r)

form_derived : (d : Dialect) {xs : Bytes} {ls : List (Line Derived)} → ReadByForm d xs ls → Derives d xs ls
form_derived d (read_by_form l ls r) = reads_derived d r

-- reading accepts a file by form with these records, raw cells, kinds and contents exactly when the grammar derives it with them
pub grammar_exact : (d : Dialect) (xs : Bytes) (ls : List (Line Derived)) → Derives d xs ls ↔ ReadByForm d xs ls
grammar_exact d xs ls = ((λ k. derived_form d (file_derived d xs ls k) (derived_reads d xs ls k)), form_derived d)

-- a file has at most one list of records, raw cells, kinds and contents
pub some_decoded : (d : Dialect) {ls : List (Line Derived)} → LinesDerived d ls → map (decoded_line d) (map spelling ls) ≡ ls
some_decoded d (lines_derived v k) = lines_decoded d (every_cons v k)

pub unambiguous : (d : Dialect) (xs : Bytes) (ls ms : List (Line Derived)) → Derives d xs ls → Derives d xs ms → ls ≡ ms
unambiguous d xs ls ms k m =
    sym (some_decoded d (file_derived d xs ls k)) ∙
    ap (map (decoded_line d)) (reads_once xs Top (map spelling ls) (map spelling ms) (derived_reads d xs ls k) (derived_reads d xs ms m)) ∙
    some_decoded d (file_derived d xs ms m)
