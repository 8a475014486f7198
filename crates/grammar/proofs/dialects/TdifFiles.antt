-- The grammar of TDIF derives exactly the files that its automaton reads by form. A CR that ends a line leaves the automaton where an LF
-- would be skipped; no line begins with LF, so CR LF is one linebreak in the grammar too.
use Prim.Native.Nat.{ℕ, suc, ◌≤◌}
use native.Mathlib.Omega.{arith}
use mathlib.Core.Path.{◌≡◌, refl, ap, ◌∙◌}
use mathlib.Core.Logic.{◌≢◌}
use mathlib.Core.Bool.{Bool, true, false}
use mathlib.Core.List.{List, [], ◌∷◌, ◌++◌, map, append_assoc}
use borrow.Author.Tests.{ne_eqb}
use Rattle.grammar.specs.rfc.Types.{Tdif, Char, Whole, Cell, Fresh, More}
use Rattle.grammar.specs.rfc.Types.{FileState, Top, Begin, Ended, Comment, Inside, Outside, Ends, Step, Ok, Clean}
use Rattle.model.specs.rules.Base.{Bytes, COMMA, ◌is◌, choose◌then◌else◌}
use Rattle.model.specs.rules.Utf8.{char_step}
use Rattle.model.specs.rules.Cell.{first_byte, cell_step, is_whole}
use Rattle.model.specs.rules.File.{after_cell, in_cell, begin_record, begin_file, commented, file_step, file_end}
use Rattle.model.proofs.Tests.{split, is→eq}
use Rattle.model.proofs.cell_laws.Utf8.{ascii_whole}
use Rattle.model.proofs.cell_laws.CellContent.{d_tdif}
use Rattle.grammar.specs.rfc.Rfc5234.{LF, CR}
use Rattle.grammar.specs.rfc.Derived.{Derived, raw_of, Line, line, spelling}
use Rattle.grammar.specs.dialects.FormReads.{Reads, decoded, decoded_line}
use Rattle.grammar.specs.dialects.Spans.{Span, past, cell_at, tdif_fields, tdif_record, tdif_lines, tdif_file}
use Rattle.grammar.specs.dialects.Tdif.{comment_first, header_first, no_line, a_comment, a_record, header, ended, Fields, field, fields}
use Rattle.grammar.specs.dialects.Tdif.{comment, Remark, no_remark, commentdata, below_lf, below_cr, above_cr, comment_beyond, comma, hash}
use Rattle.grammar.specs.dialects.Tdif.{Linebreak, cr, lf, crlf}
use Rattle.grammar.specs.dialects.Tdif as tdif
use Rattle.grammar.proofs.rfc.Chars.{Finishes, finished, finishing, Long, long, data_long, first_high}
use Rattle.grammar.proofs.dialects.CellGrammar.{derived_spells, spells_derived}
use Rattle.grammar.proofs.dialects.Separators.{by_cr, by_lf}
use Rattle.grammar.proofs.dialects.FormSteps.{Takes, rejected, cut_off}
use Rattle.grammar.proofs.dialects.FormSteps as steps
use Rattle.grammar.proofs.dialects.ReadsWithSpans.{Runs, ends_clean, outside, passed, ends_closing, from_state, past_append}
use Rattle.grammar.proofs.dialects.CellReads.{Follows, after_whole, FirstOfCell, first_of_cell, spells_first, other_byte, CellThen, cell_then}
use Rattle.grammar.proofs.dialects.CellReads.{AfterByte, ended_before, ends_now}
use Rattle.grammar.proofs.dialects.Delimited.{Cells, one_cell, more_cells, cells_at, cells_read, RecordThen, record_then, After, at_tail}
use Rattle.grammar.proofs.dialects.Delimited.{record_of, delimiter_taken}
use Rattle.grammar.proofs.dialects.Continuations.{Grammar, BreakThen, break_then, break_cr, InComment, in_comment, Then, cell_byte, Facts, reads_coming}

-- ---- fields are cells with commas between them

fields_cells : {text : Bytes} {cells : List Derived} → Fields text cells → Cells Tdif text (map raw_of cells)
fields_cells (field v) = one_cell (derived_spells Tdif _ v)
fields_cells (fields v comma f) = more_cells (derived_spells Tdif _ v) (fields_cells f)

fields_placed : (o : ℕ) {text : Bytes} {cells : List Derived} (m : Fields text cells) → cells_at o (fields_cells m) ≡ tdif_fields o m
unfolding fields_cells
fields_placed o (field v) = refl
fields_placed o (fields {raw} v comma f) = ap (λ ps. cell_at o raw ∷ ps) (fields_placed (suc (past raw o)) f)

cells_fields : {text : Bytes} {cells : List Bytes} → Cells Tdif text cells → Fields text (map (decoded Tdif) cells)
cells_fields (one_cell {raw} m) = field (spells_derived Tdif raw m)
cells_fields (more_cells {raw} m n) = fields (spells_derived Tdif raw m) comma (cells_fields n)

-- ---- a derived file is read

-- where a line may begin
data Opening : FileState → Type 0 where
  at_top : Opening Top
  at_begin : Opening Begin
  at_ended : Opening Ended

-- from each of these states
abbrev FromLine : ℕ → Bytes → List (Line Bytes) → List (List Span) → Type 0
FromLine o xs ls ss = (f : FileState) → Opening f → Runs Tdif f o o xs ls ss

-- the first byte of a field is not of a comment and no LF
open_field : {f : FileState} (b : ℕ) (e : Cell) → Opening f → cell_step Tdif Fresh b ≡ More e → file_step Tdif f b ≡ file_step Tdif (Inside Fresh) b
unfolding file_step begin_file begin_record in_cell cell_step first_byte choose◌then◌else◌
open_field b e at_top s = rw (other_byte Tdif b 0x23 e s refl)
open_field b e at_begin s = rw (other_byte Tdif b 0x23 e s refl)
open_field b e at_ended s = rw (other_byte Tdif b 0x23 e s refl, other_byte Tdif b LF e s refl)

cells_first : {text : Bytes} {cells : List Bytes} (ys : Bytes) → Cells Tdif text cells → FirstOfCell Tdif (text ++ ys)
unfolding is_whole
cells_first ys (one_cell m) = spells_first refl m ys
cells_first ys (more_cells {raw} {text} m n) = rw (append_assoc raw (COMMA ∷ text) ys) (spells_first refl m (COMMA ∷ (text ++ ys)))

from_first :
    {o : ℕ} {xs : Bytes} {ls : List (Line Bytes)} {ss : List (List Span)} → FirstOfCell Tdif xs → Runs Tdif (Inside Fresh) o o xs ls ss →
    FromLine o xs ls ss
from_first (first_of_cell {b} {e} s) r f o = from_state (open_field b e o s) r

-- a linebreak after a field
break_follows :
    {o : ℕ} {es zs : Bytes} {ls : List (Line Bytes)} {ss : List (List Span)} → Linebreak es → FromLine (past es o) zs ls ss →
    Follows Tdif o (es ++ zs) [] [] ls [] ss
unfolding after_cell file_step choose◌then◌else◌
break_follows cr k c p r w = ends_closing (after_whole Tdif c CR r w by_cr) (k Ended at_ended)
break_follows lf k c p r w = ends_closing (after_whole Tdif c LF r w by_lf) (k Begin at_begin)
break_follows crlf k c p r w = ends_closing (after_whole Tdif c CR r w by_cr) (passed refl (k Begin at_begin))

-- a linebreak after a comment
break_reads :
    {o : ℕ} {es zs : Bytes} {ls : List (Line Bytes)} {ss : List (List Span)} → Linebreak es → FromLine (past es o) zs ls ss →
    Runs Tdif (Comment Whole) o o (es ++ zs) ls ss
unfolding file_step choose◌then◌else◌
break_reads cr k = passed refl (k Ended at_ended)
break_reads lf k = passed refl (k Begin at_begin)
break_reads crlf k = passed refl (passed refl (k Begin at_begin))

comment_step : (b : ℕ) → b ≢ LF → b ≢ CR → file_step Tdif (Comment Whole) b ≡ commented (char_step Whole b)
unfolding file_step choose◌then◌else◌
comment_step b n m = rw (ne_eqb b LF n, ne_eqb b CR m)

ascii_reads :
    (b : ℕ) {o : ℕ} {ys : Bytes} {ls : List (Line Bytes)} {ss : List (List Span)} → b ≤ 0x7F → b ≢ LF → b ≢ CR →
    Runs Tdif (Comment Whole) (suc o) (suc o) ys ls ss →
    Runs Tdif (Comment Whole) o o (b ∷ ys) ls ss
ascii_reads b h n m k = outside (comment_step b n m ∙ ap commented (ascii_whole b h)) k

finish_reads :
    {c : Char} {o : ℕ} {cs ys : Bytes} {ls : List (Line Bytes)} {ss : List (List Span)} → Finishes c cs →
    Runs Tdif (Comment Whole) (past cs o) (past cs o) ys ls ss →
    Runs Tdif (Comment c) o o (cs ++ ys) ls ss
unfolding file_step
finish_reads finished k = k
finish_reads (finishing e m) k = outside (ap commented e) (finish_reads m k)

long_reads :
    {o : ℕ} {cs ys : Bytes} {ls : List (Line Bytes)} {ss : List (List Span)} → Long cs → Runs Tdif (Comment Whole) (past cs o) (past cs o) ys ls ss →
    Runs Tdif (Comment Whole) o o (cs ++ ys) ls ss
long_reads (long {i} {b} e m) k =
    let h : 0x80 ≤ b = first_high b i e in
    outside (comment_step b (λ z. omega arith) (λ z. omega arith) ∙ ap commented e) (finish_reads m k)

remark_reads :
    {o : ℕ} {bs ys : Bytes} {ls : List (Line Bytes)} {ss : List (List Span)} → Remark bs → Runs Tdif (Comment Whole) (past bs o) (past bs o) ys ls ss →
    Runs Tdif (Comment Whole) o o (bs ++ ys) ls ss
remark_reads no_remark k = k
remark_reads (commentdata (below_lf {b} r) m) k =
    let h : b ≤ 0x09 = r.high in ascii_reads b (omega arith) (λ e. omega arith) (λ e. omega arith) (remark_reads m k)
remark_reads (commentdata (below_cr {b} r) m) k =
    let h : 0x0B ≤ b = r.low in let j : b ≤ 0x0C = r.high in ascii_reads b (omega arith) (λ e. omega arith) (λ e. omega arith) (remark_reads m k)
remark_reads (commentdata (above_cr {b} r) m) k = let h : 0x0E ≤ b = r.low in ascii_reads b r.high (λ e. omega arith) (λ e. omega arith) (remark_reads m k)
remark_reads {o} {ys} (commentdata {cs} {bs} (comment_beyond u) m) k =
    rw (append_assoc cs bs ys) (long_reads (data_long u) (remark_reads m (rw (past_append cs bs o) at k)))

hash_step : {f : FileState} → Opening f → file_step Tdif f 0x23 ≡ Ok (Comment Whole, Outside)
unfolding file_step begin_file begin_record choose◌then◌else◌
hash_step at_top = refl
hash_step at_begin = refl
hash_step at_ended = refl

comment_reads :
    {o : ℕ} {cs xs : Bytes} {ls : List (Line Bytes)} {ss : List (List Span)} → tdif.Comment cs → FromLine (past cs o) xs ls ss →
    FromLine o (cs ++ xs) ls ss
comment_reads {o} {xs} (comment {bs} {es} hash m b) k f g =
    rw (append_assoc bs es xs) (outside (hash_step g) (remark_reads m (break_reads b (rw (past_append bs es (suc o)) at k))))

record_reads :
    (o : ℕ) {bs xs : Bytes} {l : Line Derived} {ls : List (Line Bytes)} {ss : List (List Span)} (r : tdif.Record bs l) → FromLine (past bs o) xs ls ss →
    FromLine o (bs ++ xs) (spelling l ∷ ls) (tdif_record o r ∷ ss)
unfolding spelling
record_reads o {xs} (ended {text} {es} m b) k =
    let n = fields_cells m in
    rw (append_assoc text es xs, ← (fields_placed o m))
    (from_first (cells_first (es ++ xs) n) (cells_read d_tdif o n (break_follows b (rw (past_append text es o) at k))))

clean_end : {f : FileState} → Opening f → file_end Tdif f ≡ Clean
unfolding file_end
clean_end at_top = refl
clean_end at_begin = refl
clean_end at_ended = refl

none_reads : (o : ℕ) → FromLine o [] [] []
none_reads o f g = ends_clean (clean_end g)

lines_read : (o : ℕ) {xs : Bytes} {ls : List (Line Derived)} (k : tdif.Lines xs ls) → FromLine o xs (map spelling ls) (tdif_lines o k)
lines_read o no_line = none_reads o
lines_read o (a_comment {cs} c k) = comment_reads c (lines_read (past cs o) k)
lines_read o (a_record {bs} r k) = record_reads o r (lines_read (past bs o) k)

pub file_reads : {xs : Bytes} {ls : List (Line Derived)} (k : tdif.File xs ls) → Runs Tdif Top 0 0 xs (map spelling ls) (tdif_file 0 k)
file_reads k = go 0 k Top at_top
  where
    go : (o : ℕ) {xs : Bytes} {ls : List (Line Derived)} (k : tdif.File xs ls) → FromLine o xs (map spelling ls) (tdif_file o k)
    go o (comment_first {cs} c k) = comment_reads c (go (past cs o) k)
    go o (header_first {bs} (header r) k) = record_reads o r (lines_read (past bs o) k)

-- ---- a file that is read is derived

abbrev DerivedLines : Bytes → List (Line Bytes) → Type 0
DerivedLines xs ls = tdif.Lines xs (map (decoded_line Tdif) ls)

abbrev Further : Bytes → Bytes → List Bytes → List (Line Bytes) → Type 0
Further = After Tdif (BreakThen DerivedLines)

abbrev outcome : Grammar
outcome = record { Lines = DerivedLines; Tops = DerivedLines; First = DerivedLines; Further = Further }

abbrev K : Bytes → FileState → List (Line Bytes) → Type 0
K = Then Tdif outcome

record_line :
    {xs text : Bytes} {cells : List Bytes} {ls : List (Line Bytes)} → RecordThen Tdif (BreakThen DerivedLines) xs text cells ls →
    DerivedLines xs (line text cells ∷ ls)
unfolding decoded_line
record_line (record_then {text} n (break_then {es} {zs} b k)) = rw (← (append_assoc text es zs)) (a_record (ended (cells_fields n) b) k)

field_line : {xs : Bytes} {ls : List (Line Bytes)} → CellThen Tdif Further Fresh xs ls → DerivedLines xs ls
field_line (cell_then m a) = record_line (record_of Tdif (BreakThen DerivedLines) (cell_then m a))

comment_line : {xs : Bytes} {ls : List (Line Bytes)} → InComment DerivedLines Whole xs ls → DerivedLines (0x23 ∷ xs) ls
comment_line (in_comment {bs} finished m (break_then {es} {zs} b k)) = rw (← (append_assoc bs es zs)) (a_comment (comment hash m b) k)

module _ (bs : Bytes) where
  lf_taken : (k : Bool) {b : ℕ} {ls : List (Line Bytes)} → Takes (K bs) b (Ok (Begin, Ends k)) ls → AfterByte Further (LF ∷ bs) k ls
  lf_taken true (steps.ends_closing m) = ends_now (at_tail (break_then lf m))
  lf_taken false (steps.ends m) = ended_before (at_tail (break_then lf m))

  cr_taken : (k : Bool) {b : ℕ} {ls : List (Line Bytes)} → Takes (K bs) b (Ok (Ended, Ends k)) ls → AfterByte Further (CR ∷ bs) k ls
  cr_taken true (steps.ends_closing m) = ends_now (at_tail (break_cr DerivedLines m))
  cr_taken false (steps.ends m) = ended_before (at_tail (break_cr DerivedLines m))

  after_byte : (k : Bool) (b : ℕ) (ls : List (Line Bytes)) → Takes (K bs) b (after_cell Tdif k b) ls → AfterByte Further (b ∷ bs) k ls
  unfolding after_cell
  after_byte k b ls =
      let P : Step → Type 0 = λ s. Takes (K bs) b s ls → AfterByte Further (b ∷ bs) k ls in
      split P (b is COMMA) (λ p t. let q = is→eq b COMMA p in rw q (delimiter_taken Tdif (BreakThen DerivedLines) (K bs) k (λ ls m. m) (rw q at t))) λ _.
      split P (b is LF) (λ p t. rw (is→eq b LF p) (lf_taken k t)) λ _.
      split P (b is CR) (λ p t. rw (is→eq b CR p) (cr_taken k t)) λ _ t. rejected t

module _ (bs : Bytes) where
  hash_taken : {b : ℕ} {ls : List (Line Bytes)} → Takes (K bs) b (Ok (Comment Whole, Outside)) ls → DerivedLines (0x23 ∷ bs) ls
  hash_taken (steps.outside k) = comment_line k

  line_byte : (b : ℕ) (ls : List (Line Bytes)) → Takes (K bs) b (begin_record Tdif b) ls → DerivedLines (b ∷ bs) ls
  unfolding begin_record
  line_byte b ls =
      let P : Step → Type 0 = λ s. Takes (K bs) b s ls → DerivedLines (b ∷ bs) ls in
      split P (b is 0x23) (λ p t. rw (is→eq b 0x23 p) (hash_taken t)) λ _ t. field_line (cell_byte Tdif outcome after_byte bs Fresh b ls t)

facts : Facts Tdif outcome
unfolding begin_file
facts =
    record {
      after_byte = after_byte;
      first_byte_lem = line_byte;
      first_line = λ bs b ls k. k;
      top_byte = line_byte;
      no_line = no_line;
      no_top = no_line;
      last_cell_lem = λ c ls t. cut_off t;
    }

pub reads_file : {xs : Bytes} {l : Line Bytes} {ls : List (Line Bytes)} → Reads Tdif Top xs (l ∷ ls) → tdif.File xs (map (decoded_line Tdif) (l ∷ ls))
reads_file {xs} {l} {ls} r = go (reads_coming Tdif outcome facts xs Top (l ∷ ls) r)
  where
    go : {xs : Bytes} {l : Line Derived} {ls : List (Line Derived)} → tdif.Lines xs (l ∷ ls) → tdif.File xs (l ∷ ls)
    go (a_comment c k) = comment_first c (go k)
    go (a_record r k) = header_first (header r) k
