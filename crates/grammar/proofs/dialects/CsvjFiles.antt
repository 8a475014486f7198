-- The grammar of CSVJ derives exactly the files that its automaton reads by form. After a value, and after a space or a tab that
-- follows one, the same may come (`Continues`, `AfterThen`); before a record's first value the same may come as at its beginning.
use Prim.Native.Nat.{ℕ, suc}
use mathlib.Core.Path.{◌≡◌, refl, ◌∙◌}
use mathlib.Core.Bool.{Bool, true, false}
use mathlib.Core.List.{List, [], ◌∷◌, ◌++◌, map, append_assoc, append-nil}
use Rattle.grammar.specs.rfc.Types.{Csvj, Cell, Fresh, More}
use Rattle.grammar.specs.rfc.Types.{FileState, Top, Begin, Bom1, Blanks, ExpectCell, Inside, After, Cr, Outside, Between, Tail, Ends, Step, Ok}
use Rattle.model.specs.rules.Base.{Bytes, ◌is◌, choose◌then◌else◌}
use Rattle.model.specs.rules.Cell.{first_byte, cell_step, is_whole}
use Rattle.model.specs.rules.File.{is_blank, after_cell, begin_record, begin_file, file_step, file_end}
use Rattle.model.proofs.Tests.{split, is→eq}
use Rattle.grammar.specs.rfc.Rfc5234.{LF, CR}
use Rattle.grammar.specs.rfc.Derived.{Derived, raw_of, Line, line, spelling}
use Rattle.grammar.specs.dialects.FormReads.{Reads, decoded, decoded_line}
use Rattle.grammar.specs.dialects.Spans.{Span, past, csvj_values, csvj_text, csvj_line, csvj_lines, csvj_table, csvj_file}
use Rattle.grammar.specs.dialects.Csvj.{File, unmarked, marked, Csvj-file, csvj_file_lem, Data-lines, no_line, a_line, header_line, data_line}
use Rattle.grammar.specs.dialects.Csvj.{ended, Line-text, empty, filled, Values, value, values, Comma, comma, Line-terminator, lf, crlf, Ws}
use Rattle.grammar.specs.dialects.Csvj.{no_ws, space, tab}
use Rattle.grammar.specs.dialects.Csvj as csvj
use Rattle.grammar.proofs.rfc.WholeCells.{Spells}
use Rattle.grammar.proofs.dialects.CellGrammar.{derived_spells, spells_derived}
use Rattle.grammar.proofs.dialects.Separators.{Separates, by_delimiter, by_cr, by_lf, by_space, by_tab}
use Rattle.grammar.proofs.dialects.FormSteps.{Takes, rejected, cut_off}
use Rattle.grammar.proofs.dialects.FormSteps as steps
use Rattle.grammar.proofs.dialects.ReadsWithSpans.{Runs, ends_clean, outside, passed, between, between_closing, tail, tail_closing, ends}
use Rattle.grammar.proofs.dialects.ReadsWithSpans.{ends_closing, from_state, past_append}
use Rattle.grammar.proofs.dialects.CellReads.{Follows, cell_reads, after_whole, FirstOfCell, first_of_cell, spells_first, other_byte, CellThen}
use Rattle.grammar.proofs.dialects.CellReads.{cell_then, AfterByte, ended_before, ends_now}
use Rattle.grammar.proofs.dialects.Continuations.{Grammar, MarkRest, mark_bb, AfterCr, then_lf, WantedThen, wanted_then, blank_ws, Then}
use Rattle.grammar.proofs.dialects.Continuations.{cell_byte, Facts, reads_coming}

-- ---- a derived file is read

-- after a value, and after blanks that follow one
record Continues (o : ℕ) (ys text : Bytes) (cells : List Bytes) (ls : List (Line Bytes)) (ps : List Span) (ss : List (List Span)) : Type 0 where
  after_value : Follows Csvj o ys text cells ls ps ss
  after_blank : Runs Csvj After o o ys (line text cells ∷ ls) (ps ∷ ss)

blank_step : (k : Bool) (b : ℕ) → is_blank b ≡ true → after_cell Csvj k b ≡ Ok (After, Between k)
unfolding after_cell choose◌then◌else◌
blank_step k b q = rw q

blank_continues :
    (b : ℕ) {o : ℕ} {ys text : Bytes} {cells : List Bytes} {ls : List (Line Bytes)} {ps : List Span} {ss : List (List Span)} →
    Separates Csvj b → is_blank b ≡ true → Continues (suc o) ys text cells ls ps ss → Continues o (b ∷ ys) (b ∷ text) cells ls ps ss
unfolding file_step
blank_continues b x q k =
    record {
      after_value = λ c p r w. between_closing (after_whole Csvj c b r w x ∙ blank_step true b q) k.after_blank;
      after_blank = between (blank_step false b q) k.after_blank;
    }

ws_continues :
    {o : ℕ} {ws ys text : Bytes} {cells : List Bytes} {ls : List (Line Bytes)} {ps : List Span} {ss : List (List Span)} → Ws ws →
    Continues (past ws o) ys text cells ls ps ss →
    Continues o (ws ++ ys) (ws ++ text) cells ls ps ss
ws_continues no_ws k = k
ws_continues (space w) k = blank_continues 0x20 by_space refl (ws_continues w k)
ws_continues (tab w) k = blank_continues 0x09 by_tab refl (ws_continues w k)

comma_continues :
    {o : ℕ} {ys text : Bytes} {cells : List Bytes} {ls : List (Line Bytes)} {ps : List Span} {ss : List (List Span)} →
    Runs Csvj ExpectCell (suc o) (suc o) ys (line text cells ∷ ls) (ps ∷ ss) →
    Continues o (0x2C ∷ ys) (0x2C ∷ text) cells ls ps ss
unfolding file_step after_cell choose◌then◌else◌
comma_continues k =
    record {
      after_value = λ c p r w. between_closing (after_whole Csvj c 0x2C r w by_delimiter) k;
      after_blank = between refl k;
    }

terminator_continues :
    {o : ℕ} {es zs : Bytes} {ls : List (Line Bytes)} {ss : List (List Span)} → Line-terminator es → Runs Csvj Begin (past es o) (past es o) zs ls ss →
    Continues o (es ++ zs) [] [] ls [] ss
unfolding file_step after_cell choose◌then◌else◌
terminator_continues lf k =
    record {
      after_value = λ c p r w. ends_closing (after_whole Csvj c LF r w by_lf) k;
      after_blank = ends refl k;
    }
terminator_continues crlf k =
    record {
      after_value = λ c p r w. tail_closing (after_whole Csvj c CR r w by_cr) (ends refl k);
      after_blank = tail refl (ends refl k);
    }

-- where a record may begin, and after blanks that begin one
data Opening : FileState → Type 0 where
  at_top : Opening Top
  at_begin : Opening Begin
  at_blanks : Opening Blanks

abbrev FromLine : ℕ → Bytes → List (Line Bytes) → List (List Span) → Type 0
FromLine o xs ls ss = (f : FileState) → Opening f → Runs Csvj f o o xs ls ss

open_value : {f : FileState} (b : ℕ) (e : Cell) → Opening f → cell_step Csvj Fresh b ≡ More e → file_step Csvj f b ≡ file_step Csvj (Inside Fresh) b
unfolding file_step begin_file begin_record cell_step first_byte choose◌then◌else◌
open_value b e at_top s =
    rw (
      other_byte Csvj b 0xEF e s refl,
      other_byte Csvj b 0x20 e s refl,
      other_byte Csvj b 0x09 e s refl,
      other_byte Csvj b LF e s refl,
      other_byte Csvj b CR e s refl,
    )
open_value b e at_begin s = rw (other_byte Csvj b 0x20 e s refl, other_byte Csvj b 0x09 e s refl, other_byte Csvj b LF e s refl, other_byte Csvj b CR e s refl)
open_value b e at_blanks s = rw (other_byte Csvj b 0x20 e s refl, other_byte Csvj b 0x09 e s refl, other_byte Csvj b LF e s refl, other_byte Csvj b CR e s refl)

wanted_value : (b : ℕ) (e : Cell) → cell_step Csvj Fresh b ≡ More e → file_step Csvj ExpectCell b ≡ file_step Csvj (Inside Fresh) b
unfolding file_step cell_step first_byte choose◌then◌else◌
wanted_value b e s = rw (other_byte Csvj b 0x20 e s refl, other_byte Csvj b 0x09 e s refl)

from_first :
    {o : ℕ} {xs : Bytes} {ls : List (Line Bytes)} {ss : List (List Span)} → FirstOfCell Csvj xs → Runs Csvj (Inside Fresh) o o xs ls ss →
    FromLine o xs ls ss
from_first (first_of_cell {b} {e} s) r f o = from_state (open_value b e o s) r

from_wanted :
    {o : ℕ} {xs : Bytes} {ls : List (Line Bytes)} {ss : List (List Span)} → FirstOfCell Csvj xs →
    Runs Csvj (Inside Fresh) o o xs ls ss → Runs Csvj ExpectCell o o xs ls ss
from_wanted (first_of_cell {b} {e} s) r = from_state (wanted_value b e s) r

ws_wanted :
    {o : ℕ} {ws ys text : Bytes} {cells : List Bytes} {ls : List (Line Bytes)} {ss : List (List Span)} → Ws ws →
    Runs Csvj ExpectCell (past ws o) (past ws o) ys (line text cells ∷ ls) ss → Runs Csvj ExpectCell o o (ws ++ ys) (line (ws ++ text) cells ∷ ls) ss
unfolding file_step choose◌then◌else◌
ws_wanted no_ws k = k
ws_wanted (space w) k = between refl (ws_wanted w k)
ws_wanted (tab w) k = between refl (ws_wanted w k)

space_step : {f : FileState} → Opening f → file_step Csvj f 0x20 ≡ Ok (Blanks, Between false)
unfolding file_step begin_file begin_record choose◌then◌else◌
space_step at_top = refl
space_step at_begin = refl
space_step at_blanks = refl

tab_step : {f : FileState} → Opening f → file_step Csvj f 0x09 ≡ Ok (Blanks, Between false)
unfolding file_step begin_file begin_record choose◌then◌else◌
tab_step at_top = refl
tab_step at_begin = refl
tab_step at_blanks = refl

ws_opening :
    {o : ℕ} {ws ys text : Bytes} {cells : List Bytes} {ls : List (Line Bytes)} {ss : List (List Span)} → Ws ws →
    FromLine (past ws o) ys (line text cells ∷ ls) ss →
    FromLine o (ws ++ ys) (line (ws ++ text) cells ∷ ls) ss
ws_opening no_ws k f o = k f o
ws_opening (space w) k f o = between (space_step o) (ws_opening w k Blanks at_blanks)
ws_opening (tab w) k f o = between (tab_step o) (ws_opening w k Blanks at_blanks)

lf_step : {f : FileState} → Opening f → file_step Csvj f LF ≡ Ok (Begin, Ends false)
unfolding file_step begin_file begin_record choose◌then◌else◌
lf_step at_top = refl
lf_step at_begin = refl
lf_step at_blanks = refl

cr_step : {f : FileState} → Opening f → file_step Csvj f CR ≡ Ok (Cr, Tail false)
unfolding file_step begin_file begin_record choose◌then◌else◌
cr_step at_top = refl
cr_step at_begin = refl
cr_step at_blanks = refl

terminator_opening :
    {o : ℕ} {es zs : Bytes} {ls : List (Line Bytes)} {ss : List (List Span)} → Line-terminator es → Runs Csvj Begin (past es o) (past es o) zs ls ss →
    FromLine o (es ++ zs) (line [] [] ∷ ls) ([] ∷ ss)
unfolding file_step choose◌then◌else◌
terminator_opening lf k f o = ends (lf_step o) k
terminator_opening crlf k f o = tail (cr_step o) (ends refl k)

values_first : {text : Bytes} {cells : List Derived} (ys : Bytes) → Values text cells → FirstOfCell Csvj (text ++ ys)
unfolding is_whole
values_first ys (value v) = spells_first refl (derived_spells Csvj _ v) ys
values_first ys (values {raw} {cs} {text} v c k) = rw (append_assoc raw (cs ++ text) ys) (spells_first refl (derived_spells Csvj _ v) ((cs ++ text) ++ ys))

comma_follows :
    {o : ℕ} {cs ys text : Bytes} {cells : List Bytes} {ls : List (Line Bytes)} {ps : List Span} {ss : List (List Span)} → Comma cs →
    Runs Csvj ExpectCell (past cs o) (past cs o) ys (line text cells ∷ ls) (ps ∷ ss) → Continues o (cs ++ ys) (cs ++ text) cells ls ps ss
comma_follows {o} {ys} {text} (comma {ws} {vs} a b) k =
    rw (append_assoc ws (0x2C ∷ vs) ys, append_assoc ws (0x2C ∷ vs) text)
    (ws_continues a (comma_continues (ws_wanted b (rw (past_append ws (0x2C ∷ vs) o) at k))))

values_read :
    (o : ℕ) {text ys rest : Bytes} {cells : List Derived} {ls : List (Line Bytes)} {ss : List (List Span)} (m : Values text cells) →
    Continues (past text o) ys rest [] ls [] ss →
    Runs Csvj (Inside Fresh) o o (text ++ ys) (line (text ++ rest) (map raw_of cells) ∷ ls) (csvj_values o m ∷ ss)
values_read o (value v) k = cell_reads (derived_spells Csvj _ v) tt k.after_value
values_read o {ys} {rest} (values {raw} {cs} {text} v c m) k =
    rw (append_assoc raw (cs ++ text) ys, append_assoc raw (cs ++ text) rest, append_assoc cs text ys, append_assoc cs text rest)
    (cell_reads (derived_spells Csvj _ v) tt
    (comma_follows c
    (from_wanted (values_first ys m)
    (values_read (past cs (past raw o)) m (rw (past_append raw (cs ++ text) o, past_append cs text (past raw o)) at k)))).after_value)

text_reads :
    (o : ℕ) {text es zs : Bytes} {cells : List Derived} {ls : List (Line Bytes)} {ss : List (List Span)} (t : Line-text text cells) → Line-terminator es →
    Runs Csvj Begin (past es (past text o)) (past es (past text o)) zs ls ss →
    FromLine o (text ++ (es ++ zs)) (line text (map raw_of cells) ∷ ls) (csvj_text o t ∷ ss)
text_reads o {es} {zs} {ls} {ss} (empty {ws} {vs} a b) e k =
    let r : FromLine o (ws ++ (vs ++ (es ++ zs))) (line (ws ++ (vs ++ [])) [] ∷ ls) ([] ∷ ss)
    = ws_opening a (ws_opening b (terminator_opening e (rw (past_append ws vs o) at k))) in
    rw (append_assoc ws vs (es ++ zs)) (rw (append-nil vs) at r)
text_reads o {es} {zs} {ls} {ss} (filled {ws} {vs} {text} {cells} a m b) e k =
    let i : ℕ = past ws o in
    let n : Runs Csvj Begin (past es (past vs (past text i))) (past es (past vs (past text i))) zs ls ss
    = rw (past_append ws (text ++ vs) o, past_append text vs (past ws o)) at k in
    let r : Runs Csvj (Inside Fresh) i i (text ++ (vs ++ (es ++ zs))) (line (text ++ (vs ++ [])) (map raw_of cells) ∷ ls)
    (csvj_values i m ∷ ss)
    = values_read i m (ws_continues b (terminator_continues e n)) in
    let q : FromLine o (ws ++ (text ++ (vs ++ (es ++ zs)))) (line (ws ++ (text ++ (vs ++ []))) (map raw_of cells) ∷ ls)
    (csvj_values i m ∷ ss)
    = ws_opening a (from_first (values_first (vs ++ (es ++ zs)) m) r) in
    rw (append_assoc ws (text ++ vs) (es ++ zs), append_assoc text vs (es ++ zs)) (rw (append-nil vs) at q)

line_reads :
    (o : ℕ) {bs xs : Bytes} {l : Line Derived} {ls : List (Line Bytes)} {ss : List (List Span)} (k : csvj.Line bs l) →
    Runs Csvj Begin (past bs o) (past bs o) xs ls ss →
    FromLine o (bs ++ xs) (spelling l ∷ ls) (csvj_line o k ∷ ss)
unfolding spelling
line_reads o {xs} (ended {text} {es} t e) k = rw (append_assoc text es xs) (text_reads o t e (rw (past_append text es o) at k))

lines_read : (o : ℕ) {xs : Bytes} {ls : List (Line Derived)} (k : Data-lines xs ls) → Runs Csvj Begin o o xs (map spelling ls) (csvj_lines o k)
unfolding file_end
lines_read o no_line = ends_clean refl
lines_read o (a_line {bs} (data_line l) k) = line_reads o l (lines_read (past bs o) k) Begin at_begin

table_reads : (o : ℕ) {xs : Bytes} {ls : List (Line Derived)} (k : Csvj-file xs ls) → FromLine o xs (map spelling ls) (csvj_table o k)
table_reads o (csvj_file_lem {bs} (header_line l) k) = line_reads o l (lines_read (past bs o) k)

pub file_reads : {xs : Bytes} {ls : List (Line Derived)} (k : File xs ls) → Runs Csvj Top 0 0 xs (map spelling ls) (csvj_file k)
unfolding file_step begin_file choose◌then◌else◌
file_reads (unmarked k) = table_reads 0 k Top at_top
file_reads (marked k) = outside refl (outside refl (passed refl (table_reads 3 k Begin at_begin)))

-- ---- a file that is read is derived

abbrev DerivedLines : Bytes → List (Line Bytes) → Type 0
DerivedLines xs ls = Data-lines xs (map (decoded_line Csvj) ls)

data TerminatorThen : Bytes → List (Line Bytes) → Type 0 where
  terminator_then : {es zs : Bytes} {ls : List (Line Bytes)} → Line-terminator es → DerivedLines zs ls → TerminatorThen (es ++ zs) ls

-- value *( comma value ) ws
data ValuesText : Bytes → List Bytes → Type 0 where
  values_text : {vs ws : Bytes} {cells : List Bytes} → Values vs (map (decoded Csvj) cells) → Ws ws → ValuesText (vs ++ ws) cells

-- ws value *( comma value ) ws
data WantedText : Bytes → List Bytes → Type 0 where
  wanted_text : {ws text : Bytes} {cells : List Bytes} → Ws ws → ValuesText text cells → WantedText (ws ++ text) cells

-- *( comma value ) ws
data AfterText : Bytes → List Bytes → Type 0 where
  after_last : {ws : Bytes} → Ws ws → AfterText ws []
  after_comma : {ws text : Bytes} {cells : List Bytes} → Ws ws → WantedText text cells → AfterText (ws ++ (0x2C ∷ text)) cells

-- the rest of a record after one of its values
data AfterThen : Bytes → Bytes → List Bytes → List (Line Bytes) → Type 0 where
  after_then :
      {text ys : Bytes} {cells : List Bytes} {ls : List (Line Bytes)} → AfterText text cells → TerminatorThen ys ls →
      AfterThen (text ++ ys) text cells ls

data LineThen : Bytes → List (Line Bytes) → Type 0 where
  line_then :
      {text ys : Bytes} {cells : List Bytes} {ls : List (Line Bytes)} → Line-text text (map (decoded Csvj) cells) → TerminatorThen ys ls →
      LineThen (text ++ ys) (line text cells ∷ ls)

data TopLines : Bytes → List (Line Bytes) → Type 0 where
  no_mark : {xs : Bytes} {ls : List (Line Bytes)} → DerivedLines xs ls → TopLines xs ls
  a_bom : {xs : Bytes} {ls : List (Line Bytes)} → DerivedLines xs ls → TopLines (0xEF ∷ 0xBB ∷ 0xBF ∷ xs) ls

regroup : (raw ws w₂ vs us : Bytes) → raw ++ (ws ++ (0x2C ∷ (w₂ ++ (vs ++ us)))) ≡ (raw ++ ((ws ++ (0x2C ∷ w₂)) ++ vs)) ++ us
regroup raw ws w₂ vs us = simp append_assoc

value_text : {raw text : Bytes} {cells : List Bytes} → Spells Csvj Fresh raw → AfterText text cells → ValuesText (raw ++ text) (raw ∷ cells)
value_text {raw} m (after_last w) = values_text (value (spells_derived Csvj raw m)) w
value_text {raw} m (after_comma {ws} a (wanted_text {ws = w₂} b (values_text {vs} {ws = us} k c))) =
    rw (regroup raw ws w₂ vs us) (values_text (values (spells_derived Csvj raw m) (comma a b) k) c)

-- a value and the rest of its record
data ValuesThen : Bytes → List (Line Bytes) → Type 0 where
  values_then :
      {text ys : Bytes} {cells : List Bytes} {ls : List (Line Bytes)} → ValuesText text cells → TerminatorThen ys ls →
      ValuesThen (text ++ ys) (line text cells ∷ ls)

value_then : {xs : Bytes} {ls : List (Line Bytes)} → CellThen Csvj AfterThen Fresh xs ls → ValuesThen xs ls
value_then (cell_then {raw} m (after_then {text} {ys} a t)) = rw (← (append_assoc raw text ys)) (values_then (value_text m a) t)

value_line : {xs : Bytes} {ls : List (Line Bytes)} → ValuesThen xs ls → LineThen xs ls
value_line (values_then (values_text k w) t) = line_then (filled no_ws k w) t

-- a blank in front
blank_after : (b : ℕ) {text : Bytes} {cells : List Bytes} → is_blank b ≡ true → AfterText text cells → AfterText (b ∷ text) cells
blank_after b p (after_last w) = after_last (blank_ws b p w)
blank_after b p (after_comma w k) = after_comma (blank_ws b p w) k

blank_text : (b : ℕ) {text : Bytes} {cells : List Derived} → is_blank b ≡ true → Line-text text cells → Line-text (b ∷ text) cells
blank_text b p (empty w v) = empty (blank_ws b p w) v
blank_text b p (filled w k v) = filled (blank_ws b p w) k v

line_lines : {xs : Bytes} {ls : List (Line Bytes)} → LineThen xs ls → DerivedLines xs ls
unfolding decoded_line
line_lines (line_then {text} t (terminator_then {es} {zs} e k)) = rw (← (append_assoc text es zs)) (a_line (data_line (ended t e)) k)

-- the LF of a CRLF
crlf_then : {xs text : Bytes} {cells : List Bytes} {ls : List (Line Bytes)} → AfterCr DerivedLines xs (line text cells ∷ ls) → AfterThen (CR ∷ xs) text cells ls
crlf_then (then_lf k) = after_then (after_last no_ws) (terminator_then crlf k)

blank_more :
    (b : ℕ) {xs text : Bytes} {cells : List Bytes} {ls : List (Line Bytes)} → is_blank b ≡ true →
    AfterByte AfterThen xs false (line text cells ∷ ls) → AfterThen (b ∷ xs) (b ∷ text) cells ls
blank_more b p (ended_before (after_then a t)) = after_then (blank_after b p a) t

comma_more :
    {xs text : Bytes} {cells : List Bytes} {ls : List (Line Bytes)} → WantedThen Csvj AfterThen xs (line text cells ∷ ls) →
    AfterThen (0x2C ∷ xs) (0x2C ∷ text) cells ls
comma_more (wanted_then {ws} w k) = go (value_then k)
  where
    go :
        {xs text : Bytes} {cells : List Bytes} {ls : List (Line Bytes)} → ValuesThen xs (line text cells ∷ ls) →
        AfterThen (0x2C ∷ (ws ++ xs)) (0x2C ∷ (ws ++ text)) cells ls
    go (values_then {text} {ys} v t) = rw (← (append_assoc ws text ys)) (after_then (after_comma no_ws (wanted_text w v)) t)

abbrev outcome : Grammar
outcome = record { Lines = DerivedLines; Tops = TopLines; First = LineThen; Further = AfterThen }

abbrev K : Bytes → FileState → List (Line Bytes) → Type 0
K = Then Csvj outcome

module _ (bs : Bytes) where
  blank_taken : (k : Bool) (b : ℕ) {ls : List (Line Bytes)} → is_blank b ≡ true → Takes (K bs) b (Ok (After, Between k)) ls → AfterByte AfterThen (b ∷ bs) k ls
  blank_taken true b p (steps.between_closing m) = ends_now (blank_more b p m)
  blank_taken false b p (steps.between m) = ended_before (blank_more b p m)

  comma_taken : (k : Bool) {ls : List (Line Bytes)} → Takes (K bs) 0x2C (Ok (ExpectCell, Between k)) ls → AfterByte AfterThen (0x2C ∷ bs) k ls
  comma_taken true (steps.between_closing m) = ends_now (comma_more m)
  comma_taken false (steps.between m) = ended_before (comma_more m)

  lf_taken : (k : Bool) {b : ℕ} {ls : List (Line Bytes)} → Takes (K bs) b (Ok (Begin, Ends k)) ls → AfterByte AfterThen (LF ∷ bs) k ls
  lf_taken true (steps.ends_closing m) = ends_now (after_then (after_last no_ws) (terminator_then lf m))
  lf_taken false (steps.ends m) = ended_before (after_then (after_last no_ws) (terminator_then lf m))

  cr_taken : (k : Bool) {b : ℕ} {ls : List (Line Bytes)} → Takes (K bs) b (Ok (Cr, Tail k)) ls → AfterByte AfterThen (CR ∷ bs) k ls
  cr_taken true (steps.tail_closing m) = ends_now (crlf_then m)
  cr_taken false (steps.tail m) = ended_before (crlf_then m)

  after_byte : (k : Bool) (b : ℕ) (ls : List (Line Bytes)) → Takes (K bs) b (after_cell Csvj k b) ls → AfterByte AfterThen (b ∷ bs) k ls
  unfolding after_cell
  after_byte k b ls =
      let P : Step → Type 0 = λ s. Takes (K bs) b s ls → AfterByte AfterThen (b ∷ bs) k ls in
      split P (is_blank b) (λ p t. blank_taken k b p t) λ _.
      split P (b is 0x2C) (λ p t. let q = is→eq b 0x2C p in rw q (comma_taken k (rw q at t))) λ _.
      split P (b is LF) (λ p t. rw (is→eq b LF p) (lf_taken k t)) λ _.
      split P (b is CR) (λ p t. rw (is→eq b CR p) (cr_taken k t)) λ _ t. rejected t

module _ (bs : Bytes) where
  blank_opens : (b : ℕ) {ls : List (Line Bytes)} → is_blank b ≡ true → Takes (K bs) b (Ok (Blanks, Between false)) ls → LineThen (b ∷ bs) ls
  blank_opens b p (steps.between m) = go m
    where
      go : {xs text : Bytes} {cells : List Bytes} {ls : List (Line Bytes)} → LineThen xs (line text cells ∷ ls) → LineThen (b ∷ xs) (line (b ∷ text) cells ∷ ls)
      go (line_then x t) = line_then (blank_text b p x) t

  lf_opens : {b : ℕ} {ls : List (Line Bytes)} → Takes (K bs) b (Ok (Begin, Ends false)) ls → LineThen (LF ∷ bs) ls
  lf_opens (steps.ends m) = line_then (empty no_ws no_ws) (terminator_then lf m)

  cr_opens : {b : ℕ} {ls : List (Line Bytes)} → Takes (K bs) b (Ok (Cr, Tail false)) ls → LineThen (CR ∷ bs) ls
  cr_opens (steps.tail m) = go m
    where
      go :
          {xs text : Bytes} {cells : List Bytes} {ls : List (Line Bytes)} → AfterCr DerivedLines xs (line text cells ∷ ls) →
          LineThen (CR ∷ xs) (line text cells ∷ ls)
      go (then_lf k) = line_then (empty no_ws no_ws) (terminator_then crlf k)

  line_byte : (b : ℕ) (ls : List (Line Bytes)) → Takes (K bs) b (begin_record Csvj b) ls → LineThen (b ∷ bs) ls
  unfolding begin_record
  line_byte b ls =
      let P : Step → Type 0 = λ s. Takes (K bs) b s ls → LineThen (b ∷ bs) ls in
      split P (is_blank b) (λ p t. blank_opens b p t) λ _.
      split P (b is LF) (λ p t. rw (is→eq b LF p) (lf_opens t)) λ _.
      split P (b is CR) (λ p t. rw (is→eq b CR p) (cr_opens t)) λ _ t. value_line (value_then (cell_byte Csvj outcome after_byte bs Fresh b ls t))

  mark_opens : {b : ℕ} {ls : List (Line Bytes)} → Takes (K bs) b (Ok (Bom1, Outside)) ls → TopLines (0xEF ∷ bs) ls
  mark_opens (steps.outside m) = go m
    where
      go : {xs : Bytes} {ls : List (Line Bytes)} → MarkRest DerivedLines xs ls → TopLines (0xEF ∷ xs) ls
      go (mark_bb k) = a_bom k

  top_byte : (b : ℕ) (ls : List (Line Bytes)) → Takes (K bs) b (begin_file Csvj b) ls → TopLines (b ∷ bs) ls
  unfolding begin_file
  top_byte b ls =
      split (λ s. Takes (K bs) b s ls → TopLines (b ∷ bs) ls) (b is 0xEF) (λ p t. rw (is→eq b 0xEF p) (mark_opens t)) λ _ t.
      no_mark (line_lines (line_byte b ls t))

facts : Facts Csvj outcome
facts =
    record {
      after_byte = after_byte;
      first_byte_lem = line_byte;
      first_line = λ bs b ls k. line_lines k;
      top_byte = top_byte;
      no_line = no_line;
      no_top = no_mark no_line;
      last_cell_lem = λ c ls t. cut_off t;
    }

pub reads_file : {xs : Bytes} {l : Line Bytes} {ls : List (Line Bytes)} → Reads Csvj Top xs (l ∷ ls) → File xs (map (decoded_line Csvj) (l ∷ ls))
reads_file {xs} {l} {ls} r = go (reads_coming Csvj outcome facts xs Top (l ∷ ls) r)
  where
    first : {xs : Bytes} {l : Line Derived} {ls : List (Line Derived)} → Data-lines xs (l ∷ ls) → Csvj-file xs (l ∷ ls)
    first (a_line (data_line l) k) = csvj_file_lem (header_line l) k

    go : {xs : Bytes} {l : Line Bytes} {ls : List (Line Bytes)} → TopLines xs (l ∷ ls) → File xs (map (decoded_line Csvj) (l ∷ ls))
    go (no_mark k) = unmarked (first k)
    go (a_bom k) = marked (first k)
