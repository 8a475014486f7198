-- The grammar of CSV+ derives exactly the files that its automaton reads by form, for every delimiter and quote. At offset 0 the
-- automaton shadows an unquoted cell that begins like the byte order mark; it refuses only where the mark is complete (`top_reads`).
use Prim.Native.Nat.{ℕ, suc}
use mathlib.Core.Path.{◌≡◌, refl, ap, ◌∙◌}
use mathlib.Core.Bool.{Bool, true, false}
use mathlib.Core.List.{List, [], ◌∷◌, ◌++◌, map, append-nil}
use borrow.Author.Tests.{eqb-false}
use Rattle.grammar.specs.rfc.Types.{Delimiter, Comma, Semicolon, Tab, Bar, Settings, CsvPlus, Cell, Fresh}
use Rattle.grammar.specs.rfc.Types.{FileState, Top, Begin, PlainBom1, PlainBom2, Inside, Cr, OfCell, Tail, Ends, Step, Ok, Final}
use Rattle.model.specs.rules.Base.{Bytes, ◌is◌, choose◌then◌else◌}
use Rattle.model.specs.rules.Dialect.{delimiter_byte}
use Rattle.model.specs.rules.Cell.{is_whole}
use Rattle.model.specs.rules.File.{after_cell, begin_record, begin_file, file_step, last_cell, file_end}
use Rattle.model.proofs.Tests.{split, is→eq}
use Rattle.model.proofs.cell_laws.CellRuns.{bom_cell, bom_rest}
use Rattle.model.proofs.cell_laws.CellContent.{d_plus}
use Rattle.grammar.specs.rfc.Rfc5234.{LF, CR}
use Rattle.grammar.specs.rfc.Derived.{Derived, raw_of, Line, line, spelling}
use Rattle.grammar.specs.dialects.FormReads.{Reads, decoded, decoded_line}
use Rattle.grammar.specs.dialects.Spans.{Span, past, cell_at, plus_header, plus_record, plus_records, plus_table, plus_file}
use Rattle.grammar.specs.dialects.CsvPlus.{BeginsWithBom, bom, File, file, Table, header_unended, header_alone, header_then, Records, unended}
use Rattle.grammar.specs.dialects.CsvPlus.{last, next, Header, a_name, names, Record, field, fields, name, comma, CRLF, lf, crlf}
use Rattle.grammar.proofs.dialects.PlusCells.{COMMA}
use Rattle.grammar.proofs.rfc.WholeCells.{whole}
use Rattle.grammar.proofs.dialects.CellGrammar.{derived_spells, spells_derived}
use Rattle.grammar.proofs.dialects.Separators.{by_cr, by_lf}
use Rattle.grammar.proofs.dialects.FormSteps.{Takes, rejected, at_end, cut_off}
use Rattle.grammar.proofs.dialects.FormSteps as steps
use Rattle.grammar.proofs.dialects.ReadsWithSpans.{Runs, ends_clean, ends_final, tail_closing, ends, ends_closing, reads, from_state, with_cell_byte}
use Rattle.grammar.proofs.dialects.CellReads.{Follows, cell_step_lem, after_whole, CellThen, cell_then, AfterByte, ended_before, ends_now, more_cell}
use Rattle.grammar.proofs.dialects.Delimited.{Cells, one_cell, more_cells, cells_at, cells_read, RecordThen, record_then, After, at_tail}
use Rattle.grammar.proofs.dialects.Delimited.{record_of, delimiter_taken}
use Rattle.grammar.proofs.dialects.Continuations.{Grammar, AfterCr, then_lf, CompletesBom, then_bb, EndsBom, then_bf, after_ef, after_bb, Then}
use Rattle.grammar.proofs.dialects.Continuations.{cell_byte, Facts, reads_coming}

data NonEmpty : Bytes → Type 0 where
  some : {b : ℕ} {bs : Bytes} → NonEmpty (b ∷ bs)

begin_bom : {b : ℕ} {bs : Bytes} → BeginsWithBom (b ∷ bs) → (b ≡ 0xEF) × CompletesBom bs
begin_bom bom = (refl, then_bb)

-- LF and CR are no delimiters
separate : (s : Settings) → ((LF is COMMA s) ≡ false) × ((CR is COMMA s) ≡ false)
separate s = go s.delimiter
  where
    go : (x : Delimiter) → ((LF is delimiter_byte x) ≡ false) × ((CR is delimiter_byte x) ≡ false)
    go Comma = (refl, refl)
    go Semicolon = (refl, refl)
    go Tab = (refl, refl)
    go Bar = (refl, refl)

module _ (s : Settings) where
  -- ---- a record's fields are cells with delimiters between them

  record_cells : {text : Bytes} {cells : List Derived} → Record s text cells → Cells (CsvPlus s) text (map raw_of cells)
  record_cells (field v) = one_cell (derived_spells (CsvPlus s) _ v)
  record_cells (fields v comma f) = more_cells (derived_spells (CsvPlus s) _ v) (record_cells f)

  record_placed : (o : ℕ) {text : Bytes} {cells : List Derived} (r : Record s text cells) → cells_at o (record_cells r) ≡ plus_record s o r
  unfolding record_cells
  record_placed o (field v) = refl
  record_placed o (fields {raw} v comma f) = ap (λ ps. cell_at o raw ∷ ps) (record_placed (suc (past raw o)) f)

  cells_record : {text : Bytes} {cells : List Bytes} → Cells (CsvPlus s) text cells → Record s text (map (decoded (CsvPlus s)) cells)
  cells_record (one_cell {raw} m) = field (spells_derived (CsvPlus s) raw m)
  cells_record (more_cells {raw} m n) = fields (spells_derived (CsvPlus s) raw m) comma (cells_record n)

  -- ---- a header is a record, so a table is records

  header_record : {text : Bytes} {cells : List Derived} → Header s text cells → Record s text cells
  header_record (a_name (name v)) = field v
  header_record (names (name v) c h) = fields v c (header_record h)

  record_header : {text : Bytes} {cells : List Derived} → Record s text cells → Header s text cells
  record_header (field v) = a_name (name v)
  record_header (fields v c r) = names (name v) c (record_header r)

  pub table_records : {xs : Bytes} {ls : List (Line Derived)} → Table s xs ls → Records s xs ls
  table_records (header_unended h) = unended (header_record h)
  table_records (header_alone h e) = last (header_record h) e
  table_records (header_then h e k) = next (header_record h) e k

  header_placed : (o : ℕ) {text : Bytes} {cells : List Derived} (h : Header s text cells) → plus_record s o (header_record h) ≡ plus_header s o h
  unfolding header_record
  header_placed o (a_name (name v)) = refl
  header_placed o (names {raw} (name v) c h) = ap (λ ps. cell_at o raw ∷ ps) (header_placed (suc (past raw o)) h)

  table_placed : (o : ℕ) {xs : Bytes} {ls : List (Line Derived)} (t : Table s xs ls) → plus_records s o (table_records t) ≡ plus_table s o t
  unfolding table_records
  table_placed o (header_unended h) = rw (header_placed o h)
  table_placed o (header_alone h e) = rw (header_placed o h)
  table_placed o (header_then h e k) = rw (header_placed o h)

  records_table : {xs : Bytes} {ls : List (Line Derived)} → Records s xs ls → Table s xs ls
  records_table (unended r) = header_unended (record_header r)
  records_table (last r e) = header_alone (record_header r) e
  records_table (next r e k) = header_then (record_header r) e k

  -- ---- a derived file is read

  after_lf : after_cell (CsvPlus s) true LF ≡ Ok (Begin, Ends true)
  unfolding after_cell choose◌then◌else◌
  after_lf = rw (separate s).0

  after_cr : after_cell (CsvPlus s) true CR ≡ Ok (Cr, Tail true)
  unfolding after_cell choose◌then◌else◌
  after_cr = rw (separate s).1

  ending_follows :
      {o : ℕ} {es zs : Bytes} {ls : List (Line Bytes)} {ss : List (List Span)} → CRLF s es →
      Runs (CsvPlus s) Begin (past es o) (past es o) zs ls ss → Follows (CsvPlus s) o (es ++ zs) [] [] ls [] ss
  unfolding file_step choose◌then◌else◌
  ending_follows lf k c p r w = ends_closing (after_whole (CsvPlus s) c LF r w by_lf ∙ after_lf) k
  ending_follows crlf k c p r w = tail_closing (after_whole (CsvPlus s) c CR r w by_cr ∙ after_cr) (ends refl k)

  end_follows : (o : ℕ) → Follows (CsvPlus s) o [] [] [] [] [] []
  unfolding file_end choose◌then◌else◌
  end_follows o c p r w = ends_final {f = Inside c} (rw w)

  begin_reads :
      {o : ℕ} {xs : Bytes} {ls : List (Line Bytes)} {ss : List (List Span)} → NonEmpty xs → Runs (CsvPlus s) (Inside Fresh) o o xs ls ss →
      Runs (CsvPlus s) Begin o o xs ls ss
  unfolding file_step begin_record
  begin_reads some r = from_state refl r

  ending_some : {es : Bytes} (text zs : Bytes) → CRLF s es → NonEmpty (text ++ (es ++ zs))
  ending_some [] zs lf = some
  ending_some [] zs crlf = some
  ending_some (b ∷ text) zs e = some

  -- records from the first cell on
  data FromFresh (o : ℕ) (ls : List (Line Bytes)) (ss : List (List Span)) (xs : Bytes) : Type 0 where
    from_fresh : NonEmpty xs → Runs (CsvPlus s) (Inside Fresh) o o xs ls ss → FromFresh o ls ss xs

  to_begin : {o : ℕ} {xs : Bytes} {ls : List (Line Bytes)} {ss : List (List Span)} → FromFresh o ls ss xs → Runs (CsvPlus s) Begin o o xs ls ss
  to_begin (from_fresh n r) = begin_reads n r

  none_reads : (o : ℕ) → Runs (CsvPlus s) Begin o o [] [] []
  unfolding file_end
  none_reads o = ends_clean refl

  record_reads :
      (o : ℕ) {text ys : Bytes} {cells : List Derived} {ls : List (Line Bytes)} {ss : List (List Span)} (r : Record s text cells) →
      Follows (CsvPlus s) (past text o) ys [] [] ls [] ss →
      Runs (CsvPlus s) (Inside Fresh) o o (text ++ ys) (line text (map raw_of cells) ∷ ls) (plus_record s o r ∷ ss)
  record_reads o r f = rw (← (record_placed o r)) (cells_read d_plus o (record_cells r) f)

  records_read : (o : ℕ) {xs : Bytes} {ls : List (Line Derived)} (k : Records s xs ls) → FromFresh o (map spelling ls) (plus_records s o k) xs
  unfolding spelling
  records_read o (unended {b} {text} {cells} r) =
      let k : Runs (CsvPlus s) (Inside Fresh) o o ((b ∷ text) ++ []) (line (b ∷ text) (map raw_of cells) ∷ []) (plus_record s o r ∷ [])
      = record_reads o r (end_follows (past (b ∷ text) o)) in
      from_fresh some (rw (append-nil (b ∷ text)) at k)
  records_read o (last {text} {es} r e) =
      rw (← (append-nil es)) (from_fresh (ending_some text [] e) (record_reads o r (ending_follows e (none_reads (past es (past text o))))))
  records_read o (next {text} {es} {xs} r e k) =
      from_fresh (ending_some text xs e) (record_reads o r (ending_follows e (to_begin (records_read (past es (past text o)) k))))

  unfinished : {A : Type 0} (c : Cell) {ls : List (Line Bytes)} → is_whole (CsvPlus s) c ≡ false → Reads (CsvPlus s) (Inside c) [] ls → A
  unfolding file_end choose◌then◌else◌
  unfinished c w r = cut_off (rw w at (at_end r))

  mark_last_reads :
      {o p : ℕ} (bs : Bytes) {ls : List (Line Bytes)} {ss : List (List Span)} → ¬ EndsBom bs →
      Runs (CsvPlus s) (Inside after_bb) o p bs ls ss → Runs (CsvPlus s) PlainBom2 o p bs ls ss
  unfolding file_step is_whole choose◌then◌else◌
  mark_last_reads [] n r = unfinished after_bb refl (reads r)
  mark_last_reads {o} {p} (b ∷ bs) {ls} {ss} n r = go (b is 0xBF) refl
    where
      go : (t : Bool) → (b is 0xBF) ≡ t → Runs (CsvPlus s) PlainBom2 o p (b ∷ bs) ls ss
      go true e = absurd (n (rw (is→eq b 0xBF e) then_bf))
      go false e = from_state (rw e) r

  mark_rest_reads :
      {o p : ℕ} (bs : Bytes) {ls : List (Line Bytes)} {ss : List (List Span)} → ¬ CompletesBom bs →
      Runs (CsvPlus s) (Inside after_ef) o p bs ls ss → Runs (CsvPlus s) PlainBom1 o p bs ls ss
  unfolding file_step is_whole choose◌then◌else◌
  mark_rest_reads [] n r = unfinished after_ef refl (reads r)
  mark_rest_reads {o} {p} (b ∷ bs) {ls} {ss} n r = go (b is 0xBB) refl
    where
      rest_of : ¬ CompletesBom (0xBB ∷ bs) → ¬ EndsBom bs
      rest_of m q = m (add q)
        where
          add : {bs : Bytes} → EndsBom bs → CompletesBom (0xBB ∷ bs)
          add then_bf = then_bb

      go : (t : Bool) → (b is 0xBB) ≡ t → Runs (CsvPlus s) PlainBom1 o p (b ∷ bs) ls ss
      go true e =
          let q = is→eq b 0xBB e in
          let k : Runs (CsvPlus s) (Inside after_ef) o p (0xBB ∷ bs) ls ss = rw q at r in
          rw q (with_cell_byte (cell_step_lem (CsvPlus s) after_ef after_bb 0xBB (bom_rest (CsvPlus s))) refl (λ ls m. mark_last_reads bs (rest_of (rw q at n)) m) k)
      go false e = from_state (rw e) r

  top_reads :
      {o : ℕ} {xs : Bytes} {ls : List (Line Bytes)} {ss : List (List Span)} → ¬ BeginsWithBom xs → FromFresh o ls ss xs →
      Runs (CsvPlus s) Top o o xs ls ss
  unfolding file_step begin_file begin_record choose◌then◌else◌
  top_reads {o} {ls} {ss} n (from_fresh (some {b} {bs}) r) = go (b is 0xEF) refl
    where
      rest_of : ¬ BeginsWithBom (0xEF ∷ bs) → ¬ CompletesBom bs
      rest_of m q = m (add q)
        where
          add : {bs : Bytes} → CompletesBom bs → BeginsWithBom (0xEF ∷ bs)
          add then_bb = bom

      go : (t : Bool) → (b is 0xEF) ≡ t → Runs (CsvPlus s) Top o o (b ∷ bs) ls ss
      go true e =
          let q = is→eq b 0xEF e in
          let k : Runs (CsvPlus s) (Inside Fresh) o o (0xEF ∷ bs) ls ss = rw q at r in
          rw q (with_cell_byte (cell_step_lem (CsvPlus s) Fresh after_ef 0xEF (bom_cell s)) refl (λ ls m. mark_rest_reads bs (rest_of (rw q at n)) m) k)
      go false e = from_state (rw e) r

  pub file_reads : {xs : Bytes} {ls : List (Line Derived)} (k : File s xs ls) → Runs (CsvPlus s) Top 0 0 xs (map spelling ls) (plus_file s k)
  file_reads (file n k) = rw (← (table_placed 0 k)) (top_reads n (records_read 0 (table_records k)))

  -- ---- a file that is read is derived

  -- where a record may begin
  data Rows : Bytes → List (Line Bytes) → Type 0 where
    no_rows : Rows [] []
    rows : {xs : Bytes} {ls : List (Line Bytes)} → Records s xs (map (decoded_line (CsvPlus s)) ls) → Rows xs ls

  -- after a record's text
  data TailThen : Bytes → List (Line Bytes) → Type 0 where
    at_file_end : TailThen [] []
    ending_then : {es zs : Bytes} {ls : List (Line Bytes)} → CRLF s es → Rows zs ls → TailThen (es ++ zs) ls

  abbrev Further : Bytes → Bytes → List Bytes → List (Line Bytes) → Type 0
  Further = After (CsvPlus s) TailThen

  abbrev coming : Grammar
  coming = record { Lines = Rows; Tops = λ xs ls. (¬ BeginsWithBom xs) × Rows xs ls; First = Rows; Further = Further }

  abbrev K : Bytes → FileState → List (Line Bytes) → Type 0
  K = Then (CsvPlus s) coming

  unended_rows : {text : Bytes} {cells : List Bytes} → NonEmpty text → Cells (CsvPlus s) text cells → Rows text (line text cells ∷ [])
  unfolding decoded_line
  unended_rows some n = rows (unended (cells_record n))

  record_rows :
      {xs text : Bytes} {cells : List Bytes} {ls : List (Line Bytes)} → NonEmpty xs → RecordThen (CsvPlus s) TailThen xs text cells ls →
      Rows xs (line text cells ∷ ls)
  unfolding decoded_line
  record_rows m (record_then {text} n at_file_end) = rw (append-nil text) (unended_rows (rw (append-nil text) at m) n)
  record_rows m (record_then n (ending_then {es} e no_rows)) = rw (append-nil es) (rows (last (cells_record n) e))
  record_rows m (record_then n (ending_then e (rows k))) = rows (next (cells_record n) e k)

  field_rows : {xs : Bytes} {ls : List (Line Bytes)} → NonEmpty xs → CellThen (CsvPlus s) Further Fresh xs ls → Rows xs ls
  field_rows m (cell_then k a) = record_rows m (record_of (CsvPlus s) TailThen (cell_then k a))

  crlf_then : {xs text : Bytes} {cells : List Bytes} {ls : List (Line Bytes)} → AfterCr Rows xs (line text cells ∷ ls) → Further (CR ∷ xs) text cells ls
  crlf_then (then_lf k) = at_tail (ending_then crlf k)

  module _ (bs : Bytes) where
    lf_taken : (k : Bool) {b : ℕ} {ls : List (Line Bytes)} → Takes (K bs) b (Ok (Begin, Ends k)) ls → AfterByte Further (LF ∷ bs) k ls
    lf_taken true (steps.ends_closing m) = ends_now (at_tail (ending_then lf m))
    lf_taken false (steps.ends m) = ended_before (at_tail (ending_then lf m))

    cr_taken : (k : Bool) {b : ℕ} {ls : List (Line Bytes)} → Takes (K bs) b (Ok (Cr, Tail k)) ls → AfterByte Further (CR ∷ bs) k ls
    cr_taken true (steps.tail_closing m) = ends_now (crlf_then m)
    cr_taken false (steps.tail m) = ended_before (crlf_then m)

    after_byte : (k : Bool) (b : ℕ) (ls : List (Line Bytes)) → Takes (K bs) b (after_cell (CsvPlus s) k b) ls → AfterByte Further (b ∷ bs) k ls
    unfolding after_cell
    after_byte k b ls =
        let P : Step → Type 0 = λ x. Takes (K bs) b x ls → AfterByte Further (b ∷ bs) k ls in
        split P (b is COMMA s) (λ p t. let q = is→eq b (COMMA s) p in rw q (delimiter_taken (CsvPlus s) TailThen (K bs) k (λ ls m. m) (rw q at t))) λ _.
        split P (b is LF) (λ p t. rw (is→eq b LF p) (lf_taken k t)) λ _.
        split P (b is CR) (λ p t. rw (is→eq b CR p) (cr_taken k t)) λ _ t. rejected t

  module _ (bs : Bytes) where
    row_byte : (b : ℕ) (ls : List (Line Bytes)) → Takes (K bs) b (begin_record (CsvPlus s) b) ls → Rows (b ∷ bs) ls
    unfolding begin_record
    row_byte b ls t = field_rows some (cell_byte (CsvPlus s) coming after_byte bs Fresh b ls t)

    ef_taken : {ls : List (Line Bytes)} → Takes (K bs) 0xEF (Ok (PlainBom1, OfCell)) ls → (¬ BeginsWithBom (0xEF ∷ bs)) × Rows (0xEF ∷ bs) ls
    ef_taken (steps.of_cell k) = ((λ m. k.0 (begin_bom m).1), field_rows some (more_cell (bom_cell s) k.1))

    top_byte : (b : ℕ) (ls : List (Line Bytes)) → Takes (K bs) b (begin_file (CsvPlus s) b) ls → (¬ BeginsWithBom (b ∷ bs)) × Rows (b ∷ bs) ls
    unfolding begin_file
    top_byte b ls =
        split (λ x. Takes (K bs) b x ls → (¬ BeginsWithBom (b ∷ bs)) × Rows (b ∷ bs) ls) (b is 0xEF)
        (λ p t. let q = is→eq b 0xEF p in rw q (ef_taken (rw q at t))) λ p t. ((λ m. eqb-false b 0xEF p (begin_bom m).0), row_byte b ls t)

  final_cell : {c : Cell} {ls : List (Line Bytes)} → is_whole (CsvPlus s) c ≡ true → steps.Finishes Final ls → CellThen (CsvPlus s) Further c [] ls
  final_cell w steps.final = cell_then (whole w) (at_tail at_file_end)

  last_cell_lem : (c : Cell) (ls : List (Line Bytes)) → steps.Finishes (last_cell (CsvPlus s) c) ls → CellThen (CsvPlus s) Further c [] ls
  last_cell_lem c ls = split (λ x. steps.Finishes x ls → CellThen (CsvPlus s) Further c [] ls) (is_whole (CsvPlus s) c) (λ w t. final_cell w t) λ _ t. cut_off t

  facts : Facts (CsvPlus s) coming
  facts =
      record {
        after_byte = after_byte;
        first_byte_lem = row_byte;
        first_line = λ bs b ls k. k;
        top_byte = top_byte;
        no_line = no_rows;
        no_top = (elim [ ], no_rows);
        last_cell_lem = last_cell_lem;
      }

  pub reads_file :
      {xs : Bytes} {l : Line Bytes} {ls : List (Line Bytes)} → Reads (CsvPlus s) Top xs (l ∷ ls) →
      File s xs (map (decoded_line (CsvPlus s)) (l ∷ ls))
  reads_file {xs} {l} {ls} r = let k = reads_coming (CsvPlus s) coming facts xs Top (l ∷ ls) r in go k.0 k.1
    where
      go : {xs : Bytes} {l : Line Bytes} {ls : List (Line Bytes)} → ¬ BeginsWithBom xs → Rows xs (l ∷ ls) → File s xs (map (decoded_line (CsvPlus s)) (l ∷ ls))
      go n (rows k) = file n (records_table k)
