-- Reading the canonical text of a record with its ending gives its cells, over every dialect. A whole cell stops before a delimiter
-- or an ending (`whole_stops`); each law gives the result of reading whatever follows the text, so that they compose.
use Prim.Native.Nat.{ℕ, suc, ◌+◌, ◌≤◌, ◌<◌}
use native.Mathlib.Omega.{arith}
use native.Mathlib.Nat.{add-zero}
use native.Mathlib.Numerals.{add-one, add-two}
use mathlib.Core.Path.{◌≡◌, refl, ap, ◌∙◌}
use mathlib.Core.Bool.{Bool, true, false, ◌&&◌, ◌||◌}
use Rattle.std.specs.Prelude.{Option}
use mathlib.Core.List.{List, [], ◌∷◌, ◌++◌, append_assoc}
use lib.Dec.{leb}
use lib.ListN.{length, length-append}
use Rattle.model.specs.rules.Types.{Delimiter, Comma, Semicolon, Tab, Bar, Quote, Double, Single, Settings, Dialect, Csvj, Tdif, CsvPlus}
use Rattle.model.specs.rules.Types.{Target, Whole, Within}
use Rattle.model.specs.rules.Types.{Numeral, Minus, Zero, Integer, Point, Fraction, E, ESign, Exponent, Cell, Fresh, Quoted, Closed, Escape}
use Rattle.model.specs.rules.Types.{Hex, InNumber, InWord, Plain, Complete, Stop}
use Rattle.model.specs.rules.Types.{FileState, Begin, ExpectCell, Inside, Cr, Between, Tail, Ends, Ok}
use Rattle.model.specs.rules.Base.{Bytes, LF, CR, ◌is◌, choose◌then◌else◌, is_empty}
use Rattle.model.specs.rules.Dialect.{into, quote_of, delimiter_of, delimiter_byte, quote_byte}
use Rattle.model.specs.rules.Cell.{is_digit, is_numeral, numeral_step, first_byte, plain_byte, cell_step, is_whole}
use Rattle.model.specs.rules.File.{after_cell, in_cell, begin_record, begin_file, file_step, counts}
use Rattle.model.specs.rules.Decode.{kind_of, content_of, validate_cell}
use Rattle.model.specs.rules.Text.{Value, cell_text, more_cells, all_cells, record_text, ending}
use Rattle.model.specs.rules.Report.{MAXFILE, MAXRECORD}
use Rattle.model.specs.rules.Records.{Rec, Read, Progress, going, record_full, read_byte, read_from, move, complete, record_fault, between_records}
use Rattle.model.specs.laws.Laws.{All, all_none, all_cons}
use Rattle.model.specs.laws.RoundTrips.{Back, Same, SameCells, no_cells}
use Rattle.model.proofs.file_laws.FileSteps.{whole_open}
use Rattle.model.proofs.round_trip.Meanings.{same_snoc}
use Rattle.model.proofs.Tests.{impossible, same_byte}
use Rattle.model.proofs.cell_laws.CellRuns.{WholeRun, sound_runs}
use Rattle.model.proofs.file_laws.Counted.{break_quote, cr_separates, lf_separates}
use Rattle.model.proofs.round_trip.CellRead.{Like, like_in, like_begin, like_top, like_wanting, like_bom1, like_bom2, NoBom, reading}
use Rattle.model.proofs.round_trip.CellRead.{file_free, record_free, Ran, run_cell}

-- ---- a whole cell ends before a delimiter or an ending

delimiter_no_quote : (d : Dialect) → (delimiter_of d is quote_of d) ≡ false
delimiter_no_quote Csvj = refl
delimiter_no_quote Tdif = refl
delimiter_no_quote (CsvPlus s) = go s.delimiter s.quote
  where
    go : (x : Delimiter) (q : Quote) → (delimiter_byte x is quote_byte q) ≡ false
    go Comma Double = refl
    go Comma Single = refl
    go Semicolon Double = refl
    go Semicolon Single = refl
    go Tab Double = refl
    go Tab Single = refl
    go Bar Double = refl
    go Bar Single = refl

-- a byte that continues no number and begins no byte order mark
record Breaks (b : ℕ) : Type 0 where
  no_digit : is_digit b ≡ false
  no_point : (b is 0x2E) ≡ false
  no_e : (b is 0x65 || b is 0x45) ≡ false
  no_mark : (b is 0xEF) ≡ false

delimiter_breaks : (d : Dialect) → Breaks (delimiter_of d)
delimiter_breaks Csvj = record { no_digit = refl; no_point = refl; no_e = refl; no_mark = refl }
delimiter_breaks Tdif = record { no_digit = refl; no_point = refl; no_e = refl; no_mark = refl }
delimiter_breaks (CsvPlus s) = go s.delimiter
  where
    go : (x : Delimiter) → Breaks (delimiter_byte x)
    go Comma = record { no_digit = refl; no_point = refl; no_e = refl; no_mark = refl }
    go Semicolon = record { no_digit = refl; no_point = refl; no_e = refl; no_mark = refl }
    go Tab = record { no_digit = refl; no_point = refl; no_e = refl; no_mark = refl }
    go Bar = record { no_digit = refl; no_point = refl; no_e = refl; no_mark = refl }

-- a separator or an ending of this dialect
record Closer (d : Dialect) (b : ℕ) : Type 0 where
  breaks : Breaks b
  no_quote : (b is quote_of d) ≡ false
  closes : (b is delimiter_of d || b is CR || b is LF) ≡ true

separator : (d : Dialect) → Closer d (delimiter_of d)
separator d = record { breaks = delimiter_breaks d; no_quote = delimiter_no_quote d; closes = rw (same_byte (delimiter_of d)) }

by_lf : (d : Dialect) → Closer d LF
by_lf d =
    record {
      breaks = record { no_digit = refl; no_point = refl; no_e = refl; no_mark = refl };
      no_quote = break_quote d LF refl refl;
      closes = lf_separates d;
    }

by_cr : (d : Dialect) → Closer d CR
by_cr d =
    record {
      breaks = record { no_digit = refl; no_point = refl; no_e = refl; no_mark = refl };
      no_quote = break_quote d CR refl refl;
      closes = cr_separates d;
    }

fresh_stops : (d : Dialect) (b : ℕ) → Closer d b → is_whole d Fresh ≡ true → cell_step d Fresh b ≡ Stop
unfolding cell_step first_byte is_whole choose◌then◌else◌
fresh_stops Csvj b k w = impossible w
fresh_stops Tdif b k w = impossible w
fresh_stops (CsvPlus s) b k w = rw (k.no_quote, k.closes)

-- a number that may end here ends before such a byte
numeral_stops : (n : Numeral) (b : ℕ) → Breaks b → is_numeral n ≡ true → numeral_step n b ≡ Stop
unfolding numeral_step choose◌then◌else◌
numeral_stops Minus b k w = impossible w
numeral_stops Zero b k w = rw (k.no_point, k.no_e)
numeral_stops Integer b k w = rw (k.no_digit, k.no_point, k.no_e)
numeral_stops Point b k w = impossible w
numeral_stops Fraction b k w = rw (k.no_digit, k.no_e)
numeral_stops E b k w = impossible w
numeral_stops ESign b k w = impossible w
numeral_stops Exponent b k w = rw k.no_digit

whole_stops : (d : Dialect) (b : ℕ) → Closer d b → (c : Cell) → is_whole d c ≡ true → cell_step d c b ≡ Stop
unfolding cell_step plain_byte is_whole choose◌then◌else◌
whole_stops d b k Fresh w = fresh_stops d b k w
whole_stops d b k (Quoted c) w = impossible w
whole_stops d b k Closed w = rw k.no_quote
whole_stops d b k Escape w = impossible w
whole_stops d b k (Hex n) w = impossible w
whole_stops d b k (InNumber n) w = numeral_stops n b k.breaks w
whole_stops d b k (InWord x) w = impossible w
whole_stops d b k (Plain Whole) w = rw (k.no_quote, k.closes)
whole_stops d b k (Plain (Within i)) w = impossible w
whole_stops d b k Complete w = refl

-- ---- what a separator and an ending do

abbrev pub next_state : Dialect → FileState
next_state Csvj = ExpectCell
next_state Tdif = Inside Fresh
next_state (CsvPlus s) = Inside Fresh

pub next_like : (d : Dialect) → Like d (next_state d) Fresh
next_like Csvj = like_wanting
next_like Tdif = like_in
next_like (CsvPlus s) = like_in

next_clear : (d : Dialect) (bs : Bytes) → NoBom (next_state d) bs
next_clear Csvj bs = tt
next_clear Tdif bs = tt
next_clear (CsvPlus s) bs = tt

close_step : {d : Dialect} {f : FileState} {c : Cell} (b : ℕ) → Closer d b → Like d f c → is_whole d c ≡ true → file_step d f b ≡ after_cell d true b
unfolding file_step in_cell begin_record begin_file is_whole choose◌then◌else◌
close_step b k (like_in {d} {c}) w = rw (whole_stops d b k c w)
close_step b k (like_begin {d = Csvj}) w = impossible w
close_step b k (like_begin {d = Tdif}) w = impossible w
close_step b k (like_begin {d = CsvPlus s}) w = rw (whole_stops (CsvPlus s) b k Fresh w)
close_step b k (like_top {d = Csvj}) w = impossible w
close_step b k (like_top {d = Tdif}) w = impossible w
close_step b k (like_top {d = CsvPlus s}) w = rw (k.breaks.no_mark, whole_stops (CsvPlus s) b k Fresh w)
close_step b k like_wanting w = impossible w
close_step b k like_bom1 w = impossible w
close_step b k like_bom2 w = impossible w

-- no quotes are open after a whole cell
like_open : {d : Dialect} {f : FileState} {c : Cell} (b : ℕ) → Like d f c → is_whole d c ≡ true → (b is LF || b is CR) ≡ true → counts f b ≡ false
unfolding counts
like_open {d} b (like_in {c}) w e = rw (whole_open d c w, e)
like_open b like_begin w e = rw e
like_open b like_top w e = rw e
like_open b like_wanting w e = rw e
like_open b like_bom1 w e = rw e
like_open b like_bom2 w e = rw e

and_false : (x : Bool) → (x && false) ≡ false
and_false true = refl
and_false false = refl

end_free : (r : Read) (b : ℕ) → counts r.state b ≡ false → record_full r b ≡ false
unfolding record_full
end_free r b k = rw (k, and_false (leb MAXRECORD r.size))

sep_after : (d : Dialect) → after_cell d true (delimiter_of d) ≡ Ok (next_state d, Between true)
unfolding after_cell choose◌then◌else◌
sep_after Csvj = refl
sep_after Tdif = refl
sep_after (CsvPlus s) = rw (same_byte (delimiter_of (CsvPlus s)))

-- ---- one cell, and the cells after it

-- the current cell
abbrev value_of : Dialect → (from upto : ℕ) → Bytes → Value
value_of d p o raw = record { from = p; upto = o; kind = kind_of d raw; content = content_of d raw }

module _ (d : Dialect) (T : Option Target) (ds : List Rec) (s : ℕ) where
  sep_read :
      {f : FileState} {c : Cell} → Like d f c → is_whole d c ≡ true → (o z p : ℕ) (raw : Bytes) (vs : List Value) → o < MAXFILE →
      z < MAXRECORD →
      read_byte d T (reading ds f o s z p raw vs) (delimiter_of d)
      ≡ going (reading ds (next_state d) (suc o) s (suc z) (suc o) [] (vs ++ (value_of d p o raw ∷ [])))
  unfolding read_byte move choose◌then◌else◌
  sep_read {f} l w o z p raw vs h k =
      rw (
        file_free (reading ds f o s z p raw vs) h,
        record_free (reading ds f o s z p raw vs) (delimiter_of d) k,
        close_step (delimiter_of d) (separator d) l w,
        sep_after d,
      )

  -- the record that this cell ends
  abbrev pub recorded : (size : ℕ) → List Value → Rec
  recorded z vs = record { start = s; size = z; cells = vs }

  -- the record is complete, and nothing is wrong with it
  completed :
      (r : Read) (vs : List Value) (o z : ℕ) → r.done ≡ ds → r.start ≡ s → r.size ≡ z → record_fault d T ds vs ≡ Ok tt →
      complete d T r vs Begin o ≡ going (between_records (ds ++ (recorded z vs ∷ [])) Begin o)
  unfolding complete
  completed r vs o z e k m n = rw (e, k, m, n)

  lf_read :
      {f : FileState} {c : Cell} → after_cell d true LF ≡ Ok (Begin, Ends true) → Like d f c → is_whole d c ≡ true →
      (o z p : ℕ) (raw : Bytes) (vs : List Value) → o < MAXFILE → record_fault d T ds (vs ++ (value_of d p o raw ∷ [])) ≡ Ok tt →
      read_byte d T (reading ds f o s z p raw vs) LF
      ≡ going (between_records (ds ++ (recorded z (vs ++ (value_of d p o raw ∷ [])) ∷ [])) Begin (suc o))
  unfolding read_byte move choose◌then◌else◌
  lf_read {f} a l w o z p raw vs h n =
      rw (file_free (reading ds f o s z p raw vs) h, end_free (reading ds f o s z p raw vs) LF (like_open LF l w refl), close_step LF (by_lf d) l w, a)
      (completed (reading ds f o s z p raw vs) (vs ++ (value_of d p o raw ∷ [])) (suc o) z refl refl refl n)

  cr_read :
      {f : FileState} {c : Cell} → after_cell d true CR ≡ Ok (Cr, Tail true) → Like d f c → is_whole d c ≡ true →
      (o z p : ℕ) (raw : Bytes) (vs : List Value) → o < MAXFILE →
      read_byte d T (reading ds f o s z p raw vs) CR ≡ going (reading ds Cr (suc o) s z (suc o) [] (vs ++ (value_of d p o raw ∷ [])))
  unfolding read_byte move choose◌then◌else◌
  cr_read {f} a l w o z p raw vs h =
      rw (file_free (reading ds f o s z p raw vs) h, end_free (reading ds f o s z p raw vs) CR (like_open CR l w refl), close_step CR (by_cr d) l w, a)

  crlf_read :
      file_step d Cr LF ≡ Ok (Begin, Ends false) → (o z p : ℕ) (raw : Bytes) (vs : List Value) → o < MAXFILE → record_fault d T ds vs ≡ Ok tt →
      read_byte d T (reading ds Cr o s z p raw vs) LF ≡ going (between_records (ds ++ (recorded z vs ∷ [])) Begin (suc o))
  unfolding read_byte move choose◌then◌else◌
  crlf_read a o z p raw vs h n =
      rw (file_free (reading ds Cr o s z p raw vs) h, end_free (reading ds Cr o s z p raw vs) LF (unfold counts in refl), a)
      (completed (reading ds Cr o s z p raw vs) vs (suc o) z refl refl refl n)

cr_no_delimiter : (s : Settings) → (CR is delimiter_of (CsvPlus s)) ≡ false
cr_no_delimiter s = go s.delimiter
  where
    go : (x : Delimiter) → (CR is delimiter_byte x) ≡ false
    go Comma = refl
    go Semicolon = refl
    go Tab = refl
    go Bar = refl

cr_after : (s : Settings) → after_cell (CsvPlus s) true CR ≡ Ok (Cr, Tail true)
unfolding after_cell choose◌then◌else◌
cr_after s = rw (cr_no_delimiter s)

byte_by :
    (d : Dialect) (T : Option Target) (r : Read) (b : ℕ) (q : Progress) (xs : Bytes) → read_byte d T r b ≡ q →
    read_from d T (going r) (b ∷ xs) ≡ read_from d T q xs
unfolding read_from
byte_by d T r b q xs e = ap (λ (x : Progress). read_from d T x xs) e

-- the ending after the last cell
end_read :
    (d : Dialect) (T : Option Target) (ds : List Rec) (s : ℕ) {f : FileState} {c : Cell} → Like d f c → is_whole d c ≡ true →
    (o z p : ℕ) (raw : Bytes) (vs : List Value) (xs : Bytes) → o + length (ending d) ≤ MAXFILE →
    record_fault d T ds (vs ++ (value_of d p o raw ∷ [])) ≡ Ok tt →
    read_from d T (going (reading ds f o s z p raw vs)) (ending d ++ xs)
    ≡ read_from d T
    (going (between_records (ds ++ (recorded d T ds s z (vs ++ (value_of d p o raw ∷ [])) ∷ [])) Begin (o + length (ending d)))) xs
unfolding read_from
end_read Csvj T ds s l w o z p raw vs xs h n =
    rw (lf_read Csvj T ds s (unfold after_cell choose◌then◌else◌ in refl) l w o z p raw vs (omega arith) n, add-one o)
end_read Tdif T ds s l w o z p raw vs xs h n =
    rw (lf_read Tdif T ds s (unfold after_cell choose◌then◌else◌ in refl) l w o z p raw vs (omega arith) n, add-one o)
end_read (CsvPlus k) T ds s l w o z p raw vs xs h n =
    rw (add-two o)
    (byte_by (CsvPlus k) T _ CR _ (LF ∷ xs) (cr_read (CsvPlus k) T ds s (cr_after k) l w o z p raw vs (omega arith))
    ∙ byte_by (CsvPlus k) T _ LF _ xs
    (crlf_read (CsvPlus k) T ds s (unfold file_step choose◌then◌else◌ in refl) (suc o) z (suc o) []
    (vs ++ (value_of (CsvPlus k) p o raw ∷ [])) (omega arith) n))

-- ---- the cells of a record

back_runs : {d : Dialect} {raw : Bytes} {v : Value} → Back d raw v → WholeRun d Fresh raw
unfolding validate_cell
back_runs {d} {raw} b = sound_runs d Fresh 0 raw b.sound

unfoldable pub MoreBack : Dialect → Value → Type 0
MoreBack d v = Back d (cell_text d false false v) v

module _ (d : Dialect) (T : Option Target) (ds : List Rec) (s : ℕ) where
  -- from this state the record ends, with these cells
  pub record Finishes (r : Read) (upto size : ℕ) (text : Bytes) (all : List Value) : Type 0 where
    pub cells : List Value
    pub same : SameCells cells all
    pub run :
        (xs : Bytes) →
        read_from d T (going r) (text ++ xs)
        ≡ read_from d T (going (between_records (ds ++ (recorded d T ds s size cells ∷ [])) Begin upto)) xs

  at_size :
      (cells : List Value) (xs : Bytes) (u u' z z' : ℕ) → u ≡ u' → z ≡ z' →
      read_from d T (going (between_records (ds ++ (recorded d T ds s z cells ∷ [])) Begin u)) xs
      ≡ read_from d T (going (between_records (ds ++ (recorded d T ds s z' cells ∷ [])) Begin u')) xs
  at_size cells xs u u' z z' e k = rw (e, k)

  abbrev pub Fine : List Value → Type 0
  Fine all = (vs : List Value) → SameCells vs all → record_fault d T ds vs ≡ Ok tt

  -- the current cell is whole, and these come after it
  rest_read :
      (ws : List Value) {f : FileState} {c : Cell} → Like d f c → is_whole d c ≡ true →
      (o z p : ℕ) (raw : Bytes) (vs olds : List Value) (w : Value) → SameCells vs olds → Same (value_of d p o raw) w → All (MoreBack d) ws →
      o + length (more_cells d ws) + length (ending d) ≤ MAXFILE → z + length (more_cells d ws) ≤ MAXRECORD → Fine (olds ++ (w ∷ ws)) →
      Finishes (reading ds f o s z p raw vs) (o + length (more_cells d ws) + length (ending d)) (z + length (more_cells d ws))
      (more_cells d ws ++ ending d) (olds ++ (w ∷ ws))
  unfolding MoreBack more_cells
  rest_read [] {f} l h o z p raw vs olds w e k all_none m n ok =
      let cs : SameCells (vs ++ (value_of d p o raw ∷ [])) (olds ++ (w ∷ [])) = same_snoc e k in
      record {
        cells = vs ++ (value_of d p o raw ∷ []);
        same = cs;
        run = λ xs. rw (add-zero o, add-zero z) (end_read d T ds s l h o z p raw vs xs (omega arith) (ok _ cs));
      }
  rest_read (v ∷ vs') {f} l h o z p raw vs olds w e k (all_cons b bs) m n ok =
      let t : Bytes = cell_text d false false v in
      let len : length (t ++ more_cells d vs') ≡ length t + length (more_cells d vs') = length-append t (more_cells d vs') in
      let W : WholeRun d Fresh t = back_runs b in
      let vs₁ : List Value = vs ++ (value_of d p o raw ∷ []) in
      let R : Ran d T ds s (suc o) vs₁ (next_state d) W.end (suc o) (suc z) [] t
      = run_cell d T ds s (suc o) vs₁ (next_like d) W.runs (next_clear d t) (suc o) (suc z) [] (omega arith) (omega arith) in
      let I : Finishes (reading ds R.state (suc o + length t) s (suc z + length t) (suc o) t vs₁)
      (suc o + length t + length (more_cells d vs') + length (ending d)) (suc z + length t + length (more_cells d vs'))
      (more_cells d vs' ++ ending d) ((olds ++ (w ∷ [])) ++ (v ∷ vs'))
      = rest_read vs' R.like W.whole (suc o + length t) (suc z + length t) (suc o) t vs₁ (olds ++ (w ∷ [])) v (same_snoc e k)
      (record { kind = b.kind; content = b.content }) bs (omega arith) (omega arith) (λ ws x. ok ws (rw append_assoc at x)) in
      let upto : suc o + length t + length (more_cells d vs') + length (ending d) ≡ o + suc (length (t ++ more_cells d vs')) + length (ending d) = omega arith in
      let size : suc z + length t + length (more_cells d vs') ≡ z + suc (length (t ++ more_cells d vs')) = omega arith in
      record {
        cells = I.cells;
        same = rw append_assoc at I.same;
        run = λ xs.
            ap (λ (x : Bytes). read_from d T (going (reading ds f o s z p raw vs)) (delimiter_of d ∷ x))
            (ap (λ (x : Bytes). x ++ xs) (append_assoc t (more_cells d vs') (ending d))
            ∙ append_assoc t (more_cells d vs' ++ ending d) xs)
            ∙ byte_by d T _ (delimiter_of d) _ (t ++ ((more_cells d vs' ++ ending d) ++ xs)) (sep_read d T ds s l h o z p raw vs (omega arith) (omega arith))
            ∙ R.run ((more_cells d vs' ++ ending d) ++ xs)
            ∙ I.run xs
            ∙ at_size I.cells xs (suc o + length t + length (more_cells d vs') + length (ending d))
            (o + suc (length (t ++ more_cells d vs')) + length (ending d)) (suc z + length t + length (more_cells d vs'))
            (z + suc (length (t ++ more_cells d vs'))) upto size;
      }

-- ---- a record

-- what a row needs to be read back from f
pub data RowBack : Dialect → FileState → Bool → List Value → Type 0 where
  row_empty : {f : FileState} {header : Bool} → file_step Csvj f LF ≡ Ok (Begin, Ends false) → counts f LF ≡ false → RowBack Csvj f header []
  row_cells :
      {d : Dialect} {f : FileState} {header : Bool} {v : Value} {vs : List Value} → Like d f Fresh →
      NoBom f (cell_text d (is_empty vs) header v) → Back d (cell_text d (is_empty vs) header v) v → All (MoreBack d) vs →
      RowBack d f header (v ∷ vs)

empty_read :
    (T : Option Target) (ds : List Rec) (f : FileState) (o : ℕ) (xs : Bytes) → file_step Csvj f LF ≡ Ok (Begin, Ends false) →
    counts f LF ≡ false → o < MAXFILE → record_fault Csvj T ds [] ≡ Ok tt →
    read_from Csvj T (going (between_records ds f o)) (LF ∷ xs)
    ≡ read_from Csvj T (going (between_records (ds ++ (recorded Csvj T ds o 0 [] ∷ [])) Begin (suc o))) xs
unfolding read_byte move choose◌then◌else◌
empty_read T ds f o xs e k h n =
    byte_by Csvj T (between_records ds f o) LF _ xs
    (rw (file_free (between_records ds f o) h, end_free (between_records ds f o) LF k, e)
    (completed Csvj T ds o (between_records ds f o) [] (suc o) 0 refl refl refl n))

-- reading a record's text and its ending gives its cells
pub record_read :
    (d : Dialect) (T : Option Target) (ds : List Rec) (f : FileState) (header : Bool) (row : List Value) (o : ℕ) → RowBack d f header row →
    o + length (record_text (into d) header row) + length (ending d) ≤ MAXFILE → length (record_text (into d) header row) ≤ MAXRECORD →
    Fine d T ds o row →
    Finishes d T ds o (between_records ds f o) (o + length (record_text (into d) header row) + length (ending d))
    (length (record_text (into d) header row)) (record_text (into d) header row ++ ending d) row
unfolding all_cells record_text
record_read d T ds f header row o (row_empty e k) m n ok =
    let u : suc o ≡ o + 0 + 1 = omega arith in
    record {
      cells = [];
      same = no_cells;
      run =
          λ xs.
          empty_read T ds f o xs e k (omega arith) (ok [] no_cells)
          ∙ ap (λ (u : ℕ). read_from Csvj T (going (between_records (ds ++ (recorded Csvj T ds o 0 [] ∷ [])) Begin u)) xs) u;
    }
record_read d T ds f header row o (row_cells {v} {vs} l c b bs) m n ok =
    let t : Bytes = cell_text d (is_empty vs) header v in
    let len : length (t ++ more_cells d vs) ≡ length t + length (more_cells d vs) = length-append t (more_cells d vs) in
    let W : WholeRun d Fresh t = back_runs b in
    let R : Ran d T ds o o [] f W.end o 0 [] t = run_cell d T ds o o [] l W.runs c o 0 [] (omega arith) (omega arith) in
    let I : Finishes d T ds o (reading ds R.state (o + length t) o (0 + length t) o t [])
    (o + length t + length (more_cells d vs) + length (ending d)) (0 + length t + length (more_cells d vs)) (more_cells d vs ++ ending d)
    (v ∷ vs)
    = rest_read d T ds o vs R.like W.whole (o + length t) (0 + length t) o t [] [] v no_cells
    (record { kind = b.kind; content = b.content }) bs (omega arith) (omega arith) ok in
    let upto : o + length t + length (more_cells d vs) + length (ending d) ≡ o + length (t ++ more_cells d vs) + length (ending d) = omega arith in
    let size : 0 + length t + length (more_cells d vs) ≡ length (t ++ more_cells d vs) = omega arith in
    record {
      cells = I.cells;
      same = I.same;
      run = λ xs.
          ap (λ (x : Bytes). read_from d T (going (between_records ds f o)) x)
          (ap (λ (x : Bytes). x ++ xs) (append_assoc t (more_cells d vs) (ending d)) ∙ append_assoc t (more_cells d vs ++ ending d) xs)
          ∙ R.run ((more_cells d vs ++ ending d) ++ xs)
          ∙ I.run xs
          ∙ at_size d T ds o I.cells xs (o + length t + length (more_cells d vs) + length (ending d))
          (o + length (t ++ more_cells d vs) + length (ending d)) (0 + length t + length (more_cells d vs)) (length (t ++ more_cells d vs))
          upto size;
    }
