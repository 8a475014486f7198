-- The checks of a complete record, and reading, over any dialect: offsets, record numbers, limits, spans.
use Rattle.std.specs.Prelude.{ℕ, suc, ◌+◌, Bool, true, false, not, ◌&&◌, List, [], ◌∷◌, ◌++◌, map, length, leb, ltb, eqb, Option, None, Some}
use Rattle.model.specs.rules.Types.{Report, Kind, Text, Number, True, False, Null, Dialect, Csvj, Tdif, CsvPlus, Target}
use Rattle.model.specs.rules.Types.{FileState, Top, Begin, Outside, Passed, OfCell, Between, Tail, Ends, Step, Ok, Err, Ending, Clean, Final, Cut}
use Rattle.model.specs.rules.Types.{Fault, NoRecord, Byte, CutShort, CellCount, RepeatedName, HeaderKind, FileTooLong, RecordTooLong}
use Rattle.model.specs.rules.Types.{TooManyColumns, NoCells, LacksKind, LoneSurrogate, Clash, TextTooLong, OutputTooLong, CheckResult}
use Rattle.model.specs.rules.Base.{choose◌then◌else◌, within, Bytes, same, is_empty}
use Rattle.model.specs.rules.Dialect.{is_csvj}
use Rattle.model.specs.rules.Utf8.{holds_lone}
use Rattle.model.specs.rules.File.{file_step, file_end, counts}
use Rattle.model.specs.rules.Decode.{kind_of, content_of}
use Rattle.model.specs.rules.Text.{Value, is_text, carried, record_text, table_text, ending}
use Rattle.model.specs.rules.Report.{report, accepted, number_of, column_of, is_at_byte, MAXFILE, MAXRECORD, MAXCOLUMNS}

-- a complete record: where it starts, how many of its bytes are counted, and its cells (§6.20 §7.4)
pub record Rec : Type 0 where
  pub start : ℕ
  pub size : ℕ
  pub cells : List Value

-- the cells of each record, which is all of it that canonical text depends on (§14.1)
unfoldable pub rows : List Rec → List (List Value)
rows [] = []
rows (r ∷ rs) = r.cells ∷ rows rs

-- ---- checks

-- two checks in this order: the fault of the first that has one (§7.8 §8.1)
infixr 20 ◌or_else◌
unfoldable pub ◌or_else◌ : CheckResult → CheckResult → CheckResult
Ok tt or_else y = y
Err e or_else y = Err e

-- one check: this fault exactly when the test holds (§7.8 §8.1)
unfoldable pub when : Bool → Fault → CheckResult
when true e = Err e
when false e = Ok tt

-- ---- names

-- a letter A to Z as its lower case, and every other byte as it is (§4.10)
abbrev pub lower : ℕ → ℕ
lower b = choose within 0x41 0x5A b then b + 0x20 else b

-- what names are compared by: content, in TDIF with upper case taken as lower. Two names are the same exactly when their
-- keys are (§3.11 §4.10 §5.10)
unfoldable pub name_key : Dialect → Bytes → Bytes
name_key Csvj bs = bs
name_key Tdif bs = map lower bs
name_key (CsvPlus s) bs = bs

-- a name is among others (§6.6)
unfoldable pub among : Bytes → List Bytes → Bool
among x [] = false
among x (y ∷ ys) = choose same x y then true else among x ys

-- the first name, from column n on, that repeats an earlier one; `seen` holds the keys of the earlier ones (§6.6 §7.10)
unfoldable pub repeat_from : Dialect → (ℕ → Fault) → (seen : List Bytes) (n : ℕ) → List Value → CheckResult
repeat_from d fault seen n [] = Ok tt
repeat_from d fault seen n (v ∷ vs) =
    let key : Bytes = name_key d v.content in
    choose among key seen then Err (fault n) else repeat_from d fault (key ∷ seen) (suc n) vs

-- the first header name that repeats an earlier one, by the dialect's rule for names (§6.6 §8.4)
unfoldable pub repeat_fault : Dialect → (ℕ → Fault) → List Value → CheckResult
repeat_fault d fault vs = repeat_from d fault [] 1 vs

-- ---- a complete record

-- the first header cell, from column n on, that is not text (§3.10 §4.9 §6.7)
unfoldable pub header_kind_from : ℕ → List Value → CheckResult
header_kind_from n [] = Ok tt
header_kind_from n (v ∷ vs) = when (not (is_text v.kind)) (HeaderKind n) or_else header_kind_from (suc n) vs

-- the checks of a header: 8 for columns, 7 for all its cells, 6 (§6.6 §6.7 §6.13 §7.3 §7.8 §7.10)
unfoldable pub header_fault : Dialect → List Value → CheckResult
header_fault d vs =
    when (ltb MAXCOLUMNS (length vs)) TooManyColumns
    or_else header_kind_from 1 vs
    or_else repeat_fault d RepeatedName vs

-- the checks of a data record: 8 for columns, 5 (§2.2 §6.5 §6.13 §7.8 §7.9)
unfoldable pub data_fault : (columns : ℕ) → List Value → CheckResult
data_fault columns vs =
    when (ltb MAXCOLUMNS (length vs)) TooManyColumns
    or_else when (not (eqb (length vs) columns)) CellCount

-- ---- the checks of a target

-- the dialect has cells of this kind (§2.5 §8.3)
abbrev pub has_kind : Dialect → Kind → Bool
has_kind Csvj k = true
has_kind Tdif Text = true
has_kind Tdif Number = false
has_kind Tdif True = false
has_kind Tdif False = false
has_kind Tdif Null = true
has_kind (CsvPlus s) k = is_text k

-- a text with a lone surrogate, into a target that is not CSVJ (§8.3)
abbrev pub loses_surrogate : Dialect → Value → Bool
loses_surrogate t v = not (is_csvj t) && is_text v.kind && holds_lone v.content

-- the first cell, from column n on, that the target can't represent, by its kind or by a lone surrogate (§8.3)
unfoldable pub uncarried_from : Dialect → (n : ℕ) → List Value → CheckResult
uncarried_from t n [] = Ok tt
uncarried_from t n (v ∷ vs) =
    when (not (has_kind t v.kind)) (LacksKind n)
    or_else when (loses_surrogate t v) (LoneSurrogate n)
    or_else uncarried_from t (suc n) vs

-- the first header name that repeats an earlier one by the target's rule (§8.4)
abbrev pub clash_fault : Dialect → (header : Bool) → List Value → CheckResult
clash_fault t true vs = repeat_fault t Clash vs
clash_fault t false vs = Ok tt

-- fault 9 of a record, reason by reason, after `written` bytes of output (§6.9 §8.1 §8.2 §8.3 §8.4 §8.5 §8.6)
unfoldable pub target_fault : Target → (header : Bool) → (written : ℕ) → List Value → CheckResult
target_fault t header written vs =
    let text : Bytes = record_text t header vs in
    when (header && is_empty vs && not (is_csvj t.dialect)) NoCells
    or_else uncarried_from t.dialect 1 (carried t vs)
    or_else clash_fault t.dialect header (carried t vs)
    or_else when (ltb MAXRECORD (length text)) TextTooLong
    or_else when (ltb MAXFILE (written + length (text ++ ending t.dialect))) OutputTooLong

-- fault 9 of the record that follows the rows `done`, whose text is all that is written before it (§8.6 §8.7)
abbrev pub target_next : Target → (done : List (List Value)) → List Value → CheckResult
target_next t done vs = target_fault t (is_empty done) (length (table_text t done)) vs

-- a check that is made only where there is a target (§7.8 §12.2)
abbrev pub converting : Option Target → (Target → CheckResult) → CheckResult
converting None f = Ok tt
converting (Some t) f = f t

-- the fault of the record that follows `done`: the checks of its source, read in d, and then those of its target if there is one
-- (§7.8 §8.7)
unfoldable pub record_fault : Dialect → (target : Option Target) → (done : List Rec) → List Value → CheckResult
record_fault d target [] vs = header_fault d vs or_else converting target (λ t. target_next t [] vs)
record_fault d target (h ∷ rs) vs =
    data_fault (length h.cells) vs
    or_else converting target (λ t. target_next t (h.cells ∷ rows rs) vs)

-- ---- reading, a byte at a time

-- the reading state: the complete records; the state of the file; the next byte's offset; where the current record starts, or the
-- next one; how many of its bytes are counted; where the current cell starts, or the next one; its bytes; the record's complete cells
-- (§6.18 §6.20 §7.4 §10.3)
pub record Read : Type 0 where
  pub done : List Rec
  pub state : FileState
  pub offset : ℕ
  pub start : ℕ
  pub size : ℕ
  pub opened : ℕ
  pub raw : Bytes
  pub cells : List Value

-- between records: the one next expected starts at the next byte, at o, unless a comment comes first (§6.18 §6.20)
abbrev pub between_records : List Rec → FileState → ℕ → Read
between_records rs f o = record { done = rs; state = f; offset = o; start = o; size = 0; opened = o; raw = []; cells = [] }

-- no byte of the file is read, and the next one is at offset 0 (§6.19)
unfoldable pub nothing_read : Read
nothing_read = between_records [] Top 0

-- reading continues, or found a fault, with the reading state before it (§7.5)
pub data Progress : Type 0 where
  going : Read → Progress
  stopped : Fault → Read → Progress

-- the cell that ends before the next byte: its span, its kind and its content (§2.3 §10.3 §10.4)
abbrev pub cell_now : Dialect → Read → Value
cell_now d r = record { from = r.opened; upto = r.offset; kind = kind_of d r.raw; content = content_of d r.raw }

-- the record's cells, with the current one where it closes (§10.3)
abbrev pub closing : Dialect → (closes : Bool) → Read → List Value
closing d true r = r.cells ++ (cell_now d r ∷ [])
closing d false r = r.cells

-- a faulty record stops reading where it is still the one being read (§6.18)
abbrev pub validated : Read → Read → CheckResult → Progress
validated before next (Ok _) = going next
validated before next (Err e) = stopped e before

-- a record ends and is checked: the current record, with these cells, the state of the file after it, and the next offset (§7.5 §7.8)
unfoldable pub complete : Dialect → (target : Option Target) → Read → List Value → FileState → ℕ → Progress
complete d target r vs f o =
    validated r (between_records (r.done ++ (record { start = r.start; size = r.size; cells = vs } ∷ [])) f o)
    (record_fault d target r.done vs)

-- what the byte b, which does this to the form, does to what has been read: which bytes are counted, where a record starts,
-- where a cell begins and ends (§6.20 §7.4 §10.3)
unfoldable pub move : Dialect → (target : Option Target) → Read → ℕ → Step → Progress
move d target r b (Err e) = stopped (Byte e) r
move d target r b (Ok (f, Outside)) =
    going (record { done = r.done; state = f; offset = suc r.offset; start = r.start; size = 0; opened = suc r.offset; raw = []; cells = [] })
move d target r b (Ok (f, Passed)) = going (between_records r.done f (suc r.offset))
move d target r b (Ok (f, OfCell)) =
    going (record {
      done = r.done;
      state = f;
      offset = suc r.offset;
      start = r.start;
      size = suc r.size;
      opened = r.opened;
      raw = r.raw ++ (b ∷ []);
      cells = r.cells;
    })
move d target r b (Ok (f, Between closes)) =
    going (record {
      done = r.done;
      state = f;
      offset = suc r.offset;
      start = r.start;
      size = suc r.size;
      opened = suc r.offset;
      raw = [];
      cells = closing d closes r;
    })
move d target r b (Ok (f, Tail closes)) =
    going (record {
      done = r.done;
      state = f;
      offset = suc r.offset;
      start = r.start;
      size = r.size;
      opened = suc r.offset;
      raw = [];
      cells = closing d closes r;
    })
move d target r b (Ok (f, Ends closes)) = complete d target r (closing d closes r) f (suc r.offset)

-- the file has all the bytes that it may have, and the next is one too many (§6.8 §7.1 §7.7)
unfoldable pub file_full : Read → Bool
file_full r = leb MAXFILE r.offset

-- the same of the current record, where the next byte would be counted in it (§6.8 §7.2 §7.6)
unfoldable pub record_full : Read → ℕ → Bool
record_full r b = leb MAXRECORD r.size && counts r.state b

-- one byte more: limits come before form (§7.6)
unfoldable pub read_byte : Dialect → (target : Option Target) → Read → ℕ → Progress
read_byte d target r b =
    choose file_full r then stopped FileTooLong r
    else choose record_full r b then stopped RecordTooLong r
    else move d target r b (file_step d r.state b)

-- bytes in file order, up to the first fault (§7.5)
unfoldable pub read_from : Dialect → (target : Option Target) → Progress → Bytes → Progress
read_from d target p [] = p
read_from d target (stopped e r) (b ∷ bs) = stopped e r
read_from d target (going r) (b ∷ bs) = read_from d target (read_byte d target r b) bs

-- the bytes of a file without its end, as a piece call sees those consumed (§16.5)
unfoldable pub read_bytes : Dialect → (target : Option Target) → Bytes → Progress
read_bytes d target bs = read_from d target (going nothing_read) bs

-- ---- the end of the file

-- the end of the file between records: fault 1 if there was none (§5.2 §6.1)
abbrev pub end_between : Read → List Rec → Progress
end_between r [] = stopped NoRecord r
end_between r (h ∷ rs) = going r

-- the end of the file: between records, or completing a last CSV+ record, which is checked there, or fault 4 (§5.11 §6.4 §6.26)
abbrev pub end_at : Dialect → (target : Option Target) → Read → Ending → Progress
end_at d target r Clean = end_between r r.done
end_at d target r Final = complete d target r (closing d true r) Begin r.offset
end_at d target r Cut = stopped CutShort r

-- the end of the file after its bytes, where an earlier fault stays (§7.5)
unfoldable pub read_end : Dialect → (target : Option Target) → Progress → Progress
read_end d target (stopped e r) = stopped e r
read_end d target (going r) = end_at d target r (file_end d r.state)

-- a whole file: its bytes, and then its end (§2.1 §7.5)
unfoldable pub read_file : Dialect → (target : Option Target) → Bytes → Progress
read_file d target bs = read_end d target (read_bytes d target bs)

-- ---- reports

-- the record that a fault names (§6.17 §6.18)
abbrev pub record_now : Read → ℕ
record_now r = suc (length r.done)

-- the offset of a fault: the byte where reading is, or the start of the record (§6.19 §6.20)
abbrev pub place_of : Fault → Read → ℕ
place_of e r = choose is_at_byte e then r.offset else r.start

-- the report of a fault, by its row of the table (§6.14)
abbrev pub fault_report : Fault → Read → Report
fault_report e r = report (number_of e) (record_now r) (column_of e) (place_of e r)

-- the report on what was read: acceptance, or that of the fault (§6.14 §6.15)
abbrev pub report_of : Progress → Report
report_of (going r) = accepted
report_of (stopped e r) = fault_report e r

-- the records completed before any fault (§16.7)
abbrev pub records_of : Progress → List Rec
records_of (going r) = r.done
records_of (stopped e r) = r.done

-- helper: `unfolding records_computes` opens every definition of this module
unfoldable pub records_computes : Type 0
unfolding rows ◌or_else◌ when name_key among repeat_from repeat_fault header_kind_from header_fault data_fault uncarried_from target_fault
    record_fault nothing_read complete move file_full record_full read_byte read_from read_bytes read_end read_file
records_computes = Unit {0}
