-- The form of a file, a byte at a time: the byte order mark, comments, and records of cells with delimiters and endings. By form
-- alone: counts, names, kinds and limits are left to Records.
use Rattle.std.specs.Prelude.{ℕ, Bool, true, false, not, ◌||◌}
use Rattle.model.specs.rules.Types.{Dialect, Csvj, Tdif, CsvPlus, EeToEf, Second, Last, Char, Whole, Within, Option, Some, None}
use Rattle.model.specs.rules.Types.{Cell, Fresh, Plain, CellStep, More, Stop, Refuse, Encoding, Syntax}
use Rattle.model.specs.rules.Types.{FileState, Top, Begin, Ended, Bom1, Bom2, PlainBom1, PlainBom2, Comment, Blanks, ExpectCell, Inside, After, Cr}
use Rattle.model.specs.rules.Types.{Outside, Passed, OfCell, Between, Tail, Ends, Step, Ok, Err, Ending, Clean, Final, Cut}
use Rattle.model.specs.rules.Base.{choose◌then◌else◌, ◌is◌, LF, CR, COMMA}
use Rattle.model.specs.rules.Dialect.{delimiter_of}
use Rattle.model.specs.rules.Utf8.{char_step}
use Rattle.model.specs.rules.Cell.{cell_step, is_whole, in_quotes}

-- a space or a tab, which may surround values and commas of CSVJ (§3.2)
abbrev pub is_blank : ℕ → Bool
is_blank b = b is 0x20 || b is 0x09

-- the byte after a cell that ends before it (`closes`), or after blanks that follow a cell of CSVJ: a delimiter or the
-- record's ending, in CSVJ a blank, and nothing else (§3.1 §3.2 §3.3 §4.1 §4.5 §5.1 §5.3 §5.8 §6.23)
unfoldable pub after_cell : Dialect → (closes : Bool) → ℕ → Step
after_cell Csvj closes b =
    choose is_blank b then Ok (After, Between closes)
    else choose b is COMMA then Ok (ExpectCell, Between closes)
    else choose b is LF then Ok (Begin, Ends closes)
    else choose b is CR then Ok (Cr, Tail closes)
    else Err Syntax
after_cell Tdif closes b =
    choose b is COMMA then Ok (Inside Fresh, Between closes)
    else choose b is LF then Ok (Begin, Ends closes)
    else choose b is CR then Ok (Ended, Ends closes)
    else Err Syntax
after_cell (CsvPlus s) closes b =
    choose b is delimiter_of (CsvPlus s) then Ok (Inside Fresh, Between closes)
    else choose b is LF then Ok (Begin, Ends closes)
    else choose b is CR then Ok (Cr, Tail closes)
    else Err Syntax

-- a byte in a cell, given what it does to the cell and what it is when the cell ends before it (§3.3 §4.5 §5.3)
abbrev pub grow : CellStep → Step → Step
grow (More c) s = Ok (Inside c, OfCell)
grow Stop s = s
grow (Refuse e) s = Err e

-- the next byte of a record inside a cell: the cell's own, or after it a delimiter or the record's ending (§3.3 §4.5 §5.3)
unfoldable pub in_cell : Dialect → Cell → ℕ → Step
in_cell d c b = grow (cell_step d c b) (after_cell d true b)

-- a record's first byte. CSVJ: a blank begins a record too, and an ending at once is a record with no values. TDIF: # begins
-- a comment, and an ending has no place here, so a record has a cell. CSV+: an ending at once follows one empty cell (§3.2
-- §3.3 §3.12 §4.6 §4.7 §4.8 §5.6 §6.1)
unfoldable pub begin_record : Dialect → ℕ → Step
begin_record Csvj b =
    choose is_blank b then Ok (Blanks, Between false)
    else choose b is LF then Ok (Begin, Ends false)
    else choose b is CR then Ok (Cr, Tail false)
    else in_cell Csvj Fresh b
begin_record Tdif b = choose b is 0x23 then Ok (Comment Whole, Outside) else in_cell Tdif Fresh b
begin_record (CsvPlus s) b = in_cell (CsvPlus s) Fresh b

-- the file's first byte, which may begin the byte order mark: CSVJ skips the mark, TDIF has none, CSV+ refuses it at its third byte
-- (§3.8 §4.11 §5.9)
unfoldable pub begin_file : Dialect → ℕ → Step
begin_file Csvj b = choose b is 0xEF then Ok (Bom1, Outside) else begin_record Csvj b
begin_file Tdif b = begin_record Tdif b
begin_file (CsvPlus s) b = choose b is 0xEF then Ok (PlainBom1, OfCell) else begin_record (CsvPlus s) b

-- a byte of a comment, which is fault 2 where it breaks the table (§4.7 §6.2)
abbrev pub commented : Option Char → Step
commented None = Err Encoding
commented (Some c) = Ok (Comment c, Outside)

-- the next byte of a file: the next state of the file and the byte's role in its record, or fault 2 or 3 (§6.2 §6.3)
unfoldable pub file_step : Dialect → FileState → ℕ → Step
file_step d Top b = begin_file d b
file_step d Begin b = begin_record d b
-- the LF of a CRLF whose CR ended a record or a comment; a second one would begin an empty line (§4.2 §4.6)
file_step d Ended b = choose b is LF then Ok (Begin, Passed) else begin_record d b
-- after EF at offset 0 the byte order mark has to continue (§3.9); in CSV+ its third byte is the fault, and any other is of an
-- unquoted cell (§5.9)
file_step d Bom1 b = choose b is 0xBB then Ok (Bom2, Outside) else Err Syntax
file_step d Bom2 b = choose b is 0xBF then Ok (Begin, Passed) else Err Syntax
file_step d PlainBom1 b = choose b is 0xBB then Ok (PlainBom2, OfCell) else in_cell d (Plain (Within (Second EeToEf))) b
file_step d PlainBom2 b = choose b is 0xBF then Err Syntax else in_cell d (Plain (Within Last)) b
-- a comment extends to its line break (§4.7)
file_step d (Comment Whole) b =
    choose b is LF then Ok (Begin, Passed) else choose b is CR then Ok (Ended, Passed) else commented (char_step Whole b)
file_step d (Comment (Within i)) b = commented (char_step (Within i) b)
file_step d Blanks b = begin_record d b
file_step d ExpectCell b = choose is_blank b then Ok (ExpectCell, Between false) else in_cell d Fresh b
file_step d (Inside c) b = in_cell d c b
file_step d After b = after_cell d false b
-- a CR outside quotes is followed by its LF (§3.1 §5.7)
file_step d Cr b = choose b is LF then Ok (Begin, Ends false) else Err Syntax

-- ---- the end of the file

-- the end of the file in a cell: in CSV+ it completes the last record if the cell may end there (§5.1 §5.11 §6.4)
abbrev pub last_cell : Dialect → Cell → Ending
last_cell Csvj c = Cut
last_cell Tdif c = Cut
last_cell (CsvPlus s) c = choose is_whole (CsvPlus s) c then Final else Cut

-- the meaning of the end of the file in each state: between records nothing; else fault 4, or the end of a last CSV+ record (§5.2
-- §6.4 §6.25)
unfoldable pub file_end : Dialect → FileState → Ending
file_end d Top = Clean
file_end d Begin = Clean
file_end d Ended = Clean
file_end d Bom1 = Cut
file_end d Bom2 = Cut
file_end d PlainBom1 = Cut
file_end d PlainBom2 = Cut
file_end d (Comment c) = Cut
file_end d Blanks = Cut
file_end d ExpectCell = Cut
file_end d (Inside c) = last_cell d c
file_end d After = Cut
file_end d Cr = Cut

-- ---- the open cell

-- the state of the open cell: in CSV+ bytes that may begin the byte order mark are those of an unquoted cell; where no cell is open,
-- the state is that before a cell's first byte (§5.9 §15.2)
unfoldable pub cell_at : FileState → Cell
cell_at Top = Fresh
cell_at Begin = Fresh
cell_at Ended = Fresh
cell_at Bom1 = Fresh
cell_at Bom2 = Fresh
cell_at PlainBom1 = Plain (Within (Second EeToEf))
cell_at PlainBom2 = Plain (Within Last)
cell_at (Comment c) = Fresh
cell_at Blanks = Fresh
cell_at ExpectCell = Fresh
cell_at (Inside c) = c
cell_at After = Fresh
cell_at Cr = Fresh

-- ---- what counts in a record

-- the next byte of a file is inside quotes (§7.4)
abbrev pub quotes_open : FileState → Bool
quotes_open Top = false
quotes_open Begin = false
quotes_open Ended = false
quotes_open Bom1 = false
quotes_open Bom2 = false
quotes_open PlainBom1 = false
quotes_open PlainBom2 = false
quotes_open (Comment c) = false
quotes_open Blanks = false
quotes_open ExpectCell = false
quotes_open (Inside c) = in_quotes c
quotes_open After = false
quotes_open Cr = false

-- the byte would be counted in its record: all but a CR or LF outside quotes. Used for a record's bytes only; comments and the byte
-- order mark belong to none (Records, `move`) (§7.4)
unfoldable pub counts : FileState → ℕ → Bool
counts f b = quotes_open f || not (b is LF || b is CR)

-- helper: `unfolding file_computes` opens every definition of this module
unfoldable pub file_computes : Type 0
unfolding after_cell in_cell begin_record begin_file file_step file_end counts
file_computes = Unit {0}
