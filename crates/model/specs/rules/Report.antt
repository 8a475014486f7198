-- Reports, limits, and the table of faults: the number and the column of each reason, and whether its offset is a byte or the
-- record's start.
use Rattle.std.specs.Prelude.{ℕ, Bool, true, false}
use Rattle.model.specs.rules.Types.{Report, Encoding, Syntax, Fault, NoRecord, Byte, CutShort, CellCount, RepeatedName, HeaderKind, FileTooLong}
use Rattle.model.specs.rules.Types.{RecordTooLong, TooManyColumns, NoCells, LacksKind, LoneSurrogate, Clash, TextTooLong, OutputTooLong}

-- a report: number, record, column, offset (§6.14)
abbrev pub report : (number record_number column offset : ℕ) → Report
report n r c o = record { number = n; record_number = r; column = c; offset = o }

-- acceptance: four zeros (§6.15)
abbrev pub accepted : Report
accepted = report 0 0 0 0

-- fault 10, 11 or 12, which has no place in a file: record, column and offset are 0 (§6.10 §6.11 §6.12 §6.16)
abbrev pub refusal : ℕ → Report
refusal n = report n 0 0 0

-- the bytes that a file may have (§7.1)
abbrev pub MAXFILE : ℕ
MAXFILE = 16777215

-- the counted bytes that a record may have (§7.2)
abbrev pub MAXRECORD : ℕ
MAXRECORD = 4096

-- the columns that a record may have (§7.3)
abbrev pub MAXCOLUMNS : ℕ
MAXCOLUMNS = 64

-- how long a piece may be (§15.7)
abbrev pub MAXPIECE : ℕ
MAXPIECE = 4096

-- how long the output of a piece or end call must be (§15.7 §15.11)
abbrev pub LEASTOUTPUT : ℕ
LEASTOUTPUT = 49152

-- ---- the table of faults, column by column

-- the table's first column: the number of each fault (§6.1 §6.2 §6.3 §6.4 §6.5 §6.6 §6.7 §6.8 §6.13 §6.9)
abbrev pub number_of : Fault → ℕ
number_of NoRecord = 1
number_of (Byte Encoding) = 2
number_of (Byte Syntax) = 3
number_of CutShort = 4
number_of CellCount = 5
number_of (RepeatedName c) = 6
number_of (HeaderKind c) = 7
number_of FileTooLong = 8
number_of RecordTooLong = 8
number_of TooManyColumns = 8
number_of NoCells = 9
number_of (LacksKind c) = 9
number_of (LoneSurrogate c) = 9
number_of (Clash c) = 9
number_of TextTooLong = 9
number_of OutputTooLong = 9

-- the table's last column: 0, but for 6, 7 and three of the reasons for 9 (§6.6 §6.7 §8.2 §8.3 §8.4 §8.5 §8.6)
abbrev pub column_of : Fault → ℕ
column_of NoRecord = 0
column_of (Byte e) = 0
column_of CutShort = 0
column_of CellCount = 0
column_of (RepeatedName c) = c
column_of (HeaderKind c) = c
column_of FileTooLong = 0
column_of RecordTooLong = 0
column_of TooManyColumns = 0
column_of NoCells = 0
column_of (LacksKind c) = c
column_of (LoneSurrogate c) = c
column_of (Clash c) = c
column_of TextTooLong = 0
column_of OutputTooLong = 0

-- the fault's offset is where reading is, that is the faulty byte, the first byte too many or the file's length, and not the record's
-- start (§6.1 §6.2 §6.3 §6.4 §6.8)
abbrev pub is_at_byte : Fault → Bool
is_at_byte NoRecord = true
is_at_byte (Byte e) = true
is_at_byte CutShort = true
is_at_byte CellCount = false
is_at_byte (RepeatedName c) = false
is_at_byte (HeaderKind c) = false
is_at_byte FileTooLong = true
is_at_byte RecordTooLong = true
is_at_byte TooManyColumns = false
is_at_byte NoCells = false
is_at_byte (LacksKind c) = false
is_at_byte (LoneSurrogate c) = false
is_at_byte (Clash c) = false
is_at_byte TextTooLong = false
is_at_byte OutputTooLong = false
