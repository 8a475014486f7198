-- The next token of a file: a byte outside cells, the rest of a cell up to its end, or the ordinary bytes of a comment.
use Rattle.std.specs.Prelude.{ℕ, ◌+◌, ◌-◌, ◌≤◌, ◌<◌, ◌≡◌, Bool, true, false, ◌&&◌, List, [], length, drop, get_or, leb, min}
use Rattle.model.specs.rules.Base.{Bytes}
use Rattle.model.specs.rules.File.{after_cell, file_step, counts}
use Rattle.model.specs.rules.Report.{MAXRECORD}
use Rattle.model.specs.laws.Scans.{RawCell, Scan, closing_raw, scan_step, scan}
use Rattle.model.specs.rules.Api.{slice}
use Rattle.cell_scanner.specs.Run.{leading}
use Rattle.model.specs.declared.Dialect.{Dialect}
use Rattle.model.specs.declared.Char.TheVariants.{Whole, Within}
use Rattle.model.specs.declared.FileState.{FileState}
use Rattle.model.specs.declared.FileState.TheVariants.{Top, Begin, Ended, Bom1, Bom2, PlainBom1, PlainBom2, Comment, Blanks, ExpectCell, Inside, After, Cr}
use Rattle.model.specs.declared.ByteRole.{ByteRole}
use Rattle.model.specs.declared.ByteRole.TheVariants.{Outside, Passed, OfCell, Between, Tail, Ends}
use Rattle.model.specs.rules.Types.{Step}
use Rattle.model.specs.declared.Fault.TheVariants.{Byte}
use Rattle.record_scanner.specs.Types.{RecordState, Token, Is, Skipped, AfterCell, Refused, Open}
use Rattle.record_scanner.specs.declared.token.ScanOutcome.TheVariants as reached
use Rattle.record_scanner.specs.CurrentRecord.{state_after_byte, extended_by}
use Rattle.record_scanner.specs.Parts.{Found, found_of, found_in}

-- the state of scanning at i, by the record's numbers: the bytes of the current cell are those from where it was opened
abbrev pub scan_at : (part : Bytes) → FileState → (i : ℕ) → RecordState → List RawCell → Scan
scan_at part f i h cs =
    record {
      state = f;
      offset = i;
      start = h.start;
      size = h.size;
      opened = h.opened;
      raw = slice part h.opened i;
      cells = cs;
    }

-- the record's complete cells after the next byte
abbrev pub cells_next : ByteRole → Scan → List RawCell
cells_next Outside s = []
cells_next Passed s = []
cells_next OfCell s = s.cells
cells_next (Between closes) s = closing_raw closes s
cells_next (Tail closes) s = closing_raw closes s
cells_next (Ends closes) s = closing_raw closes s

-- the byte at j takes this step
abbrev pub stepped_at : Dialect → (limit : ℕ) → (part : Bytes) → FileState → (j : ℕ) → RecordState → List RawCell → Step → Found
stepped_at d limit part f j h cs s =
    found_of (scan_step (scan_at part f j h cs) (get_or part j 0) (drop (j + 1) part) (λ t. scan d limit t (drop (j + 1) part)) s)

-- the result of scanning from i, with this token next
unfoldable pub met_next : Dialect → (limit : ℕ) → (part : Bytes) → FileState → (i : ℕ) → RecordState → List RawCell → Token → Found
met_next d limit part f i h cs (Is s) = stepped_at d limit part f i h cs s
met_next d limit part f i h cs (Skipped j) = found_in d limit (scan_at part f j (state_after_byte Outside (j - 1) h) []) (drop j part)
met_next d limit part f i h cs (AfterCell closes j) =
    stepped_at d limit part f j (extended_by h (j - i)) cs (after_cell d closes (get_or part j 0))
met_next d limit part f i h cs (Refused e j) = record { answer = reached.Failed (Byte e) j; cells = cs }
met_next d limit part f i h cs (Open c j) = found_in d limit (scan_at part (Inside c) j (extended_by h (j - i)) cs) (drop j part)

-- the end of a comment's ordinary bytes
abbrev pub comment_end : FileState → (part : Bytes) → (limit i : ℕ) → ℕ
comment_end Top part limit i = i
comment_end Begin part limit i = i
comment_end Ended part limit i = i
comment_end Bom1 part limit i = i
comment_end Bom2 part limit i = i
comment_end PlainBom1 part limit i = i
comment_end PlainBom2 part limit i = i
comment_end (Comment Whole) part limit i = i + leading 0 0 (slice part i (min (length part) limit))
comment_end (Comment (Within n)) part limit i = i
comment_end Blanks part limit i = i
comment_end ExpectCell part limit i = i
comment_end (Inside c) part limit i = i
comment_end After part limit i = i
comment_end Cr part limit i = i

-- scanning from i, whose byte is not one too many, has that result
pub record TokenCorrect (d : Dialect) (limit : ℕ) (part : Bytes) (f : FileState) (i size : ℕ) (m : Token) : Type 0 where
  pub comes : (h : RecordState) (cs : List RawCell) → h.size ≡ size → h.opened ≤ i
      → (leb MAXRECORD h.size && counts f (get_or part i 0)) ≡ false → found_in d limit (scan_at part f i h cs) (drop i part) ≡ met_next d limit part f i h cs m

-- reading is between records, in the byte order mark, in a comment or in the blanks before a record: there is no current cell
abbrev pub outer : FileState → Bool
outer Top = true
outer Begin = true
outer Ended = true
outer Bom1 = true
outer Bom2 = true
outer PlainBom1 = false
outer PlainBom2 = false
outer (Comment t) = true
outer Blanks = true
outer ExpectCell = false
outer (Inside c) = false
outer After = false
outer Cr = false

-- the token is in the part and under the limit; a byte takes its own step
abbrev pub TokenInBounds : Dialect → (limit : ℕ) → (part : Bytes) → FileState → (i : ℕ) → Token → Type 0
TokenInBounds d limit part f i (Is s) = s ≡ file_step d f (get_or part i 0)
TokenInBounds d limit part f i (Skipped j) = (outer f ≡ true) × (i < j) × (j ≤ length part) × (j ≤ limit)
TokenInBounds d limit part f i (AfterCell closes j) = (i ≤ j) × (j < length part) × (j < limit)
TokenInBounds d limit part f i (Refused e j) = j < length part
TokenInBounds d limit part f i (Open c j) = (i < j) × (j ≤ length part) × (j ≤ limit)

-- from i up to `stop` no byte but the first can be one too many
pub record Free (part_length limit i size stop : ℕ) : Type 0 where
  pub on : i < stop
  pub inside : stop ≤ part_length
  pub under : stop ≤ limit
  pub fits : i + 1 < stop → size + (stop - i) ≤ MAXRECORD
