-- The result of reading a whole file, with a target or without, given its next record.
use Rattle.std.specs.Prelude.{ℕ, ◌≡◌, true, List, [], length, drop, Option}
use Rattle.model.specs.rules.Base.{Bytes}
use Rattle.model.specs.rules.Text.{Value}
use Rattle.model.specs.rules.Report.{is_at_byte}
use Rattle.model.specs.rules.Records.{Rec, Read, between_records, Progress, going, stopped, complete, read_from, read_end, end_between}
use Rattle.model.specs.declared.Dialect.{Dialect}
use Rattle.model.specs.declared.Target.{Target}
use Rattle.model.specs.declared.FileState.{FileState}
use Rattle.model.specs.declared.FileState.TheVariants.{Begin}
use Rattle.model.specs.declared.Fault.{Fault}
use Rattle.file_cursor.specs.Types.{Completed, LastRecord, Failed, End}
use Rattle.file_cursor.specs.Next.{Next}

-- reading from i to the end of the file, after these records
abbrev pub rest_of : Dialect → Option Target → (file : Bytes) → List Rec → FileState → (i : ℕ) → Progress
rest_of d target file rs f i = read_end d target (read_from d target (going (between_records rs f i)) (drop i file))

-- the same place of reading, after these records
abbrev pub redone : List Rec → Read → Read
redone rs r =
    record {
      done = rs;
      state = r.state;
      offset = r.offset;
      start = r.start;
      size = r.size;
      opened = r.opened;
      raw = r.raw;
      cells = r.cells;
    }

-- after the records rs this is the next event, and that the result of reading on from it
pub data ReadsAs (d : Dialect) (target : Option Target) (file : Bytes) (rs : List Rec) : Next → Progress → Type 0 where
  after_record :
      (r : Read) (vs : List Value) (f : FileState) (o : ℕ) → r.done ≡ rs →
      ReadsAs d target file rs (record { event = Completed r.start (length vs) f o; cells = vs })
      (read_end d target (read_from d target (complete d target r vs f o) (drop o file)))
  after_last :
      (r : Read) (vs : List Value) → r.done ≡ rs → r.offset ≡ length file →
      ReadsAs d target file rs (record { event = LastRecord r.start (length vs); cells = vs }) (complete d target r vs Begin r.offset)
  after_fault :
      (e : Fault) (r : Read) (vs : List Value) → r.done ≡ rs → is_at_byte e ≡ true →
      ReadsAs d target file rs (record { event = Failed e r.offset; cells = vs }) (stopped e r)
  after_all : (r : Read) → r.done ≡ rs → ReadsAs d target file rs (record { event = End r.offset; cells = [] }) (end_between r rs)
