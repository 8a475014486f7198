-- The law of runs, over the dialect and over a target or none: a run of n ordinary bytes leaves the state unchanged and adds n to the
-- offset and, outside comments, to the record's size. It is proved in proofs/RunLaw.antt.
use Rattle.std.specs.Prelude.{ℕ, ◌+◌, ◌≤◌, ◌≡◌, [], ◌++◌, length, take, drop, Option}
use Rattle.model.specs.declared.Dialect.{Dialect}
use Rattle.model.specs.declared.Target.{Target}
use Rattle.model.specs.declared.Char.{Char}
use Rattle.model.specs.declared.Char.TheVariants.{Whole, Within}
use Rattle.model.specs.declared.Cell.{Cell}
use Rattle.model.specs.declared.FileState.{FileState}
use Rattle.model.specs.declared.FileState.TheVariants.{Top, Begin, Ended, Bom1, Bom2, PlainBom1, PlainBom2, Comment, Blanks, ExpectCell, Inside, After, Cr}
use Rattle.model.specs.rules.Base.{Bytes}
use Rattle.model.specs.rules.Report.{MAXFILE, MAXRECORD}
use Rattle.model.specs.rules.Records.{Read, going, read_from, read_bytes}
use Rattle.cell_scanner.specs.Run.{comment_run, run_stop, run_length}

-- where reading is: in the current cell, in a comment, or where there are no runs
pub data Place : Type 0 where
  in_cell_lem : Cell → Place
  in_comment : Char → Place
  elsewhere : Place

abbrev pub place_in : FileState → Place
place_in Top = elsewhere
place_in Begin = elsewhere
place_in Ended = elsewhere
place_in Bom1 = elsewhere
place_in Bom2 = elsewhere
place_in PlainBom1 = elsewhere
place_in PlainBom2 = elsewhere
place_in (Comment t) = in_comment t
place_in Blanks = elsewhere
place_in ExpectCell = elsewhere
place_in (Inside c) = in_cell_lem c
place_in After = elsewhere
place_in Cr = elsewhere

-- the length of the run at the beginning: ordinary bytes inside quotes, in an unquoted cell and in a comment
unfoldable pub run_at : Dialect → Place → Bytes → ℕ
run_at d (in_cell_lem c) bs = run_length d (run_stop d c) bs
run_at d (in_comment Whole) bs = comment_run bs
run_at d (in_comment (Within i)) bs = 0
run_at d elsewhere bs = 0

-- the state of reading after the run xs. In a cell its bytes are the cell's; those of a comment are not counted, and no record has begun
-- there (§7.4)
unfoldable pub ran_at : Place → Read → Bytes → Read
ran_at (in_cell_lem c) r xs =
    record { done = r.done; state = r.state; offset = r.offset + length xs; start = r.start; size = r.size + length xs; opened = r.opened; raw = r.raw ++ xs; cells = r.cells }
ran_at (in_comment t) r xs =
    record { done = r.done; state = r.state; offset = r.offset + length xs; start = r.start; size = 0; opened = r.offset + length xs; raw = []; cells = [] }
ran_at elsewhere r xs = r

-- both, by the file's state
abbrev pub run_in : Dialect → FileState → Bytes → ℕ
run_in d f bs = run_at d (place_in f) bs

abbrev pub ran : Read → Bytes → Read
ran r xs = ran_at (place_in r.state) r xs

-- an empty run leaves the state unchanged, which in a comment says that no record has begun. It holds of every state that reading reaches
-- (`stands` below)
abbrev pub Lies : Read → Type 0
Lies r = ran r [] ≡ r

-- the bytes read so far are within the limits
pub record InLimits (r : Read) : Type 0 where
  pub file : r.offset ≤ MAXFILE
  pub size : r.size ≤ MAXRECORD

pub record RunLaw (d : Dialect) (target : Option Target) : Type 0 where
  -- the law: xs is a run or a prefix of one, and ends within the limits
  pub run : (r : Read) (xs : Bytes) → Lies r → run_in d r.state xs ≡ length xs → InLimits (ran r xs) → read_from d target (going r) xs ≡ going (ran r xs)
  -- so a reader may skip the first n bytes of a run
  pub rest : (r : Read) (n : ℕ) (bs : Bytes) → Lies r → n ≤ run_in d r.state bs → InLimits (ran r (take n bs))
      → read_from d target (going r) bs ≡ read_from d target (going (ran r (take n bs))) (drop n bs)
  -- every state that reading reaches
  pub stands : (bs : Bytes) (r : Read) → read_bytes d target bs ≡ going r → Lies r
