-- What each step of a file does to the record and the current cell, from the case analysis of `file_step`: a byte order mark or a
-- comment is where neither is; a byte of a cell leads into one, and a byte between cells into a record; and a cell is left only by
-- closing it.
use Prim.Native.Nat.{ℕ}
use mathlib.Core.Path.{◌≡◌, refl}
use mathlib.Core.Bool.{Bool, false}
use Rattle.grammar.specs.rfc.Types.{Dialect, Csvj, Tdif, CsvPlus}
use Rattle.grammar.specs.rfc.Types.{FileState, Top, Begin, Ended, Bom1, Bom2, PlainBom1, PlainBom2, Comment, Blanks, ExpectCell, Inside, After}
use Rattle.grammar.specs.rfc.Types.{Cr, Outside, Passed, OfCell, Between, Tail, Ends, Ok}
use Rattle.model.proofs.file_laws.FileSteps as steps
use Rattle.model.proofs.file_laws.FileSteps.{Rests, Around, Grown, Free, Opens, Next, Leaves, Transition, starts_free}

-- ---- stages of a file

-- between records; in a record and in none of its cells; in a cell
pub data Stage : Type 0 where
  at_rest : Stage
  in_record_lem : Stage
  in_cell_lem : Stage

-- only CSVJ reads blanks before a record's first cell: elsewhere no byte leads here, and what follows is as between records
abbrev pub blanks_stage : Dialect → Stage
blanks_stage Csvj = in_record_lem
blanks_stage Tdif = at_rest
blanks_stage (CsvPlus s) = at_rest

abbrev pub stage_of : Dialect → FileState → Stage
stage_of d Top = at_rest
stage_of d Begin = at_rest
stage_of d Ended = at_rest
stage_of d Bom1 = at_rest
stage_of d Bom2 = at_rest
stage_of d PlainBom1 = in_cell_lem
stage_of d PlainBom2 = in_cell_lem
stage_of d (Comment c) = at_rest
stage_of d Blanks = blanks_stage d
stage_of d ExpectCell = in_record_lem
stage_of d (Inside c) = in_cell_lem
stage_of d After = in_record_lem
stage_of d Cr = in_record_lem

-- in a record, in a cell or not
pub data Recording : Stage → Type 0 where
  record_open : Recording in_record_lem
  cell_open : Recording in_cell_lem

-- in no cell
pub data NoCell : Stage → Type 0 where
  none_at_rest : NoCell at_rest
  none_in_record : NoCell in_record_lem

-- ---- the stage of each class of states

module _ (d : Dialect) where
  rests_stage : {f : FileState} → Rests f → stage_of d f ≡ at_rest
  rests_stage steps.top = refl
  rests_stage steps.begin = refl
  rests_stage steps.ended = refl
  rests_stage steps.bom1 = refl
  rests_stage steps.bom2 = refl
  rests_stage steps.comment = refl

  next_stage : {f : FileState} → Next f → stage_of d f ≡ at_rest
  next_stage steps.n_begin = refl
  next_stage steps.n_ended = refl

  grown_stage : {f : FileState} → Grown f → stage_of d f ≡ in_cell_lem
  grown_stage steps.g_inside = refl
  grown_stage steps.g_plain1 = refl
  grown_stage steps.g_plain2 = refl

  opens_stage : {f : FileState} → Opens f → Recording (stage_of d f)
  opens_stage steps.o_after = record_open
  opens_stage steps.o_wanting = record_open
  opens_stage steps.o_fresh = cell_open

around_stage : {d : Dialect} {f : FileState} → Around d f → stage_of d f ≡ at_rest
around_stage {d} (steps.rests r) = rests_stage d r
around_stage steps.unread = refl

blanks_no_cell : (d : Dialect) → NoCell (blanks_stage d)
blanks_no_cell Csvj = none_in_record
blanks_no_cell Tdif = none_at_rest
blanks_no_cell (CsvPlus s) = none_at_rest

free_no_cell : (d : Dialect) {f : FileState} → Free f → NoCell (stage_of d f)
free_no_cell d steps.f_top = none_at_rest
free_no_cell d steps.f_begin = none_at_rest
free_no_cell d steps.f_ended = none_at_rest
free_no_cell d steps.f_blanks = blanks_no_cell d
free_no_cell d steps.f_wanting = none_in_record
free_no_cell d steps.f_after = none_in_record

leaves_no_cell : {d : Dialect} {f : FileState} {b : ℕ} → Leaves d b f false → NoCell (stage_of d f)
leaves_no_cell {d} (steps.none e) = free_no_cell d e

-- ---- the stages before and after a byte of each role

module _ {d : Dialect} {f : FileState} {b : ℕ} where
  pub outside_rests : {h : FileState} → Transition d f b (Ok (h, Outside)) → (stage_of d f ≡ at_rest) × (stage_of d h ≡ at_rest)
  outside_rests (steps.outside t r g) = (around_stage r, rests_stage d g)

  pub passed_rests : {h : FileState} → Transition d f b (Ok (h, Passed)) → (stage_of d f ≡ at_rest) × (stage_of d h ≡ at_rest)
  passed_rests (steps.passes t r g) = (rests_stage d r, next_stage d g)

  pub cell_stage : {h : FileState} → Transition d f b (Ok (h, OfCell)) → stage_of d h ≡ in_cell_lem
  cell_stage (steps.adds t n c g i s) = grown_stage d g

  pub between_stage : {h : FileState} {k : Bool} → Transition d f b (Ok (h, Between k)) → Recording (stage_of d h)
  between_stage (steps.blanks t n e c) = rw c record_open
  between_stage (steps.parts t n l o) = opens_stage d o

  pub tail_stage : {h : FileState} {k : Bool} → Transition d f b (Ok (h, Tail k)) → Recording (stage_of d h)
  tail_stage (steps.turns t p l) = record_open

  pub ends_next : {h : FileState} {k : Bool} → Transition d f b (Ok (h, Ends k)) → Next h
  ends_next (steps.ends t p l g) = g
  ends_next (steps.ends_cr t e p) = steps.n_begin

  pub ends_stage : {h : FileState} {k : Bool} → Transition d f b (Ok (h, Ends k)) → stage_of d h ≡ at_rest
  ends_stage x = next_stage d (ends_next x)

  -- a cell is left only by closing it
  pub between_no_cell : {h : FileState} → Transition d f b (Ok (h, Between false)) → NoCell (stage_of d f)
  between_no_cell (steps.blanks t n e c) = free_no_cell d (starts_free e)
  between_no_cell (steps.parts t n l o) = leaves_no_cell l

  pub tail_no_cell : {h : FileState} → Transition d f b (Ok (h, Tail false)) → NoCell (stage_of d f)
  tail_no_cell (steps.turns t p l) = leaves_no_cell l

  pub ends_no_cell : {h : FileState} → Transition d f b (Ok (h, Ends false)) → NoCell (stage_of d f)
  ends_no_cell (steps.ends t p l g) = leaves_no_cell l
  ends_no_cell (steps.ends_cr t e p) = rw e none_in_record
