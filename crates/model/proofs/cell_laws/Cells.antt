-- The current cell: each byte of a file either continues it or leaves none, and closes only a whole one (`step_fits`); the end of the
-- file completes a record only after a whole cell (`file_ends`).
use Prim.Native.Nat.{ℕ}
use mathlib.Core.Path.{◌≡◌, refl}
use mathlib.Core.Bool.{Bool, true, false}
use Rattle.model.specs.rules.Types.{Dialect, Csvj, Tdif, CsvPlus}
use Rattle.model.specs.rules.Types.{Cell, Fresh, More, ByteFault}
use Rattle.model.specs.rules.Types.{FileState, Top, Begin, Ended, Bom1, Bom2, PlainBom1, PlainBom2, Comment, Blanks, ExpectCell, Inside, After}
use Rattle.model.specs.rules.Types.{Cr, Outside, Passed, OfCell, Between, Tail, Ends, Step, Ok, Err, Ending, Clean, Final, Cut}
use Rattle.model.specs.rules.Cell.{cell_step, is_whole}
use Rattle.model.specs.rules.File.{file_step, file_end, last_cell}
unfoldable pub use Rattle.model.specs.rules.File.{cell_at}
use Rattle.model.proofs.Tests.{split}
use Rattle.model.proofs.file_laws.FileSteps as steps
use Rattle.model.proofs.file_laws.FileSteps.{Rests, Holds, Opens, Next, Leaves, Transition, step_transition}

-- ---- the current cell, and what a byte does to it

abbrev pub Closes : Dialect → Cell → Bool → Type 0
Closes d c true = is_whole d c ≡ true
Closes d c false = Unit {0}

-- a byte of a cell continues the current cell; any other leaves none, and closes only a whole one
pub data Fits (d : Dialect) (c : Cell) (b : ℕ) : Step → Type 0 where
  rejects : {e : ByteFault} → Fits d c b (Err e)
  leaves : {f : FileState} → cell_at f ≡ Fresh → Fits d c b (Ok (f, Outside))
  passes : {f : FileState} → cell_at f ≡ Fresh → Fits d c b (Ok (f, Passed))
  adds : {f : FileState} → cell_step d c b ≡ More (cell_at f) → Fits d c b (Ok (f, OfCell))
  parts : {f : FileState} {k : Bool} → cell_at f ≡ Fresh → Closes d c k → Fits d c b (Ok (f, Between k))
  turns : {f : FileState} {k : Bool} → cell_at f ≡ Fresh → Closes d c k → Fits d c b (Ok (f, Tail k))
  completes : {f : FileState} {k : Bool} → cell_at f ≡ Fresh → Closes d c k → Fits d c b (Ok (f, Ends k))

holds_cell : {f : FileState} {c : Cell} → Holds f c → cell_at f ≡ c
unfolding cell_at
holds_cell steps.at_top = refl
holds_cell steps.at_begin = refl
holds_cell steps.at_ended = refl
holds_cell steps.at_blanks = refl
holds_cell steps.at_wanting = refl
holds_cell steps.inside = refl
holds_cell steps.plain1 = refl
holds_cell steps.plain2 = refl

rests_cell : {f : FileState} → Rests f → cell_at f ≡ Fresh
unfolding cell_at
rests_cell steps.top = refl
rests_cell steps.begin = refl
rests_cell steps.ended = refl
rests_cell steps.bom1 = refl
rests_cell steps.bom2 = refl
rests_cell steps.comment = refl

next_cell_lem : {g : FileState} → Next g → cell_at g ≡ Fresh
unfolding cell_at
next_cell_lem steps.n_begin = refl
next_cell_lem steps.n_ended = refl

opens_cell : {g : FileState} → Opens g → cell_at g ≡ Fresh
unfolding cell_at
opens_cell steps.o_after = refl
opens_cell steps.o_wanting = refl
opens_cell steps.o_fresh = refl

closes_of : {d : Dialect} {b : ℕ} {f : FileState} {k : Bool} → Leaves d b f k → Closes d (cell_at f) k
closes_of (steps.none e) = tt
closes_of (steps.stops h s w) = rw (holds_cell h) w

fits_of : {d : Dialect} {f : FileState} {b : ℕ} {s : Step} → Transition d f b s → Fits d (cell_at f) b s
fits_of (steps.refuses t) = rejects
fits_of (steps.outside t r g) = leaves (rests_cell g)
fits_of (steps.passes t r g) = passes (next_cell_lem g)
fits_of {b = b} (steps.adds {g = to} t n h g i s) = adds {f = to} (rw (holds_cell h, holds_cell i) s)
fits_of (steps.blanks t n e c) = unfold cell_at in parts refl tt
fits_of (steps.parts t n l o) = parts (opens_cell o) (closes_of l)
fits_of (steps.turns t p l) = unfold cell_at in turns refl (closes_of l)
fits_of (steps.ends t p l g) = completes (next_cell_lem g) (closes_of l)
fits_of (steps.ends_cr t e p) = unfold cell_at in completes refl tt

pub step_fits : (d : Dialect) (f : FileState) (b : ℕ) → Fits d (cell_at f) b (file_step d f b)
step_fits d f b = fits_of (step_transition d f b)

-- ---- the end of the file

-- the end of the file completes a record only after a whole cell
pub data EndsAfter (d : Dialect) (c : Cell) : Ending → Type 0 where
  ends_clean : EndsAfter d c Clean
  ends_final : is_whole d c ≡ true → EndsAfter d c Final
  ends_cut : EndsAfter d c Cut

last_ends : (d : Dialect) (c : Cell) → EndsAfter d c (last_cell d c)
last_ends Csvj c = ends_cut
last_ends Tdif c = ends_cut
last_ends (CsvPlus s) c = split (EndsAfter (CsvPlus s) c) _ (λ e. ends_final e) λ _. ends_cut

pub file_ends : (d : Dialect) (f : FileState) → EndsAfter d (cell_at f) (file_end d f)
unfolding file_end cell_at
file_ends d Top = ends_clean
file_ends d Begin = ends_clean
file_ends d Ended = ends_clean
file_ends d Bom1 = ends_cut
file_ends d Bom2 = ends_cut
file_ends d PlainBom1 = ends_cut
file_ends d PlainBom2 = ends_cut
file_ends d (Comment c) = ends_cut
file_ends d Blanks = ends_cut
file_ends d ExpectCell = ends_cut
file_ends d (Inside c) = last_ends d c
file_ends d After = ends_cut
file_ends d Cr = ends_cut
