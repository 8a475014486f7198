-- Reading by form, a byte at a time: the records that a byte and the bytes after it give, by the byte's step.
use Prim.Native.Nat.{ℕ}
use mathlib.Core.Path.{◌≡◌, refl, ap}
use mathlib.Core.Bool.{true, false}
use mathlib.Core.List.{List, [], ◌∷◌}
use Rattle.grammar.specs.rfc.Types.{Dialect, Csvj, Tdif, CsvPlus, Cell, Stop, ByteFault, FileState, Inside, Outside, Passed, OfCell, Between}
use Rattle.grammar.specs.rfc.Types.{Tail, Ends, Step, Ok, Err, Ending, Clean, Final, Cut}
use Rattle.model.specs.rules.Base.{Bytes}
use Rattle.model.specs.rules.Cell.{cell_step, is_whole}
use Rattle.model.specs.rules.File.{after_cell, in_cell, file_step, file_end}
use Rattle.model.proofs.Tests.{split}
use Rattle.model.proofs.cell_laws.Cells.{Fits, parts, turns, completes, cell_at, step_fits}
use Rattle.grammar.specs.rfc.Derived.{Line, line}
use Rattle.grammar.specs.dialects.FormReads.{Reads}
use Rattle.grammar.specs.dialects.FormReads as reading

-- what the end of the file gives
pub data Finishes : Ending → List (Line Bytes) → Type 0 where
  clean : Finishes Clean []
  final : Finishes Final (line [] ([] ∷ []) ∷ [])

-- the lines that a byte's step gives, where K f ls says that the bytes after it, read on from f, give ls
pub data Takes (K : FileState → List (Line Bytes) → Type 0) (b : ℕ) : Step → List (Line Bytes) → Type 0 where
  outside : {f : FileState} {ls : List (Line Bytes)} → K f ls → Takes K b (Ok (f, Outside)) ls
  passed : {f : FileState} {ls : List (Line Bytes)} → K f ls → Takes K b (Ok (f, Passed)) ls
  of_cell :
      {f : FileState} {text raw : Bytes} {cells : List Bytes} {ls : List (Line Bytes)} → K f (line text (raw ∷ cells) ∷ ls) →
      Takes K b (Ok (f, OfCell)) (line (b ∷ text) ((b ∷ raw) ∷ cells) ∷ ls)
  between :
      {f : FileState} {text : Bytes} {cells : List Bytes} {ls : List (Line Bytes)} → K f (line text cells ∷ ls) →
      Takes K b (Ok (f, Between false)) (line (b ∷ text) cells ∷ ls)
  between_closing :
      {f : FileState} {text : Bytes} {cells : List Bytes} {ls : List (Line Bytes)} → K f (line text cells ∷ ls) →
      Takes K b (Ok (f, Between true)) (line (b ∷ text) ([] ∷ cells) ∷ ls)
  tail :
      {f : FileState} {text : Bytes} {cells : List Bytes} {ls : List (Line Bytes)} → K f (line text cells ∷ ls) →
      Takes K b (Ok (f, Tail false)) (line text cells ∷ ls)
  tail_closing :
      {f : FileState} {text : Bytes} {cells : List Bytes} {ls : List (Line Bytes)} → K f (line text cells ∷ ls) →
      Takes K b (Ok (f, Tail true)) (line text ([] ∷ cells) ∷ ls)
  ends : {f : FileState} {ls : List (Line Bytes)} → K f ls → Takes K b (Ok (f, Ends false)) (line [] [] ∷ ls)
  ends_closing : {f : FileState} {ls : List (Line Bytes)} → K f ls → Takes K b (Ok (f, Ends true)) (line [] ([] ∷ []) ∷ ls)

pub at_end : {d : Dialect} {f : FileState} {ls : List (Line Bytes)} → Reads d f [] ls → Finishes (file_end d f) ls
at_end (reading.ends_clean e) = rw e clean
at_end (reading.ends_final e) = rw e final

-- the first byte, where each continuation is of K
pub first_byte_lem :
    {d : Dialect} {f : FileState} {b : ℕ} {bs : Bytes} {ls : List (Line Bytes)} (K : FileState → List (Line Bytes) → Type 0) →
    ((g : FileState) (ls : List (Line Bytes)) → Reads d g bs ls → K g ls) → Reads d f (b ∷ bs) ls → Takes K b (file_step d f b) ls
first_byte_lem K k (reading.outside {g} {ls} e r) = rw e (outside (k g ls r))
first_byte_lem K k (reading.passed {g} {ls} e r) = rw e (passed (k g ls r))
first_byte_lem K k (reading.of_cell {g} e r) = rw e (of_cell (k g _ r))
first_byte_lem K k (reading.between {g} e r) = rw e (between (k g _ r))
first_byte_lem K k (reading.between_closing {g} e r) = rw e (between_closing (k g _ r))
first_byte_lem K k (reading.tail {g} e r) = rw e (tail (k g _ r))
first_byte_lem K k (reading.tail_closing {g} e r) = rw e (tail_closing (k g _ r))
first_byte_lem K k (reading.ends {g} {ls} e r) = rw e (ends (k g ls r))
first_byte_lem K k (reading.ends_closing {g} {ls} e r) = rw e (ends_closing (k g ls r))

pub cut_off : {A : Type 0} {ls : List (Line Bytes)} → Finishes Cut ls → A
cut_off = elim [ ]

-- a property that holds at the end of a file, and before a byte if it holds after it, holds of all that is read
pub by_bytes :
    (d : Dialect) (P : FileState → Bytes → List (Line Bytes) → Type 0) →
    ((f : FileState) (ls : List (Line Bytes)) → Finishes (file_end d f) ls → P f [] ls) →
    ((bs : Bytes) (f : FileState) (b : ℕ) (ls : List (Line Bytes)) → Takes (λ g ls. P g bs ls) b (file_step d f b) ls → P f (b ∷ bs) ls) →
    (xs : Bytes) (f : FileState) (ls : List (Line Bytes)) → Reads d f xs ls → P f xs ls
by_bytes d P end step [] f ls r = end f ls (at_end r)
by_bytes d P end step (b ∷ bs) f ls r = step bs f b ls (first_byte_lem (λ g ls. P g bs ls) (λ g ls k. by_bytes d P end step bs g ls k) r)

-- ---- reading by form gives one list of records

finishes_once : {x : Ending} {ls ms : List (Line Bytes)} → Finishes x ls → Finishes x ms → ls ≡ ms
finishes_once clean clean = refl
finishes_once final final = refl

takes_once :
    {K : FileState → List (Line Bytes) → Type 0} {b : ℕ} {s : Step} {ls ms : List (Line Bytes)} →
    ((g : FileState) (ls ms : List (Line Bytes)) → K g ls → K g ms → ls ≡ ms) → Takes K b s ls → Takes K b s ms → ls ≡ ms
takes_once u (outside {f} {ls} k) (outside {ls = ms} m) = u f ls ms k m
takes_once u (passed {f} {ls} k) (passed {ls = ms} m) = u f ls ms k m
takes_once u (of_cell {f} k) (of_cell m) = let e = u f _ _ k m in cc
takes_once u (between {f} k) (between m) = let e = u f _ _ k m in cc
takes_once u (between_closing {f} k) (between_closing m) = let e = u f _ _ k m in cc
takes_once u (tail {f} k) (tail m) = u f _ _ k m
takes_once u (tail_closing {f} k) (tail_closing m) = let e = u f _ _ k m in cc
takes_once u (ends {f} {ls} k) (ends {ls = ms} m) = ap (λ l. line [] [] ∷ l) (u f ls ms k m)
takes_once u (ends_closing {f} {ls} k) (ends_closing {ls = ms} m) = ap (λ l. line [] ([] ∷ []) ∷ l) (u f ls ms k m)

pub reads_once : {d : Dialect} (xs : Bytes) (f : FileState) (ls ms : List (Line Bytes)) → Reads d f xs ls → Reads d f xs ms → ls ≡ ms
reads_once [] f ls ms r q = finishes_once (at_end r) (at_end q)
reads_once {d} (b ∷ bs) f ls ms r q =
    takes_once (λ g ls ms k m. reads_once bs g ls ms k m) (first_byte_lem (λ g ls. Reads d g bs ls) (λ g ls k. k) r)
    (first_byte_lem (λ g ls. Reads d g bs ls) (λ g ls k. k) q)

-- ---- a cell that stops at a byte which is read is whole

data Closing : Step → Type 0 where
  closing_between : {f : FileState} → Closing (Ok (f, Between true))
  closing_tail : {f : FileState} → Closing (Ok (f, Tail true))
  closing_ends : {f : FileState} → Closing (Ok (f, Ends true))

fits_whole : {d : Dialect} {c : Cell} {b : ℕ} {s : Step} → Closing s → Fits d c b s → is_whole d c ≡ true
fits_whole closing_between (parts e w) = w
fits_whole closing_tail (turns e w) = w
fits_whole closing_ends (completes e w) = w

pub rejected : {A : Type 0} {K : FileState → List (Line Bytes) → Type 0} {b : ℕ} {e : ByteFault} {ls : List (Line Bytes)} → Takes K b (Err e) ls → A
rejected = elim [ ]

module _ (K : FileState → List (Line Bytes) → Type 0) where
  after_closing : (d : Dialect) (b : ℕ) (ls : List (Line Bytes)) → Takes K b (after_cell d true b) ls → Closing (after_cell d true b)
  unfolding after_cell
  after_closing d b ls = go d
    where
      P : Step → Type 0
      P s = Takes K b s ls → Closing s

      go : (d : Dialect) → P (after_cell d true b)
      go Csvj =
          split P _ (λ _ _. closing_between) λ _. split P _ (λ _ _. closing_between) λ _. split P _ (λ _ _. closing_ends) λ _.
          split P _ (λ _ _. closing_tail) λ _ t. rejected t
      go Tdif =
          split P _ (λ _ _. closing_between) λ _. split P _ (λ _ _. closing_ends) λ _. split P _ (λ _ _. closing_ends) λ _ t. rejected t
      go (CsvPlus s) =
          split P _ (λ _ _. closing_between) λ _. split P _ (λ _ _. closing_ends) λ _. split P _ (λ _ _. closing_tail) λ _ t. rejected t

  pub stop_whole : (d : Dialect) (c : Cell) (b : ℕ) (ls : List (Line Bytes)) → cell_step d c b ≡ Stop → Takes K b (after_cell d true b) ls → is_whole d c ≡ true
  unfolding file_step in_cell cell_at
  stop_whole d c b ls e t = fits_whole (after_closing d b ls t) (rw e at (step_fits d (Inside c) b))
