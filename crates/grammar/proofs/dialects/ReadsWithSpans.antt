-- Reading by form with the places of cells: `Reads`, and beside each line the spans of its cells (`Runs`). The next byte is at o, and
-- the current cell, if there is one, was opened at p.
use Prim.Native.Nat.{ℕ, suc, ◌+◌}
use native.Mathlib.Omega.{arith}
use mathlib.Core.Path.{◌≡◌, refl, sym, ap, ◌∙◌}
use mathlib.Core.Bool.{Bool, true, false}
use mathlib.Core.List.{List, [], ◌∷◌, ◌++◌}
use lib.ListN.{length}
use Rattle.model.specs.declared.ByteRole.{ByteRole}
use Rattle.model.proofs.Tests.{impossible}
use Rattle.model.proofs.file_laws.FileSteps.{step_parts}
use Rattle.grammar.specs.rfc.Types.{Dialect, FileState, Outside, Passed, OfCell, Between, Tail, Ends, Ok, Clean, Final}
use Rattle.model.specs.rules.Base.{Bytes}
use Rattle.model.specs.rules.File.{file_step, file_end}
use Rattle.grammar.specs.rfc.Derived.{Line, line}
use Rattle.grammar.specs.dialects.FormReads.{Reads}
use Rattle.grammar.specs.dialects.FormReads as reading
use Rattle.grammar.specs.dialects.Spans.{Span, span, past}

pub data Runs (d : Dialect) : FileState → (o p : ℕ) → Bytes → List (Line Bytes) → List (List Span) → Type 0 where
  ends_clean : {f : FileState} {o p : ℕ} → file_end d f ≡ Clean → Runs d f o p [] [] []
  ends_final : {f : FileState} {o p : ℕ} → file_end d f ≡ Final → Runs d f o p [] (line [] ([] ∷ []) ∷ []) ((span p o ∷ []) ∷ [])
  outside :
      {f g : FileState} {o p b : ℕ} {bs : Bytes} {ls : List (Line Bytes)} {ss : List (List Span)} → file_step d f b ≡ Ok (g, Outside) →
      Runs d g (suc o) (suc o) bs ls ss → Runs d f o p (b ∷ bs) ls ss
  passed :
      {f g : FileState} {o p b : ℕ} {bs : Bytes} {ls : List (Line Bytes)} {ss : List (List Span)} → file_step d f b ≡ Ok (g, Passed) →
      Runs d g (suc o) (suc o) bs ls ss → Runs d f o p (b ∷ bs) ls ss
  of_cell :
      {f g : FileState} {o p b : ℕ} {bs text raw : Bytes} {cells : List Bytes} {ls : List (Line Bytes)} {ss : List (List Span)} →
      file_step d f b ≡ Ok (g, OfCell) → Runs d g (suc o) p bs (line text (raw ∷ cells) ∷ ls) ss →
      Runs d f o p (b ∷ bs) (line (b ∷ text) ((b ∷ raw) ∷ cells) ∷ ls) ss
  between :
      {f g : FileState} {o p b : ℕ} {bs text : Bytes} {cells : List Bytes} {ls : List (Line Bytes)} {ss : List (List Span)} →
      file_step d f b ≡ Ok (g, Between false) → Runs d g (suc o) (suc o) bs (line text cells ∷ ls) ss →
      Runs d f o p (b ∷ bs) (line (b ∷ text) cells ∷ ls) ss
  between_closing :
      {f g : FileState} {o p b : ℕ} {bs text : Bytes} {cells : List Bytes} {ls : List (Line Bytes)} {ps : List Span} {ss : List (List Span)} →
      file_step d f b ≡ Ok (g, Between true) → Runs d g (suc o) (suc o) bs (line text cells ∷ ls) (ps ∷ ss) →
      Runs d f o p (b ∷ bs) (line (b ∷ text) ([] ∷ cells) ∷ ls) ((span p o ∷ ps) ∷ ss)
  tail :
      {f g : FileState} {o p b : ℕ} {bs text : Bytes} {cells : List Bytes} {ls : List (Line Bytes)} {ss : List (List Span)} →
      file_step d f b ≡ Ok (g, Tail false) → Runs d g (suc o) (suc o) bs (line text cells ∷ ls) ss →
      Runs d f o p (b ∷ bs) (line text cells ∷ ls) ss
  tail_closing :
      {f g : FileState} {o p b : ℕ} {bs text : Bytes} {cells : List Bytes} {ls : List (Line Bytes)} {ps : List Span} {ss : List (List Span)} →
      file_step d f b ≡ Ok (g, Tail true) → Runs d g (suc o) (suc o) bs (line text cells ∷ ls) (ps ∷ ss) →
      Runs d f o p (b ∷ bs) (line text ([] ∷ cells) ∷ ls) ((span p o ∷ ps) ∷ ss)
  ends :
      {f g : FileState} {o p b : ℕ} {bs : Bytes} {ls : List (Line Bytes)} {ss : List (List Span)} → file_step d f b ≡ Ok (g, Ends false) →
      Runs d g (suc o) (suc o) bs ls ss → Runs d f o p (b ∷ bs) (line [] [] ∷ ls) ([] ∷ ss)
  ends_closing :
      {f g : FileState} {o p b : ℕ} {bs : Bytes} {ls : List (Line Bytes)} {ss : List (List Span)} → file_step d f b ≡ Ok (g, Ends true) →
      Runs d g (suc o) (suc o) bs ls ss → Runs d f o p (b ∷ bs) (line [] ([] ∷ []) ∷ ls) ((span p o ∷ []) ∷ ss)

-- without the places
pub reads : {d : Dialect} {f : FileState} {o p : ℕ} {xs : Bytes} {ls : List (Line Bytes)} {ss : List (List Span)} → Runs d f o p xs ls ss → Reads d f xs ls
reads (ends_clean e) = reading.ends_clean e
reads (ends_final e) = reading.ends_final e
reads (outside e k) = reading.outside e (reads k)
reads (passed e k) = reading.passed e (reads k)
reads (of_cell e k) = reading.of_cell e (reads k)
reads (between e k) = reading.between e (reads k)
reads (between_closing e k) = reading.between_closing e (reads k)
reads (tail e k) = reading.tail e (reads k)
reads (tail_closing e k) = reading.tail_closing e (reads k)
reads (ends e k) = reading.ends e (reads k)
reads (ends_closing e k) = reading.ends_closing e (reads k)

-- a byte's step is all that is required of a state
pub from_state :
    {d : Dialect} {f g : FileState} {o p b : ℕ} {bs : Bytes} {ls : List (Line Bytes)} {ss : List (List Span)} →
    file_step d f b ≡ file_step d g b → Runs d g o p (b ∷ bs) ls ss → Runs d f o p (b ∷ bs) ls ss
from_state q (outside e k) = outside (q ∙ e) k
from_state q (passed e k) = passed (q ∙ e) k
from_state q (of_cell e k) = of_cell (q ∙ e) k
from_state q (between e k) = between (q ∙ e) k
from_state q (between_closing e k) = between_closing (q ∙ e) k
from_state q (tail e k) = tail (q ∙ e) k
from_state q (tail_closing e k) = tail_closing (q ∙ e) k
from_state q (ends e k) = ends (q ∙ e) k
from_state q (ends_closing e k) = ends_closing (q ∙ e) k

abbrev is_of_cell : ByteRole → Bool
is_of_cell OfCell = true
is_of_cell Outside = false
is_of_cell Passed = false
is_of_cell (Between k) = false
is_of_cell (Tail k) = false
is_of_cell (Ends k) = false

other_role : {A : Type 0} {p : ByteRole} → OfCell ≡ p → is_of_cell p ≡ false → A
other_role e k = impossible (sym k ∙ ap is_of_cell (sym e))

-- a byte of the current cell may lead to another state, from which the rest is read the same
pub with_cell_byte :
    {d : Dialect} {f g h k : FileState} {o p b : ℕ} {bs : Bytes} {ls : List (Line Bytes)} {ss : List (List Span)} →
    file_step d f b ≡ Ok (g, OfCell) → file_step d h b ≡ Ok (k, OfCell) →
    ((ls : List (Line Bytes)) → Runs d g (suc o) p bs ls ss → Runs d k (suc o) p bs ls ss) → Runs d f o p (b ∷ bs) ls ss →
    Runs d h o p (b ∷ bs) ls ss
with_cell_byte q s t (outside e k) = other_role (step_parts q e).1 refl
with_cell_byte q s t (passed e k) = other_role (step_parts q e).1 refl
with_cell_byte q s t (of_cell e k) = of_cell s (t _ (rw (step_parts e q).0 at k))
with_cell_byte q s t (between e k) = other_role (step_parts q e).1 refl
with_cell_byte q s t (between_closing e k) = other_role (step_parts q e).1 refl
with_cell_byte q s t (tail e k) = other_role (step_parts q e).1 refl
with_cell_byte q s t (tail_closing e k) = other_role (step_parts q e).1 refl
with_cell_byte q s t (ends e k) = other_role (step_parts q e).1 refl
with_cell_byte q s t (ends_closing e k) = other_role (step_parts q e).1 refl

pub past_append : (xs ys : Bytes) (o : ℕ) → past (xs ++ ys) o ≡ past ys (past xs o)
past_append [] ys o = refl
past_append (b ∷ bs) ys o = past_append bs ys (suc o)

pub past_length : (xs : Bytes) (o : ℕ) → past xs o ≡ o + length xs
past_length [] o = omega arith
past_length (b ∷ bs) o = let h : past bs (suc o) ≡ suc o + length bs = past_length bs (suc o) in omega arith
