-- A cell in a file, over the dialect: its bytes are read as a file's where they are read as a cell's and what follows is read after
-- any whole cell (`cell_reads`); and a file in a cell continues with the rest of a cell and then with what follows one
-- (`in_cell_byte`).
use Prim.Native.Nat.{ℕ}
use mathlib.Core.Path.{◌≡◌, refl, sym, ◌∙◌}
use mathlib.Core.Bool.{Bool, true, false}
use mathlib.Core.List.{List, [], ◌∷◌, ◌++◌}
use Rattle.grammar.specs.rfc.Types.{Dialect, Cell, Fresh, CellStep, More, Stop, Refuse, Syntax, FileState, Inside, OfCell, Ok}
use borrow.Author.Tests.{ne_eqb}
use Rattle.model.specs.rules.Base.{Bytes, ◌is◌}
use Rattle.model.specs.rules.Cell.{cell_step, is_whole}
use Rattle.model.specs.rules.File.{after_cell, grow, in_cell, file_step}
use Rattle.model.proofs.Tests.{impossible}
use Rattle.model.proofs.cell_laws.CellContent.{no_more}
use Rattle.grammar.specs.rfc.Derived.{Line, line}
use Rattle.grammar.specs.dialects.Spans.{Span, span, past}
use Rattle.grammar.proofs.rfc.WholeCells.{Spells, whole, byte}
use Rattle.grammar.proofs.dialects.Separators.{Separates, Reached, reached_step, stops}
use Rattle.grammar.proofs.dialects.ReadsWithSpans.{Runs, of_cell}
use Rattle.grammar.proofs.dialects.FormSteps.{Takes, rejected, stop_whole}
use Rattle.grammar.proofs.dialects.FormSteps as steps

-- ---- a cell is read

-- after any whole cell, which ends at o, these bytes are read, with the rest of the record's text, the cells after that one and their
-- spans
abbrev pub Follows : Dialect → (o : ℕ) → Bytes → (text : Bytes) (cells : List Bytes) (ls : List (Line Bytes)) (ps : List Span) (ss : List (List Span)) → Type 0
Follows d o ys text cells ls ps ss =
    (c : Cell) (p : ℕ) → Reached d c → is_whole d c ≡ true → Runs d (Inside c) o p ys (line text ([] ∷ cells) ∷ ls) ((span p o ∷ ps) ∷ ss)

pub cell_step_lem : (d : Dialect) (c e : Cell) (b : ℕ) → cell_step d c b ≡ More e → file_step d (Inside c) b ≡ Ok (Inside e, OfCell)
unfolding file_step in_cell
cell_step_lem d c e b s = rw s

pub cell_reads :
    {d : Dialect} {c : Cell} {o p : ℕ} {raw ys text : Bytes} {cells : List Bytes} {ls : List (Line Bytes)} {ps : List Span} {ss : List (List Span)} →
    Spells d c raw → Reached d c → Follows d (past raw o) ys text cells ls ps ss →
    Runs d (Inside c) o p (raw ++ ys) (line (raw ++ text) (raw ∷ cells) ∷ ls) ((span p (past raw o) ∷ ps) ∷ ss)
cell_reads {c} {p} (whole w) r k = k c p r w
cell_reads {d} (byte {c} {e} {b} s m) r k = of_cell (cell_step_lem d c e b s) (cell_reads m (reached_step d c e b r s) k)

-- the byte after a whole cell
pub after_whole : (d : Dialect) (c : Cell) (b : ℕ) → Reached d c → is_whole d c ≡ true → Separates d b → file_step d (Inside c) b ≡ after_cell d true b
unfolding file_step in_cell
after_whole d c b r w x = rw (stops d c b r w x)

-- where no cell is empty, the first byte of a cell
pub data FirstOfCell (d : Dialect) : Bytes → Type 0 where
  first_of_cell : {b : ℕ} {bs : Bytes} {e : Cell} → cell_step d Fresh b ≡ More e → FirstOfCell d (b ∷ bs)

pub spells_first : {d : Dialect} {raw : Bytes} → is_whole d Fresh ≡ false → Spells d Fresh raw → (ys : Bytes) → FirstOfCell d (raw ++ ys)
spells_first n (whole w) ys = impossible (sym n ∙ w)
spells_first n (byte s k) ys = first_of_cell s

-- it is no byte that a cell cannot begin with
pub other_byte : (d : Dialect) (b n : ℕ) (e : Cell) → cell_step d Fresh b ≡ More e → cell_step d Fresh n ≡ Refuse Syntax → (b is n) ≡ false
other_byte d b n e s r = ne_eqb b n (λ q. no_more (sym r ∙ (rw q at s)))

-- ---- the bytes read are a cell and what follows it

-- the rest of a cell in state c, and then what After says of the rest: its bytes, the rest of the record's text, the cells after this
-- one and the records after this one
pub data CellThen (d : Dialect) (After : Bytes → Bytes → List Bytes → List (Line Bytes) → Type 0) (c : Cell) : Bytes → List (Line Bytes) → Type 0 where
  cell_then :
      {raw ys text : Bytes} {cells : List Bytes} {ls : List (Line Bytes)} → Spells d c raw → After ys text cells ls →
      CellThen d After c (raw ++ ys) (line (raw ++ text) (raw ∷ cells) ∷ ls)

-- what After says of these bytes, where the cell ends before them or has ended
pub data AfterByte (After : Bytes → Bytes → List Bytes → List (Line Bytes) → Type 0) (ys : Bytes) : (ends_here : Bool) → List (Line Bytes) → Type 0 where
  ended_before : {text : Bytes} {cells : List Bytes} {ls : List (Line Bytes)} → After ys text cells ls → AfterByte After ys false (line text cells ∷ ls)
  ends_now : {text : Bytes} {cells : List Bytes} {ls : List (Line Bytes)} → After ys text cells ls → AfterByte After ys true (line text ([] ∷ cells) ∷ ls)

module _ {d : Dialect} {After : Bytes → Bytes → List Bytes → List (Line Bytes) → Type 0} where
  pub more_cell :
      {c e : Cell} {b : ℕ} {bs text raw : Bytes} {cells : List Bytes} {ls : List (Line Bytes)} → cell_step d c b ≡ More e →
      CellThen d After e bs (line text (raw ∷ cells) ∷ ls) → CellThen d After c (b ∷ bs) (line (b ∷ text) ((b ∷ raw) ∷ cells) ∷ ls)
  more_cell s (cell_then m a) = cell_then (byte s m) a

  close_cell : {c : Cell} {ys : Bytes} {ls : List (Line Bytes)} → is_whole d c ≡ true → AfterByte After ys true ls → CellThen d After c ys ls
  close_cell w (ends_now a) = cell_then (whole w) a

  -- a byte of the cell's file, where K says of each later state what the later bytes are
  pub in_cell_byte :
      (K : FileState → List (Line Bytes) → Type 0) (c : Cell) (b : ℕ) (bs : Bytes) (ls : List (Line Bytes)) →
      ((e : Cell) (ls : List (Line Bytes)) → K (Inside e) ls → CellThen d After e bs ls) →
      ((ls : List (Line Bytes)) → Takes K b (after_cell d true b) ls → AfterByte After (b ∷ bs) true ls) →
      Takes K b (in_cell d c b) ls → CellThen d After c (b ∷ bs) ls
  unfolding in_cell
  in_cell_byte K c b bs ls inside after t = go (cell_step d c b) refl t
    where
      more : (e : Cell) {ls : List (Line Bytes)} → cell_step d c b ≡ More e → Takes K b (Ok (Inside e, OfCell)) ls → CellThen d After c (b ∷ bs) ls
      more e s (steps.of_cell k) = more_cell s (inside e _ k)

      go : (a : CellStep) → cell_step d c b ≡ a → Takes K b (grow a (after_cell d true b)) ls → CellThen d After c (b ∷ bs) ls
      go (More e) s t = more e s t
      go Stop s t = close_cell (stop_whole K d c b ls s t) (after ls t)
      go (Refuse e) s t = rejected t
