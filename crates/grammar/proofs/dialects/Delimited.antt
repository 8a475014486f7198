-- Records of TDIF and CSV+: cells with delimiters between them and nothing else (`Cells`), and then what Tail says follows a record's
-- text. They are read (`cells_read`), and what is read from a record's first cell on is of this form (`record_of`).
use Prim.Native.Nat.{ℕ, suc}
use mathlib.Core.Path.{◌≡◌, refl, ◌∙◌}
use mathlib.Core.Bool.{Bool, true, false}
use mathlib.Core.List.{List, [], ◌∷◌, ◌++◌, append_assoc, append-nil}
use Rattle.grammar.specs.rfc.Types.{Dialect, CsvPlus, Fresh, FileState, Inside, Between, Ok}
use Rattle.model.specs.rules.Base.{Bytes, choose◌then◌else◌}
use Rattle.model.specs.rules.Dialect.{delimiter_of}
use Rattle.model.specs.rules.File.{after_cell}
use Rattle.model.proofs.Tests.{same_byte}
use Rattle.model.proofs.cell_laws.CellContent.{Doubles, d_tdif, d_plus}
use Rattle.grammar.specs.rfc.Derived.{Line, line}
use Rattle.grammar.specs.dialects.Spans.{Span, past, cell_at}
use Rattle.grammar.proofs.rfc.WholeCells.{Spells}
use Rattle.grammar.proofs.dialects.Separators.{Reached, by_delimiter}
use Rattle.grammar.proofs.dialects.ReadsWithSpans.{Runs, between_closing, past_append}
use Rattle.grammar.proofs.dialects.FormSteps.{Takes}
use Rattle.grammar.proofs.dialects.FormSteps as steps
use Rattle.grammar.proofs.dialects.CellReads.{Follows, cell_reads, after_whole, CellThen, cell_then, AfterByte, ended_before, ends_now}

-- cell *( delimiter cell )
pub data Cells (d : Dialect) : Bytes → List Bytes → Type 0 where
  one_cell : {raw : Bytes} → Spells d Fresh raw → Cells d raw (raw ∷ [])
  more_cells : {raw text : Bytes} {cells : List Bytes} → Spells d Fresh raw → Cells d text cells → Cells d (raw ++ (delimiter_of d ∷ text)) (raw ∷ cells)

-- their spans, from o on
abbrev pub cells_at : {d : Dialect} {text : Bytes} {cells : List Bytes} → ℕ → Cells d text cells → List Span
cells_at o (one_cell {raw} m) = cell_at o raw ∷ []
cells_at o (more_cells {raw} m n) = cell_at o raw ∷ cells_at (suc (past raw o)) n

-- ---- they are read

delimiter_step : {d : Dialect} → Doubles d → after_cell d true (delimiter_of d) ≡ Ok (Inside Fresh, Between true)
unfolding after_cell choose◌then◌else◌
delimiter_step d_tdif = refl
delimiter_step (d_plus {s}) = rw (same_byte (delimiter_of (CsvPlus s)))

fresh_reached : {d : Dialect} → Doubles d → Reached d Fresh
fresh_reached d_tdif = tt
fresh_reached d_plus = tt

module _ {d : Dialect} (k : Doubles d) where
  delimiter_follows :
      {o : ℕ} {ys text : Bytes} {cells : List Bytes} {ls : List (Line Bytes)} {ps : List Span} {ss : List (List Span)} →
      Runs d (Inside Fresh) (suc o) (suc o) ys (line text cells ∷ ls) (ps ∷ ss) → Follows d o (delimiter_of d ∷ ys) (delimiter_of d ∷ text) cells ls ps ss
  delimiter_follows m c p r w = between_closing (after_whole d c (delimiter_of d) r w by_delimiter ∙ delimiter_step k) m

  pub cells_read :
      (o : ℕ) {text ys : Bytes} {cells : List Bytes} {ls : List (Line Bytes)} {ss : List (List Span)} (n : Cells d text cells) →
      Follows d (past text o) ys [] [] ls [] ss → Runs d (Inside Fresh) o o (text ++ ys) (line text cells ∷ ls) (cells_at o n ∷ ss)
  cells_read o {ys} {ls} {ss} (one_cell {raw} m) f =
      let r : Runs d (Inside Fresh) o o (raw ++ ys) (line (raw ++ []) (raw ∷ []) ∷ ls) ((cell_at o raw ∷ []) ∷ ss) = cell_reads m (fresh_reached k) f in
      rw (append-nil raw) at r
  cells_read o {ys} {ls} (more_cells {raw} {text} m n) f =
      rw (append_assoc raw (delimiter_of d ∷ text) ys)
      (cell_reads m (fresh_reached k) (delimiter_follows (cells_read (suc (past raw o)) n (rw (past_append raw (delimiter_of d ∷ text) o) at f))))

-- ---- what is read is of this form

module _ (d : Dialect) (Tail : Bytes → List (Line Bytes) → Type 0) where
  -- a record from one of its cells on
  pub data RecordThen : Bytes → Bytes → List Bytes → List (Line Bytes) → Type 0 where
    record_then : {text ys : Bytes} {cells : List Bytes} {ls : List (Line Bytes)} → Cells d text cells → Tail ys ls → RecordThen (text ++ ys) text cells ls

  -- a record from the end of one of its cells on
  pub data After : Bytes → Bytes → List Bytes → List (Line Bytes) → Type 0 where
    at_tail : {ys : Bytes} {ls : List (Line Bytes)} → Tail ys ls → After ys [] [] ls
    at_delimiter :
        {ys text : Bytes} {cells : List Bytes} {ls : List (Line Bytes)} → RecordThen ys text cells ls →
        After (delimiter_of d ∷ ys) (delimiter_of d ∷ text) cells ls

  pub record_of :
      {xs text : Bytes} {cells : List Bytes} {ls : List (Line Bytes)} → CellThen d After Fresh xs (line text cells ∷ ls) →
      RecordThen xs text cells ls
  record_of (cell_then {raw} m (at_tail t)) = rw (append-nil raw) (record_then (one_cell m) t)
  record_of (cell_then {raw} m (at_delimiter (record_then {text} {ys} n t))) =
      rw (← (append_assoc raw (delimiter_of d ∷ text) ys)) (record_then (more_cells m n) t)

  -- a delimiter after a cell
  pub delimiter_taken :
      (K : FileState → List (Line Bytes) → Type 0) {bs : Bytes} (k : Bool) {ls : List (Line Bytes)} →
      ((ls : List (Line Bytes)) → K (Inside Fresh) ls → CellThen d After Fresh bs ls) → Takes K (delimiter_of d) (Ok (Inside Fresh, Between k)) ls →
      AfterByte After (delimiter_of d ∷ bs) k ls
  delimiter_taken K true f (steps.between_closing m) = ends_now (at_delimiter (record_of (f _ m)))
  delimiter_taken K false f (steps.between m) = ended_before (at_delimiter (record_of (f _ m)))
