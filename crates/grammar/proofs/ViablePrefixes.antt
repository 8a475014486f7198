-- A byte can continue a file, by form alone, exactly when some derivation's text begins so. Where a record is completed the bytes up
-- to there are a file (`completes_reads`); and a file that is read can be completed by some bytes, as every state can
-- (`reads_complete`).
use Prim.Native.Nat.{ℕ}
use mathlib.Core.Path.{◌≡◌, refl}
use mathlib.Core.Logic.{◌↔◌}
use mathlib.Core.Bool.{Bool, true, false}
use Rattle.std.specs.Prelude.{Option}
use mathlib.Core.List.{List, [], ◌∷◌, ◌++◌, map, append_assoc}
use Rattle.grammar.specs.rfc.Types.{Dialect, Target, FileState, Top, Outside, Passed, OfCell, Between, Tail, Ends, Ok, Clean}
use Rattle.model.specs.declared.ByteRole.{ByteRole}
use Rattle.model.specs.rules.Base.{Bytes}
use Rattle.model.specs.rules.File.{file_step, file_end}
use Rattle.model.specs.rules.Records.{Read, going, file_full, record_full, read_bytes}
use Rattle.model.specs.laws.Viable.{Completes, completed, onward, CanGoOn}
use Rattle.model.proofs.Laws.{laws}
use Rattle.model.proofs.file_laws.FileSteps.{Next, n_begin, n_ended, its_transition}
use Rattle.grammar.specs.rfc.Derived.{Line, line}
use Rattle.grammar.specs.dialects.FormReads.{Reads, decoded_line}
use Rattle.grammar.specs.dialects.FormReads as reading
use Rattle.grammar.specs.NextByte.{ProceedsOn, NextByte}
use Rattle.grammar.proofs.StepStages.{in_cell_lem, stage_of, cell_stage, ends_next}
use Rattle.grammar.proofs.AcceptedOnly.{HasCell, has_cell, reads_cell}
use Rattle.grammar.proofs.dialects.FileGrammar.{derived_reads, reads_derived}

-- these bytes are read to the end of the file, with a record
data Recorded (d : Dialect) (f : FileState) (xs : Bytes) : Type 0 where
  recorded : (l : Line Bytes) (ls : List (Line Bytes)) → Reads d f xs (l ∷ ls) → Recorded d f xs

next_clean : (d : Dialect) {f : FileState} → Next f → file_end d f ≡ Clean
unfolding file_end
next_clean d n_begin = refl
next_clean d n_ended = refl

module _ (d : Dialect) where
  -- ---- where a record is completed, the bytes so far are a file

  -- a record that continues from h, after the byte b, seen from f, before it
  abbrev Told : (f h : FileState) (b : ℕ) (bs : Bytes) → Type 0
  Told f h b bs = (text : Bytes) (cells : List Bytes) (ls : List (Line Bytes)) → Reads d h bs (line text cells ∷ ls) → Recorded d f (b ∷ bs)

  module _ {f h : FileState} (b : ℕ) (bs : Bytes) where
    of_cell_reads : file_step d f b ≡ Ok (h, OfCell) → stage_of d h ≡ in_cell_lem → Recorded d h bs → Recorded d f (b ∷ bs)
    of_cell_reads e g (recorded l ls r) = go r (reads_cell d r g)
      where
        go : {ls : List (Line Bytes)} → Reads d h bs ls → HasCell ls → Recorded d f (b ∷ bs)
        go r has_cell = recorded _ _ (reading.of_cell e r)

    last_reads : (k : Bool) → file_step d f b ≡ Ok (h, Ends k) → Next h → Recorded d f (b ∷ [])
    last_reads true e n = recorded _ _ (reading.ends_closing e (reading.ends_clean (next_clean d n)))
    last_reads false e n = recorded _ _ (reading.ends e (reading.ends_clean (next_clean d n)))

    record_reads : Told f h b bs → Recorded d h bs → Recorded d f (b ∷ bs)
    record_reads k (recorded (line text cells) ls r) = k text cells ls r

    next_reads : (k : Bool) → file_step d f b ≡ Ok (h, Ends k) → Recorded d h bs → Recorded d f (b ∷ bs)
    next_reads true e (recorded l ls r) = recorded _ _ (reading.ends_closing e r)
    next_reads false e (recorded l ls r) = recorded _ _ (reading.ends e r)

    rest_reads : ((ls : List (Line Bytes)) → Reads d h bs ls → Reads d f (b ∷ bs) ls) → Recorded d h bs → Recorded d f (b ∷ bs)
    rest_reads k (recorded l ls r) = recorded l ls (k (l ∷ ls) r)

  completes_reads : {f : FileState} {xs : Bytes} → Completes d f xs → Recorded d f xs
  completes_reads (completed {k = k} {b} e) = last_reads b [] k e (ends_next (its_transition e))
  completes_reads (onward {p = Outside} {b} {bs} e k) = rest_reads b bs (λ ls r. reading.outside e r) (completes_reads k)
  completes_reads (onward {p = Passed} {b} {bs} e k) = rest_reads b bs (λ ls r. reading.passed e r) (completes_reads k)
  completes_reads (onward {p = OfCell} {b} {bs} e k) = of_cell_reads b bs e (cell_stage (its_transition e)) (completes_reads k)
  completes_reads (onward {p = Between false} {b} {bs} e k) = record_reads b bs (λ text cells ls r. recorded _ _ (reading.between e r)) (completes_reads k)
  completes_reads (onward {p = Between true} {b} {bs} e k) =
      record_reads b bs (λ text cells ls r. recorded _ _ (reading.between_closing e r)) (completes_reads k)
  completes_reads (onward {p = Tail false} {b} {bs} e k) = record_reads b bs (λ text cells ls r. recorded _ _ (reading.tail e r)) (completes_reads k)
  completes_reads (onward {p = Tail true} {b} {bs} e k) = record_reads b bs (λ text cells ls r. recorded _ _ (reading.tail_closing e r)) (completes_reads k)
  completes_reads (onward {p = Ends k} {b} {bs} e m) = next_reads b bs k e (completes_reads m)

  -- ---- what is read can be completed

  data Completed (f : FileState) (xs : Bytes) : Type 0 where
    by_adding : (ws : Bytes) → Completes d f (xs ++ ws) → Completed f xs

  next : {f g : FileState} {p : ByteRole} {b : ℕ} {bs : Bytes} → file_step d f b ≡ Ok (g, p) → Completed g bs → Completed f (b ∷ bs)
  next e (by_adding ws k) = by_adding ws (onward e k)

  any_state : (f : FileState) → Completed f []
  any_state f = let c = laws.completion d f in by_adding c.0 c.1

  reads_complete : {f : FileState} {xs : Bytes} {ls : List (Line Bytes)} → Reads d f xs ls → Completed f xs
  reads_complete (reading.ends_clean {f} e) = any_state f
  reads_complete (reading.ends_final {f} e) = any_state f
  reads_complete (reading.outside e k) = next e (reads_complete k)
  reads_complete (reading.passed e k) = next e (reads_complete k)
  reads_complete (reading.of_cell e k) = next e (reads_complete k)
  reads_complete (reading.between e k) = next e (reads_complete k)
  reads_complete (reading.between_closing e k) = next e (reads_complete k)
  reads_complete (reading.tail e k) = next e (reads_complete k)
  reads_complete (reading.tail_closing e k) = next e (reads_complete k)
  reads_complete (reading.ends e k) = next e (reads_complete k)
  reads_complete (reading.ends_closing e k) = next e (reads_complete k)

  -- ---- so a byte can continue exactly when a derivation's text begins so

  pub can_go_on : (xs : Bytes) (b : ℕ) → CanGoOn d xs b ↔ ProceedsOn d xs b
  can_go_on xs b = (
    λ g.
        derived g.0 (completes_reads g.1),
    λ g. completed_from g.0
        (reads_complete (derived_reads d (xs ++ (b ∷ g.0)) g.1 g.2)),
  )
    where
      derived : (ys : Bytes) → Recorded d Top (xs ++ (b ∷ ys)) → ProceedsOn d xs b
      derived ys (recorded l ls r) = (ys, map (decoded_line d) (l ∷ ls), reads_derived d r)

      completed_from : (ys : Bytes) → Completed Top (xs ++ (b ∷ ys)) → CanGoOn d xs b
      completed_from ys (by_adding ws k) = (ys ++ ws, rw (append_assoc xs (b ∷ ys) ws) at k)

  pub next_byte_exact :
      (target : Option Target) (xs : Bytes) (r : Read) (b : ℕ) → read_bytes d target xs ≡ going r → file_full r ≡ false →
      record_full r b ≡ false → NextByte d target xs r b
  next_byte_exact target xs r b read file size =
      let m = laws.next_byte d target xs r b read file size in
      let g = can_go_on xs b in
      record {
        refused = (λ h n. m.refused.0 h (g.1 n), λ n. m.refused.1 (λ c. n (g.0 c)));
        syntax_fault = (λ h. let x = m.syntax_fault.0 h in (λ n. x.0 (g.1 n), x.1), λ n. m.syntax_fault.1 (λ c. n.0 (g.0 c), n.1));
      }
