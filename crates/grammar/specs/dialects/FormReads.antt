-- Reading by form alone: the records that the automaton of model gives for a file's bytes, without limits and record checks.
use Rattle.std.specs.Prelude.{ℕ, ◌≡◌, true, false, List, [], ◌∷◌, map}
use Rattle.grammar.specs.rfc.Types.{Dialect, FileState, Top, Outside, Passed, OfCell, Between, Tail, Ends, Ok, Clean, Final}
use Rattle.model.specs.rules.Base.{Bytes}
use Rattle.model.specs.rules.File.{file_step, file_end}
use Rattle.model.specs.rules.Decode.{kind_of, content_of}
use Rattle.grammar.specs.rfc.Derived.{Derived, cell, Line, line}

-- Read on from this state of the file, the bytes give these records up to the file's end. The first line is the rest of the current
-- record, if there is one, and its first cell the rest of the current cell.
pub data Reads (d : Dialect) : FileState → Bytes → List (Line Bytes) → Type 0 where
  ends_clean : {f : FileState} → file_end d f ≡ Clean → Reads d f [] []
  ends_final : {f : FileState} → file_end d f ≡ Final → Reads d f [] (line [] ([] ∷ []) ∷ [])
  outside : {f g : FileState} {b : ℕ} {bs : Bytes} {ls : List (Line Bytes)} → file_step d f b ≡ Ok (g, Outside) → Reads d g bs ls → Reads d f (b ∷ bs) ls
  passed : {f g : FileState} {b : ℕ} {bs : Bytes} {ls : List (Line Bytes)} → file_step d f b ≡ Ok (g, Passed) → Reads d g bs ls → Reads d f (b ∷ bs) ls
  of_cell :
      {f g : FileState} {b : ℕ} {bs text raw : Bytes} {cells : List Bytes} {ls : List (Line Bytes)} → file_step d f b ≡ Ok (g, OfCell) →
      Reads d g bs (line text (raw ∷ cells) ∷ ls) → Reads d f (b ∷ bs) (line (b ∷ text) ((b ∷ raw) ∷ cells) ∷ ls)
  between :
      {f g : FileState} {b : ℕ} {bs text : Bytes} {cells : List Bytes} {ls : List (Line Bytes)} → file_step d f b ≡ Ok (g, Between false) →
      Reads d g bs (line text cells ∷ ls) → Reads d f (b ∷ bs) (line (b ∷ text) cells ∷ ls)
  between_closing :
      {f g : FileState} {b : ℕ} {bs text : Bytes} {cells : List Bytes} {ls : List (Line Bytes)} → file_step d f b ≡ Ok (g, Between true) →
      Reads d g bs (line text cells ∷ ls) → Reads d f (b ∷ bs) (line (b ∷ text) ([] ∷ cells) ∷ ls)
  tail :
      {f g : FileState} {b : ℕ} {bs text : Bytes} {cells : List Bytes} {ls : List (Line Bytes)} → file_step d f b ≡ Ok (g, Tail false) →
      Reads d g bs (line text cells ∷ ls) → Reads d f (b ∷ bs) (line text cells ∷ ls)
  tail_closing :
      {f g : FileState} {b : ℕ} {bs text : Bytes} {cells : List Bytes} {ls : List (Line Bytes)} → file_step d f b ≡ Ok (g, Tail true) →
      Reads d g bs (line text cells ∷ ls) → Reads d f (b ∷ bs) (line text ([] ∷ cells) ∷ ls)
  ends :
      {f g : FileState} {b : ℕ} {bs : Bytes} {ls : List (Line Bytes)} → file_step d f b ≡ Ok (g, Ends false) → Reads d g bs ls →
      Reads d f (b ∷ bs) (line [] [] ∷ ls)
  ends_closing :
      {f g : FileState} {b : ℕ} {bs : Bytes} {ls : List (Line Bytes)} → file_step d f b ≡ Ok (g, Ends true) → Reads d g bs ls →
      Reads d f (b ∷ bs) (line [] ([] ∷ []) ∷ ls)

-- a raw cell as the decoder of model has it
abbrev pub decoded : Dialect → Bytes → Derived
decoded d raw = cell raw (kind_of d raw) (content_of d raw)

unfoldable pub decoded_line : Dialect → Line Bytes → Line Derived
decoded_line d (line text cells) = line text (map (decoded d) cells)

-- by form the file has these records, at least one
pub data ReadByForm (d : Dialect) (xs : Bytes) : List (Line Derived) → Type 0 where
  read_by_form :
      (l : Line Bytes) (ls : List (Line Bytes)) → Reads d Top xs (l ∷ ls) → ReadByForm d xs (map (decoded_line d) (l ∷ ls))
