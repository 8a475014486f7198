-- Runs of a cell's bytes: the decoder accepts exactly the runs to a whole cell (`runs_sound`, `sound_runs`).
use Prim.Native.Nat.{ℕ, suc}
use native.Mathlib.Omega.{arith}
use mathlib.Core.Path.{◌≡◌, refl}
use mathlib.Core.Bool.{Bool, true, false}
use mathlib.Core.List.{List, [], ◌∷◌, ◌++◌}
use Rattle.model.specs.rules.Types.{Delimiter, Comma, Semicolon, Tab, Bar, Quote, Double, Single, Settings, Dialect, CsvPlus, EeToEf, Second}
use Rattle.model.specs.rules.Types.{Last, Within}
use Rattle.model.specs.rules.Types.{Cell, Fresh, Plain, CellStep, More, Stop, Refuse}
use Rattle.model.specs.rules.Types.{Fault, CellCheck, Ok, Err}
use Rattle.model.specs.rules.Types as types
use Rattle.model.specs.rules.Base.{Bytes, choose◌then◌else◌}
use Rattle.model.specs.rules.Utf8.{row_of, leads, lead_byte, inner_step, char_step}
use Rattle.model.specs.rules.Cell.{first_byte, cell_step, is_whole}
pub use Rattle.model.specs.rules.Cell.{Runs, here, there}
use Rattle.model.specs.rules.Decode.{validate_from}
use Rattle.model.specs.laws.Laws.{All, all_none, all_cons}
use Rattle.model.specs.rules.Types.{cell_fault}
use Rattle.model.proofs.file_laws.CheckResults.{fault_sound}

-- ---- a cell that begins like the byte order mark

-- EF is no delimiter and no quote
pub bom_cell : (s : Settings) → cell_step (CsvPlus s) Fresh 0xEF ≡ More (Plain (Within (Second EeToEf)))
unfolding cell_step first_byte char_step lead_byte leads row_of choose◌then◌else◌
bom_cell s = go s.delimiter s.quote
  where
    go : (x : Delimiter) (q : Quote) → cell_step (CsvPlus (record { delimiter = x; quote = q })) Fresh 0xEF ≡ More (Plain (Within (Second EeToEf)))
    go Comma Double = refl
    go Comma Single = refl
    go Semicolon Double = refl
    go Semicolon Single = refl
    go Tab Double = refl
    go Tab Single = refl
    go Bar Double = refl
    go Bar Single = refl

pub bom_rest : (d : Dialect) → cell_step d (Plain (Within (Second EeToEf))) 0xBB ≡ More (Plain (Within Last))
unfolding cell_step char_step inner_step row_of choose◌then◌else◌
bom_rest d = refl

-- ---- runs of a cell

pub snoc : {d : Dialect} {c c' c'' : Cell} {bs : Bytes} (b : ℕ) → Runs d c bs c' → cell_step d c' b ≡ More c'' → Runs d c (bs ++ (b ∷ [])) c''
snoc b here e = there e here
snoc b (there f r) e = there f (snoc b r e)

pub runs_sound : {d : Dialect} {c c' : Cell} {bs : Bytes} (i : ℕ) → Runs d c bs c' → is_whole d c' ≡ true → validate_from d c i bs ≡ Ok tt
unfolding validate_from choose◌then◌else◌
runs_sound i here w = rw (w, validate_from)
runs_sound i (there e r) w = rw (e, validate_from) (runs_sound (suc i) r w)

-- a run to a whole cell
pub record WholeRun (d : Dialect) (c : Cell) (bs : Bytes) : Type 0 where
  pub end : Cell
  pub runs : Runs d c bs end
  pub whole : is_whole d end ≡ true

pub sound_runs : (d : Dialect) (c : Cell) (i : ℕ) (bs : Bytes) → validate_from d c i bs ≡ Ok tt → WholeRun d c bs
unfolding validate_from choose◌then◌else◌
sound_runs d c i [] h = go (is_whole d c) refl h
  where
    go :
        (t : Bool) → is_whole d c ≡ t →
        ◌≡◌ {A = CellCheck} (choose t then Ok tt else Err (cell_fault types.CutShort i)) (Ok tt) → WholeRun d c []
    go true e k = record { end = c; runs = here; whole = e }
    go false e k = fault_sound k
sound_runs d c i (b ∷ bs) h = go (cell_step d c b) refl h (λ c'. sound_runs d c' (suc i) bs)
  where
    go :
        (a : CellStep) → cell_step d c b ≡ a →
        (elim a as (λ _. CellCheck)
        [ More c' ↦ validate_from d c' (suc i) bs | Stop ↦ Err (cell_fault (types.Byte types.Syntax) i) | Refuse x ↦ Err (cell_fault (types.Byte x) i) ])
        ≡ Ok tt → ((c' : Cell) → validate_from d c' (suc i) bs ≡ Ok tt → WholeRun d c' bs) → WholeRun d c (b ∷ bs)
    go (More c') e k ih = let w = ih c' k in record { end = w.end; runs = there e w.runs; whole = w.whole }
    go Stop e k ih = fault_sound k
    go (Refuse x) e k ih = fault_sound k

-- ---- lists

pub all_snoc {ℓ κ} : {A : Type ℓ} {P : A → Type κ} {xs : List A} {y : A} → All P xs → P y → All P (xs ++ (y ∷ []))
all_snoc all_none q = all_cons q all_none
all_snoc (all_cons p ps) q = all_cons p (all_snoc ps q)
