-- Bytes that take the cell automaton from a state to a whole cell. From a fresh cell they are the raw cells that the decoder accepts
-- (`spells_validated`, `validated_spells`); in a text they are characters (`long_spells`); each word has one such list of bytes.
use Prim.Native.Nat.{ℕ, ◌≤◌}
use mathlib.Core.Path.{◌≡◌, refl, ap, ◌∙◌}
use mathlib.Core.Bool.{Bool, true, false}
use mathlib.Core.List.{[], ◌∷◌, ◌++◌}
use Rattle.grammar.specs.rfc.Types.{Kind, Dialect, Inner, Char, Whole, Within, Word, Cell, Fresh, InWord, Complete, More}
use Rattle.std.specs.Prelude.{Ok}
use Rattle.model.specs.rules.Base.{Bytes, ◌is◌, choose◌then◌else◌}
use Rattle.model.specs.rules.Utf8.{char_step}
use Rattle.model.specs.rules.Cell.{text_byte, letter_of, after_letter, cell_step, is_whole}
use Rattle.model.specs.rules.Decode.{validate_cell}
use Rattle.model.proofs.Tests.{impossible, is→eq}
use Rattle.model.proofs.cell_laws.CellRuns.{Runs, here, there, WholeRun, runs_sound, sound_runs}
use Rattle.model.proofs.cell_laws.CellContent.{no_more, no_stop, same_more}
use Rattle.grammar.specs.rfc.Derived.{Derived, cell}
use Rattle.grammar.proofs.rfc.Chars.{Finishes, finished, finishing, Long, long, first_high}

-- from c, these bytes make the cell whole
pub data Spells (d : Dialect) : Cell → Bytes → Type 0 where
  whole : {c : Cell} → is_whole d c ≡ true → Spells d c []
  byte : {c e : Cell} {b : ℕ} {bs : Bytes} → cell_step d c b ≡ More e → Spells d e bs → Spells d c (b ∷ bs)

-- a cell of these bytes that P derives
pub data DerivedFrom (P : Derived → Type 0) (raw : Bytes) : Type 0 where
  derived_from : {kind : Kind} {content : Bytes} → P (cell raw kind content) → DerivedFrom P raw

-- ---- the decoder

pub record_run : {d : Dialect} {c : Cell} {bs : Bytes} → Spells d c bs → WholeRun d c bs
record_run {c} (whole w) = record { end = c; runs = here; whole = w }
record_run (byte e k) = let r = record_run k in record { end = r.end; runs = there e r.runs; whole = r.whole }

run_spells : {d : Dialect} {c e : Cell} {bs : Bytes} → Runs d c bs e → is_whole d e ≡ true → Spells d c bs
run_spells here w = whole w
run_spells (there e r) w = byte e (run_spells r w)

pub spells_validated : {d : Dialect} {raw : Bytes} → Spells d Fresh raw → validate_cell d raw ≡ Ok tt
unfolding validate_cell
spells_validated k = let r = record_run k in runs_sound 0 r.runs r.whole

pub validated_spells : (d : Dialect) (raw : Bytes) → validate_cell d raw ≡ Ok tt → Spells d Fresh raw
unfolding validate_cell
validated_spells d raw e = let r = sound_runs d Fresh 0 raw e in run_spells r.runs r.whole

-- ---- texts: f gives the cell's state from the character's

pub record TextState (d : Dialect) (f : Char → Cell) : Type 0 where
  pub inner : (i : Inner) (b : ℕ) → cell_step d (f (Within i)) b ≡ text_byte f (char_step (Within i) b)
  pub unfinished : (i : Inner) → is_whole d (f (Within i)) ≡ false

module _ {d : Dialect} {f : Char → Cell} (t : TextState d f) where
  pub finish_spells : {c : Char} {cs bs : Bytes} → Finishes c cs → Spells d (f Whole) bs → Spells d (f c) (cs ++ bs)
  finish_spells finished k = k
  finish_spells (finishing {i} {b} e m) k = byte (t.inner i b ∙ ap (text_byte f) e) (finish_spells m k)

  -- a character of more than one byte, read from c as text is
  pub long_spells :
      {c : Cell} {cs bs : Bytes} → ((b : ℕ) → 0x80 ≤ b → cell_step d c b ≡ text_byte f (char_step Whole b)) → Long cs → Spells d (f Whole) bs →
      Spells d c (cs ++ bs)
  long_spells h (long {i} {b} e m) k = byte (h b (first_high b i e) ∙ ap (text_byte f) e) (finish_spells m k)

-- ---- words

complete_none : {d : Dialect} {xs : Bytes} → Spells d Complete xs → xs ≡ []
unfolding cell_step
complete_none (whole w) = refl
complete_none (byte e k) = no_stop e

-- the next letter, and then what follows it
pub spelled :
    {d : Dialect} {xs : Bytes} (w : Word) (ys : Bytes) → Spells d (InWord w) xs → ((zs : Bytes) → Spells d (after_letter w) zs → zs ≡ ys) →
    xs ≡ letter_of w ∷ ys
unfolding cell_step is_whole choose◌then◌else◌
spelled w ys (whole e) h = impossible e
spelled w ys (byte {e} {b} {bs} s k) h = go (b is letter_of w) refl
  where
    go : (t : Bool) → (b is letter_of w) ≡ t → (b ∷ bs) ≡ letter_of w ∷ ys
    go true p =
        let q : after_letter w ≡ e = same_more (rw p at s) in
        let r : bs ≡ ys = h bs (rw (← q) at k) in
        rw (is→eq b (letter_of w) p, r)
    go false p = no_more (rw p at s)

pub last_letter : {d : Dialect} {xs : Bytes} (w : Word) → after_letter w ≡ Complete → Spells d (InWord w) xs → xs ≡ letter_of w ∷ []
last_letter w e k = spelled w [] k (λ zs m. complete_none (rw e at m))
