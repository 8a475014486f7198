-- States without a current cell (`outer`): bytes of the byte order mark and of comments occur in these only, and every other byte leaves
-- them, ends the record, or is a blank before it. And the record's limit counts every byte of a cell and every byte between cells.
use Prim.Native.Nat.{ℕ}
use mathlib.Core.Path.{◌≡◌, refl}
use mathlib.Core.Bool.{Bool, true, false}
use Rattle.model.specs.rules.Base.{COMMA, ◌is◌}
use Rattle.model.specs.rules.Dialect.{delimiter_of}
use Rattle.model.specs.rules.File.{is_blank, after_cell, file_step, counts}
use Rattle.model.proofs.Tests.{split}
use Rattle.model.proofs.file_laws.Counted.{blank_counted, delimiter_counted}
use Rattle.model.proofs.file_laws.FileSteps as steps
use Rattle.model.proofs.file_laws.FileSteps.{Rests, Around, Starts, Grown, Opens, Transition, step_transition}
use Rattle.model.specs.declared.Dialect.{Dialect}
use Rattle.model.specs.declared.Dialect.TheVariants.{Csvj, Tdif, CsvPlus}
use Rattle.model.specs.declared.ByteFault.{ByteFault}
use Rattle.model.specs.declared.FileState.{FileState}
use Rattle.model.specs.declared.ByteRole.TheVariants.{Outside, Passed, OfCell, Between, Tail, Ends}
use Rattle.model.specs.rules.Types.{Step}
use Rattle.std.specs.Prelude.{Ok, Err}
use Rattle.record_scanner.specs.Tokens.{outer}

pub data Calm (f : FileState) (b : ℕ) : Step → Type 0 where
  refuses : {e : ByteFault} → Calm f b (Err e)
  leaves : {g : FileState} → outer f ≡ true → Calm f b (Ok (g, Outside))
  passes : {g : FileState} → outer f ≡ true → Calm f b (Ok (g, Passed))
  grows : {g : FileState} → counts f b ≡ true → outer g ≡ false → Calm f b (Ok (g, OfCell))
  blanks : {g : FileState} → counts f b ≡ true → outer f ≡ true → Calm f b (Ok (g, Between false))
  parts : {g : FileState} {k : Bool} → counts f b ≡ true → outer g ≡ false → Calm f b (Ok (g, Between k))
  tails : {g : FileState} {k : Bool} → outer g ≡ false → Calm f b (Ok (g, Tail k))
  finishes : {g : FileState} {k : Bool} → outer g ≡ true → Calm f b (Ok (g, Ends k))

module _ (f : FileState) (b : ℕ) where
  pub after_calm : (d : Dialect) (k : Bool) → Calm f b (after_cell d k b)
  unfolding after_cell
  after_calm Csvj k =
      let P : Step → Type 0 = Calm f b in
      split P (is_blank b) (λ p. parts (blank_counted f b p) refl) λ _.
      split P (b is COMMA) (λ p. parts (delimiter_counted Csvj f b p) refl) λ _.
      split P _ (λ _. finishes refl) λ _. split P _ (λ _. tails refl) λ _. refuses
  after_calm Tdif k =
      let P : Step → Type 0 = Calm f b in
      split P (b is COMMA) (λ p. parts (delimiter_counted Tdif f b p) refl) λ _.
      split P _ (λ _. finishes refl) λ _. split P _ (λ _. finishes refl) λ _. refuses
  after_calm (CsvPlus s) k =
      let P : Step → Type 0 = Calm f b in
      split P (b is delimiter_of (CsvPlus s)) (λ p. parts (delimiter_counted (CsvPlus s) f b p) refl) λ _.
      split P _ (λ _. finishes refl) λ _. split P _ (λ _. tails refl) λ _. refuses

rests_outer : {f : FileState} → Rests f → outer f ≡ true
rests_outer steps.top = refl
rests_outer steps.begin = refl
rests_outer steps.ended = refl
rests_outer steps.bom1 = refl
rests_outer steps.bom2 = refl
rests_outer steps.comment = refl

around_outer : {d : Dialect} {f : FileState} → Around d f → outer f ≡ true
around_outer (steps.rests r) = rests_outer r
around_outer steps.unread = refl

starts_outer : {f : FileState} → Starts f → outer f ≡ true
starts_outer steps.s_top = refl
starts_outer steps.s_begin = refl
starts_outer steps.s_ended = refl
starts_outer steps.s_blanks = refl

next_outer : {g : FileState} → steps.Next g → outer g ≡ true
next_outer steps.n_begin = refl
next_outer steps.n_ended = refl

grown_inner : {g : FileState} → Grown g → outer g ≡ false
grown_inner steps.g_inside = refl
grown_inner steps.g_plain1 = refl
grown_inner steps.g_plain2 = refl

opens_inner : {g : FileState} → Opens g → outer g ≡ false
opens_inner steps.o_after = refl
opens_inner steps.o_wanting = refl
opens_inner steps.o_fresh = refl

calm : {d : Dialect} {f : FileState} {b : ℕ} {s : Step} → Transition d f b s → Calm f b s
calm (steps.refuses t) = refuses
calm (steps.outside t r g) = leaves (around_outer r)
calm (steps.passes t r g) = passes (rests_outer r)
calm (steps.adds t n h g i s) = grows n (grown_inner g)
calm (steps.blanks t n e c) = blanks n (starts_outer e)
calm (steps.parts t n l o) = parts n (opens_inner o)
calm (steps.turns t p l) = tails refl
calm (steps.ends t p l g) = finishes (next_outer g)
calm (steps.ends_cr t e p) = finishes refl

pub step_calm : (d : Dialect) (f : FileState) (b : ℕ) → Calm f b (file_step d f b)
step_calm d f b = calm (step_transition d f b)
