-- The definition's answers, case by case: the code's answer and the room after the call are those of the definition.
use mathlib.Core.Path.{◌≡◌, refl, sym, ap, ◌∙◌}
use Rattle.std.specs.Prelude.{None, Some, Result, Ok, Err}
use Prim.Native.Nat.{ℕ, ◌<◌, ◌≤◌}
use lib.ListN.{length}
use borrow.Author.Tests.{lt-ltb, le-ltb}
use Rattle.model.specs.declared.Report.{Report}
use Rattle.model.specs.declared.Kind.{Kind}
use Rattle.model.specs.declared.Dialect.{Dialect}
use Rattle.model.specs.declared.Fault.{Fault}
use Rattle.std.specs.Result.{MatchResult}
use Rattle.model.specs.rules.Types.{CellCheck}
use Rattle.model.specs.rules.Base.{choose◌then◌else◌, Bytes, over}
use Rattle.model.specs.rules.Dialect.{dialect_of}
use Rattle.model.specs.rules.Report.{report, refusal, number_of, column_of}
use Rattle.model.specs.rules.Decode.{kind_of, content_of, validate_cell}
use Rattle.model.specs.rules.Api as api
use Rattle.cell_decoder.specs.declared.Decoded.{Decoded}
use Rattle.cell_decoder.specs.Answer.{given_answer, decoder_answer, sound_cell, any_cell}
use Rattle.cell_decoder.proofs.CellValidation.{no_column}
use Rattle.model.specs.rules.Types.{cell_fault}

-- the answer r and a room that held old and holds new are the definition's
abbrev pub Decodes : api.Decoded → Result Decoded Report → (old new : Bytes) → Type 0
Decodes a r old new = (given_answer r ≡ decoder_answer a) × (new ≡ over a.content old)

-- a refusal leaves the room as it was
refused : (e f : Report) (old : Bytes) → e ≡ f → Decodes (api.not_decoded f) (Err e) old old
refused e f old h = (ap (λ (x : Report). given_answer (Err x)) h, refl)

module _ (d : Dialect) (raw old : Bytes) where
  -- ---- a sound cell

  pub too_long : (e : Report) → length old < length (content_of d raw) → e ≡ refusal 10 → Decodes (sound_cell d raw (length old)) (Err e) old old
  unfolding choose◌then◌else◌
  too_long e h f = rw (lt-ltb (length old) (length (content_of d raw)) h) (refused e (refusal 10) old f)

  pub fits : (n : ℕ) (k : Kind) (new : Bytes) → length (content_of d raw) ≤ length old → n ≡ length (content_of d raw) → k ≡ kind_of d raw
      → new ≡ over (content_of d raw) old
      → Decodes (sound_cell d raw (length old)) (Ok (record { size = n; kind = k })) old new
  unfolding choose◌then◌else◌
  fits n k new h en ek eo = rw (le-ltb (length old) (length (content_of d raw)) h) (rw (en, ek) refl, eo)

  -- ---- any raw bytes

  pub sound : (r : Result Decoded Report) (new : Bytes) → validate_cell d raw ≡ Ok tt → Decodes (sound_cell d raw (length old)) r old new
      → Decodes (any_cell d raw (length old)) r old new
  sound r new j p = rw j p

  pub unsound : (f : Fault) (o : ℕ) (e : Report) → validate_cell d raw ≡ Err (cell_fault f o) → e ≡ report (number_of f) 0 (column_of f) o
      → Decodes (any_cell d raw (length old)) (Err e) old old
  unsound f o e j h = rw j (refused e (report (number_of f) 0 0 o) old (h ∙ ap (λ (n : ℕ). report (number_of f) 0 n o) (no_column d raw f o j)))

  pub unsound_by : {check : CellCheck} (e : Report) → validate_cell d raw ≡ check
      → MatchResult check (λ _. ⊥) (λ f. e ≡ report (number_of f.fault) 0 (column_of f.fault) f.offset)
      → Decodes (any_cell d raw (length old)) (Err e) old old
  unsound_by {check = Ok _} e j m = absurd m
  unsound_by {check = Err f} e j m = unsound f.fault f.offset e j m

-- ---- the call

module _ (n : ℕ) (raw old : Bytes) where
  answers : (a : api.Decoded) (r : Result Decoded Report) (new : Bytes) → api.decoder n raw (length old) ≡ a → Decodes a r old new
      → (given_answer r ≡ decoder_answer (api.decoder n raw (length old))) × (new ≡ api.decoder_leaves n raw old)
  unfolding api.decoder_leaves
  answers a r new e p = (p.0 ∙ ap decoder_answer (sym e), p.1 ∙ ap (λ (x : api.Decoded). over x.content old) (sym e))

  pub known : (d : Dialect) (r : Result Decoded Report) (new : Bytes) → Some d ≡ dialect_of n → Decodes (any_cell d raw (length old)) r old new
      → (given_answer r ≡ decoder_answer (api.decoder n raw (length old))) × (new ≡ api.decoder_leaves n raw old)
  unfolding api.decoder
  known d r new e p = answers (any_cell d raw (length old)) r new (rw (← e, api.decoder)) p

  pub unknown : (e : Report) → None ≡ dialect_of n → e ≡ refusal 11
      → (given_answer (Err e) ≡ decoder_answer (api.decoder n raw (length old))) × (old ≡ api.decoder_leaves n raw old)
  unfolding api.decoder
  unknown e f h = answers (api.not_decoded (refusal 11)) (Err e) old (rw (← f, api.decoder)) (refused e (refusal 11) old h)
