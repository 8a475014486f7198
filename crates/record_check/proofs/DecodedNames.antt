-- The decoder refuses nothing where the room is as long as the raw cell, since content is no longer than the cell.
use mathlib.Core.Path.{◌≡◌, sym, ap, ◌∙◌}
use Prim.Native.Nat.{ℕ, ◌≤◌}
use native.Mathlib.Omega.{arith}
use lib.ListN.{length, take, drop, length-append}
use lib.Seq.{take_at}
use borrow.Author.Tests.{le-ltb}
use Rattle.model.specs.declared.Report.{Report}
use Rattle.model.specs.declared.Kind.{Kind}
use Rattle.model.specs.declared.Kind.TheVariants.{Text, Number, True, False, Null}
use Rattle.model.specs.declared.Dialect.{Dialect}
use Rattle.model.specs.rules.Base.{choose◌then◌else◌, Bytes, over}
use Rattle.model.specs.rules.Report.{accepted}
use Rattle.model.specs.rules.Decode.{kind_number, kind_of, content_of}
use Rattle.model.specs.rules.Api as api
use Rattle.model.proofs.file_laws.Lengths.{content_length}
use Rattle.cell_decoder.specs.declared.Decoded.{Decoded}
use Rattle.std.specs.Prelude.{Result, Ok, Err}
use Rattle.cell_decoder.specs.Answer.{CellAnswer, given_answer, decoder_answer, sound_cell}

some_kind : (k : Kind) → 0 ≡ kind_number k → ⊥
some_kind Text e = omega arith
some_kind Number e = omega arith
some_kind True e = omega arith
some_kind False e = omega arith
some_kind Null e = omega arith

module _ (d : Dialect) (raw old : Bytes) (h : length raw ≤ length old) where
  fits : sound_cell d raw (length old) ≡ record { report = accepted; kind = kind_number (kind_of d raw); content = content_of d raw }
  unfolding choose◌then◌else◌
  fits =
      let k : length (content_of d raw) ≤ length old = omega (arith, content_length d raw) in
      rw (le-ltb (length old) (length (content_of d raw)) k)

  pub never_refused : {A : Type 0} (r : Result Decoded Report) (e : Report) → r ≡ Err e → given_answer r ≡ decoder_answer (sound_cell d raw (length old)) → A
  never_refused r e told ensured =
      let z : 0 ≡ kind_number (kind_of d raw) = ap (λ (s : CellAnswer). s.kind) (sym (ap given_answer told) ∙ ensured ∙ ap decoder_answer fits) in
      absurd (some_kind (kind_of d raw) z)

  pub decoded : (r : Result Decoded Report) (x : Decoded) (new : Bytes) → r ≡ Ok x
      → (given_answer r ≡ decoder_answer (sound_cell d raw (length old))) × (new ≡ over (sound_cell d raw (length old)).content old)
      → (x.size ≡ length (content_of d raw)) × (new ≡ over (content_of d raw) old)
  decoded r x new told ensured = (
    ap (λ (s : CellAnswer). s.size) (sym (ap given_answer told) ∙ ensured.0 ∙ ap decoder_answer fits),
    ensured.1 ∙ ap (λ (a : api.Decoded). over a.content old) fits,
  )

-- the first n bytes of a room are this content
pub record Holds (content room : Bytes) (n : ℕ) : Type 0 where
  pub front : take n room ≡ content
  pub inside : n ≤ length room
  pub whole : n ≡ length (take n room)

pub holds : (content old new : Bytes) (n : ℕ) → (n ≡ length content) × (new ≡ over content old) → Holds content new n
holds content old new n p =
    let front : take n new ≡ content = ap (take n) p.1 ∙ take_at content (drop (length content) old) n (sym p.0) in
    record {
      front = front;
      inside = omega (arith, p.0, ap length p.1, length-append content (drop (length content) old));
      whole = p.0 ∙ sym (ap length front);
    }
