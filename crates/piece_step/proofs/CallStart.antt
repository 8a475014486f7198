-- The arrays of the current record where a call begins: those of the header, or the others.
use Prim.Native.Nat.{ℕ}
use native.Mathlib.Omega.{arith}
use mathlib.Core.Path.{◌≡◌}
use mathlib.Core.List.{List}
use borrow.Author.Tests.{eq-eqb, ne_eqb}
use Rattle.model.specs.rules.Base.{choose◌then◌else◌, Bytes}
use Rattle.model.specs.rules.Records.{Rec}
use Rattle.model.specs.laws.Scans.{Buffered}
use Rattle.piece_state.specs.declared.place.Place.{Place}
use Rattle.piece_step.specs.Types.{Dialect, Target}
use Rattle.piece_step.specs.Steps.{current_in, StepReady}
use Rattle.piece_step.specs.Calls.{CallStart, ReadyPiece, Begun}

pub first_current : (p : Place) (a b : List ℕ) → p.records ≡ 0 → current_in p a b ≡ a
unfolding choose◌then◌else◌
first_current p a b e = rw (eq-eqb p.records 0 e)

pub second_current : (p : Place) (a b : List ℕ) → (p.records ≡ 0 → ⊥) → current_in p a b ≡ b
unfolding choose◌then◌else◌
second_current p a b e = rw (ne_eqb p.records 0 e)

module _ {d : Dialect} {t : Target} {before piece : Bytes} {p : Place} {names name_ends bytes ends out : List ℕ} {done : List Rec} {k : Buffered}
    (b : Begun d t before piece p names name_ends bytes ends out done k) where
  pub begun_header : p.records ≡ 0 → CallStart d t piece p names name_ends out done k
  begun_header e = rw (first_current p names bytes e, first_current p name_ends ends e) at b.begins

  pub begun_later : (p.records ≡ 0 → ⊥) → CallStart d t piece p bytes ends out done k
  begun_later e = rw (second_current p names bytes e, second_current p name_ends ends e) at b.begins

module _ {p : Place} {names name_ends bytes ends : List ℕ} (r : ReadyPiece p names name_ends bytes ends) where
  pub ready_header : {piece out : List ℕ} → p.records ≡ 0 → StepReady piece p.offset 0 p names name_ends out 0
  ready_header {piece} {out} e =
      record {
        bounds = rw (first_current p name_ends ends e) at r.bounds;
        at = omega arith;
        inside = omega arith;
        room = omega arith;
        long_bytes = r.long_names;
        long_ends = r.long_name_ends;
      }

  pub ready_later : {piece out : List ℕ} → (p.records ≡ 0 → ⊥) → StepReady piece p.offset 0 p bytes ends out 0
  ready_later {piece} {out} e =
      record {
        bounds = rw (second_current p name_ends ends e) at r.bounds;
        at = omega arith;
        inside = omega arith;
        room = omega arith;
        long_bytes = r.long_bytes;
        long_ends = r.long_ends;
      }
