-- The progress of a writer as one record where the text may be only measured; the record for writing alone is exported from
-- BlockProgress.
use mathlib.Core.Path.{◌≡◌, refl, sym, ap, ◌∙◌}
use mathlib.Core.Bool.{Bool, true, false}
use mathlib.Core.List.{[], ◌++◌, append_assoc, append-nil}
use Prim.Native.Nat.{ℕ, ◌+◌, ◌≤◌}
use native.Mathlib.Nat.{add_assoc}
use native.Mathlib.Omega.{arith}
use lib.ListN.{length, length-append}
use Rattle.model.specs.rules.Base.{Bytes, choose◌then◌else◌}
use Rattle.model.specs.rules.Report.{MAXFILE}
use Rattle.model.proofs.Tests.{impossible}
use Rattle.buffer.proofs.BlockProgress.{written_more}
use Rattle.buffer.specs.Writes.{written, measure, Room, WrittenAt}
pub use Rattle.buffer.proofs.BlockProgress.{
  drop_next,
  taken_whole,
  length_written,
  written_nil,
  set_written,
  Writing,
  start,
  put,
  here,
  store,
  room_left,
  done,
  written_first,
  filled,
}

-- ---- measured offsets

pub measure_within : (n : ℕ) → n ≤ MAXFILE → measure n ≡ n
unfolding measure
measure_within n h = omega arith

pub measure_beyond : (n : ℕ) → MAXFILE ≤ n → measure n ≡ MAXFILE
unfolding measure
measure_beyond n h = omega arith

pub measure_least : (n : ℕ) → measure n ≤ MAXFILE
unfolding measure
measure_least n = omega arith

-- measuring in two parts
measure_more : (n k : ℕ) → measure (measure n + k) ≡ measure (n + k)
unfolding measure
measure_more n k = omega arith

-- ---- written, or only measured

module _ {write : Bool} {old : Bytes} {o : ℕ} {w new : Bytes} {r : ℕ} where
  pub put_written : write ≡ true → (r ≡ o + length w) × (new ≡ written old o w) → WrittenAt write old o w new r
  unfolding choose◌then◌else◌
  put_written e p = record { place = rw e p.0; text = rw e p.1 }

  pub put_measured : write ≡ false → r ≡ measure (o + length w) → new ≡ old → WrittenAt write old o w new r
  unfolding choose◌then◌else◌
  put_measured e p q = record { place = rw e p; text = rw e q }

-- the same text by an equation
pub room_as : {write : Bool} {o : ℕ} {w v out : Bytes} → w ≡ v → Room write o v out → Room write o w out
room_as e p = rw e p

pub emitted_as : {write : Bool} {old : Bytes} {o : ℕ} {w v new : Bytes} {r : ℕ} → w ≡ v → WrittenAt write old o v new r → WrittenAt write old o w new r
emitted_as e p = rw e p

-- ---- a text in parts, written or only measured

length_emitted : (write : Bool) {old : Bytes} {o : ℕ} {w new : Bytes} {r : ℕ} → Room write o w old → WrittenAt write old o w new r → length new ≡ length old
unfolding choose◌then◌else◌
length_emitted true {old} {o} {w} h p = ap length p.text ∙ length_written old o w (h.inside refl)
length_emitted false h p = ap length p.text

-- w was written or measured, then v
written_then : (write : Bool) {old : Bytes} {at : ℕ} {w mid : Bytes} {o : ℕ} {v new : Bytes} {r : ℕ}
    → Room write at (w ++ v) old → WrittenAt write old at w mid o → WrittenAt write mid o v new r → WrittenAt write old at (w ++ v) new r
unfolding choose◌then◌else◌
written_then true {old} {at} {w} {mid} {o} {v} {new} {r} h p q =
    let fits : at + (length w + length v) ≤ length old = rw length-append at (h.inside refl) in
    record {
      place = simp length-append (omega (arith, p.place, q.place));
      text = q.text ∙ rw (p.text, p.place) (written_more old at w v (omega arith));
    }
written_then false {old} {at} {w} {mid} {o} {v} {new} {r} h p q =
    record {
      place =
          q.place ∙ ap (λ (n : ℕ). measure (n + length v)) p.place ∙ measure_more (at + length w) (length v)
          ∙ ap measure (add_assoc at (length w) (length v) ∙ ap (λ (n : ℕ). at + n) (sym (length-append w v)));
      text = q.text ∙ p.text;
    }

-- as `Writing`, where the text may be only measured
pub record Emitting (write : Bool) (old : Bytes) (at : ℕ) (whole out : Bytes) (o : ℕ) (rest : Bytes) : Type 0 where
  pub w : Bytes
  pub so_far : WrittenAt write old at w out o
  pub left : w ++ rest ≡ whole
  pub room : Room write at whole old

pub emitting : (write : Bool) {old : Bytes} {at : ℕ} {whole : Bytes} → Room write at whole old → Emitting write old at whole old at whole
unfolding choose◌then◌else◌
emitting true {old} {at} h = record { w = []; so_far = record { place = omega arith; text = sym (written_nil old at) }; left = refl; room = h }
emitting false {old} {at} h =
    let same : at + 0 ≡ at = omega arith in
    record { w = []; so_far = record { place = sym (measure_within at (h.measured refl)) ∙ ap measure (sym same); text = refl }; left = refl; room = h }

-- a measured offset is within the limit
written_within : (write : Bool) {old : Bytes} {o : ℕ} {w new : Bytes} {r : ℕ} → WrittenAt write old o w new r → write ≡ false → r ≤ MAXFILE
unfolding choose◌then◌else◌
written_within true p e = impossible (sym e)
written_within false {old} {o} {w} p e = rw p.place (measure_least (o + length w))

-- the offset after a written text
written_place : (write : Bool) {old : Bytes} {o : ℕ} {w new : Bytes} {r : ℕ} → WrittenAt write old o w new r → write ≡ true → r ≡ o + length w
unfolding choose◌then◌else◌
written_place true p e = p.place
written_place false p e = impossible e

module _ {write : Bool} {old : Bytes} {at : ℕ} {whole out : Bytes} {o : ℕ} where
  so_long : {rest : Bytes} (p : Emitting write old at whole out o rest) → length whole ≡ length p.w + length rest
  so_long {rest} p = sym (ap length p.left) ∙ length-append p.w rest

  room_before : {rest : Bytes} (p : Emitting write old at whole out o rest) → Room write at p.w old
  room_before p = record { measured = p.room.measured; inside = λ e. omega (arith, so_long p, p.room.inside e) }

  pub same_long : {rest : Bytes} → Emitting write old at whole out o rest → length out ≡ length old
  same_long p = length_emitted write (room_before p) p.so_far

  -- there is room for the next part, and it is written
  pub room_next : (v rest : Bytes) → Emitting write old at whole out o (v ++ rest) → Room write o v out
  room_next v rest p =
      let all : length whole ≡ length p.w + (length v + length rest) = rw length-append at (so_long p) in
      record {
        measured = λ e. written_within write p.so_far e;
        inside = λ e. omega (arith, all, p.room.inside e, written_place write p.so_far e, same_long p);
      }

  pub room_rest : {rest : Bytes} → Emitting write old at whole out o rest → Room write o rest out
  room_rest {rest} p = room_next rest [] (rw append-nil p)

  pub put_next : (v : Bytes) {rest new : Bytes} {r : ℕ} → Emitting write old at whole out o (v ++ rest) → WrittenAt write out o v new r
      → Emitting write old at whole new r rest
  put_next v {rest} p q =
      let all : length whole ≡ length p.w + (length v + length rest) = rw length-append at (so_long p) in
      let both : Room write at (p.w ++ v) old =
      record { measured = p.room.measured; inside = λ e. simp length-append (omega (arith, all, p.room.inside e)) } in
      record { w = p.w ++ v; so_far = written_then write both p.so_far q; left = append_assoc p.w v rest ∙ p.left; room = p.room }

  -- nothing remains
  pub put_whole : Emitting write old at whole out o [] → WrittenAt write old at whole out o
  put_whole p = emitted_as (sym p.left ∙ append-nil p.w) p.so_far
