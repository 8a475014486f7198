-- Cells written in order, from place n on.
use mathlib.Core.Path.{◌≡◌, refl, sym, ap}
use mathlib.Core.Bool.{Bool}
use mathlib.Core.List.{List, [], ◌∷◌, ◌++◌}
use Prim.Native.Nat.{ℕ, zero, suc, ◌+◌, ◌<◌, ◌≤◌}
use native.Mathlib.Numerals.{add-one}
use native.Mathlib.Omega.{arith}
use lib.ListN.{length, drop, get_or, drop_of_length-le}
use Rattle.model.specs.rules.Base.{Bytes}
use Rattle.model.specs.rules.Api.{slice}
use Rattle.buffer.specs.Writes.{Room, WrittenAt}
use Rattle.buffer.proofs.WriteProgress.{drop_next, Emitting, emitting, room_next, put_next, put_whole}
use Rattle.record_writer.specs.Joined.{before, joined_from}

pub before_first : (p n : ℕ) → n ≡ 0 → before p n ≡ []
before_first p zero e = refl
before_first p (suc n) e = absurd (omega arith)

pub before_later : (p n : ℕ) → (n ≡ 0 → ⊥) → before p n ≡ p ∷ []
before_later p zero h = absurd (h refl)
before_later p (suc n) h = refl

module _ (p : ℕ) (text : Bytes → Bytes) (s : Bytes) (starts ends : List ℕ) where
  -- the cell at a place with the delimiter before it, and the text that is still to be written
  abbrev pub column_at : ℕ → Bytes
  column_at n = before p n ++ text (slice s (get_or starts n 0) (get_or ends n 0))

  abbrev pub joined_at : ℕ → Bytes
  joined_at n = joined_from p text s n (drop n starts) (drop n ends)

  module _ (e : length starts ≡ length ends) (n : ℕ) where
    pub joined_next : n < length starts → joined_at n ≡ column_at n ++ joined_at (n + 1)
    unfolding joined_from
    joined_next h =
        let i : n < length ends = omega arith in
        rw (drop_next starts n (n + 1) h refl, drop_next ends n (n + 1) i refl)
        (ap (λ (k : ℕ). column_at n ++ joined_from p text s k (drop (n + 1) starts) (drop (n + 1) ends)) (sym (add-one n)))

    pub joined_end : length starts ≤ n → joined_at n ≡ []
    unfolding joined_from
    joined_end h = rw (drop_of_length-le starts h)

-- ---- cells written in order

-- the first n cells are written
pub record WrittenUpTo (p : ℕ) (text : Bytes → Bytes) (s : Bytes) (starts ends : List ℕ) (write : Bool) (old : Bytes) (at : ℕ)
    (out : Bytes) (n o : ℕ) : Type 0 where
  pub going : Emitting write old at (joined_from p text s 0 starts ends) out o (joined_at p text s starts ends n)
  pub within : n ≤ length starts

pub written_none : {p : ℕ} {text : Bytes → Bytes} {s : Bytes} {starts ends : List ℕ} (write : Bool) {old : Bytes} {at : ℕ}
    → Room write at (joined_from p text s 0 starts ends) old → WrittenUpTo p text s starts ends write old at old 0 at
written_none write h = record { going = emitting write h; within = omega arith }

module _ {p : ℕ} {text : Bytes → Bytes} {s : Bytes} {starts ends : List ℕ} {write : Bool} {old : Bytes} {at : ℕ} {out : Bytes} {n o : ℕ}
    (e : length starts ≡ length ends) (u : WrittenUpTo p text s starts ends write old at out n o) where
  cell_next :
      n < length starts →
      Emitting write old at (joined_from p text s 0 starts ends) out o
      (column_at p text s starts ends n ++ joined_at p text s starts ends (n + 1))
  cell_next h = rw (joined_next p text s starts ends e n h) at u.going

  -- there is room for the cell at n, and it is written
  pub room_cell : n < length starts → Room write o (column_at p text s starts ends n) out
  room_cell h = room_next (column_at p text s starts ends n) (joined_at p text s starts ends (n + 1)) (cell_next h)

  pub put_cell :
      n < length starts → {new : Bytes} {r : ℕ} → WrittenAt write out o (column_at p text s starts ends n) new r →
      WrittenUpTo p text s starts ends write old at new (n + 1) r
  put_cell h q = record { going = put_next (column_at p text s starts ends n) (cell_next h) q; within = omega arith }

  -- all are written
  pub put_all : length starts ≤ n → WrittenAt write old at (joined_from p text s 0 starts ends) out o
  put_all h = put_whole (rw (joined_end p text s starts ends e n h) at u.going)
