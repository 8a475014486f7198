-- Two texts written one after the other, as a record's text and its ending are, are their concatenation written at once.
use Prim.Native.Nat.{ℕ}
use mathlib.Core.Path.{◌≡◌, sym, subst}
use mathlib.Core.Bool.{true}
use mathlib.Core.List.{[], ◌++◌, append-nil}
use lib.ListN.{length}
use Rattle.model.specs.rules.Base.{Bytes}
use Rattle.buffer.specs.Writes.{Room, WrittenAt}
use Rattle.buffer.proofs.WriteProgress.{Emitting, emitting, room_next, room_rest, put_next, put_whole, same_long}

module _ {old : Bytes} {at : ℕ} (u v : Bytes) (h : Room true at (u ++ v) old) where
  both_to_put : Emitting true old at (u ++ v) old at (u ++ v)
  both_to_put = emitting true h

  pub room_first : Room true at u old
  room_first = room_next u v both_to_put

  module _ {mid : Bytes} {o : ℕ} (p : WrittenAt true old at u mid o) where
    second_to_put : Emitting true old at (u ++ v) mid o v
    second_to_put = put_next u both_to_put p

    pub room_second : Room true o v mid
    room_second = room_rest second_to_put

    module _ {new : Bytes} {r : ℕ} (q : WrittenAt true mid o v new r) where
      all_put : Emitting true old at (u ++ v) new r []
      all_put = put_next v (subst (Emitting true old at (u ++ v) mid o) (sym (append-nil v)) second_to_put) q

      pub put_both : WrittenAt true old at (u ++ v) new r
      put_both = put_whole all_put

      pub long_both : length new ≡ length old
      long_both = same_long all_put
