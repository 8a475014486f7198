-- Cells of the lists, one by one: the laws of the loops that buffer them and that store their starts and kinds.
use Prim.Native.Nat.{ℕ, suc, ◌+◌, ◌-◌, ◌<◌, ◌≤◌}
use native.Mathlib.Omega.{arith}
use mathlib.Core.Path.{◌≡◌, refl, ap, ap₂}
use mathlib.Core.List.{List, [], ◌∷◌, ◌++◌}
use lib.ListN.{length, take, drop, get_or, set, length-append, length-take}
use Rattle.model.specs.declared.Dialect.{Dialect}
use Rattle.model.specs.rules.Base.{Bytes, over}
use Rattle.model.specs.rules.Decode.{kind_of, kind_number}
use Rattle.model.specs.rules.Api.{slice, kinds_of}
use Rattle.model.specs.laws.Scans.{RawCell}
use Rattle.model.specs.laws.Places.{values_in, buffered_bytes, buffered_ends}
use Rattle.buffer.specs.Writes.{written}
use Rattle.buffer.proofs.WriteProgress.{drop_next, Writing, start, put, store, room_left, done, filled}
use Rattle.piece_state.specs.CurrentRecord.{raw_cell_in, raw_cells_in, raw_cells_at, SpansIn, kinds_at}

-- ---- one index more

-- the elements from index k up to n begin with the one at k
shown_next : (xs : List ℕ) (k n : ℕ) → k < n → n ≤ length xs → take (n - k) (drop k xs) ≡ get_or xs k 0 ∷ take (n - (k + 1)) (drop (k + 1) xs)
shown_next xs k n h l =
    let m : n - k ≡ suc (n - (k + 1)) = omega arith in
    ap₂ take m (drop_next xs k (k + 1) (omega arith) refl)

module _ (bytes : Bytes) (starts stops : List ℕ) where
  pub cells_next :
      (k n : ℕ) → k < n → n ≤ length starts → n ≤ length stops →
      raw_cells_at bytes starts stops k n ≡ raw_cell_in bytes (get_or starts k 0) (get_or stops k 0) ∷ raw_cells_at bytes starts stops (k + 1) n
  unfolding raw_cells_in
  cells_next k n h l m = ap₂ (raw_cells_in bytes) (shown_next starts k n h l) (shown_next stops k n h m)

  pub cells_end : (k n : ℕ) → n ≤ k → raw_cells_at bytes starts stops k n ≡ []
  unfolding raw_cells_in
  cells_end k n h = let z : n - k ≡ 0 = omega arith in rw z

-- there are no more cells than elements
cells_least : (bytes : Bytes) (starts stops : List ℕ) → length (raw_cells_in bytes starts stops) ≤ length starts
unfolding raw_cells_in
cells_least bytes [] stops = omega arith
cells_least bytes (i ∷ starts) [] = omega arith
cells_least bytes (i ∷ starts) (j ∷ stops) = omega (arith, cells_least bytes starts stops)

pub ends_count : (o : ℕ) (cs : List RawCell) → length (buffered_ends o cs) ≡ length cs
unfolding buffered_ends
ends_count o [] = refl
ends_count o (c ∷ cs) = ap suc (ends_count (o + length c.bytes) cs)

-- ---- buffering cells

-- cells of the lists are being buffered, from index `from` on: those from k on are pending, and `at` bytes are buffered
pub record Preserving (piece : Bytes) (starts stops : List ℕ) (from n : ℕ) (bytes₀ : Bytes) (fill : ℕ) (ends₀ : List ℕ) (bytes : Bytes)
    (ends : List ℕ) (k at : ℕ) : Type 0 where
  pub lower : from ≤ k
  pub upper : k ≤ n
  pub stand : SpansIn piece starts stops from n
  pub bytes_go : Writing bytes₀ fill (buffered_bytes (raw_cells_at piece starts stops from n)) bytes at (buffered_bytes (raw_cells_at piece starts stops k n))
  pub ends_go : Writing ends₀ from (buffered_ends fill (raw_cells_at piece starts stops from n)) ends k (buffered_ends at (raw_cells_at piece starts stops k n))

module _ {piece : Bytes} {starts stops : List ℕ} {from n : ℕ} {bytes₀ : Bytes} {fill : ℕ} {ends₀ : List ℕ} where
  pub keeping :
      SpansIn piece starts stops from n → from ≤ n → n ≤ length ends₀ →
      fill + length (buffered_bytes (raw_cells_at piece starts stops from n)) ≤ length bytes₀ →
      Preserving piece starts stops from n bytes₀ fill ends₀ bytes₀ ends₀ from fill
  keeping h l m r =
      let cs = raw_cells_at piece starts stops from n in
      let least = cells_least piece (take (n - from) (drop from starts)) (take (n - from) (drop from stops)) in
      let long = length-take (n - from) (drop from starts) in
      record {
        lower = omega arith;
        upper = l;
        stand = h;
        bytes_go = start bytes₀ fill (buffered_bytes cs) r;
        ends_go = start ends₀ from (buffered_ends fill cs) (omega (arith, ends_count fill cs, least, long));
      }

  module _ {bytes : Bytes} {ends : List ℕ} {k at : ℕ} (p : Preserving piece starts stops from n bytes₀ fill ends₀ bytes ends k at) where
    module _ (h : k < n) where
      next : raw_cells_at piece starts stops k n ≡ raw_cell_in piece (get_or starts k 0) (get_or stops k 0) ∷ raw_cells_at piece starts stops (k + 1) n
      next = cells_next piece starts stops k n h p.stand.in_starts p.stand.in_stops

      bytes_next :
          Writing bytes₀ fill (buffered_bytes (raw_cells_at piece starts stops from n)) bytes at
          (slice piece (get_or starts k 0) (get_or stops k 0) ++ buffered_bytes (raw_cells_at piece starts stops (k + 1) n))
      unfolding buffered_bytes
      bytes_next = rw next at p.bytes_go

      ends_next :
          Writing ends₀ from (buffered_ends fill (raw_cells_at piece starts stops from n)) ends k
          ((at + length (slice piece (get_or starts k 0) (get_or stops k 0))) ∷ buffered_ends
          (at + length (slice piece (get_or starts k 0) (get_or stops k 0))) (raw_cells_at piece starts stops (k + 1) n))
      unfolding buffered_ends
      ends_next = rw next at p.ends_go

      -- there is room for the next cell, and for its end
      pub cell_fits : at + length (slice piece (get_or starts k 0) (get_or stops k 0)) ≤ length bytes
      cell_fits =
          omega (
            arith,
            room_left bytes_next,
            length-append (slice piece (get_or starts k 0) (get_or stops k 0))
                (buffered_bytes (raw_cells_at piece starts stops (k + 1) n)),
          )

      -- it is buffered
      pub kept_next :
          {bytes' : Bytes} {r : ℕ} →
          (r ≡ at + length (slice piece (get_or starts k 0) (get_or stops k 0))) × (bytes' ≡ written bytes at (slice piece (get_or starts k 0) (get_or stops k 0))) →
          Preserving piece starts stops from n bytes₀ fill ends₀ bytes' (set ends k r) (k + 1) r
      kept_next e =
          rw (e.0, e.1)
          (record {
            lower = omega (arith, p.lower);
            upper = omega arith;
            stand = p.stand;
            bytes_go = put (slice piece (get_or starts k 0) (get_or stops k 0)) bytes_next;
            ends_go = store ends_next;
          })

    -- all are buffered
    pub kept_all :
        n ≤ k →
        (at ≡ fill + length (buffered_bytes (raw_cells_at piece starts stops from n))) ×
        (bytes ≡ written bytes₀ fill (buffered_bytes (raw_cells_at piece starts stops from n))) ×
        (ends ≡ written ends₀ from (buffered_ends fill (raw_cells_at piece starts stops from n)))
    unfolding buffered_bytes buffered_ends
    kept_all h =
        let none = cells_end piece starts stops k n h in
        let b = done (rw none at p.bytes_go) in
        let e = done (rw none at p.ends_go) in
        (b.0, b.1, e.1)

-- ---- starts

-- the starts from index k on are being stored: `at` is the next
pub record Starting (ends : List ℕ) (n : ℕ) (starts₀ starts : List ℕ) (k at : ℕ) : Type 0 where
  pub upper : k ≤ n
  pub in_ends : n ≤ length ends
  pub starts_go : Writing starts₀ 0 (take n (0 ∷ ends)) starts k (take (n - k) (at ∷ drop k ends))

module _ {ends : List ℕ} {n : ℕ} {starts₀ : List ℕ} where
  pub starting : n ≤ length ends → n ≤ length starts₀ → Starting ends n starts₀ starts₀ 0 0
  starting h l =
      let m : n - 0 ≡ n = omega arith in
      let go : Writing starts₀ 0 (take n (0 ∷ ends)) starts₀ 0 (take n (0 ∷ ends)) =
      start starts₀ 0 (take n (0 ∷ ends)) (omega (arith, length-take n (0 ∷ ends))) in
      record { upper = omega arith; in_ends = h; starts_go = rw m go }

  module _ {starts : List ℕ} {k at : ℕ} (p : Starting ends n starts₀ starts k at) where
    module _ (h : k < n) where
      starts_next : Writing starts₀ 0 (take n (0 ∷ ends)) starts k (at ∷ take (n - (k + 1)) (get_or ends k 0 ∷ drop (k + 1) ends))
      starts_next =
          let m : n - k ≡ suc (n - (k + 1)) = omega arith in
          rw (m, drop_next ends k (k + 1) (omega (arith, p.in_ends)) refl) at p.starts_go

      pub started : Starting ends n starts₀ (set starts k at) (k + 1) (get_or ends k 0)
      started = record { upper = omega arith; in_ends = p.in_ends; starts_go = store starts_next }

    pub started_all : n ≤ k → starts ≡ over (take n (0 ∷ ends)) starts₀
    started_all h = let z : n - k ≡ 0 = omega arith in filled (rw z at p.starts_go)

-- ---- kinds

-- the numbers of the kinds of the cells at indices k up to n
abbrev pub kinds_from : Dialect → Bytes → (starts ends : List ℕ) → (k n : ℕ) → List ℕ
kinds_from d bytes starts ends k n = kinds_of (values_in d bytes (take (n - k) (drop k starts)) (take (n - k) (drop k ends)))

kinds_least : (d : Dialect) (bytes : Bytes) (starts ends : List ℕ) → length (kinds_of (values_in d bytes starts ends)) ≤ length starts
unfolding values_in
kinds_least d bytes [] ends = omega arith
kinds_least d bytes (i ∷ starts) [] = omega arith
kinds_least d bytes (i ∷ starts) (j ∷ ends) = omega (arith, kinds_least d bytes starts ends)

-- the kinds from index k on are being stored
pub record Sorting (d : Dialect) (bytes : Bytes) (starts ends : List ℕ) (n : ℕ) (kinds₀ kinds : List ℕ) (k : ℕ) : Type 0 where
  pub upper : k ≤ n
  pub stand : SpansIn bytes starts ends 0 n
  pub kinds_go : Writing kinds₀ 0 (kinds_at d bytes starts ends n) kinds k (kinds_from d bytes starts ends k n)

module _ {d : Dialect} {bytes : Bytes} {starts ends : List ℕ} {n : ℕ} {kinds₀ : List ℕ} where
  pub sorting : SpansIn bytes starts ends 0 n → n ≤ length kinds₀ → Sorting d bytes starts ends n kinds₀ kinds₀ 0
  sorting h l =
      let least = kinds_least d bytes (take n starts) (take n ends) in
      let long = length-take n starts in
      let m : n - 0 ≡ n = omega arith in
      let go : Writing kinds₀ 0 (kinds_at d bytes starts ends n) kinds₀ 0 (kinds_at d bytes starts ends n) =
      start kinds₀ 0 (kinds_at d bytes starts ends n) (omega (arith, least, long)) in
      record { upper = omega arith; stand = h; kinds_go = rw m go }

  module _ {kinds : List ℕ} {k : ℕ} (p : Sorting d bytes starts ends n kinds₀ kinds k) where
    module _ (h : k < n) where
      kinds_next :
          Writing kinds₀ 0 (kinds_at d bytes starts ends n) kinds k
          (kind_number (kind_of d (slice bytes (get_or starts k 0) (get_or ends k 0))) ∷ kinds_from d bytes starts ends (k + 1) n)
      unfolding values_in
      kinds_next = rw (shown_next starts k n h p.stand.in_starts, shown_next ends k n h p.stand.in_stops) at p.kinds_go

      pub sorted :
          {r : ℕ} → r ≡ kind_number (kind_of d (slice bytes (get_or starts k 0) (get_or ends k 0))) → Sorting d bytes starts ends n kinds₀ (set kinds k r) (k + 1)
      sorted e = rw e (record { upper = omega arith; stand = p.stand; kinds_go = store kinds_next })

    pub sorted_all : n ≤ k → kinds ≡ over (kinds_at d bytes starts ends n) kinds₀
    unfolding values_in
    sorted_all h = let z : n - k ≡ 0 = omega arith in filled (rw z at p.kinds_go)
