-- How the code appends cells: it writes them into the slice of an array after the buffered ones. The ends still ascend, and all fits.
use Prim.Native.Nat.{ℕ, zero, suc, ◌+◌, ◌-◌, ◌≤◌}
use native.Mathlib.Omega.{arith}
use mathlib.Core.Path.{◌≡◌, refl, sym, ap, ap₂, ◌∙◌}
use mathlib.Core.List.{List, [], ◌∷◌, ◌++◌, append-nil}
use lib.ListN.{length, take, drop, length-append, length-take, length-drop}
use lib.Seq.{drop-drop, drop-nil, take_all}
use borrow.Rule.Slice.PartMut.{put_mid}
use Rattle.model.specs.rules.Base.{Bytes}
use Rattle.model.specs.laws.Scans.{RawCell}
use Rattle.model.specs.laws.Places.{buffered_bytes, buffered_ends}
use Rattle.buffer.specs.Writes.{written}
use Rattle.piece_state.specs.CurrentRecord.{SpansIn, raw_cells_in, raw_cells_at}
use Rattle.piece_state.proofs.BufferedLists.{ends_count}
use Rattle.piece_state.specs.Sound.{InOrder, order_end, order_next}
use Rattle.piece_state.proofs.CurrentRecord.{take_written}

drop_over : (n : ℕ) (l : List ℕ) → length l ≤ n → drop n l ≡ []
drop_over n [] h = drop-nil n
drop_over zero (x ∷ l) h = absurd (omega arith)
drop_over (suc n) (x ∷ l) h = drop_over n l (omega arith)

-- a list written from index `at` on, as the slice from `at` on written from its beginning
pub written_behind :
    (l : List ℕ) (at : ℕ) (w new : List ℕ) → at ≤ length l → new ≡ written (take (length l - at) (drop at l)) 0 w →
    put_mid at (length l - at) l new ≡ written l at w
written_behind l at w new h e =
    let n : length (drop at l) ≡ length l - at = length-drop at l in
    let all : take (length l - at) (drop at l) ≡ drop at l = take_all (length l - at) (drop at l) (omega arith) in
    let z : 0 + length w ≡ length w = omega arith in
    let new' : new ≡ w ++ drop (at + length w) l =
    e ∙ ap (λ (x : List ℕ). written x 0 w) all ∙ ap (λ (m : ℕ). w ++ drop m (drop at l)) z ∙ ap (λ (x : List ℕ). w ++ x) (drop-drop (length w) at l) in
    let last : drop (length l - at) (drop at l) ≡ [] = drop_over (length l - at) (drop at l) (omega arith) in
    ap₂ (λ (x y : List ℕ). take at l ++ (x ++ y)) new' last ∙ ap (λ (x : List ℕ). take at l ++ x) (append-nil (w ++ drop (at + length w) l))

-- ---- ends ascend

pub order_more : {at b c : ℕ} {ends : List ℕ} → InOrder at ends b → b ≤ c → InOrder at ends c
order_more {at} {c = c} (order_end h) l = let g : at ≤ c = omega arith in order_end g
order_more (order_next h hs) l = order_next h (order_more hs l)

from_lower : {a b c : ℕ} {ends : List ℕ} → a ≤ b → InOrder b ends c → InOrder a ends c
from_lower {a} {c = c} l (order_end h) = let g : a ≤ c = omega arith in order_end g
from_lower {a} l (order_next {e = e} h hs) = let g : a ≤ e = omega arith in order_next g hs

pub order_append : {a b c : ℕ} {xs ys : List ℕ} → InOrder a xs b → InOrder b ys c → InOrder a (xs ++ ys) c
order_append (order_end h) k = from_lower h k
order_append (order_next h hs) k = order_next h (order_append hs k)

buffered_order : (o : ℕ) (cs : List RawCell) → InOrder o (buffered_ends o cs) (o + length (buffered_bytes cs))
unfolding buffered_ends buffered_bytes
buffered_order o [] = let g : o ≤ o + 0 = omega arith in order_end g
buffered_order o (c ∷ cs) =
    let e : o + length (c.bytes ++ buffered_bytes cs) ≡ o + length c.bytes + length (buffered_bytes cs) =
    omega (arith, length-append c.bytes (buffered_bytes cs)) in
    let g : o ≤ o + length c.bytes = omega arith in
    let x : InOrder (o + length c.bytes) (buffered_ends (o + length c.bytes) cs) (o + length (c.bytes ++ buffered_bytes cs)) =
    rw e (buffered_order (o + length c.bytes) cs) in
    order_next g x

-- the ends then
module _ (ends ends' : List ℕ) (fill kept : ℕ) (cs : List RawCell) (total : ℕ) (count : kept + length cs ≡ total) (inside : total ≤ length ends)
    (e : ends' ≡ written ends kept (buffered_ends fill cs)) where
  pub ends_then : take total ends' ≡ take kept ends ++ buffered_ends fill cs
  ends_then =
      let n : kept + length (buffered_ends fill cs) ≡ total = omega (arith, ends_count fill cs) in
      ap (take total) e ∙ ap (λ (m : ℕ). take m (written ends kept (buffered_ends fill cs))) (sym n)
      ∙ take_written ends kept (buffered_ends fill cs) (omega arith)

  pub order_then : InOrder 0 (take kept ends) fill → InOrder 0 (take total ends') (fill + length (buffered_bytes cs))
  order_then h = rw ends_then (order_append h (buffered_order fill cs))

  pub ends_long : length (take total ends') ≡ total
  ends_long = ap length ends_then ∙ omega (arith, length-append (take kept ends) (buffered_ends fill cs), length-take kept ends, ends_count fill cs)

-- ---- how many cells the lists hold

cells_long : (s : Bytes) (starts stops : List ℕ) (n : ℕ) → length starts ≡ n → length stops ≡ n → length (raw_cells_in s starts stops) ≡ n
unfolding raw_cells_in
cells_long s [] stops n e f = e
cells_long s (i ∷ starts) [] n e f = absurd (omega arith)
cells_long s (i ∷ starts) (j ∷ stops) n e f = ap suc (cells_long s starts stops (length starts) refl (omega arith)) ∙ e

pub listed : {s : Bytes} {starts stops : List ℕ} {n : ℕ} → SpansIn s starts stops 0 n → length (raw_cells_at s starts stops 0 n) ≡ n
listed {s} {starts} {stops} {n} h =
    let a : n ≤ length starts = h.in_starts in
    let b : n ≤ length stops = h.in_stops in
    cells_long s (take (n - 0) (drop 0 starts)) (take (n - 0) (drop 0 stops)) n
    (omega (arith, length-take (n - 0) (drop 0 starts), length-drop 0 starts)) (omega (arith, length-take (n - 0) (drop 0 stops), length-drop 0 stops))

-- all that follows an index
pub tail_part : (l : List ℕ) (at : ℕ) → take (length l - at) (drop at l) ≡ drop at l
tail_part l at = take_all (length l - at) (drop at l) (omega (arith, length-drop at l))
