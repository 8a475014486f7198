-- Cells that lie in buffered bytes one after another: the checks before writing, and that cells that pass them can be written.
use Prim.Native.Nat.{ℕ, zero, suc, ◌+◌, ◌-◌, ◌≤◌, ◌<◌}
use native.Mathlib.Omega.{arith}
use mathlib.Core.Path.{◌≡◌, refl, sym, ap, ap₂, ◌∙◌}
use mathlib.Core.Bool.{true}
use mathlib.Core.List.{List, [], ◌∷◌}
use lib.ListN.{length, take, drop, get_or, length-take, length-drop}
use lib.Dec.{ltb}
use borrow.Author.Tests.{ltb-true, ltb-false}
use lib.Seq.{take_at, take-length, get_or-take, get_or-drop}
use Rattle.model.specs.rules.Base.{choose◌then◌else◌, Bytes, over}
use Rattle.model.specs.rules.Decode.{kind_number, kind_of}
use Rattle.model.specs.rules.Report.{MAXRECORD}
use Rattle.model.specs.rules.Api.{slice, kinds_of, kind_named}
use Rattle.model.specs.laws.Places.{values_in}
use Rattle.model.specs.declared.Kind.{Kind}
use Rattle.model.specs.declared.Kind.TheVariants.{Text, Number, True, False, Null}
use Rattle.model.proofs.Tests.{impossible, split_on}
use Rattle.buffer.specs.Writes.{Room}
use Rattle.cell_decoder.specs.declared.source.Source.TheVariants.{File}
use Rattle.cell_decoder.specs.Followed.{EdFollows, EdFollowed}
use Rattle.cell_decoder.specs.Sources.{kind_from, cells_in, Encoded, in_file, Cells}
use Rattle.piece_state.specs.CurrentRecord.{SpansIn, kinds_at}
use Rattle.model.specs.declared.Dialect.{Dialect}
use Rattle.piece_state.specs.Sound.{InOrder, order_end, order_next}
use Rattle.piece_record.specs.Completion.{starts_by, end_of, HoldsNoEd}

-- ---- kinds

pub kind_back : (k : Kind) → kind_from (kind_number k) ≡ k
unfolding kind_named choose◌then◌else◌
kind_back Text = refl
kind_back Number = refl
kind_back True = refl
kind_back False = refl
kind_back Null = refl

pub cells_are :
    (d : Dialect) (s : Bytes) (starts ends : List ℕ) →
    cells_in (File d) s starts ends (kinds_of (values_in d s starts ends)) ≡ values_in d s starts ends
unfolding cells_in values_in
cells_are d s [] ends = refl
cells_are d s (i ∷ starts) [] = refl
cells_are d s (i ∷ starts) (j ∷ ends) = rw (kind_back (kind_of d (slice s i j)), cells_are d s starts ends)

-- ---- spans one after another

pub starts_count : (at : ℕ) (ends : List ℕ) → length (starts_by at ends) ≡ length ends
unfolding starts_by
starts_count at [] = refl
starts_count at (e ∷ es) = ap suc (starts_count e es)

pub kinds_count : (d : Dialect) (s : Bytes) (at : ℕ) (ends : List ℕ) → length (kinds_of (values_in d s (starts_by at ends) ends)) ≡ length ends
unfolding starts_by values_in
kinds_count d s at [] = refl
kinds_count d s at (e ∷ es) = ap suc (kinds_count d s e es)

order_over : {at upto : ℕ} {ends : List ℕ} → InOrder at ends upto → at ≤ upto
order_over (order_end h) = h
order_over (order_next h hs) = let k = order_over hs in omega arith

ordered_at :
    (at upto : ℕ) (ends : List ℕ) → InOrder at ends upto → (k : ℕ) → k < length ends →
    (get_or (starts_by at ends) k 0 ≤ get_or ends k 0) × (get_or ends k 0 ≤ upto)
unfolding starts_by
ordered_at at upto (e ∷ es) (order_next h hs) zero l = (h, order_over hs)
ordered_at at upto (e ∷ es) (order_next h hs) (suc k) l = ordered_at e upto es hs k (omega arith)
ordered_at at upto [] (order_end h) k l = absurd (omega arith)

pub lie_of : {s : Bytes} {ends : List ℕ} → InOrder 0 ends (length s) → SpansIn s (starts_by 0 ends) ends 0 (length ends)
lie_of {s} {ends} h =
    let n = starts_count 0 ends in
    record {
      in_starts = omega arith;
      in_stops = omega arith;
      forward = λ k _ l. (ordered_at 0 (length s) ends h k l).0;
      within = λ k _ l. (ordered_at 0 (length s) ends h k l).1;
    }

-- starts by an array
pub starts_by_lem : (at : ℕ) (ends : List ℕ) → take (length ends) (at ∷ ends) ≡ starts_by at ends
unfolding starts_by
starts_by_lem at [] = refl
starts_by_lem at (e ∷ es) = ap (λ (l : List ℕ). at ∷ l) (starts_by_lem e es)

-- ---- what writing and the checks require

slice_short : (s : Bytes) (i j : ℕ) → length s ≤ MAXRECORD → length (slice s i j) ≤ MAXRECORD
slice_short s i j h = omega (arith, length-take (j - i) (drop i s), length-drop i s)

-- where the last cell ends
pub end_none : (ends : List ℕ) → length ends ≡ 0 → 0 ≡ end_of 0 ends
unfolding end_of
end_none [] h = refl
end_none (e ∷ es) h = absurd (omega arith)

end_last : (at e : ℕ) (es : List ℕ) → get_or (e ∷ es) (length es) 0 ≡ end_of at (e ∷ es)
unfolding end_of
end_last at e [] = refl
end_last at e (x ∷ xs) = end_last e x xs

pub end_some : (ends : List ℕ) (n : ℕ) → length ends ≡ n → 0 < n → get_or ends (n - 1) 0 ≡ end_of 0 ends
end_some [] n e h = absurd (omega arith)
end_some (x ∷ xs) n e h = let m : n - 1 ≡ length xs = omega arith in rw m (end_last 0 x xs)

end_over : (at upto : ℕ) (ends : List ℕ) → InOrder at ends upto → end_of at ends ≤ upto
unfolding end_of
end_over at upto [] (order_end h) = h
end_over at upto (e ∷ es) (order_next h hs) = end_over e upto es hs

pub end_inside : {upto : ℕ} {ends : List ℕ} → InOrder 0 ends upto → end_of 0 ends ≤ upto
end_inside {upto} {ends} h = end_over 0 upto ends h

end_from : (at upto : ℕ) (ends : List ℕ) → InOrder at ends upto → at ≤ end_of at ends
unfolding end_of
end_from at upto [] (order_end h) = omega arith
end_from at upto (e ∷ es) (order_next h hs) = let k = end_from e upto es hs in omega arith

-- ---- bytes tested in order

pub no_ed_followed : (s : Bytes) → HoldsNoEd s → EdFollowed s
no_ed_followed s h i l e = absurd (h i (omega arith) e)

-- up to i each ED is followed
abbrev pub FollowedTo : Bytes → ℕ → Type 0
FollowedTo s i = (j : ℕ) → j + 1 < i → j + 1 < length s → get_or s j 0 ≡ 0xED → EdFollows s j

pub followed_next : (s : Bytes) (i : ℕ) → FollowedTo s i → (get_or s (i - 1) 0 ≡ 0xED → (0x80 ≤ get_or s i 0) × (get_or s i 0 ≤ 0x9F)) → FollowedTo s (i + 1)
followed_next s i h n j l m e =
    split_on (ltb (j + 1) i) (λ p. h j (ltb-true (j + 1) i p) m e) λ p.
    let g : i ≤ j + 1 = ltb-false (j + 1) i p in
    let back : i - 1 ≡ j = omega arith in
    let on : j + 1 ≡ i = omega arith in
    let w = n (ap (λ (k : ℕ). get_or s k 0) back ∙ e) in
    record { least = rw on w.0; most = rw on (omega (arith, w.1)) }

-- ---- a span of bytes that can be written can be

slice_followed : (s : Bytes) (n i j : ℕ) → j ≤ n → EdFollowed (take n s) → EdFollowed (slice s i j)
slice_followed s n i j below h k l e =
    let a : length (slice s i j) ≤ j - i = omega (arith, length-take (j - i) (drop i s)) in
    let b : length (slice s i j) ≤ length s - i = omega (arith, length-take (j - i) (drop i s), length-drop i s) in
    let m : i + k + 1 < length (take n s) = omega (arith, length-take n s) in
    let at : (x : ℕ) → x < j - i → get_or (slice s i j) x 0 ≡ get_or (take n s) (i + x) 0 =
    λ x y. get_or-take (j - i) (drop i s) x 0 y ∙ get_or-drop i s x 0 ∙ sym (get_or-take n s (i + x) 0 (omega arith)) in
    let f : EdFollows (take n s) (i + k) = h (i + k) m (sym (at k (omega arith)) ∙ e) in
    let next : get_or (slice s i j) (k + 1) 0 ≡ get_or (take n s) (i + k + 1) 0 = at (k + 1) (omega arith) ∙ ap (λ (x : ℕ). get_or (take n s) x 0) (omega arith) in
    record { least = rw next f.least; most = rw next f.most }

module _ (d : Dialect) (s : Bytes) (short : length s ≤ MAXRECORD) (n : ℕ) (followed : EdFollowed (take n s)) where
  spelt_at :
      (at upto : ℕ) (ends : List ℕ) → InOrder at ends upto → end_of at ends ≤ n → (k : ℕ) → k < length ends →
      Encoded (File d) (kind_from (get_or (kinds_of (values_in d s (starts_by at ends) ends)) k 0)) (slice s (get_or (starts_by at ends) k 0) (get_or ends k 0))
  unfolding starts_by values_in end_of
  spelt_at at upto [] h w k l = absurd (omega arith)
  spelt_at at upto (e ∷ es) (order_next h hs) w zero l =
      in_file (slice_short s at e short) (slice_followed s n at e (omega (arith, end_from e upto es hs)) followed) (kind_back (kind_of d (slice s at e)))
  spelt_at at upto (e ∷ es) (order_next h hs) w (suc k) l = spelt_at e upto es hs w k (omega arith)

pub cells_buffered :
    (d : Dialect) (s : Bytes) (ends : List ℕ) → length s ≤ MAXRECORD → InOrder 0 ends (length s) → EdFollowed (take (end_of 0 ends) s) →
    Cells (File d) s (starts_by 0 ends) ends (kinds_of (values_in d s (starts_by 0 ends) ends))
cells_buffered d s ends short h w =
    let n = starts_count 0 ends in
    let m = kinds_count d s 0 ends in
    record {
      with_ends = n;
      with_kinds = n ∙ sym m;
      each = λ k l. record {
        forward = (ordered_at 0 (length s) ends h k (omega arith)).0;
        within = (ordered_at 0 (length s) ends h k (omega arith)).1;
        spelt = spelt_at d s short (end_of 0 ends) w 0 (length s) ends h (omega arith) k (omega arith);
      };
    }

-- ---- room for a text

pub whole_room : {out : Bytes} {o : ℕ} (w : Bytes) → o + length w ≤ length out → Room true o w out
whole_room w h = record { measured = λ e. impossible (sym e); inside = λ _. h }

-- ---- the lists that the code makes

-- the beginning of an array
take_over : (n : ℕ) (new old : List ℕ) → length new ≡ n → take n (over new old) ≡ new
take_over n new old e = take_at new (drop (length new) old) n e

pub starts_made : (ends old new : List ℕ) → new ≡ over (take (length ends) (0 ∷ ends)) old → take (length ends) new ≡ starts_by 0 ends
starts_made ends old new e =
    let n : length (take (length ends) (0 ∷ ends)) ≡ length ends = ap length (starts_by_lem 0 ends) ∙ starts_count 0 ends in
    ap (take (length ends)) e ∙ take_over (length ends) (take (length ends) (0 ∷ ends)) old n ∙ starts_by_lem 0 ends

module _ (d : Dialect) (s : Bytes) (starts ends : List ℕ) (e : starts ≡ starts_by 0 ends) where
  pub starts_stand : InOrder 0 ends (length s) → SpansIn s starts ends 0 (length ends)
  starts_stand h = rw e (lie_of h)

  pub kinds_made :
      (old new : List ℕ) → new ≡ over (kinds_at d s starts ends (length ends)) old →
      take (length ends) new ≡ kinds_of (values_in d s (starts_by 0 ends) ends)
  kinds_made old new f =
      let n : length ends ≡ length (starts_by 0 ends) = sym (starts_count 0 ends) in
      let a : take (length ends) starts ≡ starts_by 0 ends
      = ap (take (length ends)) e ∙ ap (λ (m : ℕ). take m (starts_by 0 ends)) n ∙ take-length (starts_by 0 ends) in
      let b : take (length ends) ends ≡ ends = take-length ends in
      let k : kinds_at d s starts ends (length ends) ≡ kinds_of (values_in d s (starts_by 0 ends) ends) = ap₂ (λ (x y : List ℕ). kinds_of (values_in d s x y)) a b in
      ap (take (length ends)) (f ∙ ap (λ (x : List ℕ). over x old) k)
      ∙ take_over (length ends) (kinds_of (values_in d s (starts_by 0 ends) ends)) old (kinds_count d s 0 ends)

  module _ (old new : List ℕ) (f : new ≡ over (kinds_at d s starts ends (length ends)) old) where
    pub made_cells :
        length s ≤ MAXRECORD → InOrder 0 ends (length s) → EdFollowed (take (end_of 0 ends) s) →
        Cells (File d) s starts ends (take (length ends) new)
    made_cells short h w = rw (e, kinds_made old new f) (cells_buffered d s ends short h w)

    pub made_values : cells_in (File d) s starts ends (take (length ends) new) ≡ values_in d s (starts_by 0 ends) ends
    made_values = rw (e, kinds_made old new f) (cells_are d s (starts_by 0 ends) ends)
