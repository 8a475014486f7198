-- The laws of the current record: what the buffered bytes and ends mean, and how they change as cells of a part are appended.
use Prim.Native.Nat.{ℕ, zero, suc, ◌+◌, ◌-◌, ◌<◌, ◌≤◌}
use native.Mathlib.Omega.{arith}
use mathlib.Core.Path.{◌≡◌, refl, sym, ap, ap₂, ◌∙◌}
use mathlib.Core.List.{List, [], ◌∷◌, ◌++◌, map, append_assoc, append-nil}
use lib.ListN.{length, take, drop, get_or, length-append, length-take, take-append-drop, length-map}
use lib.Seq.{get_or-take, get_or-drop, take_at, take-take}
use borrow.Author.Tests.{eq-eqb, ne_eqb}
use Rattle.model.specs.declared.Dialect.{Dialect}
use Rattle.model.specs.rules.Base.{Bytes, over, choose◌then◌else◌, ◌is◌}
use Rattle.model.specs.laws.Laws.{All, all_none, all_cons}
use Rattle.model.specs.rules.Decode.{kind_number}
use Rattle.model.specs.rules.Text.{Value}
use Rattle.model.specs.rules.Api.{kinds_of}
use Rattle.model.specs.laws.RoundTrips.{SameCells, no_cells, and_cell}
use Rattle.model.specs.laws.Scans.{RawCell, Buffered, value_of, joined_cell, joined_cells}
use Rattle.model.specs.laws.Places.{SpanIn, values_in, buffered_bytes, buffered_starts, buffered_ends}
use Rattle.model.proofs.piece_laws.PlaceLaws.{buffered_cells}
use Rattle.model.proofs.Tests.{split}
use Rattle.buffer.specs.Writes.{written}
use Rattle.piece_state.specs.CurrentRecord.{raw_cell_in, raw_cells_in, raw_cells_at, Shows, SpansIn, kinds_at, CurrentRecord, ProceedsOn, nothing_open}
use Rattle.piece_state.specs.CurrentRecord.{first_proceeds_on}
use Rattle.piece_state.proofs.BufferedLists.{ends_count}

-- ---- the cells of the lists

-- lists of the spans of cells hold those cells
shown_cells :
    (bytes : Bytes) (cs : List RawCell) → All (SpanIn bytes) cs → raw_cells_in bytes (map (λ (c : RawCell). c.from) cs) (map (λ (c : RawCell). c.upto) cs) ≡ cs
unfolding raw_cells_in
shown_cells bytes [] all_none = refl
shown_cells bytes (c ∷ cs) (all_cons h hs) =
    let first : raw_cell_in bytes c.from c.upto ≡ c = ap (λ (b : Bytes). record { from = c.from; upto = c.upto; bytes = b }) (sym h.raw) in
    ap₂ (λ (x : RawCell) (xs : List RawCell). x ∷ xs) first (shown_cells bytes cs hs)

pub shown_are :
    {bytes : Bytes} {starts stops : List ℕ} {from n : ℕ} {cs : List RawCell} → Shows bytes starts stops from n cs → raw_cells_at bytes starts stops from n ≡ cs
shown_are {bytes} {cs = cs} h = ap₂ (raw_cells_in bytes) h.starts_shown h.stops_shown ∙ shown_cells bytes cs h.standing

-- cells that lie in the bytes, by their spans
span_at :
    (bytes : Bytes) (cs : List RawCell) → All (SpanIn bytes) cs → (i : ℕ) → i < length cs →
    (get_or (map (λ (c : RawCell). c.from) cs) i 0 ≤ get_or (map (λ (c : RawCell). c.upto) cs) i 0) ×
    (get_or (map (λ (c : RawCell). c.upto) cs) i 0 ≤ length bytes)
span_at bytes [] all_none i l = absurd (omega arith)
span_at bytes (c ∷ cs) (all_cons h hs) zero l = (h.forward, h.within)
span_at bytes (c ∷ cs) (all_cons h hs) (suc i) l = span_at bytes cs hs i (omega arith)

shown_at : (xs ys : List ℕ) (from n k : ℕ) → take (n - from) (drop from xs) ≡ ys → from ≤ k → k < n → get_or ys (k - from) 0 ≡ get_or xs k 0
shown_at xs ys from n k e h l =
    let m : from + (k - from) ≡ k = omega arith in
    ap (λ (l : List ℕ). get_or l (k - from) 0) (sym e) ∙ get_or-take (n - from) (drop from xs) (k - from) 0 (omega arith)
    ∙ get_or-drop from xs (k - from) 0 ∙ ap (λ (i : ℕ). get_or xs i 0) m

pub shown_lie :
    {bytes : Bytes} {starts stops : List ℕ} {from n : ℕ} {cs : List RawCell} → Shows bytes starts stops from n cs → from + length cs ≡ n →
    n ≤ length starts → n ≤ length stops → SpansIn bytes starts stops from n
shown_lie {bytes} {starts} {stops} {from} {n} {cs} h e l m =
    let at : (k : ℕ) → from ≤ k → k < n → (get_or starts k 0 ≤ get_or stops k 0) × (get_or stops k 0 ≤ length bytes) =
    λ k a b. rw (shown_at starts _ from n k h.starts_shown a b, shown_at stops _ from n k h.stops_shown a b) at
    (span_at bytes cs h.standing (k - from) (omega arith)) in
    record { in_starts = l; in_stops = m; forward = λ k a b. (at k a b).0; within = λ k a b. (at k a b).1 }

-- ---- starts and kinds

-- an end is also the next start
starts_by_ends : (o : ℕ) (cs : List RawCell) → take (length cs) (o ∷ buffered_ends o cs) ≡ buffered_starts o cs
unfolding buffered_ends buffered_starts
starts_by_ends o [] = refl
starts_by_ends o (c ∷ cs) = ap (λ (l : List ℕ). o ∷ l) (starts_by_ends (o + length c.bytes) cs)

take_before : (n o : ℕ) (l : List ℕ) → take n (o ∷ take n l) ≡ take n (o ∷ l)
take_before zero o l = refl
take_before (suc n) o l = ap (λ (l : List ℕ). o ∷ l) (take-take n (suc n) l (omega arith))

pub buffered_starts_lem : (ends : List ℕ) (cs : List RawCell) → take (length cs) ends ≡ buffered_ends 0 cs → take (length cs) (0 ∷ ends) ≡ buffered_starts 0 cs
buffered_starts_lem ends cs e = sym (take_before (length cs) 0 ends) ∙ ap (λ (l : List ℕ). take (length cs) (0 ∷ l)) e ∙ starts_by_ends 0 cs

-- the starts that `starts_of` stores are theirs
pub starts_shown :
    (ends starts : List ℕ) (cs : List RawCell) → length cs ≤ length ends → take (length cs) ends ≡ buffered_ends 0 cs →
    take (length cs) (over (take (length cs) (0 ∷ ends)) starts) ≡ buffered_starts 0 cs
starts_shown ends starts cs h e =
    let n : length (take (length cs) (0 ∷ ends)) ≡ length cs = rw length-take (omega arith) in
    let new : List ℕ = take (length cs) (0 ∷ ends) in
    let shown : take (length cs) (over new starts) ≡ new = take_at new (drop (length new) starts) (length cs) n in
    shown ∙ buffered_starts_lem ends cs e

-- ---- the buffered bytes mean the cells

pub nothing_buffered : (bytes : Bytes) (ends : List ℕ) → CurrentRecord bytes 0 ends [] []
unfolding buffered_bytes buffered_ends
nothing_buffered bytes ends = record { held = refl; filled = refl; ended = refl }

module _ {bytes : Bytes} {fill : ℕ} {ends : List ℕ} {cells : List RawCell} {raw : Bytes} (h : CurrentRecord bytes fill ends cells raw) where
  pub hand_values : (d : Dialect) → SameCells (values_in d bytes (buffered_starts 0 cells) (buffered_ends 0 cells)) (map (value_of d) cells)
  hand_values d =
      let whole : buffered_bytes cells ++ (raw ++ drop fill bytes) ≡ bytes =
      sym (append_assoc (buffered_bytes cells) raw (drop fill bytes)) ∙ ap (λ (l : Bytes). l ++ drop fill bytes) (sym h.held) ∙ take-append-drop fill bytes in
      rw whole at (buffered_cells d [] (raw ++ drop fill bytes) cells)

  -- the bytes of the cells are as many as are buffered
  fill_fits : fill ≤ length bytes
  fill_fits = omega (arith, length-take fill bytes, ap length h.held, length-append (buffered_bytes cells) raw, h.filled)

-- ---- kinds

same_kinds : {vs ws : List Value} → SameCells vs ws → kinds_of vs ≡ kinds_of ws
same_kinds no_cells = refl
same_kinds (and_cell e es) = ap₂ (λ (n : ℕ) (l : List ℕ). n ∷ l) (ap kind_number e.kind) (same_kinds es)

-- the kinds of the buffered bytes are the cells' own
pub hand_kinds :
    {bytes : Bytes} {fill : ℕ} {ends : List ℕ} {cells : List RawCell} {raw : Bytes} (d : Dialect) (starts : List ℕ) →
    CurrentRecord bytes fill ends cells raw → take (length cells) starts ≡ buffered_starts 0 cells →
    kinds_at d bytes starts ends (length cells) ≡ kinds_of (map (value_of d) cells)
hand_kinds {bytes} d starts h e = ap₂ (λ (ss es : List ℕ). kinds_of (values_in d bytes ss es)) e h.ended ∙ same_kinds (hand_values h d)

-- ---- appending

-- what is written after the buffered bytes follows them
pub take_written : (l : List ℕ) (at : ℕ) (w : List ℕ) → at ≤ length l → take (at + length w) (written l at w) ≡ take at l ++ w
take_written l at w h =
    let n : length (take at l ++ w) ≡ at + length w = simp (length-append, length-take) (omega arith) in
    let e : take at l ++ (w ++ drop (at + length w) l) ≡ take at l ++ w ++ drop (at + length w) l = sym (append_assoc (take at l) w (drop (at + length w) l)) in
    ap (take (at + length w)) e ∙ take_at (take at l ++ w) (drop (at + length w) l) (at + length w) n

-- bytes of the open cell are appended
pub buffered_open :
    {bytes : Bytes} {fill : ℕ} {ends : List ℕ} {cells : List RawCell} {raw : Bytes} (rest : Bytes) → CurrentRecord bytes fill ends cells raw →
    CurrentRecord (written bytes fill rest) (fill + length rest) ends cells (raw ++ rest)
buffered_open {bytes} {fill} {ends} {cells} {raw} rest h =
    record {
      held = take_written bytes fill rest (fill_fits h) ∙ ap (λ (l : Bytes). l ++ rest) h.held ∙ append_assoc (buffered_bytes cells) raw rest;
      filled = omega (arith, h.filled, length-append raw rest);
      ended = h.ended;
    }

-- ---- cells that continue the open one

bytes_append : (xs ys : List RawCell) → buffered_bytes (xs ++ ys) ≡ buffered_bytes xs ++ buffered_bytes ys
unfolding buffered_bytes
bytes_append [] ys = refl
bytes_append (x ∷ xs) ys = ap (λ (l : Bytes). x.bytes ++ l) (bytes_append xs ys) ∙ sym (append_assoc x.bytes (buffered_bytes xs) (buffered_bytes ys))

ends_append : (o : ℕ) (xs ys : List RawCell) → buffered_ends o (xs ++ ys) ≡ buffered_ends o xs ++ buffered_ends (o + length (buffered_bytes xs)) ys
unfolding buffered_bytes buffered_ends
ends_append o [] ys = let e : o ≡ o + 0 = omega arith in ap (λ (n : ℕ). buffered_ends n ys) e
ends_append o (x ∷ xs) ys =
    let e : o + length x.bytes + length (buffered_bytes xs) ≡ o + length (x.bytes ++ buffered_bytes xs) =
    omega (arith, length-append x.bytes (buffered_bytes xs)) in
    ap (λ (l : List ℕ). (o + length x.bytes) ∷ l)
    (ends_append (o + length x.bytes) xs ys ∙ ap (λ (n : ℕ). buffered_ends (o + length x.bytes) xs ++ buffered_ends n ys) e)

module _ (k : Buffered) (began : ℕ) where
  -- where nothing is buffered of the open cell, joining changes no bytes
  same_bytes : (c : RawCell) → k.raw ≡ [] → (joined_cell k began c).bytes ≡ c.bytes
  unfolding joined_cell
  same_bytes c e = split (λ (x : RawCell). x.bytes ≡ c.bytes) (c.from is began) (λ _. ap (λ (l : Bytes). l ++ c.bytes) e) λ _. refl

  none_bytes : (cs : List RawCell) → k.raw ≡ [] → buffered_bytes (map (joined_cell k began) cs) ≡ buffered_bytes cs
  unfolding buffered_bytes
  none_bytes [] e = refl
  none_bytes (c ∷ cs) e = ap₂ (λ (a b : Bytes). a ++ b) (same_bytes c e) (none_bytes cs e)

  none_ends : (o : ℕ) (cs : List RawCell) → k.raw ≡ [] → buffered_ends o (map (joined_cell k began) cs) ≡ buffered_ends o cs
  unfolding buffered_ends
  none_ends o [] e = refl
  none_ends o (c ∷ cs) e = rw (same_bytes c e) (ap (λ (l : List ℕ). (o + length c.bytes) ∷ l) (none_ends (o + length c.bytes) cs e))

  -- a cell that began later does not change
  later_same : (cs : List RawCell) → All (λ (x : RawCell). began < x.from) cs → map (joined_cell k began) cs ≡ cs
  unfolding joined_cell choose◌then◌else◌
  later_same [] all_none = refl
  later_same (c ∷ cs) (all_cons h hs) = rw (ne_eqb c.from began λ e. omega arith) (ap (λ (l : List RawCell). c ∷ l) (later_same cs hs))

  first_joined : (c : RawCell) → c.from ≡ began → joined_cell k began c ≡ record { from = k.opened; upto = c.upto; bytes = k.raw ++ c.bytes }
  unfolding joined_cell choose◌then◌else◌
  first_joined c e = rw (eq-eqb c.from began e)

  -- the bytes of joined cells are the buffered ones of the open cell, and then theirs
  joined_bytes : (cs : List RawCell) → ProceedsOn k began cs → buffered_bytes (map (joined_cell k began) cs) ≡ k.raw ++ buffered_bytes cs
  unfolding buffered_bytes
  joined_bytes cs (nothing_open e) = none_bytes cs e ∙ ap (λ (l : Bytes). l ++ buffered_bytes cs) (sym e)
  joined_bytes (c ∷ cs) (first_proceeds_on e later) =
      rw (first_joined c e, later_same cs later) (append_assoc k.raw c.bytes (buffered_bytes cs))

  joined_ends : (o : ℕ) (cs : List RawCell) → ProceedsOn k began cs → buffered_ends o (map (joined_cell k began) cs) ≡ buffered_ends (o + length k.raw) cs
  unfolding buffered_ends
  joined_ends o cs (nothing_open e) =
      let same : o ≡ o + length k.raw = omega (arith, ap length e) in
      none_ends o cs e ∙ ap (λ (n : ℕ). buffered_ends n cs) same
  joined_ends o (c ∷ cs) (first_proceeds_on e later) =
      let same : o + length (k.raw ++ c.bytes) ≡ o + length k.raw + length c.bytes = omega (arith, length-append k.raw c.bytes) in
      rw (first_joined c e, later_same cs later, same)

-- cells of a part are appended: the current record has these after the earlier ones, and no open cell
pub buffered_more :
    {bytes : Bytes} {fill : ℕ} {ends : List ℕ} (k : Buffered) (began : ℕ) (cs : List RawCell) → CurrentRecord bytes fill ends k.cells k.raw →
    ProceedsOn k began cs → length k.cells ≤ length ends →
    CurrentRecord (written bytes fill (buffered_bytes cs)) (fill + length (buffered_bytes cs))
    (written ends (length k.cells) (buffered_ends fill cs)) (joined_cells k began cs) []
buffered_more {bytes} {fill} {ends} k began cs h g l =
    let old = k.cells in
    let new = map (joined_cell k began) cs in
    let held : buffered_bytes old ++ k.raw ++ buffered_bytes cs ≡ buffered_bytes (old ++ new) =
    append_assoc (buffered_bytes old) k.raw (buffered_bytes cs) ∙ ap (λ (l : Bytes). buffered_bytes old ++ l) (sym (joined_bytes k began cs g))
    ∙ sym (bytes_append old new) in
    let count : length (old ++ new) ≡ length old + length (buffered_ends fill cs) =
    omega (arith, length-append old new, length-map cs (joined_cell k began), ends_count fill cs) in
    let from : 0 + length (buffered_bytes old) + length k.raw ≡ fill = omega (arith, h.filled) in
    let ended : buffered_ends 0 old ++ buffered_ends fill cs ≡ buffered_ends 0 (old ++ new) =
    sym (ends_append 0 old new ∙ ap (λ (l : List ℕ). buffered_ends 0 old ++ l)
    (joined_ends k began (0 + length (buffered_bytes old)) cs g ∙ ap (λ (n : ℕ). buffered_ends n cs) from)) in
    record {
      held =
          take_written bytes fill (buffered_bytes cs) (fill_fits h) ∙ ap (λ (l : Bytes). l ++ buffered_bytes cs) h.held ∙ held
          ∙ sym (append-nil (buffered_bytes (old ++ new)));
      filled =
          omega (arith, h.filled, ap length held, length-append (buffered_bytes old ++ k.raw) (buffered_bytes cs), length-append (buffered_bytes old) k.raw);
      ended =
          ap (λ (n : ℕ). take n (written ends (length old) (buffered_ends fill cs))) count ∙ take_written ends (length old) (buffered_ends fill cs) l
          ∙ ap (λ (l : List ℕ). l ++ buffered_ends fill cs) h.ended ∙ ended;
    }
