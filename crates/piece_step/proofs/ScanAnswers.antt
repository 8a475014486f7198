-- From the scanner's result: the scan of the part that it reports, the cells that its lists hold, and the current record after it.
use Prim.Native.Nat.{ℕ, suc, ◌+◌, ◌-◌, ◌≤◌, ◌<◌}
use native.Mathlib.Omega.{arith}
use native.Mathlib.Nat.{add-zero}
use mathlib.Core.Path.{◌≡◌, refl, sym, ap, ap₂, subst, ◌∙◌}
use mathlib.Core.Bool.{true, false}
use mathlib.Core.List.{List, [], ◌∷◌, ◌++◌, map, append_assoc, append-nil}
use lib.ListN.{length, take, drop, length-append, length-map, take-append-drop}
use lib.Seq.{take-append_seam}
use borrow.Author.Tests.{eq-eqb, ne_eqb}
use Rattle.model.specs.rules.Base.{choose◌then◌else◌, ◌is◌, Bytes}
use Rattle.model.specs.rules.Report.{MAXRECORD, MAXCOLUMNS}
use Rattle.model.specs.laws.Laws.{All, all_none, all_cons}
use Rattle.model.specs.laws.RoundTrips.{SameCells}
use Rattle.model.specs.laws.Scans.{RawCell, Scan, ScanResult, pends, fails, completes, scan, value_of, in_record, Buffered, Holds, current, nothing_current}
use Rattle.model.specs.laws.Scans.{moved_cell, joined_raw, joined_cells, fresh, bytes_in, Sized, SizedTo, sized_pends, sized_completes}
use Rattle.model.specs.laws.Places.{SpanIn, buffered_bytes, buffered_starts, buffered_ends}
use Rattle.model.proofs.Tests.{split, split_on, impossible}
use Rattle.model.proofs.piece_laws.ScanSize.{scan_size}
use Rattle.buffer.specs.Writes.{written}
use Rattle.cell_decoder.specs.Followed.{EdFollowed}
use Rattle.cell_decoder.proofs.Followed.{EdClosed, closed_none, sound_closed, closed_append, closed_followed}
use Rattle.piece_state.specs.CurrentRecord.{Shows, CurrentRecord, ProceedsOn, nothing_open, first_proceeds_on}
use Rattle.piece_state.proofs.CurrentRecord.{hand_values, buffered_open, buffered_more}
use Rattle.record_scanner.specs.Stored.{stored_from}
use Rattle.record_scanner.specs.Parts.{found_of, current_of, raw_starts, raw_ends}
use Rattle.record_scanner.proofs.FilledLists.{stored_from_all}
use Rattle.record_scanner.specs.declared.record_state.RecordState.{RecordState}
use Rattle.record_scanner.specs.declared.token.ScanOutcome.TheVariants as reached
use Rattle.piece_state.specs.declared.place.Place.{Place}
use Rattle.model.proofs.cell_laws.CellRuns.{here}
use Rattle.model.proofs.cell_laws.Cells.{cell_at}
use Rattle.piece_step.specs.Types.{Dialect, Fresh, FileState, Top, Begin, Ended, Bom1, Bom2, PlainBom1, PlainBom2, Comment, Blanks, ExpectCell, Inside}
use Rattle.piece_step.specs.Types.{After, Cr, Fault}
use Rattle.piece_step.specs.Invariant.{Open, in_cell_lem, no_bytes, IsWhole, Shown}
use Rattle.piece_record.specs.Completion.{starts_by, end_of, buffered_values}
use Rattle.piece_step.specs.Steps.{InBounds}
use Rattle.piece_step.proofs.ScanLaws.{buffered_of, Preserves, PreservesTo, preserves_pends, scan_preserves}
use Rattle.piece_step.proofs.OpenCells.{ClosedFirst, closed_first, First, still_open, then_closed, FirstIn, first_pends, first_completes, first_closes}
use Rattle.piece_step.proofs.OpenCells.{Grew, grew_pends, grew_completes, grows}

-- ---- the result

pub record CompletedAs (x : ScanResult) (start cells : ℕ) (f : FileState) (next : ℕ) : Type 0 where
  pub s : Scan
  pub cs : List RawCell
  pub left : Bytes
  pub came : x ≡ completes s cs f next left
  pub starts : s.start ≡ start
  pub count : length cs ≡ cells

pub completed_as :
    (x : ScanResult) (start cells : ℕ) (f : FileState) (next : ℕ) → (found_of x).answer ≡ reached.Completed start cells f next → CompletedAs x start cells f next
completed_as (pends s) start cells f next e = let z : ◌≡◌ {A = ℕ} 0 1 = cc in absurd (omega arith)
completed_as (fails y s) start cells f next e = let z : ◌≡◌ {A = ℕ} 0 1 = cc in absurd (omega arith)
completed_as (completes s cs g o left) start cells f next e = record { s = s; cs = cs; left = left; came = (cc); starts = (cc); count = (cc) }

pub record PendingAs (x : ScanResult) (f : FileState) (h : RecordState) : Type 0 where
  pub s : Scan
  pub came : x ≡ pends s
  pub state : s.state ≡ f
  pub hand : current_of s ≡ h

pub pending_as : (x : ScanResult) (f : FileState) (h : RecordState) → (found_of x).answer ≡ reached.NeedInput f h → PendingAs x f h
pending_as (pends s) f h e = record { s = s; came = refl; state = (cc); hand = (cc) }
pending_as (fails y s) f h e = let z : ◌≡◌ {A = ℕ} 0 1 = cc in absurd (omega arith)
pending_as (completes s cs g o left) f h e = let z : ◌≡◌ {A = ℕ} 0 1 = cc in absurd (omega arith)

pub record FailedAs (x : ScanResult) (y : Fault) (o : ℕ) : Type 0 where
  pub s : Scan
  pub came : x ≡ fails y s
  pub place : s.offset ≡ o

pub failed_as : (x : ScanResult) (y : Fault) (o : ℕ) → (found_of x).answer ≡ reached.Failed y o → FailedAs x y o
failed_as (pends s) y o e = let z : ◌≡◌ {A = ℕ} 0 1 = cc in absurd (omega arith)
failed_as (fails x s) y o e = record { s = s; came = (cc); place = (cc) }
failed_as (completes s cs g q left) y o e = let z : ◌≡◌ {A = ℕ} 0 1 = cc in absurd (omega arith)

-- ---- the lists

shown_first :
    (room m : ℕ) (xs old new : List ℕ) → new ≡ stored_from room 0 xs old → length xs ≡ m → m ≤ room → room ≤ length old → take (m - 0) (drop 0 new) ≡ xs
shown_first room m xs old new e n h l =
    let z : m - 0 ≡ length xs = omega arith in
    ap₂ (λ (k : ℕ) (x : List ℕ). take k x) z (e ∙ stored_from_all room 0 xs old (omega arith) l) ∙ take-append_seam xs (drop (0 + length xs) old)

pub lists_show :
    {piece : Bytes} {cs : List RawCell} (m : ℕ) (starts stops starts' stops' : List ℕ) → starts' ≡ stored_from MAXCOLUMNS 0 (raw_starts cs) starts →
    stops' ≡ stored_from MAXCOLUMNS 0 (raw_ends cs) stops →
    length cs ≡ m → m ≤ MAXCOLUMNS → MAXCOLUMNS ≤ length starts → MAXCOLUMNS ≤ length stops → All (SpanIn piece) cs → Shows piece starts' stops' 0 m cs
lists_show {cs = cs} m starts stops starts' stops' e f n h l k all =
    record {
      starts_shown = shown_first MAXCOLUMNS m (raw_starts cs) starts starts' e (length-map cs (λ (c : RawCell). c.from) ∙ n) h l;
      stops_shown = shown_first MAXCOLUMNS m (raw_ends cs) stops stops' f (length-map cs (λ (c : RawCell). c.upto) ∙ n) h k;
      standing = all;
    }

-- ---- room to buffer

pub bytes_in_lem : (cs : List RawCell) → bytes_in cs ≡ length (buffered_bytes cs)
unfolding bytes_in buffered_bytes
bytes_in_lem [] = refl
bytes_in_lem (c ∷ cs) = omega (arith, bytes_in_lem cs, length-append c.bytes (buffered_bytes cs))

sized_done :
    {s : Scan} {cs : List RawCell} {f : FileState} {next : ℕ} {left : Bytes} → SizedTo (completes s cs f next left) →
    (s.size ≤ MAXRECORD) × (bytes_in cs ≤ s.size)
sized_done (sized_completes z b) = (z.limit, b)

grew_done :
    {base : ℕ} {s : Scan} {cs : List RawCell} {f : FileState} {next : ℕ} {left : Bytes} → Grew base (completes s cs f next left) → base + bytes_in cs ≤ s.size
grew_done (grew_completes h) = h

sized_pending : {s : Scan} → SizedTo (pends s) → Sized s
sized_pending (sized_pends z) = z

grew_pending : {base : ℕ} {s : Scan} → Grew base (pends s) → base + (bytes_in s.cells + length s.raw) ≤ s.size
grew_pending (grew_pends r h) = h

stays_in : {base : ℕ} {s : Scan} → Grew base (pends s) → in_record s.state ≡ true
stays_in (grew_pends r h) = r

outside_fresh : (f : FileState) → in_record f ≡ false → cell_at f ≡ Fresh
unfolding cell_at
outside_fresh Top h = refl
outside_fresh Begin h = refl
outside_fresh Ended h = refl
outside_fresh Bom1 h = refl
outside_fresh Bom2 h = refl
outside_fresh PlainBom1 h = impossible (sym h)
outside_fresh PlainBom2 h = impossible (sym h)
outside_fresh (Comment c) h = refl
outside_fresh Blanks h = refl
outside_fresh ExpectCell h = refl
outside_fresh (Inside c) h = impossible (sym h)
outside_fresh After h = refl
outside_fresh Cr h = refl

module _ (d : Dialect) (limit : ℕ) (p : Place) (ends : List ℕ) (b : InBounds p ends) (i : ℕ) (bs : Bytes) where
  abbrev from_here : ScanResult
  from_here = scan d limit (fresh p.state p.size i) bs

  sized_here : SizedTo from_here
  unfolding bytes_in
  sized_here = scan_size d limit (fresh p.state p.size i) bs (record { held = omega arith; limit = b.size })

  grew_here : in_record p.state ≡ true → Grew p.size from_here
  unfolding bytes_in
  grew_here h = grows d limit p.size (fresh p.state p.size i) bs h (omega arith)

  pub room_done :
      (s : Scan) (cs : List RawCell) (f : FileState) (next : ℕ) (left : Bytes) → from_here ≡ completes s cs f next left →
      p.fill + length (buffered_bytes cs) ≤ MAXRECORD
  room_done s cs f next left e = split_on (in_record p.state) in_one between
    where
      z : (s.size ≤ MAXRECORD) × (bytes_in cs ≤ s.size)
      z = sized_done (subst SizedTo e sized_here)

      in_one : in_record p.state ≡ true → p.fill + length (buffered_bytes cs) ≤ MAXRECORD
      in_one h = omega (arith, grew_done (subst (Grew p.size) e (grew_here h)), z.0, b.fill, bytes_in_lem cs)

      between : in_record p.state ≡ false → p.fill + length (buffered_bytes cs) ≤ MAXRECORD
      between h = omega (arith, (b.between h).0, z.0, z.1, bytes_in_lem cs)

  pub room_pended : (s : Scan) → from_here ≡ pends s → (p.fill + (length (buffered_bytes s.cells) + length s.raw) ≤ s.size) × (s.size ≤ MAXRECORD)
  room_pended s e = (split_on (in_record p.state) in_one between, z.limit)
    where
      z : Sized s
      z = sized_pending (subst SizedTo e sized_here)

      in_one : in_record p.state ≡ true → p.fill + (length (buffered_bytes s.cells) + length s.raw) ≤ s.size
      in_one h = omega (arith, grew_pending (subst (Grew p.size) e (grew_here h)), b.fill, bytes_in_lem s.cells)

      between : in_record p.state ≡ false → p.fill + (length (buffered_bytes s.cells) + length s.raw) ≤ s.size
      between h = omega (arith, (b.between h).0, z.held, bytes_in_lem s.cells)

  keeps_here : in_record p.state ≡ false → PreservesTo d from_here
  keeps_here h =
      scan_preserves d limit (fresh p.state p.size i) bs
      (record { runs = rw (outside_fresh p.state h) here; whole = all_none; opens = no_bytes refl; holds = nothing_current refl refl })

  -- outside records nothing is buffered
  pub none_pended : (s : Scan) → from_here ≡ pends s → in_record s.state ≡ false → (in_record p.state ≡ false) × (s.cells ≡ []) × (s.raw ≡ [])
  none_pended s e out = split_on (in_record p.state) (λ h. impossible (sym out ∙ stays_in (subst (Grew p.size) e (grew_here h)))) was_out
    where
      held : Holds s.state (buffered_of s) → in_record p.state ≡ false → (in_record p.state ≡ false) × (s.cells ≡ []) × (s.raw ≡ [])
      held (current h) u = impossible (sym out ∙ h)
      held (nothing_current r c) u = (u, c, r)

      keeps : PreservesTo d (pends s) → Preserves d s
      keeps (preserves_pends z) = z

      was_out : in_record p.state ≡ false → (in_record p.state ≡ false) × (s.cells ≡ []) × (s.raw ≡ [])
      was_out h = held (keeps (subst (PreservesTo d) e (keeps_here h))).holds h

-- ---- the current record

pub shown_of :
    (p : Place) (k : Buffered) {bytes : Bytes} {fill : ℕ} {ends : List ℕ} → CurrentRecord bytes fill ends k.cells k.raw → p.fill ≡ fill →
    Shown p k bytes ends
shown_of p k h e =
    record {
      fill = e ∙ h.filled ∙ sym (length-append (buffered_bytes k.cells) k.raw);
      bytes_kept = rw e h.held;
      ends_kept = h.ended;
    }

pub current_of_lem : {p : Place} {k : Buffered} {bytes ends : List ℕ} → Shown p k bytes ends → CurrentRecord bytes p.fill ends k.cells k.raw
current_of_lem {p} {k} h = record { held = h.bytes_kept; filled = h.fill ∙ length-append (buffered_bytes k.cells) k.raw; ended = h.ends_kept }

starts_of_buffered : (o : ℕ) (cs : List RawCell) → starts_by o (buffered_ends o cs) ≡ buffered_starts o cs
unfolding starts_by buffered_ends buffered_starts
starts_of_buffered o [] = refl
starts_of_buffered o (c ∷ cs) = ap (λ (l : List ℕ). o ∷ l) (starts_of_buffered (o + length c.bytes) cs)

end_of_buffered : (o : ℕ) (cs : List RawCell) → end_of o (buffered_ends o cs) ≡ o + length (buffered_bytes cs)
unfolding end_of buffered_ends buffered_bytes
end_of_buffered o [] = omega arith
end_of_buffered o (c ∷ cs) = end_of_buffered (o + length c.bytes) cs ∙ omega (arith, length-append c.bytes (buffered_bytes cs))

-- in whole cells each ED has its second byte, and so it has in them one after another
buffered_closed : (d : Dialect) {cs : List RawCell} → All (IsWhole d) cs → EdClosed (buffered_bytes cs)
unfolding buffered_bytes
buffered_closed d all_none = closed_none
buffered_closed d (all_cons {x} w ws) = closed_append (sound_closed d x.bytes w) (buffered_closed d ws)

module _ {bytes : Bytes} {fill : ℕ} {ends : List ℕ} {cells : List RawCell} {raw : Bytes} (h : CurrentRecord bytes fill ends cells raw) (d : Dialect) where
  pub kept_same : SameCells (buffered_values d bytes (take (length cells) ends)) (map (value_of d) cells)
  kept_same = rw (h.ended, starts_of_buffered 0 cells) (hand_values h d)

  pub kept_followed : All (IsWhole d) cells → EdFollowed (take (end_of 0 (take (length cells) ends)) bytes)
  kept_followed w =
      let all : bytes ≡ buffered_bytes cells ++ (raw ++ drop fill bytes) =
      sym (take-append-drop fill bytes) ∙ ap (λ (l : Bytes). l ++ drop fill bytes) h.held ∙ append_assoc (buffered_bytes cells) raw (drop fill bytes) in
      let none : 0 + length (buffered_bytes cells) ≡ length (buffered_bytes cells) = omega arith in
      let n : end_of 0 (take (length cells) ends) ≡ length (buffered_bytes cells) = ap (end_of 0) h.ended ∙ end_of_buffered 0 cells ∙ none in
      let first : take (end_of 0 (take (length cells) ends)) bytes ≡ buffered_bytes cells =
      ap₂ (λ (k : ℕ) (l : Bytes). take k l) n all ∙ take-append_seam (buffered_bytes cells) (raw ++ drop fill bytes) in
      rw first (closed_followed (buffered_closed d w))

-- ---- cells of a part are appended

moved_bytes : (n : ℕ) (cs : List RawCell) → buffered_bytes (map (moved_cell n) cs) ≡ buffered_bytes cs
unfolding buffered_bytes
moved_bytes n [] = refl
moved_bytes n (c ∷ cs) = ap (λ (l : Bytes). c.bytes ++ l) (moved_bytes n cs)

moved_ends : (n o : ℕ) (cs : List RawCell) → buffered_ends o (map (moved_cell n) cs) ≡ buffered_ends o cs
unfolding buffered_ends
moved_ends n o [] = refl
moved_ends n o (c ∷ cs) = ap (λ (l : List ℕ). (o + length c.bytes) ∷ l) (moved_ends n (o + length c.bytes) cs)

moved_later : (n i : ℕ) (cs : List RawCell) → All (λ (x : RawCell). suc i ≤ x.from) cs → All (λ (x : RawCell). n + i < x.from) (map (moved_cell n) cs)
moved_later n i [] all_none = all_none
moved_later n i (c ∷ cs) (all_cons h hs) = let g : n + i < n + c.from = omega arith in all_cons g (moved_later n i cs hs)

closed_proceeds : {k : Buffered} (n i : ℕ) (cs : List RawCell) → ClosedFirst i cs → ProceedsOn k (n + i) (map (moved_cell n) cs)
closed_proceeds n i (c ∷ cs) (closed_first e all) = let g : n + c.from ≡ n + i = omega arith in first_proceeds_on g (moved_later n i cs all)
closed_proceeds n i [] z = elim z [ ]

-- the current record with the cells of the part
pub joined_hand :
    {bytes : Bytes} {fill : ℕ} {ends : List ℕ} (k : Buffered) (n i : ℕ) (cs : List RawCell) → CurrentRecord bytes fill ends k.cells k.raw →
    ProceedsOn k (n + i) (map (moved_cell n) cs) → length k.cells ≤ length ends →
    CurrentRecord (written bytes fill (buffered_bytes cs)) (fill + length (buffered_bytes cs))
    (written ends (length k.cells) (buffered_ends fill cs)) (joined_cells k (n + i) (map (moved_cell n) cs)) []
joined_hand {bytes} {fill} {ends} k n i cs h g l =
    rw (moved_bytes n cs, moved_ends n fill cs) at (buffered_more k (n + i) (map (moved_cell n) cs) h g l)

pub proceeds_on :
    {k : Buffered} (d : Dialect) (limit : ℕ) (f : FileState) (size n i : ℕ) (bs : Bytes) → Open f k.raw →
    (s : Scan) (cs : List RawCell) (g : FileState) (next : ℕ) (left : Bytes) →
    scan d limit (fresh f size i) bs ≡ completes s cs g next left → ProceedsOn k (n + i) (map (moved_cell n) cs)
proceeds_on d limit f size n i bs (no_bytes z) s cs g next left e = nothing_open z
proceeds_on d limit f size n i bs (in_cell_lem h) s cs g next left e =
    closed_proceeds n i cs (go (subst (FirstIn i) e (first_closes d limit (fresh f size i) bs h refl refl)))
  where
    go : FirstIn i (completes s cs g next left) → ClosedFirst i cs
    go (first_completes c) = c

-- ---- the part ends

none_written : (l : List ℕ) (at : ℕ) → written l at [] ≡ l
none_written l at = ap (λ (k : ℕ). take at l ++ drop k l) (add-zero at) ∙ take-append-drop at l

moved_is : (n a b : ℕ) → a ≡ b → ((n + a) is (n + b)) ≡ true
moved_is n a b e = eq-eqb (n + a) (n + b) (ap (λ (x : ℕ). n + x) e)

moved_not : (n a b : ℕ) → suc b ≤ a → ((n + a) is (n + b)) ≡ false
moved_not n a b l = ne_eqb (n + a) (n + b) (λ e. omega arith)

module _ {bytes : Bytes} {fill : ℕ} {ends : List ℕ} (k : Buffered) (h : CurrentRecord bytes fill ends k.cells k.raw)
    (l : length k.cells ≤ length ends) (n i : ℕ) (s : Scan) where
  abbrev pub HandThen : Type 0
  HandThen =
      CurrentRecord (written (written bytes fill (buffered_bytes s.cells)) (fill + length (buffered_bytes s.cells)) s.raw)
      (fill + length (buffered_bytes s.cells) + length s.raw) (written ends (length k.cells) (buffered_ends fill s.cells))
      (joined_cells k (n + i) (map (moved_cell n) s.cells)) (joined_raw k (n + i) (n + s.opened) s.raw)

  closed_then : ProceedsOn k (n + i) (map (moved_cell n) s.cells) → joined_raw k (n + i) (n + s.opened) s.raw ≡ s.raw → HandThen
  closed_then g e = rw e (buffered_open s.raw (joined_hand k n i s.cells h g l))

  none_then : k.raw ≡ [] → HandThen
  unfolding joined_raw
  none_then z = closed_then (nothing_open z) (split (λ (x : Bytes). x ≡ s.raw) ((n + s.opened) is (n + i)) (λ _. ap (λ (x : Bytes). x ++ s.raw) z) λ _. refl)

  open_then : First i s → HandThen
  unfolding joined_raw buffered_bytes buffered_ends choose◌then◌else◌
  open_then (still_open u o c) =
      let z : fill + 0 ≡ fill = omega arith in
      rw (c, moved_is n s.opened i o, append-nil k.cells, none_written bytes fill, none_written ends (length k.cells), z) (buffered_open s.raw h)
  open_then (then_closed u o c) = closed_then (closed_proceeds n i s.cells c) (rw (moved_not n s.opened i o))

  pub hand_then : (d : Dialect) (limit : ℕ) (f : FileState) (size : ℕ) (bs : Bytes) → Open f k.raw → scan d limit (fresh f size i) bs ≡ pends s → HandThen
  hand_then d limit f size bs (no_bytes z) e = none_then z
  hand_then d limit f size bs (in_cell_lem u) e = open_then (go (subst (FirstIn i) e (first_closes d limit (fresh f size i) bs u refl refl)))
    where
      go : FirstIn i (pends s) → First i s
      go (first_pends x) = x
