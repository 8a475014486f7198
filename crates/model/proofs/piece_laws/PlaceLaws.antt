-- The raw cells of a scan are spans of the bytes scanned, and cells buffered one after another have the record's values.
use Prim.Native.Nat.{ℕ, suc, ◌+◌, ◌-◌, ◌≤◌}
use native.Mathlib.Omega.{arith}
use mathlib.Core.Path.{◌≡◌, refl, sym, ap, ◌∙◌}
use mathlib.Core.Bool.{Bool, true, false}
use mathlib.Core.List.{[], ◌∷◌, ◌++◌, map, append_assoc}
use lib.ListN.{length, take, drop, get_or, length-append, length-drop}
use lib.Seq.{take-suc, drop-cons, get_or-drop}
use Rattle.model.specs.rules.Types.{Dialect, Outside, Passed, OfCell, Between, Tail, Ends, Step, Ok, Err}
use Rattle.model.specs.rules.Base.{Bytes}
use Rattle.model.specs.rules.File.{file_step}
use Rattle.model.specs.rules.Decode.{kind_of, content_of}
use Rattle.model.specs.rules.Api.{slice}
use Rattle.model.specs.laws.Laws.{All, all_none}
use Rattle.model.specs.laws.Scans.{Scan, ScanResult, closing_raw, scan_step, scan, value_of}
use Rattle.model.specs.laws.RoundTrips.{SameCells, no_cells, and_cell}
use Rattle.model.specs.laws.Places.{SpanIn, ScanIn, ScanResultIn, pends_in, fails_in, completes_in, Spans, values_in, buffered_bytes}
use Rattle.model.specs.laws.Places.{buffered_starts, buffered_ends, BufferedCells}
use Rattle.model.proofs.Spans.{part_is}
use Rattle.model.proofs.Tests.{split}
use Rattle.model.proofs.cell_laws.CellRuns.{all_snoc}

-- ---- spans

module _ (bytes : Bytes) where
  part_none : (o : ℕ) → [] ≡ slice bytes o o
  part_none o = let z : o - o ≡ 0 = omega arith in rw z

  -- one byte more
  part_more : (i j b : ℕ) (bs : Bytes) → i ≤ j → b ∷ bs ≡ drop j bytes → slice bytes i j ++ (b ∷ []) ≡ slice bytes i (suc j)
  part_more i j b bs l e =
      let n : length (drop j bytes) ≡ length bytes - j = length-drop j bytes in
      let m : suc (length bs) ≡ length (drop j bytes) = ap length e in
      let x : drop j bytes ≡ get_or bytes j 0 ∷ drop (suc j) bytes = drop-cons bytes j 0 (omega arith) in
      let y : b ≡ get_or bytes j 0 = cc in
      let u : i + (j - i) ≡ j = omega arith in
      let z : get_or (drop i bytes) (j - i) 0 ≡ b = get_or-drop i bytes (j - i) 0 ∙ ap (λ k. get_or bytes k 0) u ∙ sym y in
      let k : length (drop i bytes) ≡ length bytes - i = length-drop i bytes in
      let s : suc j - i ≡ suc (j - i) = omega arith in
      sym (ap (λ k. take k (drop i bytes)) s ∙ take-suc (drop i bytes) (j - i) 0 (omega arith) ∙ ap (λ c. slice bytes i j ++ (c ∷ [])) z)

  next_drop : (j b : ℕ) (bs : Bytes) → b ∷ bs ≡ drop j bytes → bs ≡ drop (suc j) bytes
  next_drop j b bs e =
      let n : length (drop j bytes) ≡ length bytes - j = length-drop j bytes in
      let m : suc (length bs) ≡ length (drop j bytes) = ap length e in
      let x : drop j bytes ≡ get_or bytes j 0 ∷ drop (suc j) bytes = drop-cons bytes j 0 (omega arith) in
      cc

  closing_in : (k : Bool) (s : Scan) → ScanIn bytes s → All (SpanIn bytes) (closing_raw k s)
  closing_in true s i = all_snoc i.cells (record { raw = i.raw; forward = i.forward; within = i.within })
  closing_in false s i = i.cells

  abbrev Comes : (d : Dialect) (limit : ℕ) → Bytes → Type 0
  Comes d limit bs = (s : Scan) → bs ≡ drop s.offset bytes → ScanIn bytes s → ScanResultIn bytes (scan d limit s bs)

  module _ (d : Dialect) (limit : ℕ) (s : Scan) (b : ℕ) (bs : Bytes) (e : b ∷ bs ≡ drop s.offset bytes) (i : ScanIn bytes s) (ih : Comes d limit bs) where
    left : bs ≡ drop (suc s.offset) bytes
    left = next_drop s.offset b bs e

    inside : suc s.offset ≤ length bytes
    inside =
        let n : length (drop s.offset bytes) ≡ length bytes - s.offset = length-drop s.offset bytes in
        let m : suc (length bs) ≡ length (drop s.offset bytes) = ap length e in
        omega arith

    step_in : (x : Step) → ScanResultIn bytes (scan_step s b bs (λ s'. scan d limit s' bs) x)
    unfolding scan_step
    step_in (Err f) = fails_in i
    step_in (Ok (f, Outside)) = ih _ left (record { raw = part_none (suc s.offset); forward = omega arith; within = inside; cells = all_none })
    step_in (Ok (f, Passed)) = ih _ left (record { raw = part_none (suc s.offset); forward = omega arith; within = inside; cells = all_none })
    step_in (Ok (f, OfCell)) =
        let l : s.opened ≤ s.offset = i.forward in
        let raw : s.raw ++ (b ∷ []) ≡ slice bytes s.opened (suc s.offset)
        = ap (λ r. r ++ (b ∷ [])) i.raw ∙ part_more s.opened s.offset b bs l e in
        ih _ left (record { raw = raw; forward = omega arith; within = inside; cells = i.cells })
    step_in (Ok (f, Between k)) = ih _ left (record { raw = part_none (suc s.offset); forward = omega arith; within = inside; cells = closing_in k s i })
    step_in (Ok (f, Tail k)) = ih _ left (record { raw = part_none (suc s.offset); forward = omega arith; within = inside; cells = closing_in k s i })
    step_in (Ok (f, Ends k)) = completes_in i (closing_in k s i) inside left

  comes : (d : Dialect) (limit : ℕ) (bs : Bytes) → Comes d limit bs
  unfolding scan
  comes d limit [] s e i =
      let n : length (drop s.offset bytes) ≡ length bytes - s.offset = length-drop s.offset bytes in
      let m : 0 ≡ length (drop s.offset bytes) = ap length e in
      let w : s.offset ≤ length bytes = i.within in
      pends_in i (omega arith)
  comes d limit (b ∷ bs) s e i =
      let P : ScanResult → Type 0 = ScanResultIn bytes in
      split P _ (λ _. fails_in i) λ _. split P _ (λ _. fails_in i) λ _. step_in d limit s b bs e i (comes d limit bs) (file_step d s.state b)

pub stretches : Spans
stretches d limit bytes s i = comes bytes d limit (drop s.offset bytes) s refl i

-- ---- cells buffered one after another

pub buffered_cells : BufferedCells
unfolding values_in buffered_bytes buffered_starts buffered_ends
buffered_cells d before after [] = no_cells
buffered_cells d before after (c ∷ cs) =
    let x : Bytes = c.bytes in
    let first : before ++ ((x ++ buffered_bytes cs) ++ after) ≡ before ++ (x ++ (buffered_bytes cs ++ after))
    = ap (λ l. before ++ l) (append_assoc x (buffered_bytes cs) after) in
    let raw : slice (before ++ ((x ++ buffered_bytes cs) ++ after)) (length before) (length before + length x) ≡ x
    = ap (λ l. slice l (length before) (length before + length x)) first
    ∙ part_is before x (buffered_bytes cs ++ after) (length before) (length before + length x) refl refl in
    let all : before ++ x ++ (buffered_bytes cs ++ after) ≡ before ++ ((x ++ buffered_bytes cs) ++ after)
    = append_assoc before x (buffered_bytes cs ++ after) ∙ sym first in
    let ih : SameCells
    (values_in d (before ++ x ++ (buffered_bytes cs ++ after)) (buffered_starts (length (before ++ x)) cs)
    (buffered_ends (length (before ++ x)) cs)) (map (value_of d) cs)
    = buffered_cells d (before ++ x) after cs in
    and_cell (record { kind = ap (kind_of d) raw; content = ap (content_of d) raw }) (rw (length-append before x, all) at ih)
