-- Laws of runs: the rest of a slice by its next byte, where a run continues and where it ends, and that ordinary bytes leave a cell's
-- state unchanged.
use Prim.Native.Nat.{ℕ, zero, suc, ◌+◌, ◌-◌, ◌≤◌, ◌<◌}
use native.Mathlib.Numerals.{add-one}
use native.Mathlib.Omega.{arith}
use mathlib.Core.Path.{◌≡◌, refl, sym, ap, ◌∙◌}
use mathlib.Core.Bool.{Bool, true, false, not, ◌&&◌}
use mathlib.Core.List.{[], ◌∷◌}
use lib.ListN.{length, take, drop, get_or, length-drop}
use lib.Seq.{take-nil, drop-cons, drop-drop, length-take-le}
use borrow.Author.Tests.{ne_eqb, le-ltb}
use Rattle.model.specs.declared.Dialect.{Dialect}
use Rattle.model.specs.declared.Dialect.TheVariants.{Csvj, Tdif, CsvPlus}
use Rattle.model.specs.declared.Char.TheVariants.{Whole, Within}
use Rattle.model.specs.declared.Cell.{Cell}
use Rattle.model.specs.declared.Numeral.TheVariants.{Integer, Fraction, Exponent}
use Rattle.model.specs.declared.Cell.TheVariants.{Fresh, Quoted, Closed, Escape, Hex, InNumber, InWord, Plain, Complete}
use Rattle.model.specs.declared.CellStep.TheVariants.{More, Stop, Refuse}
use Rattle.model.specs.declared.ByteFault.{ByteFault}
use Rattle.model.specs.declared.FileState.TheVariants.{Comment}
use Rattle.model.specs.declared.ByteRole.TheVariants.{Outside}
use Rattle.std.specs.Prelude.{Ok, Option, Some, None}
use Rattle.model.specs.rules.Base.{Bytes, choose◌then◌else◌, within, ◌is◌, QUOTE, CR, LF}
use Rattle.model.specs.rules.Dialect.{quote_of, delimiter_of}
use Rattle.model.specs.rules.Cell.{numeral_step, quoted_byte, plain_byte, cell_step}
use Rattle.model.specs.rules.File.{file_step}
use Rattle.model.proofs.Tests.{impossible, within_true}
use Rattle.model.proofs.cell_laws.Utf8.{ascii_whole}
use Rattle.cell_scanner.specs.declared.CellEnd.TheVariants.{Stopped, Refused, Open}
use Rattle.model.specs.rules.Api.{slice}
use Rattle.swar.proofs.FlaggedPrefix.{passing_short}
use Rattle.cell_scanner.specs.Run.{ordinary, leading, run_stop, run_length, cell_run, KeepsDigits, RestFrom}

pub part_next : (s : Bytes) (i stop : ℕ) → i < stop → stop ≤ length s → slice s i stop ≡ get_or s i 0 ∷ slice s (i + 1) stop
part_next s i stop h k =
    let n : stop - i ≡ suc (stop - (i + 1)) = omega arith in
    let l : i < length s = omega arith in
    let e : drop i s ≡ get_or s i 0 ∷ drop (i + 1) s = rw (add-one, drop-cons s i 0) in
    rw (n, e)

pub part_end : (s : Bytes) (i : ℕ) → slice s i i ≡ []
part_end s i = let n : i - i ≡ 0 = omega arith in rw n

-- ---- where a run ends

module _ (s : Bytes) (i stop p q : ℕ) (h : i < stop) (k : stop ≤ length s) where
  pub leading_on : ordinary p q (get_or s i 0) ≡ true → i + leading p q (slice s i stop) ≡ (i + 1) + leading p q (slice s (i + 1) stop)
  unfolding leading choose◌then◌else◌
  leading_on e = rw (part_next s i stop h k, e) (omega arith)

  pub leading_ends : ordinary p q (get_or s i 0) ≡ false → i + leading p q (slice s i stop) ≡ i
  unfolding leading choose◌then◌else◌
  leading_ends e = rw (part_next s i stop h k, e) (omega arith)

pub leading_none : (s : Bytes) (i p q : ℕ) → i + leading p q (slice s i i) ≡ i
unfolding leading
leading_none s i p q = rw (part_end s i) (omega arith)

-- ---- ordinary bytes leave a cell's state unchanged

no_run : {A : Type 0} {q : ℕ} → None ≡ Some q → A
no_run e = let z : ◌≡◌ {A = ℕ} 0 1 = cc in absurd (omega arith)

and_parts : (x y z : Bool) → (x && not y && not z) ≡ true → (x ≡ true) × (y ≡ false) × (z ≡ false)
and_parts true true z e = impossible e
and_parts true false true e = impossible e
and_parts true false false e = (refl, refl, refl)
and_parts false true true e = impossible e
and_parts false true false e = impossible e
and_parts false false true e = impossible e
and_parts false false false e = impossible e

record Plainly (p q b : ℕ) : Type 0 where
  low : 0x20 ≤ b
  high : b ≤ 0x7E
  not_first : (b is p) ≡ false
  not_second : (b is q) ≡ false

plainly : (p q b : ℕ) → ordinary p q b ≡ true → Plainly p q b
unfolding ordinary
plainly p q b e =
    let x = and_parts (within 0x20 0x7E b) (b is p) (b is q) e in
    let w = within_true 0x20 0x7E b x.0 in
    record { low = w.0; high = w.1; not_first = x.1; not_second = x.2 }

quoted_runs : (d : Dialect) (b : ℕ) → ordinary (quote_of d) 0x5C b ≡ true → cell_step d (Quoted Whole) b ≡ More (Quoted Whole)
unfolding cell_step quoted_byte choose◌then◌else◌
quoted_runs Csvj b e =
    let k = plainly QUOTE 0x5C b e in
    let l : 0x20 ≤ b = k.low in
    let h : b ≤ 0x7E = k.high in
    rw (k.not_first, k.not_second, le-ltb b 0x20 l, ascii_whole b (omega arith))
quoted_runs Tdif b e =
    let k = plainly QUOTE 0x5C b e in
    let h : b ≤ 0x7E = k.high in
    rw (k.not_first, ascii_whole b (omega arith))
quoted_runs (CsvPlus s) b e =
    let k = plainly (quote_of (CsvPlus s)) 0x5C b e in
    let h : b ≤ 0x7E = k.high in
    rw (k.not_first, ascii_whole b (omega arith))

plain_runs : (d : Dialect) (b : ℕ) → ordinary (quote_of d) (delimiter_of d) b ≡ true → cell_step d (Plain Whole) b ≡ More (Plain Whole)
unfolding cell_step plain_byte choose◌then◌else◌
plain_runs d b e =
    let k = plainly (quote_of d) (delimiter_of d) b e in
    let l : 0x20 ≤ b = k.low in
    let h : b ≤ 0x7E = k.high in
    rw (k.not_first, k.not_second, ne_eqb b CR (omega arith), ne_eqb b LF (omega arith), ascii_whole b (omega arith))

-- in a cell with a run stop every ordinary byte leaves the state unchanged
pub run_step : (d : Dialect) (c : Cell) (q b : ℕ) → run_stop d c ≡ Some q → ordinary (quote_of d) q b ≡ true → cell_step d c b ≡ More c
run_step d Fresh q b e h = no_run e
run_step d (Quoted Whole) q b e h = let k : 0x5C ≡ q = cc in quoted_runs d b (rw k h)
run_step d (Quoted (Within i)) q b e h = no_run e
run_step d Closed q b e h = no_run e
run_step d Escape q b e h = no_run e
run_step d (Hex n) q b e h = no_run e
run_step d (InNumber n) q b e h = no_run e
run_step d (InWord w) q b e h = no_run e
run_step d (Plain Whole) q b e h = let k : delimiter_of d ≡ q = cc in plain_runs d b (rw k h)
run_step d (Plain (Within i)) q b e h = no_run e
run_step d Complete q b e h = no_run e

-- in a comment every ordinary byte leaves the state unchanged
pub comment_step : (d : Dialect) (b : ℕ) → ordinary 0 0 b ≡ true → file_step d (Comment Whole) b ≡ Ok (Comment Whole, Outside)
unfolding file_step choose◌then◌else◌
comment_step d b e =
    let k = plainly 0 0 b e in
    let l : 0x20 ≤ b = k.low in
    let h : b ≤ 0x7E = k.high in
    rw (ne_eqb b LF (omega arith), ne_eqb b CR (omega arith), ascii_whole b (omega arith))

-- ---- the rest of a cell

run_list : (d : Dialect) (c : Cell) (q : ℕ) → run_stop d c ≡ Some q → (i : ℕ) (bs : Bytes)
    → cell_run d c i bs ≡ cell_run d c (i + leading (quote_of d) q bs) (drop (leading (quote_of d) q bs) bs)
unfolding leading cell_run choose◌then◌else◌
run_list d c q e i [] = refl
run_list d c q e i (b ∷ bs) = go (ordinary (quote_of d) q b) refl (run_list d c q e (suc i) bs)
  where
    go : (t : Bool) → ordinary (quote_of d) q b ≡ t
        → cell_run d c (suc i) bs ≡ cell_run d c (suc i + leading (quote_of d) q bs) (drop (leading (quote_of d) q bs) bs)
        → cell_run d c i (b ∷ bs) ≡ cell_run d c (i + leading (quote_of d) q (b ∷ bs)) (drop (leading (quote_of d) q (b ∷ bs)) (b ∷ bs))
    go true h ih =
        let n : suc i + leading (quote_of d) q bs ≡ i + suc (leading (quote_of d) q bs) = omega arith in
        rw (h, run_step d c q b e h, cell_run) (ih ∙ ap (λ (k : ℕ). cell_run d c k (drop (leading (quote_of d) q bs) bs)) n)
    go false h ih = let n : i ≡ i + 0 = omega arith in rw h (ap (λ (k : ℕ). cell_run d c k (b ∷ bs)) n)

drop_take : (n m : ℕ) (xs : Bytes) → drop n (take m xs) ≡ take (m - n) (drop n xs)
drop_take zero m xs = let e : m - 0 ≡ m = omega arith in rw e
drop_take (suc n) zero xs = let e : 0 - suc n ≡ 0 = omega arith in rw e
drop_take (suc n) (suc m) [] = sym (take-nil (suc m - suc n))
drop_take (suc n) (suc m) (x ∷ xs) = let e : suc m - suc n ≡ m - n = omega arith in rw e (drop_take n m xs)

drop_part : (s : Bytes) (i n stop : ℕ) → drop n (slice s i stop) ≡ slice s (i + n) stop
drop_part s i n stop =
    let e : stop - i - n ≡ stop - (i + n) = omega arith in
    drop_take n (stop - i) (drop i s) ∙ rw (drop-drop, e)

module _ (d : Dialect) (c : Cell) (s : Bytes) (i stop : ℕ) where
  -- the rest of the cell is the same from the end of a run
  pub run_rest : cell_run d c i (slice s i stop) ≡ cell_run d c (i + run_length d (run_stop d c) (slice s i stop))
      (slice s (i + run_length d (run_stop d c) (slice s i stop)) stop)
  run_rest = go (run_stop d c) refl
    where
      go : (r : Option ℕ) → run_stop d c ≡ r
          → cell_run d c i (slice s i stop) ≡ cell_run d c (i + run_length d r (slice s i stop)) (slice s (i + run_length d r (slice s i stop)) stop)
      go (Some q) e =
          run_list d c q e i (slice s i stop)
          ∙ ap (λ (l : Bytes). cell_run d c (i + leading (quote_of d) q (slice s i stop)) l) (drop_part s i (leading (quote_of d) q (slice s i stop)) stop)
      go None e = let n : i ≡ i + 0 = omega arith in ap (λ (k : ℕ). cell_run d c k (slice s k stop)) n

  module _ (h : i < stop) (k : stop ≤ length s) where
    pub rest_more : (t : Cell) → cell_step d c (get_or s i 0) ≡ More t → cell_run d c i (slice s i stop) ≡ cell_run d t (i + 1) (slice s (i + 1) stop)
    unfolding cell_run
    rest_more t e = rw (part_next s i stop h k, e, cell_run, add-one)

    pub rest_stops : cell_step d c (get_or s i 0) ≡ Stop → cell_run d c i (slice s i stop) ≡ Stopped c i
    unfolding cell_run
    rest_stops e = rw (part_next s i stop h k, e, cell_run)

    pub rest_refused : (x : ByteFault) → cell_step d c (get_or s i 0) ≡ Refuse x → cell_run d c i (slice s i stop) ≡ Refused x i
    unfolding cell_run
    rest_refused x e = rw (part_next s i stop h k, e, cell_run)

pub rest_open : (d : Dialect) (c : Cell) (s : Bytes) (i : ℕ) → cell_run d c i (slice s i i) ≡ Open c
unfolding cell_run
rest_open d c s i = rw (part_end s i)

-- a run ends at `stop` or before it
pub part_short : (p q : ℕ) (s : Bytes) (i stop : ℕ) → i ≤ stop → stop ≤ length s → i + leading p q (slice s i stop) ≤ stop
unfolding leading
part_short p q s i stop h k =
    let l : leading p q (slice s i stop) ≤ length (slice s i stop) = passing_short (ordinary p q) (slice s i stop) in
    let g : length (drop i s) ≡ length s - i = length-drop i s in
    let m : length (slice s i stop) ≡ stop - i = length-take-le (stop - i) (drop i s) (omega arith) in
    omega arith

pub run_short : (d : Dialect) (r : Option ℕ) (s : Bytes) (i stop : ℕ) → i ≤ stop → stop ≤ length s → i + run_length d r (slice s i stop) ≤ stop
run_short d (Some q) s i stop h k = part_short (quote_of d) q s i stop h k
run_short d None s i stop h k = omega arith

-- ---- the same rest, from a later byte on

pub rest_here : (d : Dialect) (c : Cell) (s : Bytes) (stop at : ℕ) → at ≤ stop → RestFrom d c s stop at at
rest_here d c s stop at h = record { from = omega arith; upto = h; same = refl }

pub rest_on : {d : Dialect} {c : Cell} {s : Bytes} {stop at i : ℕ} → RestFrom d c s stop at i → i < stop → stop ≤ length s
    → cell_step d c (get_or s i 0) ≡ More c → RestFrom d c s stop at (i + 1)
rest_on {d} {c} {s} {stop} {at} {i} x h k e =
    let from : at ≤ i = x.from in
    record { from = omega arith; upto = omega arith; same = x.same ∙ rest_more d c s i stop h k c e }

pub rest_run : (d : Dialect) (c : Cell) (q : ℕ) (s : Bytes) (stop at r : ℕ) → at ≤ stop → stop ≤ length s → run_stop d c ≡ Some q
    → r ≡ at + leading (quote_of d) q (slice s at stop) → RestFrom d c s stop at r
rest_run d c q s stop at r h k e f =
    let n : run_length d (run_stop d c) (slice s at stop) ≡ leading (quote_of d) q (slice s at stop) = rw e in
    let same = run_rest d c s at stop in
    let short = run_short d (run_stop d c) s at stop h k in
    let l : r ≡ at + run_length d (run_stop d c) (slice s at stop) = f ∙ ap (λ (m : ℕ). at + m) (sym n) in
    record { from = omega arith; upto = omega arith; same = rw l same }

-- ---- digits leave the state of a number unchanged

pub integer_keeps : KeepsDigits (InNumber Integer)
unfolding cell_step numeral_step choose◌then◌else◌
integer_keeps d b e = rw e

pub fraction_keeps : KeepsDigits (InNumber Fraction)
unfolding cell_step numeral_step choose◌then◌else◌
fraction_keeps d b e = rw e

pub exponent_keeps : KeepsDigits (InNumber Exponent)
unfolding cell_step numeral_step choose◌then◌else◌
exponent_keeps d b e = rw e
