-- A record that the fast scan finds is the next record of the file. After a fallback the scanner stores the cells that the fast scan
-- stored already once more at the same places, so that the lists are as if the scanner alone had run (`stored_again`).
use Prim.Native.Nat.{ℕ, zero, suc, ◌+◌, ◌≤◌, ◌<◌}
use native.Mathlib.Omega.{arith}
use mathlib.Core.Path.{◌≡◌, refl, sym, ap, subst, ◌∙◌}
use mathlib.Core.Bool.{Bool, true, false, ◌&&◌}
use mathlib.Core.List.{List, [], ◌∷◌, ◌++◌, map}
use lib.ListN.{length, set, drop, length-append, length-map}
use lib.Dec.{leb, ltb}
use Rattle.model.specs.declared.Dialect.{Dialect}
use Rattle.model.specs.declared.FileState.{FileState}
use Rattle.model.specs.rules.Types.{Step}
use Rattle.model.specs.rules.Base.{choose◌then◌else◌, Bytes}
use Rattle.model.specs.rules.File.{file_step, file_end, counts}
use Rattle.model.specs.rules.Report.{MAXFILE, MAXRECORD}
use Rattle.model.specs.declared.Ending.{Ending}
use Rattle.model.specs.declared.Ending.TheVariants.{Clean, Final, Cut}
use Rattle.model.specs.rules.Text.{Value}
use Rattle.model.specs.rules.Records.{between_records, closing}
use Rattle.model.specs.laws.Scans.{RawCell, Scan, ScanResult, pends, fails, completes, scan_step, scan, fresh, read_of, value_of}
use Rattle.model.proofs.Tests.{split, impossible}
use Rattle.record_scanner.specs.declared.token.ScanOutcome.TheVariants as reached
use Rattle.record_scanner.specs.Parts.{Found, found_of, raw_starts, raw_ends, raw_kinds}
use Rattle.record_scanner.specs.Tokens.{outer}
use Rattle.record_scanner.specs.Stored.{store_at, stored_from}
use Rattle.record_scanner.proofs.ScanInvariant.{between_outer}
use Rattle.record_scanner.proofs.OuterStates.{Calm, refuses, leaves, passes, grows, blanks, parts, tails, finishes, step_calm}
use Rattle.file_cursor.specs.Next.{Next, ended, next_record, EventInBounds}
use Rattle.record_scanner.proofs.StoreLaws.{length_stored_from}
use Rattle.model.specs.rules.Api.{starts_of, ends_of, kinds_of}
use Rattle.record_fast.specs.FastScan.{StoredCells, FastScanSound, is_found, is_fallback}
use Rattle.record_fast.specs.FastScan.{Clean as CleanCells}
use Rattle.record_fast.specs.declared.FastRecord.{FastRecord}
use Rattle.std.specs.Prelude.{Option, None, Some}
use Rattle.file_cursor.specs.Types.{FileScan, Completed}
use Rattle.file_cursor.proofs.WholeFile.{next_of, next_scans, clean_between, Out, at_record}

-- ---- cells that are stored twice

set_again : (xs : List ℕ) (k x y : ℕ) → set (set xs k y) k x ≡ set xs k x
set_again [] k x y = refl
set_again (a ∷ xs) zero x y = refl
set_again (a ∷ xs) (suc k) x y = ap (λ (l : List ℕ). a ∷ l) (set_again xs k x y)

set_apart : (xs : List ℕ) (j k x y : ℕ) → j < k → set (set xs k y) j x ≡ set (set xs j x) k y
set_apart [] j k x y l = refl
set_apart (a ∷ xs) zero zero x y l = absurd (omega arith)
set_apart (a ∷ xs) zero (suc k) x y l = refl
set_apart (a ∷ xs) (suc j) zero x y l = absurd (omega arith)
set_apart (a ∷ xs) (suc j) (suc k) x y l = ap (λ (zs : List ℕ). a ∷ zs) (set_apart xs j k x y (omega arith))

stored_anew : (room k x y : ℕ) (old : List ℕ) → store_at room k x (store_at room k y old) ≡ store_at room k x old
unfolding store_at choose◌then◌else◌
stored_anew room k x y old = go (ltb k room)
  where
    go : (t : Bool) → (choose t then set (choose t then set old k y else old) k x else (choose t then set old k y else old)) ≡ (choose t then set old k x else old)
    go true = set_again old k x y
    go false = refl

stored_apart : (room j k x y : ℕ) (old : List ℕ) → j < k → store_at room j x (store_at room k y old) ≡ store_at room k y (store_at room j x old)
unfolding store_at choose◌then◌else◌
stored_apart room j k x y old l = go (ltb j room) (ltb k room)
  where
    go :
        (s t : Bool) →
        (choose s then set (choose t then set old k y else old) j x else (choose t then set old k y else old))
        ≡ (choose t then set (choose s then set old j x else old) k y else (choose s then set old j x else old))
    go true true = set_apart old j k x y l
    go true false = refl
    go false true = refl
    go false false = refl

stored_first : (room j k x : ℕ) (ys old : List ℕ) → j < k → store_at room j x (stored_from room k ys old) ≡ stored_from room k ys (store_at room j x old)
unfolding stored_from
stored_first room j k x [] old l = refl
stored_first room j k x (y ∷ ys) old l =
    stored_first room j (suc k) x ys (store_at room k y old) (omega arith)
    ∙ ap (λ (zs : List ℕ). stored_from room (suc k) ys zs) (stored_apart room j k x y old l)

pub stored_again : (room k : ℕ) (xs ys old : List ℕ) → length ys ≤ length xs → stored_from room k xs (stored_from room k ys old) ≡ stored_from room k xs old
unfolding stored_from
stored_again room k xs [] old l = refl
stored_again room k [] (y ∷ ys) old l = absurd (omega arith)
stored_again room k (x ∷ xs) (y ∷ ys) old l =
    ap (λ (zs : List ℕ). stored_from room (suc k) xs zs) (stored_first room k (suc k) x ys (store_at room k y old) (omega arith))
    ∙ stored_again room (suc k) xs ys (store_at room k x (store_at room k y old)) (omega arith)
    ∙ ap (λ (zs : List ℕ). stored_from room (suc k) xs zs) (stored_anew room k x y old)

-- ---- between records there is no current cell

abbrev NoneBetween : Scan → Type 0
NoneBetween s = outer s.state ≡ true → s.cells ≡ []

abbrev pub PendsWithout : ScanResult → Type 0
PendsWithout (pends s) = NoneBetween s
PendsWithout (fails e s) = Unit {0}
PendsWithout (completes s cs f next left) = Unit {0}

module _ (d : Dialect) (limit : ℕ) where
  abbrev Without : Bytes → Type 0
  Without bs = (s : Scan) → NoneBetween s → PendsWithout (scan d limit s bs)

  step_without :
      (s : Scan) (b : ℕ) (bs : Bytes) → NoneBetween s → Without bs → (t : Step) → Calm s.state b t →
      PendsWithout (scan_step s b bs (λ s'. scan d limit s' bs) t)
  unfolding scan_step
  step_without s b bs n ih t refuses = tt
  step_without s b bs n ih t (leaves {g = g} o) = ih _ (λ _. refl)
  step_without s b bs n ih t (passes {g = g} o) = ih _ (λ _. refl)
  step_without s b bs n ih t (grows {g = g} c o) = ih _ (λ q. impossible (sym o ∙ q))
  step_without s b bs n ih t (blanks {g = g} c o) = ih _ (λ _. n o)
  step_without s b bs n ih t (parts {g = g} {k = k} c o) = ih _ (λ q. impossible (sym o ∙ q))
  step_without s b bs n ih t (tails {g = g} {k = k} o) = ih _ (λ q. impossible (sym o ∙ q))
  step_without s b bs n ih t (finishes o) = tt

  pub scan_without : (bs : Bytes) → Without bs
  unfolding scan
  scan_without [] s n = n
  scan_without (b ∷ bs) s n = on (scan_without bs)
    where
      on : Without bs → PendsWithout (scan d limit s (b ∷ bs))
      on ih =
          split PendsWithout (leb limit s.offset) (λ _. tt) λ _.
          split PendsWithout (leb MAXRECORD s.size && counts s.state b) (λ _. tt) λ _.
          step_without s b bs n ih (file_step d s.state b) (step_calm d s.state b)

-- ---- the next record of a file

module _ (d : Dialect) (file : Bytes) (first : FileState) (from room base : ℕ) where
  abbrev Scanned : ScanResult
  Scanned = scan d MAXFILE (fresh first 0 from) (drop from file)

  abbrev Whole : Next
  Whole = next_record d (between_records [] first from) (drop from file)

  -- where the file ends, the current record has one cell more, or there was none
  end_long : (s : Scan) → NoneBetween s → (x : Ending) → file_end d s.state ≡ x → length s.cells ≤ length (ended d (read_of d [] s) x).cells
  end_long s n Clean e =
      let z : length s.cells ≡ 0 = ap length (n (between_outer s.state (clean_between d s.state e))) in omega arith
  end_long s n Final e =
      let z : length (closing d true (read_of d [] s)) ≡ length (map (value_of d) s.cells) + 1 = length-append (map (value_of d) s.cells) _ in
      let m : length (map (value_of d) s.cells) ≡ length s.cells = length-map s.cells (value_of d) in
      omega arith
  end_long s n Cut e = let m : length (map (value_of d) s.cells) ≡ length s.cells = length-map s.cells (value_of d) in omega arith

  all_long : (w : ScanResult) → PendsWithout w → length (found_of w).cells ≤ length (next_of d w).cells
  all_long (pends s) n = end_long s n (file_end d s.state) refl
  all_long (fails e s) n = let m : length (map (value_of d) s.cells) ≡ length s.cells = length-map s.cells (value_of d) in omega arith
  all_long (completes s cs f next left) n = let m : length (map (value_of d) cs) ≡ length cs = length-map cs (value_of d) in omega arith

  found_long : length (found_of Scanned).cells ≤ length Whole.cells
  found_long =
      rw (next_scans d (drop from file) (fresh first 0 from))
      (all_long Scanned (scan_without d MAXFILE (drop from file) (fresh first 0 from) λ _. refl))

  -- the first cells are stored again with the others
  again :
      (φ : Value → ℕ) (ψ : RawCell → ℕ) (cs more : List RawCell) → (found_of Scanned).cells ≡ cs ++ more → (old : List ℕ) {new out : List ℕ} →
      new ≡ stored_from room base (map ψ cs) old → out ≡ stored_from room base (map φ Whole.cells) new →
      out ≡ stored_from room base (map φ Whole.cells) old
  again φ ψ cs more q old y z =
      let a : length (map ψ cs) ≡ length cs = length-map cs ψ in
      let b : length (map φ Whole.cells) ≡ length Whole.cells = length-map Whole.cells φ in
      let c : length (found_of Scanned).cells ≡ length cs + length more = ap length q ∙ length-append cs more in
      let g : length (found_of Scanned).cells ≤ length Whole.cells = found_long in
      z ∙ ap (λ (xs : List ℕ). stored_from room base (map φ Whole.cells) xs) y ∙ stored_again room base (map φ Whole.cells) (map ψ cs) old (omega arith)

  module _ {s₀ e₀ k₀ s e k : List ℕ} {q : Option FastRecord} (told : FastScanSound d MAXFILE file from first room base s₀ e₀ k₀ s e k q) where
    -- a record that was found is the next one
    pub told_record :
        {x : FastRecord} → q ≡ Some x → from ≤ length file →
        Out d file first from room base s₀ e₀ k₀ (Completed x.start x.cells x.state x.next) s e k
    told_record {x} z l =
        go (subst (λ (y : Option FastRecord). FastScanSound d MAXFILE file from first room base s₀ e₀ k₀ s e k y) z told)
      where
        go :
            FastScanSound d MAXFILE file from first room base s₀ e₀ k₀ s e k (Some x) →
            Out d file first from room base s₀ e₀ k₀ (Completed x.start x.cells x.state x.next) s e k
        go (is_found cs f b y c) =
            at_record d file first from room base s₀ e₀ k₀ l (reached.Completed x.start x.cells x.state x.next) s e k (
              ap (λ (x : Found). x.answer) (sym f),
              (
                y.at_starts ∙ ap (λ (x : Found). stored_from room base (raw_starts x.cells) s₀) (sym f),
                (
                  y.at_ends ∙ ap (λ (x : Found). stored_from room base (raw_ends x.cells) e₀) (sym f),
                  (y.at_kinds ∙ ap (λ (x : Found). stored_from room base (raw_kinds d x.cells) k₀) (sym f), b),
                ),
              ),
            )
            x.start x.cells x.state x.next refl

    -- its cells are verbatim texts where `clean` says so
    pub told_clean :
        {x : FastRecord} → q ≡ Some x → x.clean ≡ true →
        CleanCells d file room base x.cells s e
    told_clean {x} z = go (subst (λ (y : Option FastRecord). FastScanSound d MAXFILE file from first room base s₀ e₀ k₀ s e k y) z told)
      where
        go :
            FastScanSound d MAXFILE file from first room base s₀ e₀ k₀ s e k (Some x) → x.clean ≡ true →
            CleanCells d file room base x.cells s e
        go (is_found cs f b y c) = c

    -- after a fallback the scanner finds the next record, and the lists are as if it alone had run
    pub told_nothing :
        q ≡ None → {v : FileScan} {s' e' k' : List ℕ} →
        (v ≡ Whole.event)
        × ((s' ≡ stored_from room base (starts_of Whole.cells) s)
        × ((e' ≡ stored_from room base (ends_of Whole.cells) e)
        × ((k' ≡ stored_from room base (kinds_of Whole.cells) k) × EventInBounds (length file) from base v))) →
        Out d file first from room base s₀ e₀ k₀ v s' e' k'
    told_nothing z {v} {s'} {e'} {k'} o = go (subst (λ (y : Option FastRecord). FastScanSound d MAXFILE file from first room base s₀ e₀ k₀ s e k y) z told)
      where
        go : FastScanSound d MAXFILE file from first room base s₀ e₀ k₀ s e k None → Out d file first from room base s₀ e₀ k₀ v s' e' k'
        go (is_fallback cs more f y) =
            record {
              event = o.0;
              at_starts = again _ _ cs more f s₀ y.at_starts o.1.0;
              at_ends = again _ _ cs more f e₀ y.at_ends o.1.1.0;
              at_kinds = again _ _ cs more f k₀ y.at_kinds o.1.1.1.0;
              bounds = o.1.1.1.1;
            }

    -- and they are as long as before
    stored_long : {cs : List RawCell} → StoredCells d room base cs s₀ e₀ k₀ s e k → (length s ≡ length s₀) × (length e ≡ length e₀) × (length k ≡ length k₀)
    stored_long {cs} y = (
      ap length y.at_starts ∙ length_stored_from room base (raw_starts cs) s₀,
      ap length y.at_ends ∙ length_stored_from room base (raw_ends cs) e₀,
      ap length y.at_kinds ∙ length_stored_from room base (raw_kinds d cs) k₀,
    )

    pub told_long : (length s ≡ length s₀) × (length e ≡ length e₀) × (length k ≡ length k₀)
    told_long = go told
      where
        go :
            {x : Option FastRecord} → FastScanSound d MAXFILE file from first room base s₀ e₀ k₀ s e k x →
            (length s ≡ length s₀) × (length e ≡ length e₀) × (length k ≡ length k₀)
        go (is_found cs f b y c) = stored_long y
        go (is_fallback cs more f y) = stored_long y
